-- Other inputs change neither table of a network run.
use Rattle.std.proofs.Common.{◌≡◌, ◌<◌, ℕ, zero, suc, List, [], ◌∷◌, ◌++◌, length, map, Some, None, nat_eq, refl, sym, ap, subst, ◌∙◌, inl, inr, arith}
use Rattle.std.specs.Prelude.{slice_get, Vec}
use Rattle.std.specs.Map.{lookup}
use Rattle.std.proofs.lemmas.Option.{same_Some, slice_get_within}
use Rattle.bridge_limits.specs.Members.{IsMember}
use Rattle.bridge_limits.proofs.Lists.{there_is}
use Rattle.bridge_limits.proofs.Members.{in_at}
use Rattle.bridge_config.specs.Model.{Plan}
use Rattle.bridge_semantics.specs.Runs.{AreSameViews}
use Rattle.bridge_semantics.specs.declared.outcome.Outcome.{Outcome}
use Rattle.bridge_semantics.specs.declared.outcome.View.{View}
use Rattle.net_file.specs.Model.{Stream}
use Rattle.net_file.specs.Model as file
use Rattle.net_model.specs.Alone.{HaveSameExternalInputs}
use Rattle.net_model.specs.Checked.{AreClosed}
use Rattle.net_model.specs.Networks.{Hop, IsHop, IsNetwork}
use Rattle.net_model.specs.Faults.{first_fault}
use Rattle.net_model.specs.NetworkParts.{NetworkParts, hop_value, network_value, stream_value}
use Rattle.net_model.specs.declared.links.StreamHop.{StreamHop}
use Rattle.net_model.proofs.Members.{in_map, map_in}
use Rattle.net_check.specs.Networks.{IsNetworkOfFile}
use Rattle.net_latency.specs.Streams.{stream_hop_value}
use Rattle.net_run.specs.Rounds.{AreOutcomes, RunsNetwork, commands_of_bridge}
use Rattle.net_run.specs.declared.rounds.BridgeResult.{BridgeResult}
use Rattle.net_run.specs.declared.bridge_run.BridgeInput.{BridgeInput}
use Rattle.net_run.proofs.Told.{changes_nothing}
use Rattle.net_report.specs.Passes.{IsTraced, Trace, contents, traces}
use Rattle.net_report.specs.declared.copy_counting.HopRun.{HopRun}
use Rattle.net_report.proofs.Passes.{traced_once}
use Rattle.net_report.specs.declared.frame_table.TheConstants.{FRAMES_HEADER}
use Rattle.net_report.specs.declared.stream_table.TheConstants.{STREAMS_HEADER}
use Rattle.net_report.proofs.Same.{AreSameHops, stream_once, tallies_once, traces_same}
use Rattle.app_networks.specs.InTime.{AreHopRuns}
use Rattle.app_networks.specs.declared.figures.StreamFigures.{StreamFigures}
use Rattle.app_networks.specs.Tables.{AreRows, AreTables, IsTabled, heading}
use Rattle.app_networks.proofs.Accepted.{hop_protected}

-- The result of each bridge, by its index.
outcome_at : {A : Type 0} → Outcome A → List (BridgeResult A) → ℕ → Outcome A
outcome_at d [] b = d
outcome_at d (s ∷ ss) zero = s.outcome
outcome_at d (s ∷ ss) (suc b) = outcome_at d ss b

are_outcomes : {A : Type 0} (d : Outcome A) (settled : List (BridgeResult A)) → AreOutcomes settled (outcome_at d settled)
unfolding outcome_at
are_outcomes d [] b s there = absurd (cc)
are_outcomes {A} d (x ∷ xs) zero s there = ap (λ (y : BridgeResult A). y.outcome) (same_Some x s there)
are_outcomes d (x ∷ xs) (suc b) s there = are_outcomes d xs b s there

-- Two runs have equal records of a stream, if each of its hops has equal records.
same_hops : {A : Type 0} (o r : ℕ → Outcome A) (stream : List (ℕ × ℕ)) (hops gops : List (HopRun A)) → length hops ≡ length stream → length gops ≡ length stream
    → AreHopRuns o stream hops → AreHopRuns r stream gops
    → ((i : ℕ) (x : ℕ × ℕ) (u v : View A) → slice_get stream i ≡ Some x → lookup (nat_eq x.1) (o x.0).filters.items ≡ Some u → lookup (nat_eq x.1) (r x.0).filters.items ≡ Some v → AreSameViews u v)
    → AreSameHops hops gops
same_hops o r [] [] [] many also are others tells = tt
same_hops o r [] [] (g ∷ gs) many also are others tells = absurd (omega (arith, also))
same_hops o r [] (h ∷ hs) gops many also are others tells = absurd (omega (arith, many))
same_hops o r (x ∷ xs) [] gops many also are others tells = absurd (omega (arith, many))
same_hops o r (x ∷ xs) (h ∷ hs) [] many also are others tells = absurd (omega (arith, also))
same_hops {A} o r (x ∷ xs) (h ∷ hs) (g ∷ gs) many also are others tells =
    let (y, y_is, one) = are 0 h refl in
    let (z, z_is, other) = others 0 g refl in
    let here : y ≡ x = sym (same_Some x y y_is) in
    let there : z ≡ x = sym (same_Some x z z_is) in
    let told : lookup (nat_eq x.1) (o x.0).filters.items ≡ Some h.view.now = subst (λ (w : ℕ × ℕ). lookup (nat_eq w.1) (o w.0).filters.items ≡ Some h.view.now) here one.view in
    let says : lookup (nat_eq x.1) (r x.0).filters.items ≡ Some g.view.now = subst (λ (w : ℕ × ℕ). lookup (nat_eq w.1) (r w.0).filters.items ≡ Some g.view.now) there other.view in (
      record {
        bridge = one.bridge ∙ (ap (λ (w : ℕ × ℕ). w.0) (here ∙ sym there) ∙ sym other.bridge);
        view = tells 0 x h.view.now g.view.now refl told says;
      },
      same_hops o r xs hs gs (omega (arith, many)) (omega (arith, also)) (λ i k at. are (suc i) k at) (λ i k at. others (suc i) k at) (λ i. tells (suc i)),
    )

-- Two runs have equal records of no hops.
no_hops : {A : Type 0} (hops gops : List (HopRun A)) → length hops ≡ 0 → length gops ≡ 0 → AreSameHops hops gops
no_hops [] [] many also = tt
no_hops [] (g ∷ gs) many also = absurd (omega (arith, also))
no_hops (h ∷ hs) gops many also = absurd (omega (arith, many))

module _ {A : Type 0} (f : file.Network) (plans : List (Plan A)) (n : NetworkParts A) (came other_came : List (BridgeInput A)) (settled other : List (BridgeResult A))
    (made : IsNetworkOfFile f plans n) (network : IsNetwork (network_value n)) (closed : AreClosed n) (none : first_fault n ≡ None)
    (ran : RunsNetwork n came settled) (also : RunsNetwork n other_came other)
    (first : (stream : Vec StreamHop A) → IsMember stream n.streams → HaveSameExternalInputs (network_value n) (stream_value stream.items) (commands_of_bridge came) ran.frames (commands_of_bridge other_came) also.frames) where
  -- A hop of a stream in the file is a hop of the network.
  tells : (s : Stream) → IsMember s f.streams → (o r : ℕ → Outcome A) → AreOutcomes settled o → AreOutcomes other r
      → (i : ℕ) (x : ℕ × ℕ) (u v : View A) → slice_get s.hops i ≡ Some x → lookup (nat_eq x.1) (o x.0).filters.items ≡ Some u → lookup (nat_eq x.1) (r x.0).filters.items ≡ Some v → AreSameViews u v
  tells s is o r outcomes others i x u v there told says =
      let of_plan = hop_protected f plans n s i x made none is there in
      let lists : IsMember (map stream_hop_value s.hops) (map (λ (t : Stream). map stream_hop_value t.hops) f.streams) = map_in (λ (t : Stream). map stream_hop_value t.hops) s f.streams is in
      let (w, listed, same) = in_map (λ (t : Vec StreamHop A). t.items) (map stream_hop_value s.hops) n.streams (subst (λ (l : List (List StreamHop)). IsMember (map stream_hop_value s.hops) l) (sym made.streams) lists) in
      let own : IsMember (stream_hop_value x) w.items = subst (λ (l : List StreamHop). IsMember (stream_hop_value x) l) same (map_in stream_hop_value x s.hops (in_at s.hops i x there)) in
      let h : Hop A = record { bridge = x.0; plan = of_plan.plan; number = x.1; filter = of_plan.filter } in
      let hop : IsHop (network_value n) (stream_value w.items) h = record {
        listed = map_in hop_value (stream_hop_value x) w.items own;
        plan = of_plan.there;
        filter = of_plan.listed;
        protected = of_plan.protected;
      } in
      changes_nothing n came settled network closed ran o outcomes other_came other also r others w h u v listed (first w listed) hop told says

  -- If a stream has a hop, the network has a bridge.
  bridge_there : (s : Stream) → IsMember s f.streams → (x : ℕ × ℕ) (xs : List (ℕ × ℕ)) → s.hops ≡ x ∷ xs → 0 < length n.plans
  bridge_there s is x xs e =
      let of_plan = hop_protected f plans n s 0 x made none is (ap (λ (l : List (ℕ × ℕ)). slice_get l 0) e) in
      let within = slice_get_within n.plans x.0 of_plan.plan of_plan.there in
      omega (arith, within)

  -- The records of the stream's hops are equal.
  hops_same : (s : Stream) → IsMember s f.streams → (stream : List (ℕ × ℕ)) → s.hops ≡ stream → (hops gops : List (HopRun A)) → length hops ≡ length s.hops → length gops ≡ length s.hops
      → ((o : ℕ → Outcome A) → AreOutcomes settled o → AreHopRuns o s.hops hops) → ((o : ℕ → Outcome A) → AreOutcomes other o → AreHopRuns o s.hops gops) → AreSameHops hops gops
  hops_same s is [] e hops gops many more told says =
      let zero_long = ap (λ (l : List (ℕ × ℕ)). length l) e in
      no_hops hops gops (many ∙ zero_long) (more ∙ zero_long)
  hops_same s is (x ∷ xs) e hops gops many more told says =
      let some = bridge_there s is x xs e in
      let one_many = ran.many in
      let other_many = also.many in
      let (a, a_is) = there_is settled 0 (omega (arith, some, one_many)) in
      let (b, b_is) = there_is other 0 (omega (arith, some, other_many)) in
      let o = outcome_at a.outcome settled in
      let r = outcome_at b.outcome other in
      let outcomes = are_outcomes a.outcome settled in
      let others = are_outcomes b.outcome other in
      same_hops o r s.hops hops gops many more (told o outcomes) (says r others) (tells s is o r outcomes others)

  -- The rows of the stream are equal.
  stream_same : (s : Stream) (x : StreamFigures) (frames delivered other_frames other_delivered : ℕ) (row other_row line other_line : List ℕ) → IsMember s f.streams
      → IsTabled n.links settled f.bridges s x frames delivered row line → IsTabled n.links other f.bridges s x other_frames other_delivered other_row other_line
      → (row ≡ other_row) × (line ≡ other_line)
  stream_same s x frames delivered other_frames other_delivered row other_row line other_line is one two =
      let hops = one.count.hops in
      let gops = two.count.hops in
      let same : AreSameHops hops gops = hops_same s is s.hops refl hops gops one.count.many two.count.many one.count.told two.count.told in
      let traced : IsTraced n.links (traces hops) (contents two.count.known) =
      subst (λ (ts : List Trace). IsTraced n.links ts (contents two.count.known)) (sym (traces_same hops gops same)) two.count.traced in
      let roots : contents one.count.known ≡ contents two.count.known = traced_once n.links (traces hops) (contents one.count.known) (contents two.count.known) one.count.traced traced in
      let tallies = tallies_once n.links hops gops one.count.known two.count.known one.count.tallies two.count.tallies same roots one.count.counted two.count.counted in
      stream_once n.links hops gops one.count.known two.count.known one.count.tallies two.count.tallies (heading f.bridges s x) row other_row line other_line same roots tallies one.are_rows two.are_rows

  -- The rows of all streams are equal.
  rows_same : (ss : List Stream) (bs : List StreamFigures) (rows other_rows lines other_lines : List ℕ) → ((s : Stream) → IsMember s ss → IsMember s f.streams)
      → AreRows n.links settled f.bridges ss bs rows lines → AreRows n.links other f.bridges ss bs other_rows other_lines → (rows ≡ other_rows) × (lines ≡ other_lines)
  rows_same [] bs rows other_rows lines other_lines within one two = (one.0 ∙ sym two.0, one.1 ∙ sym two.1)
  rows_same (s ∷ ss) [] rows other_rows lines other_lines within one two = (one.0 ∙ sym two.0, one.1 ∙ sym two.1)
  rows_same (s ∷ ss) (b ∷ bs) rows other_rows lines other_lines within one two =
      let (frames, delivered, row, line, more, rest, tabled, beyond, rows_are, lines_are) = one in
      let (other_frames, other_delivered, other_row, other_line, other_more, other_rest, other_tabled, other_beyond, other_rows_are, other_lines_are) = two in
      let here = stream_same s b frames delivered other_frames other_delivered row other_row line other_line (within s (inl refl)) tabled other_tabled in
      let there = rows_same ss bs more other_more rest other_rest (λ t i. within t (inr i)) beyond other_beyond in (
        rows_are ∙ (ap (λ (x : List ℕ). x ++ more) here.0 ∙ (ap (λ (x : List ℕ). other_row ++ x) there.0 ∙ sym other_rows_are)),
        lines_are ∙ (ap (λ (x : List ℕ). x ++ rest) here.1 ∙ (ap (λ (x : List ℕ). other_line ++ x) there.1 ∙ sym other_lines_are)),
      )

  pub tables_of : (figures : List StreamFigures) (a b c d : List ℕ) → AreTables n.links settled f figures a b → AreTables n.links other f figures c d → (a ≡ c) × (b ≡ d)
  tables_of figures a b c d one two =
      let same = rows_same f.streams figures one.rows two.rows one.lines two.lines (λ s i. i) one.are_rows two.are_rows in (
        one.streams_are ∙ (ap (λ (x : List ℕ). STREAMS_HEADER.now ++ x) same.0 ∙ sym two.streams_are),
        one.frames_are ∙ (ap (λ (x : List ℕ). FRAMES_HEADER.now ++ x) same.1 ∙ sym two.frames_are),
      )

pub tables_same : {A : Type 0} (f : file.Network) (plans : List (Plan A)) (n : NetworkParts A) (came other_came : List (BridgeInput A)) (settled other : List (BridgeResult A)) (figures : List StreamFigures) (a b c d : List ℕ)
    → IsNetworkOfFile f plans n → IsNetwork (network_value n) → AreClosed n → first_fault n ≡ None → (ran : RunsNetwork n came settled) (also : RunsNetwork n other_came other)
    → ((stream : Vec StreamHop A) → IsMember stream n.streams → HaveSameExternalInputs (network_value n) (stream_value stream.items) (commands_of_bridge came) ran.frames (commands_of_bridge other_came) also.frames)
    → AreTables n.links settled f figures a b → AreTables n.links other f figures c d → (a ≡ c) × (b ≡ d)
tables_same f plans n came other_came settled other figures a b c d made network closed none ran also first one two =
    tables_of f plans n came other_came settled other made network closed none ran also first figures a b c d one two
