-- Results of bridges that have run over the frames sent to them are results of a network run.
use Rattle.std.proofs.Common.{◌≡◌, ℕ, zero, suc, inl, inr, List, [], ◌∷◌, length, map, option_map, Option, Some, None, refl, sym, ap, ◌∙◌, subst, arith}
use Rattle.std.specs.Prelude.{All, IfOk, Result, Ok, Err, slice_get, nat_eq, is_some, Vec, if◌then◌else◌}
use Rattle.std.specs.Map.{lookup}
use Rattle.std.proofs.lemmas.List.{length-map}
use Rattle.std.proofs.lemmas.List.Elements.{All-head, All-tail}
use Rattle.std.proofs.lemmas.Option.{slice_get-map, slice_get_within, same_Some}
use Rattle.bridge_limits.proofs.Members.{in_push}
use Rattle.bridge_limits.proofs.Lists.{there_is}
use Rattle.bridge_capture.specs.Memory.{MemoryDevice}
use Rattle.bridge_capture.specs.WrittenCapture.{written_text}
use Rattle.bridge_config.specs.declared.command.Command.{Command}
use Rattle.bridge_config.specs.Model.{Plan}
use Rattle.bridge_semantics.specs.declared.outcome.Outcome.{Outcome}
use Rattle.bridge_semantics.specs.Merge.{Input, command_as_input, commands_of, AreTimed, IsTimed}
use Rattle.net_model.specs.Checked.{AreClosed}
use Rattle.net_model.proofs.Chain.{alone_in}
use Rattle.net_model.proofs.Once.{one_course}
use Rattle.bridge_core.specs.WholeRuns.{ArePortNumbers}
use Rattle.bridge_core.proofs.Beginning.{one_order}
use Rattle.bridge_core.proofs.Simulating.{ports_many}
use Rattle.net_model.specs.Networks.{Hop, IsNetwork, Sender, sender}
use Rattle.net_model.specs.NetworkParts.{NetworkParts, link_value, network_value, stream_value}
use Rattle.net_run.specs.declared.rounds.BridgeResult.{BridgeResult}
use Rattle.net_run.specs.declared.bridge_run.BridgeInput.{BridgeInput}
use Rattle.net_run.specs.BridgeRuns.{AreUpToDate, ConstantPart, HasRun, IsInitialRun, IsBridgeRun, BridgeRunState, constant_part, open_texts, sink_octets, text_octets}
use Rattle.net_run.specs.Rounds.{AreInitialRuns, AreBridgeInputs, AreOutcomes, AreBridgeResults, HaveTaps, IsolatesStreams, OthersChangeNothing, RunsNetwork, commands_of_bridge}
use Rattle.net_run.proofs.Fitting.{AllRan, AreOf, frames_in, left_there, lengths_there, network_run, none_read, open_read, tap_read}
use Rattle.net_run.proofs.Turns.{ground_kept}

-- A property of each item.
pub at_each : {X : Type 0} (P : X → Type 0) (xs : List X) → All P xs → (b : ℕ) (x : X) → slice_get xs b ≡ Some x → P x
at_each P [] all b x is = absurd (cc)
at_each P (y ∷ xs) all zero x is = subst P (same_Some y x is) (All-head P y xs all)
at_each P (y ∷ xs) all (suc b) x is = at_each P xs (All-tail P y xs all) b x is

-- Each bridge has run.
all_ran : {A : Type 0} (xs : List (BridgeRunState A)) → All HasRun xs → ((b : ℕ) (x : BridgeRunState A) → slice_get xs b ≡ Some x → IsBridgeRun x) → AllRan xs
all_ran [] ran kept = tt
all_ran (x ∷ xs) ran kept =
    let own = All-head HasRun x xs ran in
    (record { outcome = own.0; told = own.1; runs = (kept zero x refl).runs own.0 own.1 }, all_ran xs (All-tail HasRun x xs ran) (λ b y is. kept (suc b) y is))

-- Two lists with equal images at each index.
by_places : {X Y : Type 0} (f : X → Y) (xs : List X) (ys : List Y) → length xs ≡ length ys → ((b : ℕ) (x : X) (y : Y) → slice_get xs b ≡ Some x → slice_get ys b ≡ Some y → f x ≡ y) → map f xs ≡ ys
by_places f [] [] many each = refl
by_places f [] (y ∷ ys) many each = absurd (omega (arith, many))
by_places f (x ∷ xs) [] many each = absurd (omega (arith, many))
by_places {X} {Y} f (x ∷ xs) (y ∷ ys) many each = ap (λ z. z ∷ map f xs) (each zero x y refl refl) ∙ ap (λ z. y ∷ z) (by_places f xs ys (omega (arith, many)) (λ b u v is at. each (suc b) u v is at))

commands_at : {A : Type 0} (came : List (BridgeInput A)) (b : ℕ) (c : BridgeInput A) → slice_get came b ≡ Some c → commands_of_bridge came b ≡ commands_of c.commands.items
commands_at [] b c is = absurd (cc)
commands_at {A} (d ∷ came) zero c is = ap (λ (z : BridgeInput A). commands_of z.commands.items) (same_Some d c is)
commands_at (d ∷ came) (suc b) c is = commands_at came b c is

-- The text of an open port stays the same.
open_at : (senders : List (Option Sender)) (texts : List (List ℕ)) (i : ℕ) → slice_get senders i ≡ Some None → slice_get (open_texts senders texts) i ≡ slice_get texts i
open_at [] texts i is = absurd (cc)
open_at (s ∷ senders) [] i is = refl
open_at (s ∷ senders) (t ∷ texts) zero is = let e = same_Some s None is in ap (λ (o : Option Sender). Some (if is_some o then [] else t)) e
open_at (s ∷ senders) (t ∷ texts) (suc i) is = open_at senders texts i is

module _ {A : Type 0} (n : NetworkParts A) (came : List (BridgeInput A)) (begun xs : List (BridgeRunState A)) (settled : List (BridgeResult A))
    (network : IsNetwork (network_value n)) (coming : AreBridgeInputs n.plans came) (began : AreInitialRuns n came begun)
    (same : map constant_part xs ≡ map constant_part begun) (ran : All HasRun xs) (fed : AreUpToDate xs) (told : AreBridgeResults xs settled)
    (kept : (b : ℕ) (x : BridgeRunState A) → slice_get xs b ≡ Some x → IsBridgeRun x) where
  many : length xs ≡ length n.plans
  many =
      let one = length-map xs (constant_part {A = A}) in
      let other = length-map begun (constant_part {A = A}) in
      let both = ap length same in
      let all = began.many in
      omega (arith, one, other, both, all)

  -- The initial state of a bridge.
  record Began (b : ℕ) (x : BridgeRunState A) : Type 0 where
    pub plan : Plan A
    pub own : BridgeInput A
    pub first : BridgeRunState A
    pub plan_is : slice_get n.plans b ≡ Some plan
    pub own_is : slice_get came b ≡ Some own
    pub is : IsInitialRun plan n.links b own first
    pub same_ground : constant_part x ≡ constant_part first

  began_at : (b : ℕ) (x : BridgeRunState A) → slice_get xs b ≡ Some x → Began b x
  began_at b x is =
      let within = slice_get_within xs b x is in
      let size = many in
      let came_many = coming.many in
      let begun_many = began.many in
      let p = there_is n.plans b (omega (arith, within, size)) in
      let c = there_is came b (omega (arith, within, size, came_many)) in
      let y = there_is begun b (omega (arith, within, size, begun_many)) in
      record { plan = p.0; own = c.0; first = y.0; plan_is = p.1; own_is = c.1; is = began.each b p.0 c.0 y.0 p.1 c.1 y.1; same_ground = ground_kept xs begun b x y.0 same is y.1 }

  plan_at : (b : ℕ) (x : BridgeRunState A) → slice_get xs b ≡ Some x → slice_get n.plans b ≡ Some x.plan
  plan_at b x is =
      let w = began_at b x is in
      w.plan_is ∙ ap (λ (p : Plan A). Some p) (sym w.is.plan ∙ sym (ap (λ (g : ConstantPart A). g.plan) w.same_ground))

  are : AreOf (network_value n) xs
  are = record {
    plans = sym (by_places (λ (x : BridgeRunState A). x.plan) xs n.plans many (λ b x p is at. same_Some x.plan p (sym (plan_at b x is) ∙ at)));
    kept = kept;
    senders = λ b x is.
        let w = began_at b x is in
        let g = w.same_ground in
        ap (λ (z : ConstantPart A). z.senders) g ∙ (w.is.senders ∙ ap (map (sender (map link_value n.links) b)) (sym (ap (λ (z : ConstantPart A). z.ports) g)));
  }

  requested : (b : ℕ) (x : BridgeRunState A) → slice_get xs b ≡ Some x → commands_of_bridge came b ≡ commands_of x.commands
  requested b x is =
      let w = began_at b x is in
      commands_at came b w.own w.own_is ∙ ap commands_of (sym w.is.commands ∙ sym (ap (λ (g : ConstantPart A). g.commands) w.same_ground))

  all : AllRan xs
  all = all_ran xs ran kept

  -- The result of a bridge.
  told_at : (o : ℕ → Outcome A) → AreOutcomes settled o → (b : ℕ) (x : BridgeRunState A) → slice_get xs b ≡ Some x → x.outcome ≡ Some (o b)
  told_at o outcomes b x is =
      let within = slice_get_within xs b x is in
      let one = length-map settled (λ (s : BridgeResult A). Some s.outcome) in
      let other = length-map xs (λ (y : BridgeRunState A). y.outcome) in
      let both = ap length told.outcomes in
      let s = there_is settled b (omega (arith, within, one, other, both)) in
      let here = slice_get-map (λ (t : BridgeResult A). Some t.outcome) settled b ∙ ap (option_map (λ (t : BridgeResult A). Some t.outcome)) s.1 in
      let own = slice_get-map (λ (y : BridgeRunState A). y.outcome) xs b ∙ ap (option_map (λ (y : BridgeRunState A). y.outcome)) is in
      sym (same_Some (Some s.0.outcome) x.outcome (sym here ∙ (ap (λ (l : List (Option (Outcome A))). slice_get l b) told.outcomes ∙ own))) ∙ ap (λ (z : Outcome A). Some z) (sym (outcomes b s.0 s.1))

  -- The text of an open port is its capture.
  text_at : (b i q : ℕ) (x : BridgeRunState A) (c : BridgeInput A) (text : Vec ℕ A) → slice_get xs b ≡ Some x → slice_get x.ports i ≡ Some q → sender (map link_value n.links) b q ≡ None → slice_get came b ≡ Some c → slice_get c.captures.items i ≡ Some text → slice_get x.texts i ≡ Some text.items
  text_at b i q x c text is at open_port own at_text =
      let w = began_at b x is in
      let g = w.same_ground in
      let same_own : w.own ≡ c = same_Some w.own c (sym w.own_is ∙ own) in
      let none : slice_get x.senders i ≡ Some None = ap (λ (l : List (Option Sender)). slice_get l i) (are.senders b x is) ∙ (slice_get-map (sender (map link_value n.links) b) x.ports i ∙ (ap (option_map (sender (map link_value n.links) b)) at ∙ ap (λ (o : Option Sender). Some o) open_port)) in
      let first_none : slice_get w.first.senders i ≡ Some None = ap (λ (l : List (Option Sender)). slice_get l i) (sym (ap (λ (z : ConstantPart A). z.senders) g)) ∙ none in
      let came_text : slice_get (text_octets w.own.captures.items) i ≡ Some text.items = ap (λ (d : BridgeInput A). slice_get (text_octets d.captures.items) i) same_own ∙ (slice_get-map (λ (v : Vec ℕ A). v.items) c.captures.items i ∙ ap (option_map (λ (v : Vec ℕ A). v.items)) at_text) in
      sym (open_at x.senders x.texts i none) ∙ (ap (λ (z : ConstantPart A). slice_get z.outside i) g ∙ (ap (λ (l : List (List ℕ)). slice_get l i) w.is.from_outside ∙ (open_at w.first.senders (text_octets w.own.captures.items) i first_none ∙ came_text)))

  -- The bridge with index `b`.
  station : (b : ℕ) (p : Plan A) → slice_get n.plans b ≡ Some p → (x : BridgeRunState A) × (slice_get xs b ≡ Some x) × (x.plan ≡ p)
  station b p plan =
      let within = slice_get_within n.plans b p plan in
      let size = many in
      let x = there_is xs b (omega (arith, within, size)) in
      (x.0, x.1, same_Some x.0.plan p (sym (plan_at b x.0 x.1) ∙ plan))

  -- The captures of the frames that a bridge sent.
  taps_at : (b : ℕ) (s : BridgeResult A) (x : BridgeRunState A) → slice_get settled b ≡ Some s → slice_get xs b ≡ Some x → sink_octets s.taps.items ≡ x.taps
  taps_at b s x told_is is =
      let one = slice_get-map (λ (t : BridgeResult A). sink_octets t.taps.items) settled b ∙ ap (option_map (λ (t : BridgeResult A). sink_octets t.taps.items)) told_is in
      let other = slice_get-map (λ (y : BridgeRunState A). y.taps) xs b ∙ ap (option_map (λ (y : BridgeRunState A). y.taps)) is in
      same_Some (sink_octets s.taps.items) x.taps (sym one ∙ (ap (λ (l : List (List (List ℕ))). slice_get l b) told.taps ∙ other))

  -- Each port of a plan has a sent capture.
  pub have_taps : HaveTaps n.plans settled
  have_taps b p s plan told_is =
      let x = station b p plan in
      let state = kept b x.0 x.1 in
      let own = at_each HasRun xs ran b x.0 x.1 in
      sym (length-map s.taps.items (λ (d : MemoryDevice). d.octets))
      ∙ (ap length (taps_at b s x.0 told_is x.1) ∙ (state.tapped own.0 own.1 ∙ (ports_many x.0.plan x.0.ports state.numbers ∙ ap (λ (z : Plan A). length z.ports) x.2)))

  pub runs_network : RunsNetwork n came settled
  runs_network = record {
    many = (let one = length-map settled (λ (s : BridgeResult A). Some s.outcome) in let other = length-map xs (λ (y : BridgeRunState A). y.outcome) in let both = ap length told.outcomes in let size = many in omega (arith, one, other, both, size));
    frames = frames_in xs all;
    reads = λ b i q p ports c text plan numbers at open_port own at_text.
        let x = station b p plan in
        let order : x.0.ports ≡ ports = one_order p x.0.ports ports (subst (λ (z : Plan A). ArePortNumbers z x.0.ports) x.2 (kept b x.0 x.1).numbers) numbers in
        let here : slice_get x.0.ports i ≡ Some q = ap (λ (l : List ℕ). slice_get l i) order ∙ at in
        open_read (network_value n) (commands_of_bridge came) xs are requested all fed network b i q x.0 text.items x.1 here (text_at b i q x.0 c text x.1 here open_port own at_text);
    others = λ b q p plan none. none_read (network_value n) (commands_of_bridge came) xs are requested all fed network b q p plan none;
    run = λ o outcomes. network_run (network_value n) (commands_of_bridge came) xs are requested all fed network o (told_at o outcomes);
    lengths = λ o outcomes b p x plan listed. lengths_there (network_value n) (commands_of_bridge came) xs are requested all fed network o (told_at o outcomes) b p x plan listed;
    taps = λ o outcomes b i q p ports s tap plan numbers at told_is tap_is.
        let x = station b p plan in
        let order : x.0.ports ≡ ports = one_order p x.0.ports ports (subst (λ (z : Plan A). ArePortNumbers z x.0.ports) x.2 (kept b x.0 x.1).numbers) numbers in
        let here : slice_get x.0.ports i ≡ Some q = ap (λ (l : List ℕ). slice_get l i) order ∙ at in
        let same_taps = taps_at b s x.0 told_is x.1 in
        let own : slice_get x.0.taps i ≡ Some tap.octets = ap (λ (l : List (List ℕ)). slice_get l i) (sym same_taps) ∙ (slice_get-map (λ (d : MemoryDevice). d.octets) s.taps.items i ∙ ap (option_map (λ (d : MemoryDevice). d.octets)) tap_is) in
        tap_read (network_value n) (commands_of_bridge came) xs are requested all fed network b i q x.0 tap.octets x.1 here own
        ∙ sym (ap written_text (left_there (network_value n) (commands_of_bridge came) xs are requested all fed network o (told_at o outcomes) b q));
  }

-- A property of a successful result.
pub if_ok : {E X : Type 0} (P Q : X → Type 0) (r : Result X E) → IfOk r P → ((x : X) → P x → Q x) → IfOk r Q
if_ok P Q (Ok x) p h = h x p
if_ok P Q (Err e) p h = tt

commands_timed : (cs : List Command) → AreTimed (commands_of cs)
commands_timed [] x member = absurd member
commands_timed (c ∷ cs) x member = elim (in_push x (command_as_input c) (commands_of cs) member) [
  | inl old ↦ commands_timed cs x old
  | inr new ↦ subst (λ (y : Input). IsTimed y.at y.event) (sym new) tt
]

pub came_timed : {A : Type 0} (came : List (BridgeInput A)) (b : ℕ) → AreTimed (commands_of_bridge came b)
came_timed [] b x member = absurd member
came_timed (c ∷ came) zero x member = commands_timed c.commands.items x member
came_timed (c ∷ came) (suc b) x member = came_timed came b x member

-- Each stream has the records that it has alone.
pub isolates : {A : Type 0} (n : NetworkParts A) (came : List (BridgeInput A)) (settled : List (BridgeResult A)) → IsNetwork (network_value n) → AreClosed n → IsolatesStreams n came settled
isolates n came settled network closed ran o stream outcomes listed = alone_in (network_value n) (stream_value stream.items) (commands_of_bridge came) ran.frames o network (ran.run o outcomes) (came_timed came) (closed.each stream listed)

-- Other traffic can't change a stream.
pub changes_nothing : {A : Type 0} (n : NetworkParts A) (came : List (BridgeInput A)) (settled : List (BridgeResult A)) → IsNetwork (network_value n) → AreClosed n → OthersChangeNothing n came settled
changes_nothing {A} n came settled network closed ran o outcomes other_came other also r others stream h u v listed first is told_is says_is =
    one_course (network_value n) (stream_value stream.items) (commands_of_bridge came) ran.frames (commands_of_bridge other_came) also.frames
    (λ (k : Hop A). lookup (nat_eq k.number) (o k.bridge).filters.items) (λ (k : Hop A). lookup (nat_eq k.number) (r k.bridge).filters.items)
    (alone_in (network_value n) (stream_value stream.items) (commands_of_bridge came) ran.frames o network (ran.run o outcomes) (came_timed came) (closed.each stream listed))
    (alone_in (network_value n) (stream_value stream.items) (commands_of_bridge other_came) also.frames r network (also.run r others) (came_timed other_came) (closed.each stream listed))
    first h u v is told_is says_is

-- A property that always holds.
pub always_if : {E X : Type 0} (Q : X → Type 0) (r : Result X E) → ((x : X) → Q x) → IfOk r Q
always_if Q (Ok x) h = h x
always_if Q (Err e) h = tt
