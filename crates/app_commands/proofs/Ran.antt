-- A run into buffered sinks is a run into their writers.
use Rattle.std.proofs.Common.{◌≡◌, ℕ, ◌≤◌, inl, inr, Bool, true, false, Option, Some, None, List, [], ◌∷◌, length, slice_get, refl, sym, ap, subst, ◌∙◌, arith, rules, zero, suc, map}
use Rattle.std.proofs.lemmas.List.{length-map}
use Rattle.std.proofs.lemmas.Option.{slice_get_within, same_Some}
use Rattle.std.proofs.KnownBytes.{Appends-kept}
use Rattle.bridge_capture.specs.Grammar.{CapturedFrame}
use Rattle.bridge_capture.specs.WrittenCapture.{written_text}
use Rattle.bridge_config.specs.declared.command.Command.{Command}
use Rattle.bridge_config.specs.Model.{Plan}
use Rattle.bridge_capture.specs.declared.fault.RunFault.{RunFault}
use Rattle.bridge_capture.specs.declared.fault.RunFault.TheVariants as run
use Rattle.bridge_semantics.specs.Merge.{Input}
use Rattle.bridge_semantics.specs.declared.outcome.Outcome.{Outcome}
use Rattle.app_files.proofs.Kept.{kept_appends}
use Rattle.bridge_capture.specs.Devices.{HasFailed}
use Rattle.std.specs.Prelude.{nat_eq, if◌then◌else◌, ◌<◌}
use Rattle.std.proofs.lemmas.Bool.{eq-eqb}
use Rattle.std.proofs.lemmas.Bool.Decides.{nat_tests}
use Rattle.bridge_limits.specs.Members.{IsOrdered}
use Rattle.bridge_limits.proofs.Lists.{there_is, heads, tails}
use Rattle.bridge_limits.proofs.Members.{after_at}
use Rattle.bridge_capture.specs.CaptureReaders.{HaveRests, HaveTexts}
use Rattle.bridge_core.specs.CaptureWriters.{AreWritten}
use Rattle.bridge_core.specs.WholeRuns.{ArePortNumbers, IsWholeRun, StopsRun}
use Rattle.bridge_core.specs.Running.{StopsInCommands, StopsUnderWay}
use Rattle.bridge_core.proofs.Simulating.{ports_many}
use Rattle.app_commands.specs.Flushed.{AllKept, NoneFailed, StopsFlushed}
use Rattle.app_commands.proofs.Kept.{kept_at, kept_length, kept_through, none_at}

-- The writers finally have the contents of the sinks.
pub written_over : {W S : Type 0} (contents : W → Option (List ℕ)) (sunk : S → Option (List ℕ)) (ports : List ℕ) (writers news : List W) (olds mids : List S) (left : ℕ → List CapturedFrame) → AllKept contents sunk writers olds → AllKept sunk contents mids news → length mids ≡ length olds → AreWritten sunk ports olds mids left → AreWritten contents ports writers news left
written_over contents sunk ports writers news olds mids left before after same written i q old new at held holds =
    let many = kept_length contents sunk writers olds before in
    let within = slice_get_within writers i old held in
    let o = there_is olds i (omega (arith, many, within)) in
    let m = there_is mids i (omega (arith, many, within, same)) in
    let all = written i q o.0 m.0 at o.1 m.1 in (
      Appends-kept (contents old) (sunk m.0) (contents new) (written_text (left q))
          (kept_appends (contents old) (sunk o.0) (sunk m.0) (written_text (left q)) (kept_at contents sunk writers olds i old o.0 before held o.1) all.0)
          (kept_at sunk contents mids news i m.0 new after m.1 holds),
      all.1,
    )

-- A complete run.
pub runs_over : {A W S : Type 0} (p : Plan A) (contents : W → Option (List ℕ)) (sunk : S → Option (List ℕ)) (ports : List ℕ) (commands : List Command) (texts : ℕ → List ℕ) (writers news : List W) (olds mids : List S) (o : Outcome A) → AllKept contents sunk writers olds → AllKept sunk contents mids news → length mids ≡ length olds → IsWholeRun p ports commands texts sunk olds mids o → IsWholeRun p ports commands texts contents writers news o
runs_over p contents sunk ports commands texts writers news olds mids o before after same ran = record {
  frames = ran.frames;
  inputs = ran.inputs;
  left = ran.left;
  reads = ran.reads;
  others = ran.others;
  merged = ran.merged;
  ends = ran.ends;
  written = written_over contents sunk ports writers news olds mids ran.left before after same ran.written;
}

-- A run that stopped under way, at a capture or out of memory.
so_over : {A W S : Type 0} (p : Plan A) (contents : W → Option (List ℕ)) (sunk : S → Option (List ℕ)) (ports : List ℕ) (texts : ℕ → List ℕ) (rests : ℕ → Option (List ℕ)) (commanded : List Input) (next : Option Input) (writers news : List W) (olds mids : List S) (fault : RunFault) → ((port : ℕ) → ¬ (fault ≡ run.Write port)) → AllKept contents sunk writers olds → AllKept sunk contents mids news → length mids ≡ length olds → StopsUnderWay p texts rests commanded next sunk ports olds mids fault → StopsUnderWay p texts rests commanded next contents ports writers news fault
so_over p contents sunk ports texts rests commanded next writers news olds mids (run.Capture port fault) other before after same s = record {
  frames = s.frames;
  inputs = s.inputs;
  left = s.left;
  taken = s.taken;
  own = s.own;
  refused = s.refused;
  behind = s.behind;
  others = s.others;
  reaches = s.reaches;
  written = written_over contents sunk ports writers news olds mids s.left before after same s.written;
}
so_over p contents sunk ports texts rests commanded next writers news olds mids (run.Write port) other before after same s = absurd (other port refl)
so_over p contents sunk ports texts rests commanded next writers news olds mids run.NoMemory other before after same s = record {
  frames = s.frames;
  inputs = s.inputs;
  left = s.left;
  moment = s.moment;
  taken = s.taken;
  late = s.late;
  looks = s.looks;
  waits = s.waits;
  reaches = s.reaches;
  written = written_over contents sunk ports writers news olds mids s.left before after same s.written;
}

among_over : {A W S : Type 0} (p : Plan A) (contents : W → Option (List ℕ)) (sunk : S → Option (List ℕ)) (ports : List ℕ) (commands : List Command) (texts : ℕ → List ℕ) (rests : ℕ → Option (List ℕ)) (writers news : List W) (olds mids : List S) (fault : RunFault) → ((port : ℕ) → ¬ (fault ≡ run.Write port)) → AllKept contents sunk writers olds → AllKept sunk contents mids news → length mids ≡ length olds → StopsInCommands p texts rests commands sunk ports olds mids fault → StopsInCommands p texts rests commands contents ports writers news fault
among_over p contents sunk ports commands texts rests writers news olds mids fault other before after same s = record {
  done = s.done;
  later = s.later;
  all = s.all;
  stops = so_over p contents sunk ports texts rests _ _ writers news olds mids fault other before after same s.stops;
}

untouched_over : {W S : Type 0} (contents : W → Option (List ℕ)) (sunk : S → Option (List ℕ)) (writers news : List W) (olds mids : List S) → AllKept contents sunk writers olds → AllKept sunk contents mids news → mids ≡ olds → AllKept contents contents writers news
untouched_over contents sunk writers news olds mids before after same = kept_through contents sunk contents writers olds news before (subst (λ l. AllKept sunk contents l news) same after)

-- The sink of a port didn't fail.
no_write : {S : Type 0} (failed : S → Bool) (ports : List ℕ) (mids : List S) (port place : ℕ) → length mids ≡ length ports → NoneFailed failed mids → HasFailed failed ports port mids → slice_get ports place ≡ Some port → ⊥
no_write failed ports mids port place same sound bad at =
    let within = slice_get_within ports place port at in
    let m = there_is mids place (omega (arith, same, within)) in
    let yes : failed m.0 ≡ true = bad place m.0 at m.1 in
    let no : failed m.0 ≡ false = none_at failed mids place m.0 sound m.1 in
    let both : true ≡ false = cc in
    absurd (search rules)

-- A run that stopped without a failed sink.
pub stops_over : {A W S : Type 0} (p : Plan A) (contents : W → Option (List ℕ)) (sunk : S → Option (List ℕ)) (failed : S → Bool) (ports : List ℕ) (commands : List Command) (texts : ℕ → List ℕ) (rests : ℕ → Option (List ℕ)) (writers news : List W) (olds mids : List S) (fault : RunFault)
    → AllKept contents sunk writers olds → AllKept sunk contents mids news → length mids ≡ length olds → length mids ≡ length ports → NoneFailed failed mids → ((port : ℕ) → fault ≡ run.Write port → HasFailed failed ports port mids)
    → StopsRun p ports commands texts rests sunk failed olds mids fault → StopsFlushed p ports commands texts rests contents writers news fault
stops_over p contents sunk failed ports commands texts rests writers news olds mids (run.Capture port fault) before after same many sound bad stops = elim stops [
  | inl first ↦ inl (first.own, first.looks, untouched_over contents sunk writers news olds mids before after first.untouched)
  | inr among ↦ inr (among_over p contents sunk ports commands texts rests writers news olds mids (run.Capture port fault) (λ q e. absurd (search rules)) before after same among)
]
stops_over p contents sunk failed ports commands texts rests writers news olds mids (run.Write port) before after same many sound bad stops = elim stops [
  | inl first ↦ no_write failed ports mids port first.headers.place many sound (bad port refl) first.headers.there
  | inr among ↦ no_write failed ports mids port among.stops.written.place many sound (bad port refl) among.stops.written.there
]
stops_over p contents sunk failed ports commands texts rests writers news olds mids run.NoMemory before after same many sound bad stops = elim stops [
  | inl wants ↦ inl (wants.looks, untouched_over contents sunk writers news olds mids before after wants.untouched)
  | inr among ↦ inr (among_over p contents sunk ports commands texts rests writers news olds mids run.NoMemory (λ q e. absurd (search rules)) before after same among)
]

-- The rest of the capture in a port's source.
abbrev pub rest_of : {S : Type 0} → (S → Option (List ℕ)) → List ℕ → List S → ℕ → Option (List ℕ)
rest_of asked [] sources q = None
rest_of asked (p ∷ ports) [] q = None
rest_of asked (p ∷ ports) (s ∷ sources) q = if nat_eq p q then asked s else rest_of asked ports sources q

-- The sources have these rests.
pub are_rests : {S : Type 0} (asked : S → Option (List ℕ)) (ports : List ℕ) (sources : List S) → IsOrdered (λ a b. a < b) ports → HaveRests asked ports (rest_of asked ports sources) sources
are_rests asked [] sources r i q s at held = absurd (cc)
are_rests asked (p ∷ ports) [] r i q s at held = absurd (cc)
are_rests {S} asked (p ∷ ports) (t ∷ sources) r zero q s at held =
    let same : p ≡ q = same_Some p q at in
    let is : t ≡ s = same_Some t s held in
    ap asked (sym is) ∙ sym (ap (λ b. if b then asked t else rest_of asked ports sources q) (eq-eqb p q same))
are_rests {S} asked (p ∷ ports) (t ∷ sources) r (suc i) q s at held =
    let less = after_at (λ (a b : ℕ). a < b) p ports i q r.0 at in
    let apart : nat_eq p q ≡ false = grind (arith, nat_tests) in
    are_rests asked ports sources r.1 i q s at held ∙ sym (ap (λ b. if b then asked t else rest_of asked ports sources q) apart)

-- No capture has been read.
pub none_read : {A W : Type 0} (p : Plan A) (ports : List ℕ) (commands : List Command) (texts : ℕ → List ℕ) (contents : W → Option (List ℕ)) (olds news : List W) → AllKept contents contents olds news → (rests : ℕ → Option (List ℕ)) × StopsFlushed p ports commands texts rests contents olds news run.NoMemory
none_read p ports commands texts contents olds news kept = (λ q. Some (texts q), inl (inl (inl (λ i q at. refl)), kept))

-- A list with an entry for each port has no entry after them.
pub none_behind : {A : Type 0} (p : Plan A) (ports : List ℕ) (n port : ℕ) → ArePortNumbers p ports → n ≡ length p.ports → ¬ (slice_get ports n ≡ Some port)
none_behind p ports n port are many at = let within = slice_get_within ports n port at in let all = ports_many p ports are in absurd (omega (arith, within, all, many))

-- An index without an item is after the list.
pub behind : {X : Type 0} (xs : List X) (n : ℕ) → slice_get xs n ≡ None → length xs ≤ n
behind [] n e = omega arith
behind (x ∷ xs) zero e = absurd (cc)
behind (x ∷ xs) (suc n) e = let more = behind xs n e in omega (arith, more)

-- Empty lists keep nothing.
pub none_kept : {V : Type 0} (f : V → Option (List ℕ)) (vs ws : List V) → length vs ≡ 0 → ws ≡ [] → AllKept f f vs ws
none_kept f [] [] many same = tt
none_kept f [] (w ∷ ws) many same = absurd (cc)
none_kept f (v ∷ vs) ws many same = absurd (omega (arith, many))

-- Two lists with equal images have equal lengths.
pub same_many : {X Y Z : Type 0} (f : X → Z) (g : Y → Z) (xs : List X) (ys : List Y) → map f xs ≡ map g ys → length xs ≡ length ys
same_many f g xs ys same = sym (length-map xs f) ∙ ap length same ∙ length-map ys g

map_at : {X Y Z : Type 0} (f : X → Z) (g : Y → Z) (xs : List X) (ys : List Y) (i : ℕ) (x : X) (y : Y) → map f xs ≡ map g ys → slice_get xs i ≡ Some x → slice_get ys i ≡ Some y → f x ≡ g y
map_at f g [] ys i x y same a b = absurd (cc)
map_at f g (u ∷ xs) [] i x y same a b = absurd (cc)
map_at f g (u ∷ xs) (v ∷ ys) zero x y same a b = ap f (sym (same_Some u x a)) ∙ heads (f u) (g v) (map f xs) (map g ys) same ∙ ap g (same_Some v y b)
map_at f g (u ∷ xs) (v ∷ ys) (suc i) x y same a b = map_at f g xs ys i x y (tails (f u) (g v) (map f xs) (map g ys) same) a b

-- The readers' texts are the texts of their sources.
pub texts_over : {R S : Type 0} (remaining : R → Option (List ℕ)) (asked : S → Option (List ℕ)) (ports : List ℕ) (texts : ℕ → List ℕ) (readers : List R) (sources : List S) → map asked sources ≡ map remaining readers → HaveTexts remaining ports texts readers → HaveTexts asked ports texts sources
texts_over remaining asked ports texts readers sources same read i q s at held =
    let many = same_many asked remaining sources readers same in
    let within = slice_get_within sources i s held in
    let r = there_is readers i (omega (arith, many, within)) in
    map_at asked remaining sources readers i s r.0 same held r.1 ∙ read i q r.0 at r.1
