-- A run of a bridge over captures in memory.
use Rattle.std.proofs.Common.{◌≡◌, ◌≢◌, ℕ, zero, suc, true, false, ◌<◌, List, [], ◌∷◌, ◌++◌, length, nat_eq, option_map, Option, Some, None, refl, sym, ap, ◌∙◌, subst, arith}
use Rattle.std.specs.Prelude.{All, is_some, slice_get, if◌then◌else◌, Vec}
use Rattle.std.proofs.lemmas.Bool.{eq-eqb}
use Rattle.std.proofs.lemmas.Bool.Decides.{nat_tests}
use Rattle.std.proofs.lemmas.List.{length-map}
use Rattle.std.proofs.lemmas.List.Elements.{All-head, All-tail}
use Rattle.std.proofs.lemmas.Option.{slice_get-map, slice_get_within, same_Some}
use Rattle.bridge_limits.specs.Members.{IsOrdered}
use Rattle.bridge_limits.proofs.Lists.{there_is}
use Rattle.bridge_limits.proofs.Members.{after_at}
use Rattle.bridge_capture.specs.declared.capture_fault.CaptureFault.{CaptureFault}
use Rattle.bridge_capture.specs.declared.capture_fault.CaptureFault.TheVariants as faults
use Rattle.bridge_capture.specs.Grammar.{IsCapture, AtEnd}
use Rattle.bridge_capture.specs.Memory.{MemoryDevice}
use Rattle.bridge_capture.specs.WrittenCapture.{written_text}
use Rattle.bridge_config.specs.declared.command.Command.{Command}
use Rattle.bridge_config.specs.Commands.{AreCommands}
use Rattle.bridge_config.specs.Model.{Plan}
use Rattle.bridge_capture.specs.CaptureReaders.{HaveRests, HaveTexts}
use Rattle.bridge_capture.specs.declared.fault.RunFault.{RunFault}
use Rattle.bridge_capture.specs.declared.fault.RunFault.TheVariants as run
use Rattle.bridge_semantics.specs.declared.outcome.Outcome.{Outcome}
use Rattle.bridge_core.specs.WholeRuns.{ArePortNumbers, IsWholeRun, StopsRun}
use Rattle.bridge_core.proofs.Beginning.{known}
use Rattle.bridge_core.proofs.Simulating.{ports_many}
use Rattle.bridge_config.proofs.Sorted.{rising_numbers}
use Rattle.net_model.specs.Networks.{Sender}
use Rattle.net_run.specs.BridgeRuns.{IsBridgeRun, RunsBridge, StopsBridge, as_memory_fault, sink_octets, text_of_port, text_octets}

-- The octets of a sink or a source in memory.
abbrev pub held : MemoryDevice → Option (List ℕ)
held d = Some d.octets

-- The text of a port is the text at its index.
pub text_at : (ports : List ℕ) (texts : List (List ℕ)) (i q : ℕ) (text : List ℕ) → IsOrdered (λ a b. a < b) ports → slice_get ports i ≡ Some q → slice_get texts i ≡ Some text → text_of_port ports texts q ≡ text
text_at [] texts i q text r at is = absurd (cc)
text_at (p ∷ ports) [] i q text r at is = absurd (cc)
text_at (p ∷ ports) (t ∷ texts) zero q text r at is = ap (λ b. if b then t else text_of_port ports texts q) (eq-eqb p q (same_Some p q at)) ∙ same_Some t text is
text_at (p ∷ ports) (t ∷ texts) (suc i) q text r at is =
    let less = after_at (λ (a b : ℕ). a < b) p ports i q r.0 at in
    let apart : nat_eq p q ≡ false = grind (arith, nat_tests) in
    ap (λ b. if b then t else text_of_port ports texts q) apart ∙ text_at ports texts i q text r.1 at is

-- Each source has its text.
pub are_texts : {A : Type 0} (p : Plan A) (ports : List ℕ) (texts : List (List ℕ)) (sources : List MemoryDevice) → ArePortNumbers p ports → sink_octets sources ≡ texts → HaveTexts held ports (text_of_port ports texts) sources
are_texts p ports texts sources are same i q r at is =
    let text : slice_get texts i ≡ Some r.octets = ap (λ (l : List (List ℕ)). slice_get l i) (sym same) ∙ (slice_get-map (λ (d : MemoryDevice). d.octets) sources i ∙ ap (option_map (λ (d : MemoryDevice). d.octets)) is) in
    ap (λ (z : List ℕ). Some z) (sym (text_at ports texts i q r.octets (rising_numbers ports are.rises) at text))

-- The result of a run over texts in memory.
pub runs_bridge : {A : Type 0} (p : Plan A) (ports : List ℕ) (commands : List Command) (texts : List (List ℕ)) (olds news : List MemoryDevice) (o : Outcome A)
    → ArePortNumbers p ports → length texts ≡ length ports → length olds ≡ length ports → All (λ d. d.octets ≡ []) olds
    → IsWholeRun p ports commands (text_of_port ports texts) held olds news o → RunsBridge p ports commands texts (sink_octets news) o
runs_bridge {A} p ports commands texts olds news o are many as_many empty ran = record {
  frames = ran.frames;
  inputs = ran.inputs;
  left = ran.left;
  reads = λ i q text at is.
      let port = known p ports i q are at in
      subst (λ (t : List ℕ). IsCapture t (ran.frames q) AtEnd) (text_at ports texts i q text (rising_numbers ports are.rises) at is) (ran.reads q port.0 port.1);
  others = ran.others;
  merged = ran.merged;
  ends = ran.ends;
  written = λ i q tap at is.
      let within = slice_get_within (sink_octets news) i tap is in
      let size = length-map news (λ (d : MemoryDevice). d.octets) in
      let new = there_is news i (omega (arith, within, size)) in
      let inside = slice_get_within ports i q at in
      let old = there_is olds i (omega (arith, inside, as_many)) in
      let w = ran.written i q old.0 new.0 at old.1 new.1 in
      let none : old.0.octets ≡ [] = empty_at olds i old.0 empty old.1 in
      let same : new.0.octets ≡ tap = same_Some new.0.octets tap (sym (slice_get-map (λ (d : MemoryDevice). d.octets) news i ∙ ap (option_map (λ (d : MemoryDevice). d.octets)) new.1) ∙ is) in
      record { is = sym same ∙ (w.0 ∙ ap (λ (z : List ℕ). z ++ written_text (ran.left q)) none); fits = w.1 };
}
  where
    empty_at : (ds : List MemoryDevice) (i : ℕ) (d : MemoryDevice) → All (λ d. d.octets ≡ []) ds → slice_get ds i ≡ Some d → d.octets ≡ []
    empty_at [] i d all is = absurd (cc)
    empty_at (x ∷ xs) zero d all is = subst (λ (z : MemoryDevice). z.octets ≡ []) (same_Some x d is) (All-head (λ (d : MemoryDevice). d.octets ≡ []) x xs all)
    empty_at (x ∷ xs) (suc i) d all is = empty_at xs i d (All-tail (λ (d : MemoryDevice). d.octets ≡ []) x xs all) is

-- The octets that each source has left.
abbrev rest_by : List ℕ → List MemoryDevice → ℕ → Option (List ℕ)
rest_by [] sources q = None
rest_by (p ∷ ports) [] q = None
rest_by (p ∷ ports) (s ∷ sources) q = if nat_eq p q then held s else rest_by ports sources q

pub are_rests : (ports : List ℕ) (sources : List MemoryDevice) → IsOrdered (λ a b. a < b) ports → HaveRests held ports (rest_by ports sources) sources
are_rests [] sources r i q s at is = absurd (cc)
are_rests (p ∷ ports) [] r i q s at is = absurd (cc)
are_rests (p ∷ ports) (t ∷ sources) r zero q s at is =
    ap held (sym (same_Some t s is)) ∙ sym (ap (λ b. if b then held t else rest_by ports sources q) (eq-eqb p q (same_Some p q at)))
are_rests (p ∷ ports) (t ∷ sources) r (suc i) q s at is =
    let less = after_at (λ (a b : ℕ). a < b) p ports i q r.0 at in
    let apart : nat_eq p q ≡ false = grind (arith, nat_tests) in
    are_rests ports sources r.1 i q s at is ∙ sym (ap (λ b. if b then held t else rest_by ports sources q) apart)

-- The fault with which a run stops.
pub stops_bridge : {A : Type 0} (p : Plan A) (ports : List ℕ) (commands : List Command) (texts : List (List ℕ)) (sources olds news : List MemoryDevice) (fault : RunFault)
    → ArePortNumbers p ports → ((port : ℕ) → fault ≢ run.Capture port faults.Read)
    → ((rests : ℕ → Option (List ℕ)) → HaveRests held ports rests sources → StopsRun p ports commands (text_of_port ports texts) rests held (λ d. d.is_broken) olds news fault)
    → StopsBridge p ports commands texts (as_memory_fault fault)
stops_bridge p ports commands texts sources olds news (run.Capture port fault) are unread stops =
    let rests = rest_by ports sources in
    (λ e. unread port (ap (λ (f : CaptureFault). run.Capture port f) e), rests, olds, news, stops rests (are_rests ports sources (rising_numbers ports are.rises)))
stops_bridge p ports commands texts sources olds news (run.Write port) are unread stops = tt
stops_bridge p ports commands texts sources olds news run.NoMemory are unread stops = tt

-- The number of sources is the number of ports.
pub sources_many : {A B : Type 0} (p : Plan A) (ports : List ℕ) (sources : List MemoryDevice) (texts : List (Vec ℕ B)) → ArePortNumbers p ports → sink_octets sources ≡ text_octets texts → length texts ≡ length ports → length sources ≡ length p.ports
sources_many {A} {B} p ports sources texts are same many =
    let one = length-map sources (λ (d : MemoryDevice). d.octets) in
    let other = length-map texts (λ (v : Vec ℕ B). v.items) in
    let both = ap length same in
    let all = ports_many p ports are in
    omega (arith, one, other, both, many, all)

-- A present value.
pub some_there : {X : Type 0} (o : Option X) → true ≡ is_some o → (x : X) × (o ≡ Some x)
some_there None e = absurd (cc)
some_there (Some x) e = (x, refl)

-- A bridge that has run obeys the rules of bridges.
pub kept_ran : {A : Type 0} (p : Plan A) (commands : List Command) (ports : List ℕ) (senders : List (Option Sender)) (texts : List (List ℕ)) (taps : List MemoryDevice) (o : Outcome A)
    → ArePortNumbers p ports → AreCommands p commands → length senders ≡ length ports → length texts ≡ length ports → length taps ≡ length ports → RunsBridge p ports commands texts (sink_octets taps) o
    → IsBridgeRun (record { plan = p; commands = commands; ports = ports; senders = senders; texts = texts; taps = sink_octets taps; outcome = Some o })
kept_ran {A} p commands ports senders texts taps o numbers are sent many tapped runs = record {
  numbers = numbers;
  commands = are;
  sent = sent;
  texts = many;
  tapped = λ r e. length-map taps (λ (d : MemoryDevice). d.octets) ∙ tapped;
  runs = λ r e. subst (RunsBridge p ports commands texts (sink_octets taps)) (same_Some o r e) runs;
}

-- A bridge that hasn't run obeys the rules of bridges.
pub kept_begun : {A : Type 0} (p : Plan A) (commands : List Command) (ports : List ℕ) (senders : List (Option Sender)) (texts : List (List ℕ)) (taps : List (List ℕ))
    → ArePortNumbers p ports → AreCommands p commands → length senders ≡ length ports → length texts ≡ length ports
    → IsBridgeRun (record { plan = p; commands = commands; ports = ports; senders = senders; texts = texts; taps = taps; outcome = None })
kept_begun {A} p commands ports senders texts taps numbers are sent many = record {
  numbers = numbers;
  commands = are;
  sent = sent;
  texts = many;
  tapped = λ r e. absurd (cc);
  runs = λ r e. absurd (cc);
}
