-- Spans: times for which a list opens a class without a break. No public contract uses them.
use Rattle.std.specs.Prelude.{◌≡◌, ◌<◌, ◌≤◌, ◌+◌, ℕ, zero, suc, Bool, true, false, ◌||◌, nat_le, min, max, Option, Some, None, List, [], ◌∷◌, length, Vec, if◌then◌else◌}
use Rattle.bridge_cycle.specs.Cyclic.{Cyclic, IsLawful}
use Rattle.bridge_cycle.specs.declared.gate_control_lists.Egress.{Egress}
use Rattle.bridge_cycle.specs.declared.gate_control_lists.Egress.TheVariants as egress
use Rattle.bridge_cycle.specs.declared.run.Run.{Run}
use Rattle.bridge_port.specs.GateSchedule.{RunsMatchTest, list_can_fit, list_opens}
use Rattle.bridge_port.specs.declared.spans.OpenSpan.{OpenSpan}

-- Holds if the class is open from time `m` up to, not including, time `n`.
abbrev pub IsOpenThroughout : (ℕ → Bool) → ℕ → ℕ → Type 0
IsOpenThroughout opens m n = (u : ℕ) → m ≤ u → u < n → opens u ≡ true

-- Holds if the class is closed from time `m` up to, not including, time `n`.
abbrev pub IsShutThroughout : (ℕ → Bool) → ℕ → ℕ → Type 0
IsShutThroughout opens m n = (u : ℕ) → m ≤ u → u < n → opens u ≡ false

-- Holds if the class is closed from `m` to the start of the span, open during the span, and closed at its end.
pub record IsSpan (opens : ℕ → Bool) (m : ℕ) (x : OpenSpan) : Type 0 where
  pub shut : IsShutThroughout opens m x.start
  pub opened : IsOpenThroughout opens x.start x.end
  pub ends : opens x.end ≡ false

-- Holds if the consecutive spans cover all open times from `m` up to `n`.
abbrev pub AreSpans : (ℕ → Bool) → ℕ → List OpenSpan → ℕ → Type 0
AreSpans opens m [] n = IsShutThroughout opens m n
AreSpans opens m (x ∷ xs) n = IsSpan opens m x × AreSpans opens x.end xs n

-- Holds if the spans cover all open times from 0 up to some time.
pub record HasSpans (opens : ℕ → Bool) (spans : List OpenSpan) : Type 0 where
  pub upto : ℕ
  pub are : AreSpans opens 0 spans upto

-- True if the class is open at time `u`, or `u` is at or after `stop`.
abbrev pub open_or_stopped : (ℕ → Bool) → ℕ → ℕ → Bool
open_or_stopped opens stop u = opens u || nat_le stop u

-- First time in ns, `from` or later, from which a span lasts for `occ` ns or up to time `stop`. `None` if no span lasts that long.
abbrev pub fit_in_spans : List OpenSpan → ℕ → ℕ → ℕ → Option ℕ
fit_in_spans [] from occ stop = None
fit_in_spans (x ∷ xs) from occ stop = let start = max from (min x.start stop) in if nat_le (min (start + occ) stop) x.end then Some start else fit_in_spans xs from occ stop

-- End in ns of the span at index `k`; 0 if the list has no span at this index.
abbrev pub span_end : List OpenSpan → ℕ → ℕ
span_end [] k = 0
span_end (x ∷ xs) zero = x.end
span_end (x ∷ xs) (suc k) = span_end xs k

-- Spans of class `c`; empty if the list has none for this class.
abbrev pub class_spans : {A : Type 0} → List (Vec OpenSpan A) → ℕ → List OpenSpan
class_spans [] c = []
class_spans (v ∷ vs) zero = v.items
class_spans (v ∷ vs) (suc c) = class_spans vs c

-- Holds if for each of the eight classes, the runs and spans match the list.
pub record AreListSpans {A : Type 0} (l : Cyclic ℕ) (runs : List Run) (spans : List (Vec OpenSpan A)) : Type 0 where
  pub made : IsLawful l
  pub allow : RunsMatchTest (list_can_fit l) runs
  pub eight : length spans ≡ 8
  pub each : (c : ℕ) → c < 8 → HasSpans (list_opens l c) (class_spans spans c)

-- Holds if the runs and spans match the port's only list, or its old and its new list.
abbrev pub AreGateSpans : {A : Type 0} → Egress A → List Run → List (Vec OpenSpan A) → List Run → List (Vec OpenSpan A) → Type 0
AreGateSpans (egress.Cyclic l) runs spans new_runs new_spans = AreListSpans l runs spans
AreGateSpans (egress.Joined j) runs spans new_runs new_spans = AreListSpans j.old runs spans × AreListSpans j.new new_runs new_spans

-- Holds if the runs and spans match the port's lists, if it has lists.
abbrev pub AreOptionalSpans : {A : Type 0} → Option (Egress A) → List Run → List (Vec OpenSpan A) → List Run → List (Vec OpenSpan A) → Type 0
AreOptionalSpans None runs spans new_runs new_spans = Unit {0}
AreOptionalSpans (Some list) runs spans new_runs new_spans = AreGateSpans list runs spans new_runs new_spans
