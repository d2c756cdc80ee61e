-- Frames that have left an egress port during a run.
use Rattle.std.specs.Prelude.{◌≡◌, ℕ, ◌+◌, ◌<◌, ◌≤◌, List, Option, Some, ◌↔◌}
use Rattle.bridge_limits.specs.Members.{IsMember, IsOrdered}
use Rattle.bridge_capture.specs.Grammar.{CapturedFrame}
use Rattle.bridge_frame.specs.declared.Speed.{Speed}
use Rattle.bridge_frame.specs.Link.{transmission_time}
use Rattle.bridge_port.specs.Schedule.{Copy, Started}
use Rattle.bridge_config.specs.declared.ports.PortPlan.{PortPlan}
use Rattle.bridge_config.specs.Model.{Plan}
use Rattle.bridge_config.specs.Rules.{find_port}
use Rattle.bridge_semantics.specs.declared.outcome.Outcome.{Outcome}
use Rattle.bridge_semantics.specs.Events.{Event}
use Rattle.bridge_semantics.specs.Offers.{CarriedFrame}
use Rattle.bridge_semantics.specs.Runs.{IsRun, IsOutcome}

-- The captured frame for contents `item` that start at time `start` in ns: its time is the end of transmission, gap
-- included.
abbrev pub departed_frame : Speed → ℕ → CarriedFrame → CapturedFrame
departed_frame speed start item = record { time = start + transmission_time item.len speed; len = item.len; octets = item.octets }

-- Holds if the captured frame `left` is the departure of some started copy in the list `copies`, at this link speed.
pub record IsDeparture (speed : Speed) (copies : List (Copy CarriedFrame)) (left : CapturedFrame) : Type 0 where
  pub copy : Copy CarriedFrame
  pub start : ℕ
  pub listed : IsMember copy copies
  pub started : copy.fate ≡ Started start
  pub is : left ≡ departed_frame speed start copy.item

-- Holds if the end of transmission of frame `a` is earlier than the end of transmission of frame `b`.
abbrev pub LeavesEarlier : CapturedFrame → CapturedFrame → Type 0
LeavesEarlier a b = a.time < b.time

-- Holds if `left` contains exactly the departures of all started copies in `copies`, in strictly rising order of their
-- ends of transmission.
pub record IsOutput (speed : Speed) (copies : List (Copy CarriedFrame)) (left : List CapturedFrame) : Type 0 where
  pub rises : IsOrdered LeavesEarlier left
  pub members : (d : CapturedFrame) → IsMember d left ↔ IsDeparture speed copies d

-- Holds if the events `es` have a run up to time `moment` in ns, in which the ports send exactly `left`.
pub record ReachesTime {A : Type 0} (p : Plan A) (es : List Event) (moment : ℕ) (left : ℕ → List CapturedFrame) : Type 0 where
  pub lists : ℕ → List (Copy CarriedFrame)
  pub run : IsRun p es (λ q. moment) lists
  pub output : (q : ℕ) (out : PortPlan A) → find_port p.ports q ≡ Some out → IsOutput out.speed (lists q) (left q)

-- Holds if the events `es` have a run in which the ports send exactly `left`. Each port has its own end time, at most `until` if that is present.
pub record HasRun {A : Type 0} (p : Plan A) (es : List Event) (until : Option ℕ) (left : ℕ → List CapturedFrame) : Type 0 where
  pub moments : ℕ → ℕ
  pub lists : ℕ → List (Copy CarriedFrame)
  pub run : IsRun p es moments lists
  pub within : (q t : ℕ) → until ≡ Some t → moments q ≤ t
  pub output : (q : ℕ) (out : PortPlan A) → find_port p.ports q ≡ Some out → IsOutput out.speed (lists q) (left q)

-- Holds if the events `es` have a complete run with result `o`, in which each port `q` sends exactly the frames `left q`.
pub record EndsRun {A : Type 0} (p : Plan A) (es : List Event) (left : ℕ → List CapturedFrame) (o : Outcome A) : Type 0 where
  pub lists : ℕ → List (Copy CarriedFrame)
  pub outcome : IsOutcome p es lists o
  pub output : (q : ℕ) (out : PortPlan A) → find_port p.ports q ≡ Some out → IsOutput out.speed (lists q) (left q)
