-- The next start of a transmission at any port of the bridge.
use Rattle.std.specs.Prelude.{◌≡◌, ℕ, true, ◌+◌, ◌≤◌, nat_lt, Option, Some, None, List, if◌then◌else◌}
use Rattle.bridge_capture.specs.Grammar.{CapturedFrame}
use Rattle.bridge_cycle.specs.Fits.{Fits}
use Rattle.bridge_frame.specs.Link.{transmission_time}
use Rattle.bridge_port.specs.GateSchedule.{lists_open}
use Rattle.bridge_port.specs.Schedule.{Copy, IsLawful, queue_head, is_link_free}
use Rattle.bridge_port.specs.Solo.{IsFinished}
use Rattle.bridge_config.specs.declared.ports.PortPlan.{PortPlan}
use Rattle.bridge_config.specs.Model.{Plan}
use Rattle.bridge_config.specs.Rules.{find_port}
use Rattle.bridge_semantics.specs.Events.{Event}
use Rattle.bridge_semantics.specs.Offers.{CarriedFrame, egress_rules}
use Rattle.bridge_semantics.specs.Outputs.{IsOutput, departed_frame}
use Rattle.bridge_semantics.specs.Runs.{IsRun, AreFinished}

-- Holds if the port's next transmission starts at time `moment` and sends `item`, the head of class `class`. No
-- transmission was missed, the link is free, and no head of a higher class fits.
pub record StartsNext {A : Type 0} (out : PortPlan A) (copies : List (Copy CarriedFrame)) (moment class : ℕ) (item : CarriedFrame) : Type 0 where
  pub lawful : IsLawful (egress_rules out) moment copies
  pub free : is_link_free (egress_rules out) moment copies ≡ true
  pub place : ℕ
  pub is_head : queue_head class moment copies ≡ Some (place, item)
  pub fits : Fits (lists_open out.list class) (transmission_time item.len out.speed) moment
  pub highest : (d : ℕ) (p : ℕ × CarriedFrame) → queue_head d moment copies ≡ Some p → Fits (lists_open out.list d) (transmission_time p.1.len out.speed) moment → d ≤ class

-- Holds if a port's next transmission starts at this optional time in ns. `None` means that the port has no queued
-- copy.
abbrev pub IsNextPortStart : {A : Type 0} → PortPlan A → List (Copy CarriedFrame) → Option ℕ → Type 0
IsNextPortStart out copies None = IsFinished copies
IsNextPortStart out copies (Some k) = (class : ℕ) × (item : CarriedFrame) × StartsNext out copies k class item

-- The time in ns up to which port `q` has run, if all transmissions before the given port's transmission at `moment`
-- have started. Transmissions at equal times follow the port numbers.
abbrev pub time_reached : ℕ → ℕ → ℕ → ℕ
time_reached moment port q = if nat_lt q port then moment + 1 else moment

-- Holds if a run of the events `es` has started every transmission up to and including the transmission of port `port`
-- at `moment`. Each port `q` has sent exactly `left q`.
pub record ReachesStart {A : Type 0} (p : Plan A) (es : List Event) (moment port : ℕ) (left : ℕ → List CapturedFrame) : Type 0 where
  pub lists : ℕ → List (Copy CarriedFrame)
  pub run : IsRun p es (time_reached moment (port + 1)) lists
  pub output : (q : ℕ) (out : PortPlan A) → find_port p.ports q ≡ Some out → IsOutput out.speed (lists q) (left q)

-- Holds if the bridge's next transmission starts on port `port` at time `moment` and sends `item`, the head of class
-- `class`. All earlier transmissions have started, and the ports have sent exactly `left`.
pub record HasNextStart {A : Type 0} (p : Plan A) (es : List Event) (left : ℕ → List CapturedFrame) (port moment class : ℕ) (item : CarriedFrame) : Type 0 where
  pub lists : ℕ → List (Copy CarriedFrame)
  pub run : IsRun p es (time_reached moment port) lists
  pub output : (q : ℕ) (out : PortPlan A) → find_port p.ports q ≡ Some out → IsOutput out.speed (lists q) (left q)
  pub out : PortPlan A
  pub planned : find_port p.ports port ≡ Some out
  pub starts : StartsNext out (lists port) moment class item

-- Holds if the events `es` have a complete run without queued copies, in which each port `q` sends exactly `left q`.
pub record HasNoneQueued {A : Type 0} (p : Plan A) (es : List Event) (left : ℕ → List CapturedFrame) : Type 0 where
  pub moments : ℕ → ℕ
  pub lists : ℕ → List (Copy CarriedFrame)
  pub run : IsRun p es moments lists
  pub whole : AreFinished lists
  pub output : (q : ℕ) (out : PortPlan A) → find_port p.ports q ≡ Some out → IsOutput out.speed (lists q) (left q)

-- Holds if the bridge's next transmission has this port and start time, after the events `es` and the departures
-- `left`. `None` means that no copy is queued.
abbrev pub IsNextBridgeStart : {A : Type 0} → Plan A → List Event → (ℕ → List CapturedFrame) → Option (ℕ × ℕ) → Type 0
IsNextBridgeStart p es left None = HasNoneQueued p es left
IsNextBridgeStart p es left (Some d) = (class : ℕ) × (item : CarriedFrame) × HasNextStart p es left d.0 d.1 class item

-- Holds if the bridge's next transmission sends the head of class `class` on port `port` at time `start`, and the
-- departure is `frame`.
pub record SendsHead {A : Type 0} (p : Plan A) (es : List Event) (left : ℕ → List CapturedFrame) (port class start : ℕ) (frame : CapturedFrame) : Type 0 where
  pub item : CarriedFrame
  pub next : HasNextStart p es left port start class item
  pub is : frame ≡ departed_frame next.out.speed start item

-- Holds if `next q` is the optional time in ns at which each port `q` starts its next transmission. The run has the
-- events `es`, and the ports have sent exactly `left`.
pub record AreNextStarts {A : Type 0} (p : Plan A) (es : List Event) (left : ℕ → List CapturedFrame) (next : ℕ → Option ℕ) : Type 0 where
  pub moments : ℕ → ℕ
  pub lists : ℕ → List (Copy CarriedFrame)
  pub run : IsRun p es moments lists
  pub output : (q : ℕ) (out : PortPlan A) → find_port p.ports q ≡ Some out → IsOutput out.speed (lists q) (left q)
  pub each : (q : ℕ) (out : PortPlan A) → find_port p.ports q ≡ Some out → IsNextPortStart out (lists q) (next q)
  pub others : (q : ℕ) → find_port p.ports q ≡ None → next q ≡ None
