-- The state of a bridge, and the events that it stands for.
use Rattle.std.specs.Prelude.{◌≡◌, ℕ, ◌<◌, ◌≤◌, nat_eq, Option, List, [], length, Vec, vec_capacity}
use Rattle.std.specs.Map.{lookup}
use Rattle.bridge_limits.specs.Members.{IsOrdered}
use Rattle.bridge_capture.specs.Grammar.{CapturedFrame}
use Rattle.bridge_config.specs.Model.{Plan}
use Rattle.bridge_filter.specs.declared.FilterPlan.{FilterPlan}
use Rattle.bridge_semantics.specs.declared.outcome.PortCount.{PortCount}
use Rattle.bridge_semantics.specs.declared.outcome.View.{View}
use Rattle.bridge_semantics.specs.Events.{Event}
use Rattle.bridge_relay.specs.RelayState.{RelayState, RelayStandsFor, count_waiting_copies}

-- The state of a bridge: its relay, and the earliest time in ns of the next command.
pub record BridgeState (G A : Type 0) : Type 0 where
  pub relay : RelayState G A
  pub command : ℕ

-- The plan by which bridge `b` handles frames.
abbrev pub bridge_plan : {G A : Type 0} → BridgeState G A → Plan A
bridge_plan b = b.relay.plan

-- The number of frames that have arrived at bridge `b` so far.
abbrev pub bridge_arrivals : {G A : Type 0} → BridgeState G A → ℕ
bridge_arrivals b = b.relay.arrived

-- The earliest time in ns at which the next frame may arrive.
abbrev pub bridge_earliest : {G A : Type 0} → BridgeState G A → ℕ
bridge_earliest b = b.relay.earliest

-- The number of copies that wait in the queues of bridge `b`.
abbrev pub bridge_queued : {G A : Type 0} → BridgeState G A → ℕ
bridge_queued b = count_waiting_copies b.relay

-- The time in ns at which port `q` starts its next transmission; `None` if no transmission is due.
abbrev pub next_start : {G A : Type 0} → (G → ℕ → Option ℕ) → BridgeState G A → ℕ → Option ℕ
next_start held b q = held b.relay.ports.agenda q

-- Holds if the bridge stands for the events `es`, newest first, and the departures `left` under plan `p`.
abbrev pub BridgeStandsFor : {G A : Type 0} → Plan A → BridgeState G A → List Event → (ℕ → List CapturedFrame) → Type 0
BridgeStandsFor p b es left = RelayStandsFor p b.relay es left

-- Holds if a bridge has its filters in order, and empty lists with capacity for all records and counts. The earliest
-- time of a command isn't before the earliest time of a frame.
pub record IsReady {G A : Type 0} (b : RelayState G A) (command : ℕ) (order : List (ℕ × FilterPlan)) (views : Vec (ℕ × View A) A) (counts : Vec (ℕ × PortCount) A) : Type 0 where
  pub rises : IsOrdered (λ x y. x.0 < y.0) order
  pub same : (n : ℕ) → lookup (nat_eq n) order ≡ lookup (nat_eq n) b.plan.filters
  pub no_views : views.items ≡ []
  pub views_room : length order ≤ vec_capacity views
  pub no_counts : counts.items ≡ []
  pub counts_room : 16 ≤ vec_capacity counts
  pub later : b.earliest ≤ command
