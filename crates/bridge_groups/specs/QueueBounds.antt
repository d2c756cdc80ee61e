-- Delay bounds and capacities of a port's queue for an arrival curve.
use Rattle.std.specs.Prelude.{ℕ}
use Rattle.bridge_frame.specs.Link.{transmission_time}
use Rattle.bridge_port.specs.GateSchedule.{lists_open}
use Rattle.bridge_config.specs.declared.ports.PortPlan.{PortPlan}
use Rattle.bridge_check.specs.Windows.{longest_frame}
use Rattle.bridge_semantics.specs.Offers.{egress_rules}
use Rattle.bridge_groups.specs.Work.{IsDelayBound, IsSufficientRoom}

-- Holds if `b` ns is a delay bound of the class-`c` queue at port `out`. Its frames have the arrival curve `curve` and
-- SDUs of at most `sdu` octets.
abbrev pub IsCurveBound : {A : Type 0} → PortPlan A → ℕ → ℕ → (ℕ → ℕ) → ℕ → Type 0
IsCurveBound out c sdu curve b = IsDelayBound (lists_open out.list c) (transmission_time (longest_frame sdu) out.speed) (transmission_time 60 out.speed) curve b

-- Holds if the class-`c` queue at port `out` has enough capacity. Frames have work curve `curve`, count curve `many`,
-- and SDUs of at most `sdu` octets.
abbrev pub HasCurveRoom : {A : Type 0} → PortPlan A → ℕ → ℕ → (ℕ → ℕ) → (ℕ → ℕ) → Type 0
HasCurveRoom out c sdu curve many = IsSufficientRoom (lists_open out.list c) (transmission_time (longest_frame sdu) out.speed) (transmission_time 60 out.speed) curve many ((egress_rules out).room c)
