-- The bound under a stream gate's schedule is a bound by capacity, or a bound from the openings of its only list.
use Rattle.std.proofs.Common.{◌≡◌, ◌≤◌, ◌+◌, ◌-◌, ℕ, Bool, Option, None, Some, arith, refl, inl, inr}
use Rattle.bridge_cycle.specs.Cyclic.{Cyclic}
use Rattle.bridge_cycle.specs.declared.gate_control_lists.Egress.{Egress}
use Rattle.bridge_cycle.specs.declared.gate_control_lists.Egress.TheVariants as egress
use Rattle.bridge_frame.specs.Link.{transmission_time}
use Rattle.bridge_gate.specs.declared.schedule.GateEntry.{GateEntry}
use Rattle.bridge_gate.specs.declared.schedule.Schedule.{Schedule}
use Rattle.bridge_gate.specs.declared.schedule.Schedule.TheVariants as schedule
use Rattle.bridge_config.specs.declared.ports.PortPlan.{PortPlan}
use Rattle.bridge_check.specs.Windows.{longest_frame}
use Rattle.bridge_semantics.specs.Offers.{egress_rules}
use Rattle.bridge_bounds.specs.Bounds.{IsGateBound, IsGateListBound, IsListBound, IsOpeningsBound, IsOpeningsTime, IsRoomBound}
use Rattle.bridge_bounds.specs.Openings.{fills_at}
use Rattle.bridge_bounds.proofs.Phased.{some_longest}
use Rattle.bridge_bounds.proofs.Steps.{ends_fewer}

within_list : {A : Type 0} (gate : Cyclic GateEntry) (list : Cyclic ℕ) (lets : ℕ → Bool) (out : PortPlan A) (c m b done at : ℕ) → IsListBound gate list lets out c m b → (IsRoomBound out c m b → done ≤ at + b) → (IsOpeningsBound lets out c m b → done ≤ at + b) → done ≤ at + b
within_list gate list lets out c m b done at (inl (common, inl openings)) by_room by_openings = by_openings openings
within_list gate list lets out c m b done at (inl (common, inr (never, room))) by_room by_openings = by_room room
within_list gate list lets out c m b done at (inr (none, room)) by_room by_openings = by_room room

within_lists : {A : Type 0} (gate : Cyclic GateEntry) (lists : Option (Egress A)) (lets : ℕ → Bool) (out : PortPlan A) (c m b done at : ℕ) → IsGateListBound gate lists lets out c m b → (IsRoomBound out c m b → done ≤ at + b) → (IsOpeningsBound lets out c m b → done ≤ at + b) → done ≤ at + b
within_lists gate None lets out c m b done at is by_room by_openings = by_room is
within_lists gate (Some (egress.Cyclic list)) lets out c m b done at is by_room by_openings = within_list gate list lets out c m b done at is by_room by_openings
within_lists gate (Some (egress.Joined j)) lets out c m b done at is by_room by_openings = by_room is

-- A fact about both forms of bound holds for the bound.
pub within_gate : {A : Type 0} (s : Schedule A) (priority : Option ℕ) (out : PortPlan A) (c m b done at : ℕ) → IsGateBound s priority out c m b → (IsRoomBound out c m b → done ≤ at + b) → ((l : Cyclic GateEntry) → s ≡ schedule.Cyclic l → IsOpeningsBound (fills_at out priority c l) out c m b → done ≤ at + b) → done ≤ at + b
within_gate (schedule.Fixed lets ipv) priority out c m b done at is by_room by_openings = by_room is
within_gate (schedule.Cyclic l) priority out c m b done at is by_room by_openings = within_lists l out.list (fills_at out priority c l) out c m b done at is by_room (by_openings l refl)
within_gate (schedule.Joined j) priority out c m b done at is by_room by_openings = by_room is

-- The longest time from openings is at least one transmission time.
openings_least : (lets opens : ℕ → Bool) (occ k d : ℕ) → IsOpeningsTime lets opens occ k d → 1 ≤ k → occ ≤ d
openings_least lets opens occ k d time some =
    let (u, passes, ends) = time.attained in
    let (w, few, before) = ends_fewer opens occ 1 k (u + (occ - 1)) (u + (occ - 1) + d) some ends in
    let (x, s, e, first, is) = few in
    let after = first.after in
    omega (arith, before, is, e, after)

-- A bound is at least one transmission time.
pub gate_bound_least : {A : Type 0} (s : Schedule A) (priority : Option ℕ) (out : PortPlan A) (c m b : ℕ) → IsGateBound s priority out c m b → 1 ≤ (egress_rules out).room c → transmission_time (longest_frame m) out.speed ≤ b
gate_bound_least s priority out c m b is some =
    let least = within_gate s priority out c m b (transmission_time (longest_frame m) out.speed) 0 is
    (λ room.
    let sum = room.bound in
    let one = some_longest _ _ _ room.longest room.is_longest some in
    omega (arith, sum, one))
    (λ l one_list openings.
    let sum = openings.bound in
    let one = openings_least _ _ _ _ openings.longest openings.is some in
    omega (arith, sum, one)) in
    omega (arith, least)
