-- The figures of a shared queue hold in each run.
use Rattle.std.proofs.Common.{◌≡◌, ◌<◌, ◌≤◌, ◌+◌, ℕ, true, List, Option, Some, is_some, arith, ap, refl, subst, ◌∙◌, inl, inr}
use Rattle.std.specs.Map.{lookup}
use Rattle.std.specs.Prelude.{IfSome, nat_eq}
use Rattle.bridge_limits.specs.Members.{IsMember}
use Rattle.bridge_limits.proofs.Members.{each_passes}
use Rattle.bridge_limits.proofs.Options.{some_of}
use Rattle.bridge_cycle.specs.Fits.{IsFirstFit}
use Rattle.bridge_cycle.proofs.Changes.{opens_after, opens_before}
use Rattle.bridge_frame.specs.Link.{transmission_time}
use Rattle.bridge_filter.specs.declared.FilterPlan.{FilterPlan}
use Rattle.bridge_filter.proofs.Members.{member_found}
use Rattle.bridge_port.specs.GateSchedule.{GateSchedule, gate_schedule, list_opens, lists_open, opens}
use Rattle.bridge_port.specs.Schedule.{Copy, Full, Started}
use Rattle.bridge_port.proofs.Opening.{ever_soon}
use Rattle.bridge_config.specs.Model.{Plan}
use Rattle.bridge_config.specs.Rules.{IsPlan}
use Rattle.bridge_config.proofs.PlanPorts.{port_is}
use Rattle.bridge_check.specs.Windows.{longest_frame}
use Rattle.bridge_check.specs.Acceptable.{HasAcceptableGroups}
use Rattle.bridge_check.proofs.Isolated.{made}
use Rattle.bridge_semantics.specs.Events.{Event}
use Rattle.bridge_semantics.specs.Offers.{CarriedFrame, egress_rules}
use Rattle.bridge_semantics.specs.Runs.{AreFinished, IsRun}
use Rattle.bridge_bounds.proofs.Edges.{first_some}
use Rattle.bridge_groups.specs.CostCurves.{sharers_cost_curve}
use Rattle.bridge_groups.specs.Costs.{HasFilterCostCurve, frame_cost}
use Rattle.bridge_groups.specs.Curves.{AreArrivalsInOrder, HaveMeters, curve_sum, sharers_curve, sharers_frame_limit}
use Rattle.bridge_groups.specs.Sharers.{are_metered, longest_sdu, queue_sharers}
use Rattle.bridge_groups.specs.SharedQueues.{IsSharedQueue, IsSharedRoom}
use Rattle.bridge_groups.specs.declared.shared_queues.SharedQueue.{SharedQueue}
use Rattle.bridge_groups.proofs.Costs.{charged}
use Rattle.bridge_groups.proofs.FrameCosts.{filter_costs, number_curve, shortest_some, sum_by_number}
use Rattle.bridge_groups.proofs.Sharing as sharing
use Rattle.bridge_groups.proofs.SharedQueues.{more_room, same_bound, sharers_are, sharers_fit}

-- If all filters have a meter, each of them has one.
have_meters : (fs : List (ℕ × FilterPlan)) → are_metered fs ≡ true → HaveMeters fs
have_meters fs h n f i = some_of f.meter (each_passes (λ (g : ℕ × FilterPlan). is_some g.1.meter) fs (n, f) h i)

module _ {A : Type 0} (p : Plan A) (s : SharedQueue) (is : IsSharedQueue p s) (plan : IsPlan p) (good : HasAcceptableGroups p) where
  abbrev sharers : List (ℕ × FilterPlan)
  sharers = queue_sharers p s.group s.port s.class p.filters

  -- The longest frame has a first fit from each time.
  firsts : (u : ℕ) → (v : ℕ) × IsFirstFit (lists_open is.out.list s.class) (transmission_time (longest_frame (longest_sdu sharers)) is.out.speed) u v
  firsts u =
      let can = sharers_fit p s.group s.port s.class plan good is.out is.at is.reached in
      let (port, number) = port_is p.ports s.port is.out plan.ports is.at in
      let near = ever_soon (gate_schedule is.out.list) s.class (transmission_time (longest_frame (longest_sdu sharers)) is.out.speed) u (made is.out.list port.list) can in
      first_some (lists_open is.out.list s.class) (transmission_time (longest_frame (longest_sdu sharers)) is.out.speed) u near.0 near.1 near.3

  module _ (es : List Event) (moments : ℕ → ℕ) (lists : ℕ → List (Copy CarriedFrame)) (run : IsRun p es moments lists) (whole : AreFinished lists) (order : AreArrivalsInOrder es) where
    pub in_time : (start : ℕ) (x : Copy CarriedFrame) → IsMember x (lists s.port) → x.class ≡ s.class → x.fate ≡ Started start → start + transmission_time x.item.len is.out.speed ≤ x.at + s.bound
    in_time start x i class started =
        let share = sharers_are p s.group s.port s.class plan good in
        let sdu = longest_sdu sharers in
        elim is.bound [
          | inl m ↦
              let metered = have_meters sharers m.metered in
              elim m.bound [
                | inl curve ↦ sharing.done_by_meters p s.group sharers s.port s.class sdu is.out plan good is.at is.reached share metered es moments lists run whole order s.bound start x curve i class started
                | inr change ↦
                    let j = change.lists in
                    let sum = change.sum in
                    let before : (u : ℕ) → u < j.at → lists_open is.out.list s.class u ≡ list_opens j.old s.class u = λ u h. ap (λ (o : GateSchedule). opens o s.class u) change.changes ∙ opens_before j s.class u h in
                    let behind : (u : ℕ) → j.at ≤ u → lists_open is.out.list s.class u ≡ list_opens j.new s.class u = λ u h. ap (λ (o : GateSchedule). opens o s.class u) change.changes ∙ opens_after j s.class u h in
                    let done = sharing.done_over_change p s.group sharers s.port s.class sdu is.out plan good is.at is.reached share metered es moments lists run whole order sum.before sum.after j.at start (list_opens j.old s.class) (list_opens j.new s.class) x before behind firsts sum.old_bound sum.new_bound i class started in
                    let total = sum.sum in
                    omega (arith, done, total)
              ]
          | inr other ↦ elim other [
            | inl costs ↦
                let metered = have_meters sharers costs.metered in
                let by = costs.bound in
                let found : (n : ℕ) (f : FilterPlan) → IsMember (n, f) sharers → lookup (nat_eq n) p.filters ≡ Some f = λ n f j. member_found p.filters n f plan.filters.own (share.members n f j).listed in
                let limits : (n : ℕ) (f : FilterPlan) → IsMember (n, f) sharers → HasFilterCostCurve p is.out s.class n (frame_cost by.fit is.out.speed) (number_curve p by.fit is.out.speed n) = λ n f j.
                let (m, own) = metered n f j in
                let (limit, size, small) = share.short n f j in
                filter_costs p by.fit is.out.speed is.out s.class n m limit f plan (share.members n f j).listed own size (found n f j) refl by.shortest in
                let bound = same_bound (lists_open is.out.list s.class) by.fit (transmission_time 60 is.out.speed) s.bound (sharers_cost_curve p by.fit is.out.speed sharers) (curve_sum (number_curve p by.fit is.out.speed) sharers) (λ w. sum_by_number p by.fit is.out.speed sharers w found) by.bound in
                let some = shortest_some is.out.speed in
                let least = by.shortest in
                charged p s.group sharers s.port s.class sdu is.out plan good is.at is.reached share by.fit (number_curve p by.fit is.out.speed) limits es moments lists s.bound start x run whole order (omega (arith, some, least)) by.starts bound i class started
            | inr room ↦
                let done = sharing.done_by_room p s.group sharers s.port s.class sdu is.out plan good is.at is.reached share es moments lists run whole room.longest start x room.is_longest i class started in
                let total = room.bound in
                omega (arith, done, total)
          ]
        ]

    pub not_full : (room : ℕ) (x : Copy CarriedFrame) → s.room ≡ Some room → room ≤ s.capacity → IsMember x (lists s.port) → x.class ≡ s.class → x.fate ≡ Full → ⊥
    not_full room x known enough i class full =
        let share = sharers_are p s.group s.port s.class plan good in
        let shared : IfSome (Some room) (IsSharedRoom p is.out sharers s.class) = subst (λ (o : Option ℕ). IfSome o (IsSharedRoom p is.out sharers s.class)) known is.room in
        let metered = have_meters sharers shared.metered in
        let capacity = is.capacity in
        let more = more_room (lists_open is.out.list s.class) _ _ (sharers_curve p sharers is.out.speed) (sharers_frame_limit p sharers) room ((egress_rules is.out).room s.class) (omega (arith, enough, capacity)) shared.sufficient in
        sharing.room_by_meters p s.group sharers s.port s.class (longest_sdu sharers) is.out plan good is.at is.reached share metered es moments lists run whole order x more i class full
