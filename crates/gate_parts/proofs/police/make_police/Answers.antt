use Rattle.std.proofs.Common.{◌≡◌, ◌∙◌, ◌&&◌, ℕ, Bool, List, true, subst, sym}
use Rattle.std.proofs.lemmas.Bool.{and_parts}
use Rattle.bridge_filter.specs.declared.FilterPlan.{FilterPlan}
use Rattle.bridge_filter.specs.Plans.{are_numbers_distinct, have_instances, all_have_priorities, all_within_limits}
use Rattle.bridge_gate.specs.declared.schedule.GatePlan.{GatePlan}
use Rattle.bridge_meter.specs.declared.MeterPlan.{MeterPlan}
use Rattle.gate_parts.proofs.police.make_police.Goals as goal

-- True if lists of filters, gates and meters fit together.
abbrev go : {A : Type 0} → List (ℕ × FilterPlan) → List (ℕ × GatePlan A) → List (ℕ × MeterPlan) → Bool
go fs gs ms = are_numbers_distinct fs && are_numbers_distinct gs && are_numbers_distinct ms && have_instances fs gs ms && all_have_priorities gs && all_within_limits ms

-- If lists fit together, equal lists have each of the six properties.
parts : {A : Type 0} (fs filters : List (ℕ × FilterPlan)) (gs gates : List (ℕ × GatePlan A)) (ms meters : List (ℕ × MeterPlan)) → fs ≡ filters → gs ≡ gates → ms ≡ meters → go fs gs ms ≡ true → (are_numbers_distinct filters ≡ true) × (are_numbers_distinct gates ≡ true) × (are_numbers_distinct meters ≡ true) × (have_instances filters gates meters ≡ true) × (all_have_priorities gates ≡ true) × (all_within_limits meters ≡ true)
parts {A} fs filters gs gates ms meters a b c h =
    let whole =
    subst (λ (z : List (ℕ × FilterPlan)). go z gates meters ≡ true) a
    (subst (λ (z : List (ℕ × GatePlan A)). go fs z meters ≡ true) b
    (subst (λ (z : List (ℕ × MeterPlan)). go fs gs z ≡ true) c h)) in
    let (five, six) = and_parts _ _ whole in
    let (four, priorities) = and_parts _ _ five in
    let (three, instances) = and_parts _ _ four in
    let (two, third) = and_parts _ _ three in
    let (first, second) = and_parts _ _ two in
    (first, second, third, instances, priorities, six)

pub new-requires-clause-filters : goal.new-requires-clause-filters
new-requires-clause-filters g c = (parts _ _ _ _ _ _ c.deref.ensures.value c.deref-2.ensures.value c.deref-3.ensures.value (sym c.go_together.ensures ∙ c.if-go_together.true)).0

pub new-requires-clause-gates : goal.new-requires-clause-gates
new-requires-clause-gates g c = (parts _ _ _ _ _ _ c.deref.ensures.value c.deref-2.ensures.value c.deref-3.ensures.value (sym c.go_together.ensures ∙ c.if-go_together.true)).1

pub new-requires-clause-meters : goal.new-requires-clause-meters
new-requires-clause-meters g c = (parts _ _ _ _ _ _ c.deref.ensures.value c.deref-2.ensures.value c.deref-3.ensures.value (sym c.go_together.ensures ∙ c.if-go_together.true)).2

pub new-requires-clause-instances : goal.new-requires-clause-instances
new-requires-clause-instances g c = (parts _ _ _ _ _ _ c.deref.ensures.value c.deref-2.ensures.value c.deref-3.ensures.value (sym c.go_together.ensures ∙ c.if-go_together.true)).3

pub new-requires-clause-priorities : goal.new-requires-clause-priorities
new-requires-clause-priorities g c = (parts _ _ _ _ _ _ c.deref.ensures.value c.deref-2.ensures.value c.deref-3.ensures.value (sym c.go_together.ensures ∙ c.if-go_together.true)).4

pub new-requires-clause-limits : goal.new-requires-clause-limits
new-requires-clause-limits g c = (parts _ _ _ _ _ _ c.deref.ensures.value c.deref-2.ensures.value c.deref-3.ensures.value (sym c.go_together.ensures ∙ c.if-go_together.true)).5

pub returns-in-Ok-clause-gates : goal.returns-in-Ok-clause-gates
returns-in-Ok-clause-gates g c = c.in-Ok.ensures.gates

pub returns-in-Ok-clause-meters : goal.returns-in-Ok-clause-meters
returns-in-Ok-clause-meters g c = c.in-Ok.ensures.meters

pub returns-in-Ok-clause-fresh : goal.returns-in-Ok-clause-fresh
returns-in-Ok-clause-fresh g c = (c.in-Ok.ensures.stands.calls, c.in-Ok.ensures.stands.earliest)
