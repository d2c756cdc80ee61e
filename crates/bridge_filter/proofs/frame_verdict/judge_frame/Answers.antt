use Rattle.std.proofs.Common.{◌≡◌, ◌∙◌, sym, subst, refl, ap, ◌∷◌}
use Rattle.std.specs.Map.{keys_of}
use Rattle.indexmap.specs.Layout.{set_value_at}
use Rattle.bridge_filter.specs.declared.FilterPlan.{FilterPlan}
use Rattle.bridge_filter.specs.declared.filter_state.FilterState.{FilterState}
use Rattle.bridge_filter.specs.Routes.{HasInstanceIndices}
use Rattle.bridge_filter.specs.Verdicts.{Judged, frame_verdict}
use Rattle.bridge_filter.specs.Steps.{StandForShares}
use Rattle.bridge_filter.proofs.Numbered.{Changes, changes_of, keeps_numbers}
use Rattle.bridge_filter.proofs.Judging.{kept_after, instances_after, plan_found, filter_is, filter_within, plans_in-set_value_at}
use Rattle.bridge_filter.proofs.frame_verdict.judge_frame.Goals as goal

pub pair_mut-filter-requires : goal.pair_mut-filter-requires
pair_mut-filter-requires g c = filter_within c.args.filters.now.entries c.args.route.filter c.args.route.number c.requires.route.plan c.requires.route.filter

pub frame_verdict-verdict-requires-clause-served : goal.frame_verdict-verdict-requires-clause-served
frame_verdict-verdict-requires-clause-served g c =
    let a = c.args in
    let at = c.pair_mut-filter in
    let is = filter_is a.filters.now.entries a.route.filter at.result.0.now a.route.number at.result.1.now c.requires.route.plan at.ensures.value c.requires.route.filter in
    subst (λ (p : FilterPlan). HasInstanceIndices p (keys_of a.gates.now.entries) (keys_of a.meters.now.entries) a.route) (sym is.1) c.requires.route.served

pub count_verdict-requires : goal.count_verdict-requires
count_verdict-requires g c =
    let a = c.args in
    let at = c.pair_mut-filter in
    let was = at.result.1.now in
    let is = filter_is a.filters.now.entries a.route.filter at.result.0.now a.route.number was c.requires.route.plan at.ensures.value c.requires.route.filter in
    let there = (changes_of a.filters.now a.route.filter at.result.0.now a.route.number was was is.0 at.ensures.unique at.ensures.value).there in
    (c.requires.instances a.route.number was there).few

pub returns-clause-verdict : goal.returns-clause-verdict
returns-clause-verdict g c = λ p ss f found kept are.
    let a = c.args in
    let at = c.pair_mut-filter in
    let was = at.result.1.now in
    let is = filter_is a.filters.now.entries a.route.filter at.result.0.now a.route.number was c.requires.route.plan at.ensures.value c.requires.route.filter in
    let there = (changes_of a.filters.now a.route.filter at.result.0.now a.route.number was was is.0 at.ensures.unique at.ensures.value).there in
    let same = plan_found a.route.number a.filters.now.entries was f there found in
    c.frame_verdict-verdict.ensures.verdict p ss a.route.number are (kept a.route.number was there) ∙ ap (λ (x : FilterPlan). frame_verdict p ss a.call a.route.number x) same

pub returns-clause-kept : goal.returns-clause-kept
returns-clause-kept g c =
    let a = c.args in
    let at = c.pair_mut-filter in
    let was = at.result.1.now in
    let n = a.route.number in
    let is = filter_is a.filters.now.entries a.route.filter at.result.0.now n was c.requires.route.plan at.ensures.value c.requires.route.filter in
    let old = a.filters.now.entries in
    let new = set_value_at old a.route.filter c.count_verdict.new.self in
    let v = c.frame_verdict-verdict.result in
    let change = subst (λ (y : FilterState). Changes old new n was y) c.count_verdict.ensures (changes_of a.filters.now a.route.filter at.result.0.now n was c.count_verdict.new.self is.0 at.ensures.unique at.ensures.value) in
    λ ss f found kept. kept_after old new n was a.call f v ss change kept

pub returns-clause-policed : goal.returns-clause-policed
returns-clause-policed g c = λ p ss f found are.
    let a = c.args in
    let at = c.pair_mut-filter in
    let was = at.result.1.now in
    let is = filter_is a.filters.now.entries a.route.filter at.result.0.now a.route.number was c.requires.route.plan at.ensures.value c.requires.route.filter in
    let there = (changes_of a.filters.now a.route.filter at.result.0.now a.route.number was was is.0 at.ensures.unique at.ensures.value).there in
    let same = plan_found a.route.number a.filters.now.entries was f there found in
    let r = c.frame_verdict-verdict in
    let P : FilterPlan → Type 0 = λ x. StandForShares p r.new.gates.entries r.new.meters.entries (Judged a.call a.route.number x r.result ∷ ss) in
    subst P same (r.ensures.policed p ss a.route.number are)

pub returns-clause-plans : goal.returns-clause-plans
returns-clause-plans g c =
    let a = c.args in
    let at = c.pair_mut-filter in
    let plan : c.count_verdict.new.self.plan ≡ at.result.1.now.plan = rw c.count_verdict.ensures refl in
    plans_in-set_value_at a.filters.now.entries a.route.filter at.result.0.now at.result.1.now c.count_verdict.new.self at.ensures.value plan

pub returns-clause-instances : goal.returns-clause-instances
returns-clause-instances g c =
    let a = c.args in
    let at = c.pair_mut-filter in
    let was = at.result.1.now in
    let n = a.route.number in
    let is = filter_is a.filters.now.entries a.route.filter at.result.0.now n was c.requires.route.plan at.ensures.value c.requires.route.filter in
    let old = a.filters.now.entries in
    let new = set_value_at old a.route.filter c.count_verdict.new.self in
    let r = c.frame_verdict-verdict in
    let change = subst (λ (y : FilterState). Changes old new n was y) c.count_verdict.ensures (changes_of a.filters.now a.route.filter at.result.0.now n was c.count_verdict.new.self is.0 at.ensures.unique at.ensures.value) in
    λ calls have. instances_after old new n was r.result a.gates.now.entries r.new.gates.entries a.meters.now.entries r.new.meters.entries calls change (keeps_numbers a.gates.now.entries r.new.gates.entries r.ensures.same_gates) (keeps_numbers a.meters.now.entries r.new.meters.entries r.ensures.same_meters) have
