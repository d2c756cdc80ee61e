use Rattle.std.proofs.Common.{◌∙◌, ℕ, List, refl, subst, ap}
use Rattle.bridge_meter.specs.declared.MeterPlan.{MeterPlan}
use Rattle.std.specs.Map.{keys_of}
use Rattle.bridge_filter.specs.Routes.{read_row, read_rows}
use Rattle.bridge_filter.specs.Steps.{AreMade, IsNewGate, IsNewMeter, new_filters, filter_plans}
use Rattle.bridge_filter.proofs.Rowed.{new_rows}
use Rattle.bridge_filter.proofs.Starting.{sound_start, stands_start, there_made, instances_new}
use Rattle.bridge_filter.proofs.police.Police.new.Goals as goal

pub make_routes-requires-clause-gates : goal.make_routes-requires-clause-gates
make_routes-requires-clause-gates g c =
    let a = c.args in
    let made = c.in_ok-filters.ensures ∙ ap new_filters c.deref.ensures.value in
    let metered = subst (λ (z : List (ℕ × MeterPlan)). AreMade IsNewMeter z c.in-Ok-make_meters.meters.entries) c.deref-2.ensures.value c.in-Ok-make_meters.ensures in
    let have = instances_new a.filters.items a.gates.items a.meters.items c.in_ok-filters.filters.entries c.in-Ok.gates.entries c.in-Ok-make_meters.meters.entries made c.requires.instances c.in-Ok.ensures metered in
    λ n f found. (have n f found).gate

pub make_routes-requires-clause-meters : goal.make_routes-requires-clause-meters
make_routes-requires-clause-meters g c =
    let a = c.args in
    let made = c.in_ok-filters.ensures ∙ ap new_filters c.deref.ensures.value in
    let metered = subst (λ (z : List (ℕ × MeterPlan)). AreMade IsNewMeter z c.in-Ok-make_meters.meters.entries) c.deref-2.ensures.value c.in-Ok-make_meters.ensures in
    let have = instances_new a.filters.items a.gates.items a.meters.items c.in_ok-filters.filters.entries c.in-Ok.gates.entries c.in-Ok-make_meters.meters.entries made c.requires.instances c.in-Ok.ensures metered in
    λ n f found. (have n f found).meter

pub invariant_of-result : goal.invariant_of-result
invariant_of-result g c =
    let a = c.args in
    let made = c.in_ok-filters.ensures ∙ ap new_filters c.deref.ensures.value in
    let metered = subst (λ (z : List (ℕ × MeterPlan)). AreMade IsNewMeter z c.in-Ok-make_meters.meters.entries) c.deref-2.ensures.value c.in-Ok-make_meters.ensures in
    let have = instances_new a.filters.items a.gates.items a.meters.items c.in_ok-filters.filters.entries c.in-Ok.gates.entries c.in-Ok-make_meters.meters.entries made c.requires.instances c.in-Ok.ensures metered in
    let fs = filter_plans c.in_ok-filters.filters.entries in
    let numbers = keys_of c.in-Ok.gates.entries in
    let metering = keys_of c.in-Ok-make_meters.meters.entries in
    let routes = c.in-Ok-make_routes.routes.items in
    let rows = c.in-Ok-handle_rows.rows.entries in
    let any = c.default_row-any.result in
    let listed = c.in-Ok-make_routes.ensures in
    let read = new_rows fs numbers metering routes c.deref-3.result.now c.deref-4.result.now any rows c.deref-3.ensures.value c.deref-4.ensures.value listed (c.default_row-any.ensures.numbers numbers metering) (c.default_row-any.ensures.routes numbers metering) (c.in-Ok-handle_rows.ensures.numbers numbers metering) (c.in-Ok-handle_rows.ensures.routes numbers metering) in
    sound_start a.filters.items a.gates.items a.meters.items c.in_ok-filters.filters.entries (read_rows routes rows) (read_row routes any) c.in-Ok.gates.entries c.in-Ok-make_meters.meters.entries made c.requires.filters have read.numbers read.handles read.routes_found c.in-Ok.ensures metered

pub returns-clause-stands : goal.returns-clause-stands
returns-clause-stands g c =
    let made = c.in_ok-filters.ensures ∙ ap new_filters c.deref.ensures.value in
    let metered = subst (λ (z : List (ℕ × MeterPlan)). AreMade IsNewMeter z c.in-Ok-make_meters.meters.entries) c.deref-2.ensures.value c.in-Ok-make_meters.ensures in
    stands_start c.args.filters.items c.args.gates.items c.args.meters.items _ refl made c.in-Ok.ensures metered refl refl

pub returns-clause-meters : goal.returns-clause-meters
returns-clause-meters g c = λ n there.
    let metered = subst (λ (z : List (ℕ × MeterPlan)). AreMade IsNewMeter z c.in-Ok-make_meters.meters.entries) c.deref-2.ensures.value c.in-Ok-make_meters.ensures in
    there_made IsNewMeter c.args.meters.items c.in-Ok-make_meters.meters.entries n metered there

pub returns-clause-gates : goal.returns-clause-gates
returns-clause-gates g c = λ n there. there_made IsNewGate c.args.gates.items c.in-Ok.gates.entries n c.in-Ok.ensures there

pub returns-clause-filters : goal.returns-clause-filters
returns-clause-filters g c = (returns-clause-stands g c).filters
