use Rattle.std.proofs.Common.{arith, ◌≤◌, ◌<◌, ◌^◌, ◌∙◌, sym, subst, refl, ap}
use Rattle.std.specs.Option.{option_map}
use Rattle.bridge_filter.specs.declared.Ruling.{Ruling}
use Rattle.bridge_filter.specs.Plans.{KeepsNumbers}
use Rattle.bridge_filter.specs.Verdicts.{Unfiltered, Judged, filter_steps, step_ruling}
use Rattle.bridge_filter.specs.StandsFor.{PoliceState, StandsFor}
use Rattle.bridge_filter.specs.Routes.{IsFoundRoute, read_row, read_rows}
use Rattle.bridge_filter.specs.Steps.{filter_plans}
use Rattle.bridge_filter.proofs.Numbered.{keeps_numbers}
use Rattle.bridge_filter.proofs.Flows.{flow_numbered, flow_none}
use Rattle.bridge_filter.proofs.Rowed.{number_of}
use Rattle.bridge_filter.proofs.Passing.{stands_after, are_policed, kept_unfiltered, policed_unfiltered, judged_unfiltered, judged_by, have_later, sound_unfiltered, sound_judged}
use Rattle.bridge_filter.proofs.police.Police.pass_routed.Goals as goal

pub invariant_of-self : goal.invariant_of-self
invariant_of-self g c =
    let i = c.self.inside in
    let le : i.earliest ≤ c.args.call.at = subst (λ (z : PoliceState _). z.earliest ≤ c.args.call.at) (sym c.self.view_is) c.requires.time in
    sound_unfiltered i.filters.entries (read_rows i.routes.items i.rows.entries) (read_row i.routes.items i.any) i.gates.entries i.meters.entries i.calls i.earliest c.args.call.at le c.self.invariant

pub returns-in_err-route-clause-stands : goal.returns-in_err-route-clause-stands
returns-in_err-route-clause-stands g c = λ p es stands.
    let i = c.self.inside in
    let fs = filter_plans i.filters.entries in
    let call = c.args.call in
    let found = subst (λ (z : PoliceState _). IsFoundRoute z call.handle call.priority c.args.found) (sym c.self.view_is) c.requires.found in
    let number = found.number call.at call.sdu call.octets call.dei in
    let none = flow_none fs call (sym (ap number_of c.in_err-route.was) ∙ number) in
    let st = subst (λ (z : PoliceState _). StandsFor p z es) (sym c.self.view_is) stands in
    let step = judged_unfiltered p fs (filter_steps p es) call st.filters none in
    stands_after p _ _ es call (Unfiltered call) step st refl (kept_unfiltered i.filters.entries call (filter_steps p es) st.kept) (policed_unfiltered p i.gates.entries i.meters.entries call (filter_steps p es) (are_policed p _ es st)) refl refl

pub returns-in_err-route-clause-answer : goal.returns-in_err-route-clause-answer
returns-in_err-route-clause-answer g c = λ p es stands.
    let call = c.args.call in
    let fs = c.args.self.now.filters in
    let number = c.requires.found.number call.at call.sdu call.octets call.dei in
    let none = flow_none fs call (sym (ap number_of c.in_err-route.was) ∙ number) in
    c.from_residual.ensures ∙ sym (ap step_ruling (judged_unfiltered p fs (filter_steps p es) call stands.filters none))

pub returns-in_err-route-clause-filter : goal.returns-in_err-route-clause-filter
returns-in_err-route-clause-filter g c =
    let call = c.args.call in
    let number = c.requires.found.number call.at call.sdu call.octets call.dei in
    ap (option_map (λ (r : Ruling). r.filter)) c.from_residual.ensures ∙ (sym (ap number_of c.in_err-route.was) ∙ number)

pub judge_frame-verdict-requires-clause-instances : goal.judge_frame-verdict-requires-clause-instances
judge_frame-verdict-requires-clause-instances g c =
    let i = c.self.inside in
    let few = subst (λ (z : PoliceState _). z.calls < 2 ^ 63) (sym c.self.view_is) c.requires.few in
    have_later i.filters.entries i.gates.entries i.meters.entries i.calls 9223372036854775807 (omega arith) c.self.invariant.instances

pub invariant_of-self-2 : goal.invariant_of-self-2
invariant_of-self-2 g c =
    let i = c.self.inside in
    let r = c.judge_frame-verdict in
    sound_judged i.filters.entries r.new.filters.entries (read_rows i.routes.items i.rows.entries) (read_row i.routes.items i.any) i.gates.entries r.new.gates.entries i.meters.entries r.new.meters.entries i.calls i.earliest c.args.call.at c.self.invariant r.ensures.plans r.ensures.same_gates r.ensures.same_meters (r.ensures.instances i.calls c.self.invariant.instances) r.ensures.asked r.ensures.judged

pub returns-clause-stands : goal.returns-clause-stands
returns-clause-stands g c = λ p es stands.
    let i = c.self.inside in
    let r = c.judge_frame-verdict in
    let n = c.in_ok-route.route.number in
    let fs = filter_plans i.filters.entries in
    let call = c.args.call in
    let found = subst (λ (z : PoliceState _). IsFoundRoute z call.handle call.priority c.args.found) (sym c.self.view_is) c.requires.found in
    let number = found.number call.at call.sdu call.octets call.dei in
    let flow = flow_numbered fs call n c.self.invariant.distinct (sym (ap number_of c.in_ok-route.was) ∙ number) in
    let st = subst (λ (z : PoliceState _). StandsFor p z es) (sym c.self.view_is) stands in
    let are = are_policed p _ es st in
    let verdict = r.ensures.verdict p (filter_steps p es) flow.plan flow.found st.kept are in
    let step = judged_by p fs (filter_steps p es) call n flow.plan r.result st.filters flow.is verdict in
    stands_after p _ _ es call (Judged call n flow.plan r.result) step st r.ensures.plans (r.ensures.kept (filter_steps p es) flow.plan flow.found st.kept) (r.ensures.policed p (filter_steps p es) flow.plan flow.found are) refl refl

pub returns-clause-answer : goal.returns-clause-answer
returns-clause-answer g c = λ p es stands.
    let i = c.self.inside in
    let r = c.judge_frame-verdict in
    let n = c.in_ok-route.route.number in
    let fs = filter_plans i.filters.entries in
    let call = c.args.call in
    let found = subst (λ (z : PoliceState _). IsFoundRoute z call.handle call.priority c.args.found) (sym c.self.view_is) c.requires.found in
    let number = found.number call.at call.sdu call.octets call.dei in
    let flow = flow_numbered fs call n c.self.invariant.distinct (sym (ap number_of c.in_ok-route.was) ∙ number) in
    let st = subst (λ (z : PoliceState _). StandsFor p z es) (sym c.self.view_is) stands in
    let verdict = r.ensures.verdict p (filter_steps p es) flow.plan flow.found st.kept (are_policed p _ es st) in
    sym (ap step_ruling (judged_by p fs (filter_steps p es) call n flow.plan r.result st.filters flow.is verdict))

pub returns-clause-filter : goal.returns-clause-filter
returns-clause-filter g c =
    let call = c.args.call in
    sym (ap number_of c.in_ok-route.was) ∙ c.requires.found.number call.at call.sdu call.octets call.dei

pub returns-clause-gates : goal.returns-clause-gates
returns-clause-gates g c =
    let r = c.judge_frame-verdict in
    subst (λ (z : PoliceState _). KeepsNumbers z.gates r.new.gates.entries) c.self.view_is (keeps_numbers c.self.inside.gates.entries r.new.gates.entries r.ensures.same_gates)

pub returns-clause-meters : goal.returns-clause-meters
returns-clause-meters g c =
    let r = c.judge_frame-verdict in
    subst (λ (z : PoliceState _). KeepsNumbers z.meters r.new.meters.entries) c.self.view_is (keeps_numbers c.self.inside.meters.entries r.new.meters.entries r.ensures.same_meters)
