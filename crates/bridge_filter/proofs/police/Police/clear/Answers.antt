use Rattle.std.proofs.Common.{sym, subst, refl}
use Rattle.std.specs.Prelude.{IsTrue}
use Rattle.bridge_filter.specs.Plans.{KeepsNumbers}
use Rattle.bridge_filter.specs.Verdicts.{filter_steps}
use Rattle.bridge_filter.specs.Routes.{read_row, read_rows}
use Rattle.bridge_filter.specs.StandsFor.{PoliceState, StandsFor, has_instance}
use Rattle.bridge_filter.specs.Steps.{filter_plans}
use Rattle.bridge_filter.proofs.Numbered.{keeps_numbers}
use Rattle.bridge_filter.proofs.Cleared.{sound_filters, sound_gates, sound_meters, filter_there, gate_there_rx, gate_there_octets, meter_there_red, stands_blocked, stands_rx, stands_octets, stands_red}
use Rattle.bridge_filter.proofs.police.Police.clear.Goals as goal

pub clear_blocked-requires : goal.clear_blocked-requires
clear_blocked-requires g c = filter_there c.args.clear c.args.number _ c.self.inside.filters.entries c.in-Blocked.is refl (subst (λ (z : PoliceState _). IsTrue (has_instance c.args.clear c.args.number z)) (sym c.self.view_is) c.requires)

pub invariant_of-self : goal.invariant_of-self
invariant_of-self g c =
    let i = c.self.inside in
    let r = c.clear_blocked in
    sound_filters i.filters.entries r.new.filters.entries (read_rows i.routes.items i.rows.entries) (read_row i.routes.items i.any) i.gates.entries i.meters.entries i.calls i.earliest r.ensures.plans r.ensures.instances c.self.invariant

pub clear_rx-requires : goal.clear_rx-requires
clear_rx-requires g c = gate_there_rx c.args.clear c.args.number _ c.in-Rx.is (subst (λ (z : PoliceState _). IsTrue (has_instance c.args.clear c.args.number z)) (sym c.self.view_is) c.requires)

pub invariant_of-self-in-Rx : goal.invariant_of-self-in-Rx
invariant_of-self-in-Rx g c =
    let i = c.self.inside in
    let r = c.clear_rx in
    sound_gates i.filters.entries (read_rows i.routes.items i.rows.entries) (read_row i.routes.items i.any) i.gates.entries r.new.gates.entries i.meters.entries i.calls i.earliest r.ensures.same r.ensures.before c.self.invariant

pub clear_octets-requires : goal.clear_octets-requires
clear_octets-requires g c = gate_there_octets c.args.clear c.args.number _ c.in-Octets.is (subst (λ (z : PoliceState _). IsTrue (has_instance c.args.clear c.args.number z)) (sym c.self.view_is) c.requires)

pub invariant_of-self-in-Octets : goal.invariant_of-self-in-Octets
invariant_of-self-in-Octets g c =
    let i = c.self.inside in
    let r = c.clear_octets in
    sound_gates i.filters.entries (read_rows i.routes.items i.rows.entries) (read_row i.routes.items i.any) i.gates.entries r.new.gates.entries i.meters.entries i.calls i.earliest r.ensures.same r.ensures.before c.self.invariant

pub clear_red-requires : goal.clear_red-requires
clear_red-requires g c = meter_there_red c.args.clear c.args.number _ c.in-Red.is (subst (λ (z : PoliceState _). IsTrue (has_instance c.args.clear c.args.number z)) (sym c.self.view_is) c.requires)

pub invariant_of-self-in-Red : goal.invariant_of-self-in-Red
invariant_of-self-in-Red g c =
    let i = c.self.inside in
    let r = c.clear_red in
    sound_meters i.filters.entries (read_rows i.routes.items i.rows.entries) (read_row i.routes.items i.any) i.gates.entries i.meters.entries r.new.meters.entries i.calls i.earliest r.ensures.same r.ensures.before c.self.invariant

pub returns-in-Blocked-clause-stands : goal.returns-in-Blocked-clause-stands
returns-in-Blocked-clause-stands g c = λ p es stands.
    let r = c.clear_blocked in
    let st = subst (λ (z : PoliceState _). StandsFor p z es) (sym c.self.view_is) stands in
    stands_blocked p _ es c.args.clear c.args.number (filter_plans r.new.filters.entries) r.new.filters.entries c.in-Blocked.is r.ensures.plans st (r.ensures.kept (filter_steps p es))

pub returns-in-Rx-clause-stands : goal.returns-in-Rx-clause-stands
returns-in-Rx-clause-stands g c = λ p es stands.
    let r = c.clear_rx in
    let st = subst (λ (z : PoliceState _). StandsFor p z es) (sym c.self.view_is) stands in
    stands_rx p _ es c.args.clear c.args.number r.new.gates.entries c.in-Rx.is st r.ensures.stand

pub returns-in-Octets-clause-stands : goal.returns-in-Octets-clause-stands
returns-in-Octets-clause-stands g c = λ p es stands.
    let r = c.clear_octets in
    let st = subst (λ (z : PoliceState _). StandsFor p z es) (sym c.self.view_is) stands in
    stands_octets p _ es c.args.clear c.args.number r.new.gates.entries c.in-Octets.is st r.ensures.stand

pub returns-in-Red-clause-stands : goal.returns-in-Red-clause-stands
returns-in-Red-clause-stands g c = λ p es stands.
    let r = c.clear_red in
    let st = subst (λ (z : PoliceState _). StandsFor p z es) (sym c.self.view_is) stands in
    stands_red p _ es c.args.clear c.args.number r.new.meters.entries c.in-Red.is st r.ensures.stand

pub returns-in-Rx-clause-gates : goal.returns-in-Rx-clause-gates
returns-in-Rx-clause-gates g c =
    let r = c.clear_rx in
    subst (λ (z : PoliceState _). KeepsNumbers z.gates r.new.gates.entries) c.self.view_is (keeps_numbers c.self.inside.gates.entries r.new.gates.entries r.ensures.same)

pub returns-in-Octets-clause-gates : goal.returns-in-Octets-clause-gates
returns-in-Octets-clause-gates g c =
    let r = c.clear_octets in
    subst (λ (z : PoliceState _). KeepsNumbers z.gates r.new.gates.entries) c.self.view_is (keeps_numbers c.self.inside.gates.entries r.new.gates.entries r.ensures.same)

pub returns-in-Red-clause-meters : goal.returns-in-Red-clause-meters
returns-in-Red-clause-meters g c =
    let r = c.clear_red in
    subst (λ (z : PoliceState _). KeepsNumbers z.meters r.new.meters.entries) c.self.view_is (keeps_numbers c.self.inside.meters.entries r.new.meters.entries r.ensures.same)
