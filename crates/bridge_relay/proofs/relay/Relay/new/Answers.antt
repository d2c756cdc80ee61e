use Rattle.std.proofs.Common.{◌∙◌, [], ap, refl, subst}
use Rattle.bridge_config.specs.Model.{Plan}
use Rattle.bridge_relay.specs.Records.{empty_recorders}
use Rattle.bridge_relay.specs.RelayState.{RelayState, RelayStandsFor}
use Rattle.bridge_relay.proofs.Firsts.{made_of, first_sound, first_stands}
use Rattle.bridge_relay.proofs.relay.Relay.new.Goals as goal

pub invariant_of-result : goal.invariant_of-result
invariant_of-result g c =
    let b : RelayState _ _ = record { plan = c.plan-plan.result.now; streams = c.in-Ok-make_ident.ident; police = c.in-Ok-make_police.police; ports = c.in-Ok-new.ports; tables = c.in-Ok.tables.entries; arrived = 0; earliest = 0 } in
    let m = made_of g.G.Agenda.held b c.args.accepted.now c.plan-plan.ensures.plan c.plan-plan.ensures.rules c.plan-plan.ensures.acceptable
    (c.in-Ok-make_ident.ensures ∙ c.streams.ensures.streams)
    c.in-Ok-make_police.ensures.stands c.in-Ok-make_police.ensures.gates c.in-Ok-make_police.ensures.meters c.in-Ok-new.ensures.first c.in-Ok-new.ensures.none_held
    (c.in-Ok.ensures ∙ ap empty_recorders c.filters.ensures.filters) refl refl in
    first_sound g.G.Agenda.held b m

pub returns-clause-stands : goal.returns-clause-stands
returns-clause-stands g c =
    let b : RelayState _ _ = record { plan = c.plan-plan.result.now; streams = c.in-Ok-make_ident.ident; police = c.in-Ok-make_police.police; ports = c.in-Ok-new.ports; tables = c.in-Ok.tables.entries; arrived = 0; earliest = 0 } in
    let m = made_of g.G.Agenda.held b c.args.accepted.now c.plan-plan.ensures.plan c.plan-plan.ensures.rules c.plan-plan.ensures.acceptable
    (c.in-Ok-make_ident.ensures ∙ c.streams.ensures.streams)
    c.in-Ok-make_police.ensures.stands c.in-Ok-make_police.ensures.gates c.in-Ok-make_police.ensures.meters c.in-Ok-new.ensures.first c.in-Ok-new.ensures.none_held
    (c.in-Ok.ensures ∙ ap empty_recorders c.filters.ensures.filters) refl refl in
    subst (λ (p : Plan _). RelayStandsFor p b [] (λ q. [])) c.plan-plan.ensures.plan (first_stands g.G.Agenda.held b m)
