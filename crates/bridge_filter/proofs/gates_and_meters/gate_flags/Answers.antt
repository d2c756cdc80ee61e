use Rattle.std.proofs.Common.{◌∙◌, ap, sym}
use Rattle.bridge_filter.specs.StandsFor.{rx_flag, octets_flag}
use Rattle.bridge_filter.proofs.gates_and_meters.gate_flags.Goals as goal

pub returns-clause-shown_rx : goal.returns-clause-shown_rx
returns-clause-shown_rx g c = c.flags.ensures.shows_rx ∙ ap rx_flag c.in-Some.ensures.value

pub returns-clause-shown_octets : goal.returns-clause-shown_octets
returns-clause-shown_octets g c = c.flags.ensures.shows_octets ∙ ap octets_flag c.in-Some.ensures.value

pub returns-clause-rx : goal.returns-clause-rx
returns-clause-rx g c = λ rules share stand. c.flags.ensures.rx (rules c.args.number) (share c.args.number) (stand c.args.number c.in-Some.gate.now (sym c.in-Some.ensures.value))

pub returns-clause-octets : goal.returns-clause-octets
returns-clause-octets g c = λ rules share stand. c.flags.ensures.octets (rules c.args.number) (share c.args.number) (stand c.args.number c.in-Some.gate.now (sym c.in-Some.ensures.value))
