use Rattle.std.proofs.Common.{◌∙◌, ap, sym, Some}
use Rattle.std.specs.Option.{option_map}
use Rattle.bridge_meter.specs.StandsFor.{MeterState}
use Rattle.bridge_filter.proofs.gates_and_meters.meter_buckets.Goals as goal

pub returns-clause-shown : goal.returns-clause-shown
returns-clause-shown g c = ap Some c.state.ensures.state ∙ ap (option_map (λ (m : MeterState). m.buckets)) c.in-Some.ensures.value

pub returns-clause-after : goal.returns-clause-after
returns-clause-after g c = λ plans share stand. c.state.ensures.after (plans c.args.number) (share c.args.number) (stand c.args.number c.in-Some.meter.now (sym c.in-Some.ensures.value))
