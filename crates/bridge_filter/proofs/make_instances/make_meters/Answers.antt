use Rattle.bridge_meter.specs.Colours.{is_within_limits}
use Rattle.bridge_filter.specs.Steps.{IsNewMeter}
use Rattle.bridge_filter.proofs.Made.{made_at, passes_at}
use Rattle.bridge_filter.proofs.make_instances.make_meters.Goals as goal

pub loop-number-preserved : goal.loop-number-preserved
loop-number-preserved g c = made_at IsNewMeter c.args.plans.now c.loop-number.number-index _ c.loop-number.made.entries c.insert_instance.new.made.entries c.new.result c.loop-number-test.true c.requires.distinct c.in_ok-insert_instance.ensures.updates (record { stands = c.new.ensures }) c.loop-number.invariant

pub new-requires : goal.new-requires
new-requires g c = passes_at (λ x. is_within_limits x.1) c.args.plans.now c.loop-number.number-index _ c.loop-number-test.true c.requires.limits
