use Rattle.std.proofs.Common.{◌≡◌, take}
use Rattle.bridge_relay.specs.Records.{empty_recorders}
use Rattle.bridge_relay.proofs.filter_recorders.make_recorders.Given as goal

abbrev pub invariant-loop-number : goal.invariant-loop-number
invariant-loop-number g l = l.tables.entries ≡ empty_recorders (take l.number-index l.filters)
