use Rattle.std.proofs.Common.{All}
use Rattle.bridge_config.specs.Rules.{IsFilter}
use Rattle.bridge_check.proofs.validator.least_fault.Goals as goal

pub numbered_fault-fault-requires-clause-sdu : goal.numbered_fault-fault-requires-clause-sdu
numbered_fault-fault-requires-clause-sdu g c =
    let all : All IsFilter c.filters-number-items.result.now = rw c.filters-number-items.ensures.filters c.filters-number-items.ensures.rules.filters.each in
    (all c.loop-number.number-index _ c.loop-number-test.true).max_sdu
