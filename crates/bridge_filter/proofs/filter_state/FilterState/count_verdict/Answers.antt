use Rattle.std.proofs.Common.{rules}
use Rattle.bridge_filter.proofs.filter_state.FilterState.count_verdict.Goals as goal

pub returns-in-Blocked : goal.returns-in-Blocked
returns-in-Blocked c = search rules
