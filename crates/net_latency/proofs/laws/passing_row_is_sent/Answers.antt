use Rattle.net_latency.proofs.Passing.{each_passes, each_sent}
use Rattle.net_latency.proofs.laws.passing_row_is_sent.Goals as goal

pub returns-clause-filter : goal.returns-clause-filter
returns-clause-filter g c = each_passes

pub returns-clause-queue : goal.returns-clause-queue
returns-clause-queue g c = each_sent
