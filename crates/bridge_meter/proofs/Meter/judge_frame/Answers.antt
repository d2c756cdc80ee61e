use Rattle.std.proofs.Common.{rules}
use Rattle.bridge_meter.proofs.Meter.judge_frame.Goals as goal

pub returns-then-self-clause-step : goal.returns-then-self-clause-step
returns-then-self-clause-step c = search rules
