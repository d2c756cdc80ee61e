use Rattle.net_latency.proofs.TalkerPort.{are_commands}
use Rattle.net_latency.proofs.delivered.read_commands_are_commands.Goals as goal

pub returns : goal.returns
returns g c = λ commands b x i. are_commands (commands b) x i
