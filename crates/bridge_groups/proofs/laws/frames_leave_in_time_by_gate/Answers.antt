use Rattle.bridge_groups.proofs.GateRuns.{left_by_gate}
use Rattle.bridge_groups.proofs.laws.frames_leave_in_time_by_gate.Goals as goal

pub returns : goal.returns
returns g c = λ p n q cl share b start is es moments lists x plan good run whole order long i class started. left_by_gate p n q cl share b is plan good es moments lists run whole order long start x i class started
