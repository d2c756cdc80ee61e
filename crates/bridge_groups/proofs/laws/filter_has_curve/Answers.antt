use Rattle.bridge_groups.proofs.Limits as limits
use Rattle.bridge_groups.proofs.laws.filter_has_curve.Goals as goal

pub returns-clause-meter : goal.returns-clause-meter
returns-clause-meter g c = λ p out k n m f plan listed own. limits.by_meter p out k n m f plan listed own

pub returns-clause-gate : goal.returns-clause-gate
returns-clause-gate g c = λ p out k n f octets plan listed has most. limits.by_gate p n f plan listed out k octets has most
