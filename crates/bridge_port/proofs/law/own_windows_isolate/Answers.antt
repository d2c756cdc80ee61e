use Rattle.bridge_port.proofs.Isolation.{solo}
use Rattle.bridge_port.proofs.law.own_windows_isolate.Goals as goal

pub returns : goal.returns
returns g c = λ r k h xs pos w l q. solo r k h xs pos w l q
