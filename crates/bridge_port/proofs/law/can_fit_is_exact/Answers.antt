use Rattle.std.proofs.Common.{refl}
use Rattle.bridge_port.proofs.Opening.{list_ever_is, exchanged_ever_is}
use Rattle.bridge_port.proofs.law.can_fit_is_exact.Goals as goal

pub returns-clause-none : goal.returns-clause-none
returns-clause-none c = λ k n. (λ h. (0, λ u a b. refl), λ f. refl)

pub returns-clause-one : goal.returns-clause-one
returns-clause-one c = list_ever_is

pub returns-clause-exchanged : goal.returns-clause-exchanged
returns-clause-exchanged c = exchanged_ever_is
