use Rattle.bridge_bounds.proofs.Let.{seldom}
use Rattle.bridge_bounds.proofs.laws.lets_seldom.Goals as goal

pub returns : goal.returns
returns c = λ r k w es few types. seldom r k w few es types
