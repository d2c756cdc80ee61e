use Rattle.std.specs.Prelude.{nat_eq}
use Rattle.std.specs.Map.{lookup}
use Rattle.net_model.specs.Networks.{Hop}
use Rattle.net_model.proofs.Chain.{alone_in}
use Rattle.net_model.proofs.Once.{one_course}
use Rattle.net_model.proofs.laws.other_traffic_changes_nothing.Goals as goal

pub returns : goal.returns
returns g c = λ n stream commands others captures frames o r h u v net times more closed run also first is x y.
    one_course n stream commands captures others frames (λ (k : Hop _). lookup (nat_eq k.number) (o k.bridge).filters.items) (λ (k : Hop _). lookup (nat_eq k.number) (r k.bridge).filters.items)
    (alone_in n stream commands captures o net run times closed) (alone_in n stream others frames r net also more closed) first h u v is x y
