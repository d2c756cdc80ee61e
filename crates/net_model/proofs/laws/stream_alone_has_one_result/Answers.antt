use Rattle.net_model.proofs.Once.{one_course}
use Rattle.net_model.proofs.laws.stream_alone_has_one_result.Goals as goal

pub returns : goal.returns
returns g c = λ n stream commands others captures frames tells says h u v a b first is x y. one_course n stream commands captures others frames tells says a b first h u v is x y
