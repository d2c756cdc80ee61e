use Rattle.net_model.proofs.Closed.{closed_by_test}
use Rattle.net_model.proofs.laws.tested_stream_is_closed.Goals as goal

pub returns : goal.returns
returns g c = closed_by_test
