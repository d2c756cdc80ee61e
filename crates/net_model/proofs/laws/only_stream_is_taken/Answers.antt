use Rattle.net_model.proofs.Feeding.{only_stream}
use Rattle.net_model.proofs.laws.only_stream_is_taken.Goals as goal

pub returns : goal.returns
returns g c = only_stream
