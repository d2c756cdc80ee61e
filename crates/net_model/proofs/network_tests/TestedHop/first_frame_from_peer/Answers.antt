use Rattle.std.proofs.Common.{rules}
use Rattle.net_model.proofs.network_tests.TestedHop.first_frame_from_peer.Goals as goal

pub returns-in-Some : goal.returns-in-Some
returns-in-Some g c = search rules
