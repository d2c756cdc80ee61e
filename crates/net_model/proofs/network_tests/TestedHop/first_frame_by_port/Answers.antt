use Rattle.net_model.proofs.network_tests.TestedHop.first_frame_by_port.Goals as goal

pub first_or_frame_on_port-first-requires : goal.first_or_frame_on_port-first-requires
first_or_frame_on_port-first-requires g c = record { case = c.requires; index = c.loop-j-test.true }
