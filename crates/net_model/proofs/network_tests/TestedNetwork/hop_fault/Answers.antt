use Rattle.net_model.proofs.network_tests.TestedNetwork.hop_fault.Goals as goal

pub first_or_stream_test_fault-first-requires : goal.first_or_stream_test_fault-first-requires
first_or_stream_test_fault-first-requires g c = c.loop-i-test.true
