use Rattle.net_model.proofs.network_tests.TestedNetwork.link_fault.Goals as goal

pub first_or_link_test_fault-first-requires : goal.first_or_link_test_fault-first-requires
first_or_link_test_fault-first-requires g c = c.loop-i-test.true
