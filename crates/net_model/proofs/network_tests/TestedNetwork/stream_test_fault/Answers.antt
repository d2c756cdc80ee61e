use Rattle.net_model.proofs.network_tests.TestedNetwork.stream_test_fault.Goals as goal

pub first_or_hop_test_fault-first-requires-clause-hop : goal.first_or_hop_test_fault-first-requires-clause-hop
first_or_hop_test_fault-first-requires-clause-hop g c = c.loop-k-test.true

pub first_or_hop_test_fault-first-requires-clause-stream : goal.first_or_hop_test_fault-first-requires-clause-stream
first_or_hop_test_fault-first-requires-clause-stream g c = c.requires
