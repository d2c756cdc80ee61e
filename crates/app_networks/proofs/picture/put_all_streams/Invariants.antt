use Rattle.app_networks.proofs.picture.put_all_streams.Given as goal

abbrev pub invariant-loop-stream : goal.invariant-loop-stream
invariant-loop-stream l = Unit {0}
