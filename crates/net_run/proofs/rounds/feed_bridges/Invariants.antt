use Rattle.net_run.proofs.Handing.{HandedTo}
use Rattle.net_run.proofs.rounds.feed_bridges.Given as goal

abbrev pub invariant-loop-bridge : goal.invariant-loop-bridge
invariant-loop-bridge g l = HandedTo l.initial.stations l.stations l.bridge l.first
