use Rattle.net_run.proofs.Handing.{HandedBefore}
use Rattle.net_run.proofs.rounds.feed_bridge.Given as goal

abbrev pub invariant-loop-place : goal.invariant-loop-place
invariant-loop-place g l = HandedBefore l.initial.stations l.stations l.bridge l.place l.first
