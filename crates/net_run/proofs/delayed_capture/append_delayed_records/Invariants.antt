use Rattle.std.proofs.Common.{length}
use Rattle.net_run.proofs.Delaying.{IsAppending}
use Rattle.net_run.proofs.Later.{IsAdding}
use Rattle.net_run.proofs.delayed_capture.append_delayed_records.Given as goal

abbrev pub invariant-loop-rest : goal.invariant-loop-rest
invariant-loop-rest g l = record {
  frames : IsAdding l.delay l.initial.left l.initial.text.items l.left l.text.items;
  exact : IsAppending l.delay l.initial.left l.initial.text.items l.left l.text.items;
}

abbrev pub decreases-loop-rest : goal.decreases-loop-rest
decreases-loop-rest g l = length l.left
