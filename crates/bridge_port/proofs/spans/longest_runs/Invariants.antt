use Rattle.std.proofs.Common.{◌≡◌, length, ◌<◌, ℕ, slice_index_or}
use Rattle.bridge_cycle.specs.Runs.{IsLongestRun}
use Rattle.bridge_cycle.specs.declared.run.Run.TheVariants.{Never}
use Rattle.bridge_port.specs.GateSchedule.{list_opens}
use Rattle.bridge_port.proofs.spans.longest_runs.Given as goal

abbrev pub invariant-loop-class : goal.invariant-loop-class
invariant-loop-class g l = record {
  size : length l.runs ≡ 8;
  longest : (c : ℕ) → c < l.class → IsLongestRun (list_opens l.list c) (slice_index_or l.runs c Never);
}
