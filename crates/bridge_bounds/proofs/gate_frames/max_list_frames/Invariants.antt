use Rattle.std.proofs.Common.{◌≡◌, drop, Some}
use Rattle.bridge_bounds.specs.GateFrames.{greater_of_both, max_list_frames}
use Rattle.bridge_bounds.proofs.gate_frames.max_list_frames.Given as goal

abbrev pub invariant-loop-entry : goal.invariant-loop-entry
invariant-loop-entry l = greater_of_both (Some l.most) (max_list_frames (drop l.entry-index l.entries)) ≡ max_list_frames l.entries
