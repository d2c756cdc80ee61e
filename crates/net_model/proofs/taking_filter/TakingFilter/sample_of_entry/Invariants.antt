use Rattle.std.proofs.Common.{◌≡◌, drop}
use Rattle.net_model.specs.LinkFrames.{possible_tags}
use Rattle.net_model.specs.FrameSearch.{find_first}
use Rattle.net_model.specs.SearchState.{first_frame_with_tag}
use Rattle.net_model.proofs.taking_filter.TakingFilter.sample_of_entry.Given as goal

abbrev pub invariant-loop-i : goal.invariant-loop-i
invariant-loop-i g l = find_first (first_frame_with_tag l.self l.entry) (drop l.i (possible_tags l.entry.vid)) ≡ find_first (first_frame_with_tag l.self l.entry) (possible_tags l.entry.vid)
