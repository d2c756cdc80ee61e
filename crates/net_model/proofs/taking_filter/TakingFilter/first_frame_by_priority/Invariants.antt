use Rattle.std.proofs.Common.{◌≡◌, ◌≤◌, Some}
use Rattle.bridge_check.specs.Faults.{first_among_numbers}
use Rattle.net_model.specs.LinkFrames.{tag_by_priority}
use Rattle.net_model.specs.SearchState.{first_frame_with_tag}
use Rattle.net_model.proofs.taking_filter.TakingFilter.first_frame_by_priority.Given as goal

abbrev pub invariant-loop-pcp : goal.invariant-loop-pcp
invariant-loop-pcp g l = (l.pcp ≤ 8) × (l.first ≡ first_among_numbers l.pcp (λ k. first_frame_with_tag l.self l.entry (Some (tag_by_priority k l.vid))))
