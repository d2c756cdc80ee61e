use Rattle.net_model.specs.SearchState.{first_frame_with_tag}
use Rattle.net_model.proofs.Firsts.{of_all_tags}
use Rattle.net_model.proofs.taking_filter.TakingFilter.first_frame_of_matching_entry.Goals as goal

pub returns : goal.returns
returns g c = of_all_tags (first_frame_with_tag c.args.self.now c.args.entry.now) c.args.entry.now.vid _ _ _ c.first_frame_with_tag-untagged.ensures c.first_or_frame_by_priority-alone.ensures c.first_or_frame_by_priority.ensures
