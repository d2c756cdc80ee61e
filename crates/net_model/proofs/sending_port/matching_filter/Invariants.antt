use Rattle.std.proofs.Common.{◌≡◌, drop, false}
use Rattle.bridge_filter.specs.Verdicts.{filter_input, frame_filter}
use Rattle.net_model.specs.SearchState.{lesser_optional_filter}
use Rattle.net_model.proofs.sending_port.matching_filter.Given as goal

abbrev pub invariant-loop-filter : goal.invariant-loop-filter
invariant-loop-filter l = lesser_optional_filter l.least (frame_filter (drop l.filter-index l.filters) (filter_input 0 l.handle l.priority false 0 0)) ≡ frame_filter l.filters (filter_input 0 l.handle l.priority false 0 0)
