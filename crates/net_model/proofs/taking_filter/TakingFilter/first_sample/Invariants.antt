use Rattle.std.proofs.Common.{◌≡◌, drop}
use Rattle.net_model.specs.FrameSearch.{find_first, first_taken_of_entry}
use Rattle.net_model.specs.SearchState.{hops}
use Rattle.net_model.proofs.taking_filter.TakingFilter.first_sample.Given as goal

abbrev pub invariant-loop-entry : goal.invariant-loop-entry
invariant-loop-entry g l =
    find_first (first_taken_of_entry l.self.sending.question l.self.sending.plan.now (hops l.self.sending) l.self.sending.end.port l.self.next.now l.self.on.now l.self.filter) (drop l.entry-index l.self.next.now.streams)
    ≡ find_first (first_taken_of_entry l.self.sending.question l.self.sending.plan.now (hops l.self.sending) l.self.sending.end.port l.self.next.now l.self.on.now l.self.filter) l.self.next.now.streams
