use Rattle.std.proofs.Common.{sym, ◌∙◌}
use Rattle.net_model.specs.FrameSearch.{first_taken_of_entry}
use Rattle.net_model.specs.SearchState.{hops}
use Rattle.net_model.proofs.Walked.{passed, told, untold}
use Rattle.net_model.proofs.taking_filter.TakingFilter.first_taken_frame.Goals as goal

pub returns-then-is_some : goal.returns-then-is_some
returns-then-is_some g c =
    let t = c.args.self.now in
    let s = t.sending in
    told (first_taken_of_entry s.question s.plan.now (hops s) s.end.port t.next.now t.on.now t.filter) c.streams-entry-items.result.now t.next.now.streams c.loop-entry.entry-index c.streams-entry-items.ensures.streams
    _ c.first_frame_of_entry-found.result c.first_frame_of_entry-found.ensures c.loop-entry-test.true (sym c.is_some.ensures ∙ c.if-is_some.true) c.loop-entry.invariant

pub loop-entry-preserved : goal.loop-entry-preserved
loop-entry-preserved g c =
    let t = c.args.self.now in
    let s = t.sending in
    passed (first_taken_of_entry s.question s.plan.now (hops s) s.end.port t.next.now t.on.now t.filter) c.streams-entry-items.result.now t.next.now.streams c.loop-entry.entry-index c.streams-entry-items.ensures.streams
    _ c.first_frame_of_entry-found.result c.first_frame_of_entry-found.ensures c.loop-entry-test.true (sym c.is_some.ensures ∙ c.if-is_some.false) c.loop-entry.invariant

pub returns : goal.returns
returns g c =
    let t = c.args.self.now in
    let s = t.sending in
    untold (first_taken_of_entry s.question s.plan.now (hops s) s.end.port t.next.now t.on.now t.filter) c.streams-entry-items.result.now t.next.now.streams c.loop-entry.entry-index c.streams-entry-items.ensures.streams
    c.loop-entry-test.false c.loop-entry.invariant
