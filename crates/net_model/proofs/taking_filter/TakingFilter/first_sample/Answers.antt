use Rattle.std.proofs.Common.{sym, ap, ◌∙◌}
use Rattle.std.specs.Prelude.{is_some}
use Rattle.net_model.specs.FrameSearch.{first_taken_of_entry}
use Rattle.net_model.specs.SearchState.{hops}
use Rattle.net_model.proofs.Sampled.{passed_some, told_some}
use Rattle.net_model.proofs.Walked.{untold}
use Rattle.net_model.proofs.taking_filter.TakingFilter.first_sample.Goals as goal

pub returns-then-is_some-clause-found : goal.returns-then-is_some-clause-found
returns-then-is_some-clause-found g c =
    let t = c.args.self.now in
    let s = t.sending in
    told_some (first_taken_of_entry s.question s.plan.now (hops s) s.end.port t.next.now t.on.now t.filter) c.streams-entry-items.result.now t.next.now.streams c.loop-entry.entry-index c.streams-entry-items.ensures.streams
    _ c.entry_sample-found.result c.entry_sample-found.ensures.found c.loop-entry-test.true (sym c.is_some.ensures ∙ c.if-is_some.true) c.loop-entry.invariant

pub loop-entry-preserved : goal.loop-entry-preserved
loop-entry-preserved g c =
    let t = c.args.self.now in
    let s = t.sending in
    passed_some (first_taken_of_entry s.question s.plan.now (hops s) s.end.port t.next.now t.on.now t.filter) c.streams-entry-items.result.now t.next.now.streams c.loop-entry.entry-index c.streams-entry-items.ensures.streams
    _ c.entry_sample-found.result c.entry_sample-found.ensures.found c.loop-entry-test.true (sym c.is_some.ensures ∙ c.if-is_some.false) c.loop-entry.invariant

pub returns-clause-found : goal.returns-clause-found
returns-clause-found g c =
    let t = c.args.self.now in
    let s = t.sending in
    ap is_some (untold (first_taken_of_entry s.question s.plan.now (hops s) s.end.port t.next.now t.on.now t.filter) c.streams-entry-items.result.now t.next.now.streams c.loop-entry.entry-index c.streams-entry-items.ensures.streams
    c.loop-entry-test.false c.loop-entry.invariant)
