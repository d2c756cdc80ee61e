use Rattle.std.proofs.Common.{◌<◌, ◌≤◌, length, arith}
use Rattle.bridge_check.specs.Windows.{list_shared_phase}
use Rattle.bridge_check.proofs.Passed.{shared_here, shared_later, never_shared, total_more}
use Rattle.bridge_check.proofs.windows.shared_phase.Goals as goal

pub returns-then-is_shared : goal.returns-then-is_shared
returns-then-is_shared g c =
    let l = c.args.list.now in
    let k = c.loop-entry.entry-index in
    let same = c.entries-entry-items.ensures.entries in
    let inside : k < length l.entries = rw same at c.loop-entry-test.true in
    shared_here l.entries c.loop-entry.start c.args.class k (list_shared_phase l c.args.class) inside (rw same at c.if-is_shared.ensures) c.loop-entry.invariant.1

pub overflow_add-start : goal.overflow_add-start
overflow_add-start g c =
    let l = c.args.list.now in
    let k = c.loop-entry.entry-index in
    let same = c.entries-entry-items.ensures.entries in
    let inside : k < length l.entries = rw same at c.loop-entry-test.true in
    rw same (omega (arith, total_more l.entries c.loop-entry.start k 1000000000 inside c.loop-entry.invariant.0))

pub loop-entry-preserved : goal.loop-entry-preserved
loop-entry-preserved g c =
    let l = c.args.list.now in
    let k = c.loop-entry.entry-index in
    let start = c.loop-entry.start in
    let same = c.entries-entry-items.ensures.entries in
    let inside : k < length l.entries = rw same at c.loop-entry-test.true in
    rw same (total_more l.entries start k 1000000000 inside c.loop-entry.invariant.0, shared_later l.entries start c.args.class k (list_shared_phase l c.args.class) inside (rw same at c.if-is_shared.ensures) c.loop-entry.invariant.1)

pub returns : goal.returns
returns g c =
    let l = c.args.list.now in
    let k = c.loop-entry.entry-index in
    let through : length l.entries ≤ k = rw c.entries-entry-items.ensures.entries at c.loop-entry-test.false in
    never_shared l.entries c.loop-entry.start c.args.class k (list_shared_phase l c.args.class) through c.loop-entry.invariant.1
