use Rattle.std.proofs.Common.{◌≡◌, ◌≤◌, ◌≢◌, length, arith, rules, ap}
use Rattle.std.specs.List.{filter}
use Rattle.net_model.specs.Searching.{is_unexplored}
use Rattle.net_model.proofs.Filtered.{shorter}
use Rattle.net_model.proofs.Searched.{searched_last, searched_more}
use Rattle.net_model.proofs.loop_search.is_on_loop.Goals as goal

pub returns-then-len : goal.returns-then-len
returns-then-len g c =
    let left : c.in_ok-left.left.items ≡ filter (is_unexplored c.args.start c.loop-pending.reached.items) c.loop-pending.pending.items = search rules in
    let none : length c.in_ok-left.left.items ≡ length c.loop-pending.pending.items = search rules in
    rw c.has_port.ensures (rw c.deref-then-len.ensures.value (searched_last _ _ c.loop-pending.reached.items c.loop-pending.pending.items c.in_ok-left.left.items c.loop-pending.invariant left none))

pub loop-pending-smaller : goal.loop-pending-smaller
loop-pending-smaller g c =
    let left : c.in_ok-left.left.items ≡ filter (is_unexplored c.args.start c.loop-pending.reached.items) c.loop-pending.pending.items = search rules in
    let most = shorter (is_unexplored c.args.start c.loop-pending.reached.items) c.loop-pending.pending.items in
    let less : length c.in_ok-left.left.items ≤ length c.loop-pending.pending.items = rw left most in
    let other : length c.in_ok-left.left.items ≢ length c.loop-pending.pending.items = search rules in
    omega (arith, less, other)

pub loop-pending-preserved : goal.loop-pending-preserved
loop-pending-preserved g c = searched_more _ _ c.loop-pending.reached.items c.loop-pending.pending.items _ _ c.loop-pending.invariant (search rules) (search rules)
