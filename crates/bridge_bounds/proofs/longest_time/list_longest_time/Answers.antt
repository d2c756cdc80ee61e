use Rattle.std.proofs.Common.{◌+◌, ◌≡◌, ℕ, subst}
use Rattle.bridge_port.specs.GateSchedule.{list_opens}
use Rattle.bridge_bounds.specs.Intervals.{IsLongestAfterEdges}
use Rattle.bridge_bounds.proofs.Lists.{cycle_longest}
use Rattle.bridge_bounds.proofs.longest_time.list_longest_time.Goals as goal

pub returns-clause-longest : goal.returns-clause-longest
returns-clause-longest g c =
    let l = c.args.list.now in
    let cycle : c.cycle.result ≡ l.cycle = c.cycle.ensures.cycle in
    let searched = subst (λ (n : ℕ). IsLongestAfterEdges (list_opens l c.args.class) c.args.occ c.args.room 0 (n + 1) c.longest_time_after_edges.result) cycle c.longest_time_after_edges.ensures.longest in
    cycle_longest l c.args.class c.args.occ c.args.room c.longest_time_after_edges.result c.requires.lawful c.requires.ever searched

pub returns-clause-attained : goal.returns-clause-attained
returns-clause-attained g c =
    let (u, after, before, ends) = c.longest_time_after_edges.ensures.longest.attained in
    (u, ends)
