use Rattle.std.proofs.Common.{◌+◌, ◌/◌, ◌%◌, subst, Some, None}
use Rattle.bridge_events.specs.Least.{IsLeast}
use Rattle.bridge_events.specs.Tree.{TreeState, tree_time}
use Rattle.bridge_events.proofs.Trees.{none_least, some_least}
use Rattle.bridge_events.proofs.tree_agenda.TreeAgendaAgenda.least.Goals as goal

pub returns-then-first-lt-LATE_KEY : goal.returns-then-first-lt-LATE_KEY
returns-then-first-lt-LATE_KEY c =
    let first = c.self.inside.first in
    subst (λ (a : TreeState). IsLeast (tree_time a.keys a.times) (Some (first % 16 + 1, first / 16))) c.self.view_is (some_least _ c.self.invariant.tree c.if-first-lt-LATE_KEY.true)

pub returns-then-first : goal.returns-then-first
returns-then-first c =
    subst (λ (a : TreeState). IsLeast (tree_time a.keys a.times) None) c.self.view_is (none_least _ c.self.invariant.tree c.if-first.true)

pub returns-else-first : goal.returns-else-first
returns-else-first c =
    subst (λ (a : TreeState). IsLeast (tree_time a.keys a.times) c.least_late_entry.result) c.self.view_is c.least_late_entry.ensures
