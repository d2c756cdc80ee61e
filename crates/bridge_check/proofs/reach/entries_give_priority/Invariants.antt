use Rattle.std.proofs.Common.{◌≡◌, drop, map}
use Rattle.bridge_check.specs.Reach.{lets}
use Rattle.bridge_check.proofs.reach.entries_give_priority.Given as goal

abbrev pub invariant-loop-entry : goal.invariant-loop-entry
invariant-loop-entry l = lets (map (λ e. e.0) (drop l.entry-index l.entries)) l.priority l.k ≡ lets (map (λ e. e.0) l.entries) l.priority l.k
