-- Two joined lists give a priority if one of the lists gives it.
use Rattle.std.proofs.Common.{◌≡◌, ℕ, ◌||◌, List, ◌++◌, Option}
use Rattle.std.proofs.lemmas.List.Folds.{list_any-append}
use Rattle.bridge_gate.specs.declared.schedule.GateEntry.{GateEntry}
use Rattle.bridge_check.specs.Reach.{gives_priority, lets}

pub lets_both : (xs ys : List GateEntry) (priority : Option ℕ) (k : ℕ) → lets (xs ++ ys) priority k ≡ (lets xs priority k || lets ys priority k)
lets_both xs ys priority k = list_any-append (λ e. gives_priority e priority k) xs ys
