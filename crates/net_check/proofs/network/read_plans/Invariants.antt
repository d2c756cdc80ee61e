use Rattle.std.proofs.Common.{◌≡◌, ℕ, List, length}
use Rattle.net_check.specs.Networks.{ArePlansAt}
use Rattle.net_check.proofs.network.read_plans.Given as goal

abbrev pub invariant-loop-bridge : goal.invariant-loop-bridge
invariant-loop-bridge g l =
    (length l.plans.items ≡ l.bridge-index)
    × (ArePlansAt (g.F.ReadFiles.octets_at l.fn.files) l.fn.path l.fn.bridges l.plans.items
    × ((p : List ℕ) → g.F.ReadFiles.octets_at l.files p ≡ g.F.ReadFiles.octets_at l.fn.files p))
