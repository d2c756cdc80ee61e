use Rattle.std.proofs.Common.{◌≡◌, drop}
use Rattle.bridge_filter.specs.Plans.{is_listed}
use Rattle.gate_parts.proofs.consistency.is_listed.Given as goal

-- The rest of the list contains the number exactly if the whole list contains it.
abbrev pub invariant-loop-item : goal.invariant-loop-item
invariant-loop-item g l = is_listed l.number (drop l.item-index l.list) ≡ is_listed l.number l.list
