-- The fault line of commands that are refused.
use Rattle.std.specs.Prelude.{List, ℕ, ◌++◌, codes, drop, length}
use Rattle.bridge_cycle.specs.declared.cyclic_list.ListFault.TheVariants as list
use Rattle.bridge_schema.specs.declared.plan_fault.PlanFault.{PlanFault}
use Rattle.bridge_schema.specs.declared.plan_fault.PlanFault.TheVariants as plan
use Rattle.app_failure.specs.PlanLines.{plan_fault_line}

-- The words of a plan's fault line after `plan refused: `.
abbrev pub plan_fault_words : PlanFault → List ℕ
plan_fault_words f = drop (length (codes "plan refused: ")) (plan_fault_line f)

-- The fault line of refused commands, with the words of a plan's fault line.
abbrev pub commands_fault_line : PlanFault → List ℕ
commands_fault_line plan.NoMemory = codes "no memory"
commands_fault_line (plan.BadList section index list.NoMemory) = codes "no memory"
commands_fault_line f = codes "commands refused: " ++ plan_fault_words f
