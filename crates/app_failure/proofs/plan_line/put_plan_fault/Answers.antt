use Rattle.std.proofs.Common.{◌∙◌, ap, sym}
use Rattle.std.specs.Prelude.{codes}
use Rattle.bridge_text.proofs.Puts.{put_as}
use Rattle.app_failure.specs.PlanLines.{plan_fault_line, plan_refused_section}
use Rattle.app_failure.proofs.plan_line.put_plan_fault.Goals as goal

pub returns-in-Syntax : goal.returns-in-Syntax
returns-in-Syntax g c = put_as _ _ _ _ c.put_refused_plan.ensures (ap plan_fault_line (sym c.in-Syntax.is))

pub returns-in-TooLong : goal.returns-in-TooLong
returns-in-TooLong g c = put_as _ _ _ _ c.put_refused_plan-in-TooLong.ensures (ap plan_fault_line (sym c.in-TooLong.is))

pub returns-in-UnknownKey : goal.returns-in-UnknownKey
returns-in-UnknownKey g c = put_as _ _ _ _ c.put_instance.ensures (ap plan_fault_line (sym c.in-UnknownKey.is))

pub returns-in-NotAList : goal.returns-in-NotAList
returns-in-NotAList g c = put_as _ _ _ _ c.put_refused_section.ensures (ap (plan_refused_section (codes "NotAList")) c.name.ensures.name ∙ ap plan_fault_line (sym c.in-NotAList.is))

pub returns-in-Missing : goal.returns-in-Missing
returns-in-Missing g c = put_as _ _ _ _ c.put_key.ensures (ap plan_fault_line (sym c.in-Missing.is))

pub returns-in-WrongKind : goal.returns-in-WrongKind
returns-in-WrongKind g c = put_as _ _ _ _ c.put_key-in-WrongKind.ensures (ap plan_fault_line (sym c.in-WrongKind.is))

pub returns-in-OutOfRange : goal.returns-in-OutOfRange
returns-in-OutOfRange g c = put_as _ _ _ _ c.put_key-in-OutOfRange.ensures (ap plan_fault_line (sym c.in-OutOfRange.is))

pub returns-in-Duplicate : goal.returns-in-Duplicate
returns-in-Duplicate g c = put_as _ _ _ _ c.put_instance-in-Duplicate.ensures (ap plan_fault_line (sym c.in-Duplicate.is))

pub returns-in-Unresolved : goal.returns-in-Unresolved
returns-in-Unresolved g c = put_as _ _ _ _ c.put_key-in-Unresolved.ensures (ap plan_fault_line (sym c.in-Unresolved.is))

pub returns-in-TooMany : goal.returns-in-TooMany
returns-in-TooMany g c = put_as _ _ _ _ c.put_refused_section-in-TooMany.ensures (ap (plan_refused_section (codes "TooMany")) c.name-in-TooMany.ensures.name ∙ ap plan_fault_line (sym c.in-TooMany.is))

pub returns-in-BadList : goal.returns-in-BadList
returns-in-BadList g c = put_as _ _ _ _ c.put_list_fault.ensures (ap plan_fault_line (sym c.in-BadList.is))

pub returns-in-NoPorts : goal.returns-in-NoPorts
returns-in-NoPorts g c = put_as _ _ _ _ c.put_refused_plan-in-NoPorts.ensures (ap plan_fault_line (sym c.in-NoPorts.is))
