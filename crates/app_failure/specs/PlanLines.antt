-- Fault lines of plans that are refused.
use Rattle.std.specs.Prelude.{ℕ, List, ◌++◌, ◌==◌, if◌then◌else◌, codes, decimal}
use Rattle.bridge_cycle.specs.declared.cyclic_list.ListFault.{ListFault}
use Rattle.bridge_cycle.specs.declared.cyclic_list.ListFault.TheVariants as list
use Rattle.bridge_schema.specs.declared.plan_fault.Section.{Section}
use Rattle.bridge_schema.specs.declared.plan_fault.KeyLocation.{KeyLocation}
use Rattle.bridge_schema.specs.declared.plan_fault.PlanFault.{PlanFault}
use Rattle.bridge_schema.specs.declared.plan_fault.PlanFault.TheVariants as plan
use Rattle.bridge_schema.specs.Keys.{key_name, section_name}

-- The section's name and the instance's number, from 1; only the name for the number 0.
abbrev pub instance_text : Section → ℕ → List ℕ
instance_text section index = if index == 0 then section_name section else section_name section ++ (codes " " ++ decimal index)

-- A section, an instance's number and a key, such as `filter 2 max_sdu`.
abbrev pub key_text : KeyLocation → List ℕ
key_text place = instance_text place.section place.index ++ (codes " " ++ key_name place.field)

-- The fault line of a refused plan, with the fault's name.
abbrev pub plan_refused : List ℕ → List ℕ
plan_refused name = codes "plan refused: " ++ name

-- The fault line of a refused plan, with the fault's name and the part at fault.
abbrev pub plan_refused_section : List ℕ → List ℕ → List ℕ
plan_refused_section name place = codes "plan refused: " ++ (name ++ (codes " " ++ place))

-- The fault line of a refused list of an instance, with the fault's name.
abbrev pub list_refused : Section → ℕ → List ℕ → List ℕ
list_refused section index name = plan_refused_section (codes "BadList") (instance_text section index ++ (codes " " ++ name))

-- The fault line of instance `index` of a section with a list that has the given fault.
abbrev pub list_fault_line : Section → ℕ → ListFault → List ℕ
list_fault_line section index list.Empty = list_refused section index (codes "Empty")
list_fault_line section index list.ZeroInterval = list_refused section index (codes "ZeroInterval")
list_fault_line section index list.OverCycle = list_refused section index (codes "OverCycle")
list_fault_line section index list.CycleOutOfRange = list_refused section index (codes "CycleOutOfRange")
list_fault_line section index list.TooManyEntries = list_refused section index (codes "TooManyEntries")
list_fault_line section index list.NoMemory = codes "no memory"

-- The fault line of a plan with the given fault, without line feed.
abbrev pub plan_fault_line : PlanFault → List ℕ
plan_fault_line plan.Syntax = plan_refused (codes "Syntax")
plan_fault_line plan.TooLong = plan_refused (codes "TooLong")
plan_fault_line (plan.UnknownKey section index) = plan_refused_section (codes "UnknownKey") (instance_text section index)
plan_fault_line (plan.NotAList section) = plan_refused_section (codes "NotAList") (section_name section)
plan_fault_line (plan.Missing place) = plan_refused_section (codes "Missing") (key_text place)
plan_fault_line (plan.WrongKind place) = plan_refused_section (codes "WrongKind") (key_text place)
plan_fault_line (plan.OutOfRange place) = plan_refused_section (codes "OutOfRange") (key_text place)
plan_fault_line (plan.Duplicate section index) = plan_refused_section (codes "Duplicate") (instance_text section index)
plan_fault_line (plan.Unresolved place) = plan_refused_section (codes "Unresolved") (key_text place)
plan_fault_line (plan.TooMany section) = plan_refused_section (codes "TooMany") (section_name section)
plan_fault_line (plan.BadList section index fault) = list_fault_line section index fault
plan_fault_line plan.NoPorts = plan_refused (codes "NoPorts")
plan_fault_line plan.NoMemory = codes "no memory"
