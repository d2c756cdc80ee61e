-- First fault of a table whose keys are read one after another. No public clause uses these definitions.
use Rattle.std.specs.Prelude.{◌≡◌, Bool, Option, Some, None, Result, Ok, Err, if◌then◌else◌}
use Rattle.bridge_schema.specs.declared.plan_fault.Field.{Field}
use Rattle.bridge_schema.specs.declared.plan_fault.KeyLocation.{KeyLocation}
use Rattle.bridge_schema.specs.declared.plan_fault.PlanFault.{PlanFault}
use Rattle.bridge_schema.specs.declared.instance_table.InstanceTable.{InstanceTable}
use Rattle.bridge_schema.specs.Readers.{IsReadFault}

-- Location of a key in an instance's table, for faults.
abbrev pub key_location : InstanceTable → Field → KeyLocation
key_location row key = record { section = row.section; index = row.index; field = key }

-- Fault of a result; `None` if the result has a value.
abbrev pub read_fault : {A : Type 0} → Result A PlanFault → Option PlanFault
read_fault (Ok x) = None
read_fault (Err e) = Some e

-- Value of a result, or `other` after a fault, so that the reading of the other keys can go on.
abbrev pub value_or : {A : Type 0} → A → Result A PlanFault → A
value_or other (Ok x) = x
value_or other (Err e) = other

-- Earlier fault if there is one, otherwise the next fault.
abbrev pub first_fault : Option PlanFault → Option PlanFault → Option PlanFault
first_fault None next = next
first_fault (Some e) next = Some e

-- Result of reading a table: the first fault if there is one, otherwise the value.
abbrev pub unless_fault : {A : Type 0} → Option PlanFault → A → Result A PlanFault
unless_fault None x = Ok x
unless_fault (Some e) x = Err e

-- Holds if the first fault `new` is the earlier fault `old`, or else the fault of `read`. The value `x` is the read
-- value, or `other` if `read` is a fault.
pub record TakesRead {A : Type 0} (old : Option PlanFault) (other : A) (read : Result A PlanFault) (new : Option PlanFault) (x : A) : Type 0 where
  pub fault : new ≡ first_fault old (read_fault read)
  pub value : x ≡ value_or other read

-- Holds if the first fault `new` is the earlier fault `old` if there is one, otherwise `e` if `holds` is false,
-- otherwise `None`.
pub record Expects (old : Option PlanFault) (holds : Bool) (e : PlanFault) (new : Option PlanFault) : Type 0 where
  pub fault : new ≡ first_fault old (if holds then None else Some e)

-- Holds if the result of reading a table is the first fault; without a fault, the value.
pub record EndsReading {A : Type 0} (fault : Option PlanFault) (x : A) (r : Result A PlanFault) : Type 0 where
  pub is : r ≡ unless_fault fault x

-- Holds if an earlier fault stays. Otherwise `x` is the value of `read`; if there is a new fault, it is the fault of
-- `read`, or memory ran out.
abbrev pub ReadsUnlessFault : {A : Type 0} → Option PlanFault → Result A PlanFault → Option PlanFault → A → Type 0
ReadsUnlessFault (Some e) read new x = new ≡ Some e
ReadsUnlessFault None read None x = read ≡ Ok x
ReadsUnlessFault None read (Some e) x = IsReadFault e read

-- `ReadsUnlessFault` as a record, which the contracts of `take_port_lists` and `take_gate_lists` state.
pub record ReadsLists {A : Type 0} (old : Option PlanFault) (read : Result A PlanFault) (new : Option PlanFault) (x : A) : Type 0 where
  pub reads : ReadsUnlessFault old read new x
