-- Fault lines of refused files, without line feed.
use Rattle.std.specs.Prelude.{ℕ, List, ◌++◌, ◌==◌, if◌then◌else◌, codes, decimal}
use Rattle.net_file.specs.declared.fault.NetSection.{NetSection}
use Rattle.net_file.specs.declared.fault.NetKeyLocation.{NetKeyLocation}
use Rattle.net_file.specs.declared.fault.NetFault.{NetFault}
use Rattle.net_file.specs.declared.fault.NetFault.TheVariants as fault
use Rattle.net_file.specs.Faults.{key_name, section_name}

-- A section's name and an instance's number `index`, from 1. If the number is 0, only the name.
abbrev pub instance_text : NetSection → ℕ → List ℕ
instance_text section index = if index == 0 then section_name section else section_name section ++ (codes " " ++ decimal index)

-- A section's name, an instance's number from 1 and its key, such as `link 2 delay`.
abbrev pub key_text : NetKeyLocation → List ℕ
key_text place = instance_text place.section place.index ++ (codes " " ++ key_name place.field)

-- The fault line `KIND refused: NAME` of a fault without location: `kind` is `network` or `traffic`, and `name` the
-- fault.
abbrev pub refusal_text : List ℕ → List ℕ → List ℕ
refusal_text kind name = kind ++ (codes " refused: " ++ name)

-- The fault line `KIND refused: NAME PLACE`: `kind` is `network` or `traffic`, `name` the fault, and `place` its
-- location, such as `link 2 delay`.
abbrev pub located_refusal : List ℕ → List ℕ → List ℕ → List ℕ
located_refusal kind name place = kind ++ (codes " refused: " ++ (name ++ (codes " " ++ place)))

-- The fault line of a network or traffic file; `kind` is `network` or `traffic`.
abbrev pub refusal_line : List ℕ → NetFault → List ℕ
refusal_line kind fault.Syntax = refusal_text kind (codes "Syntax")
refusal_line kind fault.TooLong = refusal_text kind (codes "TooLong")
refusal_line kind (fault.UnknownKey section index) = located_refusal kind (codes "UnknownKey") (instance_text section index)
refusal_line kind (fault.NotAList section) = located_refusal kind (codes "NotAList") (section_name section)
refusal_line kind (fault.Missing place) = located_refusal kind (codes "Missing") (key_text place)
refusal_line kind (fault.WrongKind place) = located_refusal kind (codes "WrongKind") (key_text place)
refusal_line kind (fault.OutOfRange place) = located_refusal kind (codes "OutOfRange") (key_text place)
refusal_line kind (fault.Duplicate section index) = located_refusal kind (codes "Duplicate") (instance_text section index)
refusal_line kind (fault.Unresolved place) = located_refusal kind (codes "Unresolved") (key_text place)
refusal_line kind (fault.TooMany section) = located_refusal kind (codes "TooMany") (section_name section)
refusal_line kind fault.NoMemory = codes "no memory"

-- The fault line of a network file with fault `e`, without line feed.
abbrev pub fault_line : NetFault → List ℕ
fault_line e = refusal_line (codes "network") e
