-- Numbers of the faults of network and traffic files, and the spelling of sections and keys.
use Rattle.std.specs.Prelude.{ℕ, List, codes}
use Rattle.net_file.specs.declared.fault.NetSection.{NetSection}
use Rattle.net_file.specs.declared.fault.NetSection.TheVariants as section
use Rattle.net_file.specs.declared.fault.NetField.{NetField}
use Rattle.net_file.specs.declared.fault.NetField.TheVariants as field
use Rattle.net_file.specs.declared.fault.NetFault.{NetFault}
use Rattle.net_file.specs.declared.fault.NetFault.TheVariants as fault

-- Name of a section of a network or traffic file, as the file writes it.
abbrev pub section_name : NetSection → List ℕ
section_name section.Top = codes "top"
section_name section.Bridge = codes "bridge"
section_name section.Link = codes "link"
section_name section.Stream = codes "stream"
section_name section.Traffic = codes "traffic"

-- Spelling of a key of a network or traffic file.
abbrev pub key_name : NetField → List ℕ
key_name field.Bridge = codes "bridge"
key_name field.Name = codes "name"
key_name field.Plan = codes "plan"
key_name field.One = codes "one"
key_name field.Other = codes "other"
key_name field.Delay = codes "delay"
key_name field.Hops = codes "hops"
key_name field.Filter = codes "filter"
key_name field.Burst = codes "burst"
key_name field.Rate = codes "rate"
key_name field.Frames = codes "frames"
key_name field.Period = codes "period"
key_name field.From = codes "from"
key_name field.To = codes "to"
key_name field.Least = codes "least"
key_name field.Longest = codes "longest"
key_name field.Deadline = codes "deadline"

-- Number of a fault. It doesn't depend on the fault's location.
abbrev pub fault_code : NetFault → ℕ
fault_code fault.Syntax = 1
fault_code fault.TooLong = 2
fault_code (fault.UnknownKey section index) = 3
fault_code (fault.NotAList section) = 4
fault_code (fault.Missing place) = 5
fault_code (fault.WrongKind place) = 6
fault_code (fault.OutOfRange place) = 7
fault_code (fault.Duplicate section index) = 8
fault_code (fault.Unresolved place) = 9
fault_code (fault.TooMany section) = 10
fault_code fault.NoMemory = 11
