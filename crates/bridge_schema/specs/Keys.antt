-- Names of sections and keys, and the limit of each section.
use Rattle.std.specs.Prelude.{ℕ, List, codes}
use Rattle.bridge_schema.specs.declared.plan_fault.Section.{Section}
use Rattle.bridge_schema.specs.declared.plan_fault.Section.TheVariants as section
use Rattle.bridge_schema.specs.declared.plan_fault.Field.{Field}
use Rattle.bridge_schema.specs.declared.plan_fault.Field.TheVariants as field

-- Name of a section, as in files and fault lines.
abbrev pub section_name : Section → List ℕ
section_name section.Top = codes "top"
section_name section.Change = codes "change"
section_name section.Port = codes "port"
section_name section.Vlan = codes "vlan"
section_name section.Static = codes "static"
section_name section.Stream = codes "stream"
section_name section.Gate = codes "gate"
section_name section.Meter = codes "meter"
section_name section.Filter = codes "filter"
section_name section.Command = codes "command"

-- Largest number of instances of a section; a section with more has the fault TooMany.
abbrev pub limit_of : Section → ℕ
limit_of section.Top = 0
limit_of section.Change = 1
limit_of section.Port = 16
limit_of section.Vlan = 4094
limit_of section.Static = 4096
limit_of section.Stream = 4096
limit_of section.Gate = 1024
limit_of section.Meter = 1024
limit_of section.Filter = 1024
limit_of section.Command = 4096

-- Name of a key, as in files and fault lines.
abbrev pub key_name : Field → List ℕ
key_name field.Number = codes "number"
key_name field.Mbps = codes "mbps"
key_name field.Vid = codes "vid"
key_name field.Priority = codes "priority"
key_name field.Classes = codes "classes"
key_name field.Rooms = codes "rooms"
key_name field.Base = codes "base"
key_name field.Cycle = codes "cycle"
key_name field.Gates = codes "gates"
key_name field.NextBase = codes "next_base"
key_name field.NextCycle = codes "next_cycle"
key_name field.NextGates = codes "next_gates"
key_name field.Open = codes "open"
key_name field.Ns = codes "ns"
key_name field.Members = codes "members"
key_name field.Address = codes "address"
key_name field.Ports = codes "ports"
key_name field.Handle = codes "handle"
key_name field.Port = codes "port"
key_name field.Kind = codes "kind"
key_name field.Tag = codes "tag"
key_name field.ShutOnRx = codes "shut_on_rx"
key_name field.ShutOnOctets = codes "shut_on_octets"
key_name field.State = codes "state"
key_name field.Ipv = codes "ipv"
key_name field.Entries = codes "entries"
key_name field.NextEntries = codes "next_entries"
key_name field.Octets = codes "octets"
key_name field.Cir = codes "cir"
key_name field.Cbs = codes "cbs"
key_name field.Eir = codes "eir"
key_name field.Ebs = codes "ebs"
key_name field.Coupling = codes "coupling"
key_name field.Colour = codes "colour"
key_name field.DropYellow = codes "drop_yellow"
key_name field.MarkAllRed = codes "mark_all_red"
key_name field.Gate = codes "gate"
key_name field.MaxSdu = codes "max_sdu"
key_name field.Meter = codes "meter"
key_name field.BlockOversize = codes "block_oversize"
key_name field.Protected = codes "protected"
key_name field.Group = codes "group"
key_name field.At = codes "at"
key_name field.Clear = codes "clear"
