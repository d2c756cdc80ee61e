-- Computes the plan of a base text, and the faults of changed texts: each replaces one piece. Then plans with a schedule change, and commands to a
-- plan.
use Rattle.std.proofs.Common.{◌≡◌, ℕ, true, false, List, [], ◌∷◌, ◌++◌, codes, map, Option, Some, None, Result, Ok, Err, refl}
use Rattle.std.specs.Str.{is_utf8, chars}
use Rattle.std.specs.Str.Lossy.{utf8_valid_len}
use Rattle.toml.proofs.OnLiterals.{toml_on_literals}
use Rattle.bridge_cycle.specs.declared.cyclic_list.ListFault.TheVariants.{CycleOutOfRange, OverCycle}
use Rattle.bridge_cycle.specs.declared.gate_control_lists.Egress.{Egress}
use Rattle.bridge_cycle.specs.declared.gate_control_lists.Egress.TheVariants as egress
use Rattle.bridge_filter.specs.declared.FilterPlan.{FilterPlan}
use Rattle.bridge_schema.specs.declared.plan_fault.PlanFault.{PlanFault}
use Rattle.bridge_schema.specs.declared.plan_fault.PlanFault.TheVariants as fault
use Rattle.bridge_schema.specs.declared.plan_fault.Section.TheVariants as section
use Rattle.bridge_schema.specs.declared.plan_fault.Field.TheVariants as field
use Rattle.bridge_schema.specs.Readers.{◌>>=◌, read_required, read_optional, read_or_default, number_in_range, switch, known_number, speed, text_value, number_array, number_set, eight_in_range, known_ports, read_list}
use Rattle.bridge_schema.specs.Texts.{parse_address}
use Rattle.bridge_filter.specs.declared.Clear.TheVariants as clear
use Rattle.bridge_config.specs.declared.command.Command.{Command}
use Rattle.bridge_config.specs.Model.{Plan}
use Rattle.bridge_config.specs.Commands.{read_command}
use Rattle.bridge_config.specs.Sections.{read_change_time, read_list_parts, read_port_by_lookup, read_port_lists, read_vlan, read_static, read_stream_by_lookup, read_gate, read_gate_lists, read_meter, read_filter_by_lookup}
use Rattle.bridge_config.specs.Document.{read_arrays, read_change, read_policing, read_plan, read_document, text_plan, command_items, text_commands}

-- Pieces.

-- First port.
abbrev port_1 : List ℕ
port_1 = codes "[[port]]\nnumber = 1\nmbps = 1000\nrooms = [4, 4, 4, 4, 4, 4, 4, 4]\n"

-- Second port.
abbrev port_2 : List ℕ
port_2 = codes "[[port]]\nnumber = 2\nmbps = 1000\nrooms = [4, 4, 4, 4, 4, 4, 4, 4]\n"

-- Third port, with the cycle time `cycle`.
abbrev port_3 : List ℕ → List ℕ
port_3 cycle = codes "[[port]]\nnumber = 3\nmbps = 1000\nrooms = [4, 4, 4, 4, 4, 4, 4, 4]\ncycle = " ++ cycle ++ codes "\ngates = [{ open = [7], ns = 500000 }, { open = [0, 1, 2, 3, 4, 5, 6], ns = 500000 }]\n"

-- Three ports.
abbrev ports : List ℕ
ports = port_1 ++ port_2 ++ port_3 (codes "1000000")

-- VLAN with the given members.
abbrev vlan : List ℕ → List ℕ
vlan members = codes "[[vlan]]\nvid = 10\nmembers = " ++ members ++ codes "\n"

-- Static filtering entry with the given address.
abbrev entry : List ℕ → List ℕ
entry address = codes "[[static]]\nvid = 10\naddress = \"" ++ address ++ codes "\"\nports = [3]\n"

-- VLAN and static filtering entry.
abbrev forwarding : List ℕ
forwarding = vlan (codes "[1, 2, 3]") ++ entry (codes "02-00-00-00-00-0A")

-- Stream identification.
abbrev stream : List ℕ
stream = codes "[[stream]]\nhandle = 1\nport = 1\nkind = \"null\"\naddress = \"02-00-00-00-00-0A\"\nvid = 10\ntag = \"tagged\"\n"

-- Two gates; the first one has the additional line `line`.
abbrev gates : List ℕ → List ℕ
gates line = codes "[[gate]]\nnumber = 1\n" ++ line ++ codes "cycle = 1000000\nentries = [{ open = true, ns = 300000, ipv = 7, octets = 600 }, { open = false, ns = 700000 }]\n[[gate]]\nnumber = 99\nstate = \"open\"\nipv = 0\n"

-- Two filters; the first one has the given gate.
abbrev filters : List ℕ → List ℕ
filters gate = codes "[[filter]]\nnumber = 10\nhandle = 1\ngate = " ++ gate ++ codes "\nmax_sdu = 500\nprotected = true\n[[filter]]\nnumber = 99\ngate = 99\n"

-- Sections after ports, VLANs and static entries.
abbrev rest : List ℕ
rest = stream ++ gates [] ++ filters (codes "1")

-- Plan in a text.
abbrev plan : List ℕ → Result (Plan (Unit {0})) PlanFault
plan t = text_plan t

-- Parts of a plan that the examples compare: numbers of ports, numbers of gates, and filters.
abbrev seen : Result (Plan (Unit {0})) PlanFault → List ℕ × List ℕ × List (ℕ × FilterPlan)
seen (Ok p) = (map (λ q. q.number) p.ports, map (λ g. g.0) p.gates, p.filters)
seen (Err e) = ([], [], [])

-- Plan.

base : seen (plan (ports ++ forwarding ++ rest)) ≡ (
  1 ∷ 2 ∷ 3 ∷ [],
  1 ∷ 99 ∷ [],
  (10, record { handle = Some 1; priority = None; gate = 1; max_sdu = Some 500; meter = None; block_oversize = false; protected = true; group = None })
      ∷ (99, record { handle = None; priority = None; gate = 99; max_sdu = None; meter = None; block_oversize = false; protected = false; group = None }) ∷ [],
)
unfolding toml_on_literals utf8_valid_len is_utf8 chars read_document read_arrays read_plan read_policing read_change read_change_time read_list_parts read_port_by_lookup read_port_lists read_vlan read_static read_stream_by_lookup read_gate read_gate_lists read_meter read_filter_by_lookup read_required read_optional read_or_default number_in_range switch known_number speed text_value number_array number_set eight_in_range known_ports read_list parse_address
base = refl

-- Faults.

no_ports : plan (codes "") ≡ Err (fault.NoPorts)
unfolding toml_on_literals utf8_valid_len is_utf8 chars read_document read_arrays
no_ports = refl

unknown_at_the_top : plan (codes "ports = []\n") ≡ Err (fault.UnknownKey section.Top 0)
unfolding toml_on_literals utf8_valid_len is_utf8 chars read_document read_arrays
unknown_at_the_top = refl

no_list : plan (codes "port = 3\n") ≡ Err (fault.NotAList section.Port)
unfolding toml_on_literals utf8_valid_len is_utf8 chars read_document read_arrays
no_list = refl

no_speed : plan (codes "[[port]]\nnumber = 1\n" ++ port_2 ++ forwarding ++ rest) ≡ Err (fault.Missing (record { section = section.Port; index = 1; field = field.Mbps }))
unfolding toml_on_literals utf8_valid_len is_utf8 chars read_document read_arrays read_plan read_policing read_change read_change_time read_list_parts read_port_by_lookup read_port_lists read_vlan read_static read_stream_by_lookup read_gate read_gate_lists read_meter read_filter_by_lookup read_required read_optional read_or_default number_in_range switch known_number speed text_value number_array number_set eight_in_range known_ports read_list parse_address
no_speed = refl

speed_out_of_range : plan (codes "[[port]]\nnumber = 1\nmbps = 42\n" ++ port_2 ++ forwarding ++ rest) ≡ Err (fault.OutOfRange (record { section = section.Port; index = 1; field = field.Mbps }))
unfolding toml_on_literals utf8_valid_len is_utf8 chars read_document read_arrays read_plan read_policing read_change read_change_time read_list_parts read_port_by_lookup read_port_lists read_vlan read_static read_stream_by_lookup read_gate read_gate_lists read_meter read_filter_by_lookup read_required read_optional read_or_default number_in_range switch known_number speed text_value number_array number_set eight_in_range known_ports read_list parse_address
speed_out_of_range = refl

speed_of_another_kind : plan (codes "[[port]]\nnumber = 1\nmbps = \"x\"\n" ++ port_2 ++ forwarding ++ rest) ≡ Err (fault.WrongKind (record { section = section.Port; index = 1; field = field.Mbps }))
unfolding toml_on_literals utf8_valid_len is_utf8 chars read_document read_arrays read_plan read_policing read_change read_change_time read_list_parts read_port_by_lookup read_port_lists read_vlan read_static read_stream_by_lookup read_gate read_gate_lists read_meter read_filter_by_lookup read_required read_optional read_or_default number_in_range switch known_number speed text_value number_array number_set eight_in_range known_ports read_list parse_address
speed_of_another_kind = refl

two_of_a_number : plan (port_1 ++ port_1 ++ forwarding ++ rest) ≡ Err (fault.Duplicate section.Port 2)
unfolding toml_on_literals utf8_valid_len is_utf8 chars read_document read_arrays read_plan read_policing read_change read_change_time read_list_parts read_port_by_lookup read_port_lists read_vlan read_static read_stream_by_lookup read_gate read_gate_lists read_meter read_filter_by_lookup read_required read_optional read_or_default number_in_range switch known_number speed text_value number_array number_set eight_in_range known_ports read_list parse_address
two_of_a_number = refl

no_such_member : plan (ports ++ vlan (codes "[1, 2, 4]") ++ rest) ≡ Err (fault.Unresolved (record { section = section.Vlan; index = 1; field = field.Members }))
unfolding toml_on_literals utf8_valid_len is_utf8 chars read_document read_arrays read_plan read_policing read_change read_change_time read_list_parts read_port_by_lookup read_port_lists read_vlan read_static read_stream_by_lookup read_gate read_gate_lists read_meter read_filter_by_lookup read_required read_optional read_or_default number_in_range switch known_number speed text_value number_array number_set eight_in_range known_ports read_list parse_address
no_such_member = refl

five_pairs : plan (ports ++ vlan (codes "[1, 2, 3]") ++ entry (codes "02-00-00-00-0A") ++ rest) ≡ Err (fault.OutOfRange (record { section = section.Static; index = 1; field = field.Address }))
unfolding toml_on_literals utf8_valid_len is_utf8 chars read_document read_arrays read_plan read_policing read_change read_change_time read_list_parts read_port_by_lookup read_port_lists read_vlan read_static read_stream_by_lookup read_gate read_gate_lists read_meter read_filter_by_lookup read_required read_optional read_or_default number_in_range switch known_number speed text_value number_array number_set eight_in_range known_ports read_list parse_address
five_pairs = refl

over_the_cycle : plan (port_1 ++ port_2 ++ port_3 (codes "999999") ++ forwarding ++ rest) ≡ Err (fault.BadList section.Port 3 OverCycle)
unfolding toml_on_literals utf8_valid_len is_utf8 chars read_document read_arrays read_plan read_policing read_change read_change_time read_list_parts read_port_by_lookup read_port_lists read_vlan read_static read_stream_by_lookup read_gate read_gate_lists read_meter read_filter_by_lookup read_required read_optional read_or_default number_in_range switch known_number speed text_value number_array number_set eight_in_range known_ports read_list parse_address
over_the_cycle = refl

state_beside_entries : plan (ports ++ forwarding ++ stream ++ gates (codes "state = \"open\"\n") ++ filters (codes "1")) ≡ Err (fault.UnknownKey section.Gate 1)
unfolding toml_on_literals utf8_valid_len is_utf8 chars read_document read_arrays read_plan read_policing read_change read_change_time read_list_parts read_port_by_lookup read_port_lists read_vlan read_static read_stream_by_lookup read_gate read_gate_lists read_meter read_filter_by_lookup read_required read_optional read_or_default number_in_range switch known_number speed text_value number_array number_set eight_in_range known_ports read_list parse_address
state_beside_entries = refl

no_such_gate : plan (ports ++ forwarding ++ stream ++ gates [] ++ filters (codes "5")) ≡ Err (fault.Unresolved (record { section = section.Filter; index = 1; field = field.Gate }))
unfolding toml_on_literals utf8_valid_len is_utf8 chars read_document read_arrays read_plan read_policing read_change read_change_time read_list_parts read_port_by_lookup read_port_lists read_vlan read_static read_stream_by_lookup read_gate read_gate_lists read_meter read_filter_by_lookup read_required read_optional read_or_default number_in_range switch known_number speed text_value number_array number_set eight_in_range known_ports read_list parse_address
no_such_gate = refl

-- Schedule change.

-- Schedule change at time `moment`.
abbrev change : List ℕ → List ℕ
change moment = codes "[[change]]\nat = " ++ moment ++ codes "\n"

-- Third port with a list after the schedule change, by the cycle times of both lists.
abbrev port_exchanged : List ℕ → List ℕ → List ℕ
port_exchanged cycle next_cycle = port_3 cycle ++ codes "next_cycle = " ++ next_cycle ++ codes "\nnext_gates = [{ open = [0], ns = 1000 }]\n"

-- Gate control lists of each port of a plan.
abbrev lists : Result (Plan (Unit {0})) PlanFault → List (Option (Egress (Unit {0})))
lists (Ok p) = map (λ q. q.list) p.ports
lists (Err e) = []

one_list_then_another : lists (plan (change (codes "2000000") ++ port_1 ++ port_exchanged (codes "1000000") (codes "1000"))) ≡ None ∷ Some (egress.Joined (record {
  old = record { base = 0; cycle = 1000000; entries = (128, 500000) ∷ (127, 500000) ∷ [] };
  new = record { base = 0; cycle = 1000; entries = (1, 1000) ∷ [] };
  at = 2000000;
})) ∷ []
unfolding toml_on_literals utf8_valid_len is_utf8 chars read_document read_arrays read_plan read_policing read_change read_change_time read_list_parts read_port_by_lookup read_port_lists read_vlan read_static read_stream_by_lookup read_gate read_gate_lists read_meter read_filter_by_lookup read_required read_optional read_or_default number_in_range switch known_number speed text_value number_array number_set eight_in_range known_ports read_list parse_address
one_list_then_another = refl

a_list_that_goes_on : lists (plan (change (codes "2000000") ++ port_3 (codes "1000000"))) ≡ Some (egress.Cyclic (record { base = 0; cycle = 1000000; entries = (128, 500000) ∷ (127, 500000) ∷ [] })) ∷ []
unfolding toml_on_literals utf8_valid_len is_utf8 chars read_document read_arrays read_plan read_policing read_change read_change_time read_list_parts read_port_by_lookup read_port_lists read_vlan read_static read_stream_by_lookup read_gate read_gate_lists read_meter read_filter_by_lookup read_required read_optional read_or_default number_in_range switch known_number speed text_value number_array number_set eight_in_range known_ports read_list parse_address
a_list_that_goes_on = refl

no_change : plan (port_1 ++ port_exchanged (codes "1000000") (codes "1000")) ≡ Err (fault.UnknownKey section.Port 2)
unfolding toml_on_literals utf8_valid_len is_utf8 chars read_document read_arrays read_plan read_policing read_change read_change_time read_list_parts read_port_by_lookup read_port_lists read_vlan read_static read_stream_by_lookup read_gate read_gate_lists read_meter read_filter_by_lookup read_required read_optional read_or_default number_in_range switch known_number speed text_value number_array number_set eight_in_range known_ports read_list parse_address
no_change = refl

the_first_list_first : plan (change (codes "2000000") ++ port_exchanged (codes "999999") (codes "0")) ≡ Err (fault.BadList section.Port 1 OverCycle)
unfolding toml_on_literals utf8_valid_len is_utf8 chars read_document read_arrays read_plan read_policing read_change read_change_time read_list_parts read_port_by_lookup read_port_lists read_vlan read_static read_stream_by_lookup read_gate read_gate_lists read_meter read_filter_by_lookup read_required read_optional read_or_default number_in_range switch known_number speed text_value number_array number_set eight_in_range known_ports read_list parse_address
the_first_list_first = refl

the_list_that_takes_over : plan (change (codes "2000000") ++ port_exchanged (codes "1000000") (codes "0")) ≡ Err (fault.BadList section.Port 1 CycleOutOfRange)
unfolding toml_on_literals utf8_valid_len is_utf8 chars read_document read_arrays read_plan read_policing read_change read_change_time read_list_parts read_port_by_lookup read_port_lists read_vlan read_static read_stream_by_lookup read_gate read_gate_lists read_meter read_filter_by_lookup read_required read_optional read_or_default number_in_range switch known_number speed text_value number_array number_set eight_in_range known_ports read_list parse_address
the_list_that_takes_over = refl

a_change_at_the_end_of_time : plan (change (codes "4000000000000000000") ++ port_1) ≡ Err (fault.OutOfRange (record { section = section.Change; index = 1; field = field.At }))
unfolding toml_on_literals utf8_valid_len is_utf8 chars read_document read_arrays read_plan read_policing read_change read_change_time read_list_parts read_port_by_lookup read_port_lists read_vlan read_static read_stream_by_lookup read_gate read_gate_lists read_meter read_filter_by_lookup read_required read_optional read_or_default number_in_range switch known_number speed text_value number_array number_set eight_in_range known_ports read_list parse_address
a_change_at_the_end_of_time = refl

-- Commands.

-- Commands in a text, for a plan with one port, two gates and two filters.
abbrev commands : List ℕ → Result (List Command) PlanFault
commands t = plan (port_1 ++ gates [] ++ filters (codes "1")) >>= λ p. text_commands p t

-- Command with a time, a flag and a number.
abbrev command : List ℕ → List ℕ → List ℕ → List ℕ
command at flag number = codes "[[command]]\nat = " ++ at ++ codes "\nclear = \"" ++ flag ++ codes "\"\nnumber = " ++ number ++ codes "\n"

no_command : commands (codes "") ≡ Ok []
unfolding toml_on_literals utf8_valid_len is_utf8 chars read_document read_arrays read_plan read_policing read_change read_change_time read_list_parts read_port_by_lookup read_port_lists read_vlan read_static read_stream_by_lookup read_gate read_gate_lists read_meter read_filter_by_lookup read_required read_optional read_or_default number_in_range switch known_number speed text_value number_array number_set eight_in_range known_ports read_list parse_address read_command command_items
no_command = refl

two_at_one_moment : commands (command (codes "5") (codes "blocked") (codes "10") ++ command (codes "5") (codes "octets") (codes "99")) ≡ Ok (record { at = 5; clear = clear.Blocked; number = 10 } ∷ record { at = 5; clear = clear.Octets; number = 99 } ∷ [])
unfolding toml_on_literals utf8_valid_len is_utf8 chars read_document read_arrays read_plan read_policing read_change read_change_time read_list_parts read_port_by_lookup read_port_lists read_vlan read_static read_stream_by_lookup read_gate read_gate_lists read_meter read_filter_by_lookup read_required read_optional read_or_default number_in_range switch known_number speed text_value number_array number_set eight_in_range known_ports read_list parse_address read_command command_items
two_at_one_moment = refl

before_the_one_before : commands (command (codes "5") (codes "rx") (codes "1") ++ command (codes "4") (codes "rx") (codes "1")) ≡ Err (fault.OutOfRange (record { section = section.Command; index = 2; field = field.At }))
unfolding toml_on_literals utf8_valid_len is_utf8 chars read_document read_arrays read_plan read_policing read_change read_change_time read_list_parts read_port_by_lookup read_port_lists read_vlan read_static read_stream_by_lookup read_gate read_gate_lists read_meter read_filter_by_lookup read_required read_optional read_or_default number_in_range switch known_number speed text_value number_array number_set eight_in_range known_ports read_list parse_address read_command command_items
before_the_one_before = refl

at_the_end_of_time : commands (command (codes "4000000000000000000") (codes "rx") (codes "1")) ≡ Err (fault.OutOfRange (record { section = section.Command; index = 1; field = field.At }))
unfolding toml_on_literals utf8_valid_len is_utf8 chars read_document read_arrays read_plan read_policing read_change read_change_time read_list_parts read_port_by_lookup read_port_lists read_vlan read_static read_stream_by_lookup read_gate read_gate_lists read_meter read_filter_by_lookup read_required read_optional read_or_default number_in_range switch known_number speed text_value number_array number_set eight_in_range known_ports read_list parse_address read_command command_items
at_the_end_of_time = refl

no_such_flag : commands (command (codes "5") (codes "green") (codes "1")) ≡ Err (fault.OutOfRange (record { section = section.Command; index = 1; field = field.Clear }))
unfolding toml_on_literals utf8_valid_len is_utf8 chars read_document read_arrays read_plan read_policing read_change read_change_time read_list_parts read_port_by_lookup read_port_lists read_vlan read_static read_stream_by_lookup read_gate read_gate_lists read_meter read_filter_by_lookup read_required read_optional read_or_default number_in_range switch known_number speed text_value number_array number_set eight_in_range known_ports read_list parse_address read_command command_items
no_such_flag = refl

a_gate_and_no_filter : commands (command (codes "5") (codes "blocked") (codes "1")) ≡ Err (fault.Unresolved (record { section = section.Command; index = 1; field = field.Number }))
unfolding toml_on_literals utf8_valid_len is_utf8 chars read_document read_arrays read_plan read_policing read_change read_change_time read_list_parts read_port_by_lookup read_port_lists read_vlan read_static read_stream_by_lookup read_gate read_gate_lists read_meter read_filter_by_lookup read_required read_optional read_or_default number_in_range switch known_number speed text_value number_array number_set eight_in_range known_ports read_list parse_address read_command command_items
a_gate_and_no_filter = refl

no_section_of_commands : commands (codes "port = []\n") ≡ Err (fault.UnknownKey section.Top 0)
unfolding toml_on_literals utf8_valid_len is_utf8 chars read_document read_arrays read_plan read_policing read_change read_change_time read_list_parts read_port_by_lookup read_port_lists read_vlan read_static read_stream_by_lookup read_gate read_gate_lists read_meter read_filter_by_lookup read_required read_optional read_or_default number_in_range switch known_number speed text_value number_array number_set eight_in_range known_ports read_list parse_address read_command command_items
no_section_of_commands = refl
