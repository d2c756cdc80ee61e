-- Commands for the bridge of a plan: their targets, their order, and how a command is read from a table.
use Rattle.std.specs.Prelude.{◌≤◌, ℕ, ◌-◌, Bool, IsTrue, List, [], ◌∷◌, Result, Ok}
use Rattle.toml.specs.Data.{Members}
use Rattle.bridge_limits.specs.Members.{IsMember, IsOrdered}
use Rattle.bridge_limits.specs.declared.TheConstants.{END_OF_TIME}
use Rattle.bridge_filter.specs.declared.Clear.{Clear}
use Rattle.bridge_filter.specs.declared.Clear.TheVariants as clear
use Rattle.bridge_filter.specs.Plans.{is_listed}
use Rattle.bridge_schema.specs.declared.plan_fault.Section.TheVariants as section
use Rattle.bridge_schema.specs.declared.plan_fault.Field.{Field}
use Rattle.bridge_schema.specs.declared.plan_fault.Field.TheVariants as field
use Rattle.bridge_schema.specs.declared.plan_fault.KeyLocation.{KeyLocation}
use Rattle.bridge_schema.specs.declared.plan_fault.PlanFault.{PlanFault}
use Rattle.bridge_schema.specs.declared.plan_fault.PlanFault.TheVariants as fault
use Rattle.bridge_schema.specs.Readers.{◌>>=◌, read_required, number_in_range, known_number, text_value, has_known_keys}
use Rattle.bridge_config.specs.declared.command.Command.{Command}
use Rattle.bridge_schema.specs.declared.ranges.TheConstants.{LARGEST_NUMBER}
use Rattle.bridge_config.specs.Model.{Plan}
use Rattle.bridge_config.specs.Sections.{provided}
use Rattle.bridge_config.specs.Texts.{parse_flag}

-- True if the plan `p` has the filter, stream gate or meter with number `n` whose flag the command clears.
abbrev pub has_instance : {A : Type 0} → Plan A → Clear → ℕ → Bool
has_instance p clear.Blocked n = is_listed n p.filters
has_instance p clear.Rx n = is_listed n p.gates
has_instance p clear.Octets n = is_listed n p.gates
has_instance p clear.Red n = is_listed n p.meters

-- Holds if the times of the commands never fall, and the plan has the filter, gate or meter that each command names.
pub record AreCommands {A : Type 0} (p : Plan A) (commands : List Command) : Type 0 where
  pub rise : IsOrdered (λ a b. a.at ≤ b.at) commands
  pub instances : (c : Command) → IsMember c commands → IsTrue (has_instance p c.clear c.number)

-- Time in ns of the last command; `t` if there is no command. Later commands must not be earlier.
abbrev pub last_time : ℕ → List Command → ℕ
last_time t [] = t
last_time t (c ∷ cs) = last_time c.at cs

-- True if the table has only keys of a command.
abbrev pub has_command_keys : Members → Bool
has_command_keys members = has_known_keys (field.At ∷ field.Clear ∷ field.Number ∷ []) members

-- Reads a command. The command must name an existing instance of the plan, and may not be earlier than the previous
-- command.
unfoldable pub read_command : {A : Type 0} → Plan A → List Command → ℕ → Members → Result Command PlanFault
read_command plan earlier index members =
    let at : Field → KeyLocation = λ key. record { section = section.Command; index = index; field = key } in do
      keys ← provided (has_command_keys members) (fault.UnknownKey section.Command index)
      moment ← read_required (at field.At) field.At (number_in_range (last_time 0 earlier) (END_OF_TIME - 1)) members
      flag ← read_required (at field.Clear) field.Clear (text_value parse_flag) members
      number ← read_required (at field.Number) field.Number (known_number (has_instance plan flag) 0 LARGEST_NUMBER) members
      Ok (record { at = moment; clear = flag; number = number })
