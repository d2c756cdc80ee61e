-- Plan in a text, and commands in a text; or the first fault in order.
use Rattle.std.specs.Prelude.{ℕ, Bool, not, List, [], ◌∷◌, Option, Some, None, Result, Ok}
use Rattle.toml.specs.Data.{Data, table, Items, no_items, item, Members}
use Rattle.bridge_schema.specs.declared.plan_fault.Section.{Section}
use Rattle.bridge_schema.specs.declared.plan_fault.Section.TheVariants as section
use Rattle.bridge_schema.specs.declared.plan_fault.PlanFault.{PlanFault}
use Rattle.bridge_schema.specs.declared.plan_fault.PlanFault.TheVariants as fault
use Rattle.bridge_schema.specs.Keys.{limit_of, section_name}
use Rattle.bridge_schema.specs.Readers.{◌>>=◌, instances, is_empty}
use Rattle.bridge_schema.specs.Reading as reading
use Rattle.bridge_config.specs.declared.command.Command.{Command}
use Rattle.bridge_config.specs.Model.{Policing, Plan}
use Rattle.bridge_config.specs.Rules.{port_set}
use Rattle.bridge_config.specs.Sections.{provided, read_change_time, read_port, read_vlan, read_static, read_stream, read_gate, read_meter, read_filter}
use Rattle.bridge_config.specs.Commands.{read_command}

-- Items of a section of a document: an array of tables within the section's limit; no items if the section is absent.
abbrev pub section_items : Section → Members → Result Items PlanFault
section_items = reading.items_of (λ section. fault.NotAList section) (λ section. fault.TooMany section) limit_of section_name

-- Sections that a plan may have, in reading order.
abbrev pub plan_sections : List Section
plan_sections = section.Change ∷ section.Port ∷ section.Vlan ∷ section.Static ∷ section.Stream ∷ section.Gate ∷ section.Meter ∷ section.Filter ∷ []

-- True if the document's top level has only these sections.
abbrev pub has_only_sections : List Section → Members → Bool
has_only_sections = reading.are_known section_name

-- Tables of all sections of a plan, before they are read as instances.
pub record SectionItems : Type 0 where
  pub changes : Items
  pub ports : Items
  pub vlans : Items
  pub statics : Items
  pub streams : Items
  pub gates : Items
  pub meters : Items
  pub filters : Items

-- Reads the sections as arrays of tables, or returns the first fault. Instances are read later.
unfoldable pub read_arrays : Members → Result SectionItems PlanFault
read_arrays members = do
  keys ← provided (has_only_sections plan_sections members) (fault.UnknownKey section.Top 0)
  changes ← section_items section.Change members
  ports ← section_items section.Port members
  some ← provided (not (is_empty ports)) fault.NoPorts
  vlans ← section_items section.Vlan members
  statics ← section_items section.Static members
  streams ← section_items section.Stream members
  gates ← section_items section.Gate members
  meters ← section_items section.Meter members
  filters ← section_items section.Filter members
  Ok (record { changes = changes; ports = ports; vlans = vlans; statics = statics; streams = streams; gates = gates; meters = meters; filters = filters })

-- First item of an array; `None` if the array is empty.
abbrev pub first_item : Items → Option Data
first_item no_items = None
first_item (item d _) = Some d

-- Time of the schedule change in an item, or the item's fault; `None` if the item isn't a table or is absent.
abbrev pub item_change : Option Data → Result (Option ℕ) PlanFault
item_change (Some (table ms)) = read_change_time 1 ms >>= λ moment. Ok (Some moment)
item_change _ = Ok None

-- Time of the plan's schedule change; `None` if the plan has no change. The section has at most one item.
unfoldable pub read_change : Items → Result (Option ℕ) PlanFault
read_change items = item_change (first_item items)

-- Reads the stream gates, meters and filters. Lists of gates depend on the schedule change, and filters on the gates
-- and meters.
unfoldable pub read_policing : {A : Type 0} → Option ℕ → SectionItems → Result (Policing A) PlanFault
read_policing change arrays = do
  gates ← instances (read_gate change) arrays.gates
  meters ← instances read_meter arrays.meters
  filters ← instances (read_filter gates meters) arrays.filters
  Ok (record { gates = gates; meters = meters; filters = filters })

-- Reads the instances section by section, after `read_arrays`. Each section depends on earlier sections.
unfoldable pub read_plan : {A : Type 0} → SectionItems → Result (Plan A) PlanFault
read_plan arrays = do
  change ← read_change arrays.changes
  ports ← instances (read_port change) arrays.ports
  vlans ← instances (read_vlan (port_set ports)) arrays.vlans
  statics ← instances (read_static (port_set ports) vlans) arrays.statics
  streams ← instances (read_stream ports) arrays.streams
  policing ← read_policing change arrays
  Ok (record { ports = ports; database = record { vlans = vlans; statics = statics }; streams = streams; gates = policing.gates; meters = policing.meters; filters = policing.filters })

-- Plan in a document, or the first fault: sections first, then instances.
abbrev pub document_plan : {A : Type 0} → Members → Result (Plan A) PlanFault
document_plan members = read_arrays members >>= read_plan

-- Document in a text of at most 1,048,576 octets of UTF-8; or the fault `TooLong` or `Syntax`.
unfoldable pub read_document : List ℕ → Result Members PlanFault
read_document = reading.document_of fault.TooLong fault.Syntax

-- Plan in a text, or the first fault. Contracts of readers of plans state this result.
abbrev pub text_plan : {A : Type 0} → List ℕ → Result (Plan A) PlanFault
text_plan text = read_document text >>= document_plan

-- Items of the only section of a document of commands, or the first fault.
unfoldable pub command_items : Members → Result Items PlanFault
command_items members = do
  keys ← provided (has_only_sections (section.Command ∷ []) members) (fault.UnknownKey section.Top 0)
  section_items section.Command members

-- Commands in a document for a plan: first the array of tables, then each command.
abbrev pub document_commands : {A : Type 0} → Plan A → Members → Result (List Command) PlanFault
document_commands plan members = command_items members >>= instances (read_command plan)

-- Commands in a text for the bridge of a plan, or the first fault.
abbrev pub text_commands : {A : Type 0} → Plan A → List ℕ → Result (List Command) PlanFault
text_commands plan text = read_document text >>= document_commands plan
