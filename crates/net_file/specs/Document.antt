-- The network that a text describes, or the text's first fault.
use Rattle.std.specs.Prelude.{ℕ, Bool, not, List, [], ◌∷◌, Result, Ok}
use Rattle.toml.specs.Data.{Items, Members}
use Rattle.bridge_schema.specs.Readers.{◌>>=◌, is_empty}
use Rattle.bridge_schema.specs.Reading as reading
use Rattle.net_file.specs.declared.fault.NetSection.{NetSection}
use Rattle.net_file.specs.declared.fault.NetSection.TheVariants as section
use Rattle.net_file.specs.declared.fault.NetField.TheVariants as field
use Rattle.net_file.specs.declared.fault.NetFault.{NetFault}
use Rattle.net_file.specs.declared.fault.NetFault.TheVariants as fault
use Rattle.net_file.specs.Faults.{section_name}
use Rattle.net_file.specs.Model.{Network}
use Rattle.net_file.specs.Keys.{provided, section_items, instances}
use Rattle.net_file.specs.Sections.{read_bridge, read_link_in_list, read_stream}

-- The sections that a network file may have, in reading order.
abbrev pub net_sections : List NetSection
net_sections = section.Bridge ∷ section.Link ∷ section.Stream ∷ []

-- True if a document has no key except these sections.
abbrev pub has_only_sections : List NetSection → Members → Bool
has_only_sections = reading.are_known section_name

-- The items of a network's three sections, before any is read.
pub record Arrays : Type 0 where
  pub bridges : Items
  pub links : Items
  pub streams : Items

-- The fault of a network without bridges: the section of bridges is missing at the top.
abbrev pub no_bridges : NetFault
no_bridges = fault.Missing (record { section = section.Top; index = 0; field = field.Bridge })

-- Reads the three sections as arrays of tables, or gives the first fault at the top of the document. It reads no
-- instance yet.
unfoldable pub read_arrays : Members → Result Arrays NetFault
read_arrays members = do
  keys ← provided (has_only_sections net_sections members) (fault.UnknownKey section.Top 0)
  bridges ← section_items section.Bridge members
  some ← provided (not (is_empty bridges)) no_bridges
  links ← section_items section.Link members
  streams ← section_items section.Stream members
  Ok (record { bridges = bridges; links = links; streams = streams })

-- Reads the instances of the three sections, section by section, or gives the first fault. An instance may depend on
-- earlier ones.
unfoldable pub read_sections : Arrays → Result Network NetFault
read_sections arrays = do
  bridges ← instances read_bridge arrays.bridges
  links ← instances (read_link_in_list bridges) arrays.links
  streams ← instances (read_stream bridges) arrays.streams
  Ok (record { bridges = bridges; links = links; streams = streams })

-- The network that a TOML document describes, or its first fault.
abbrev pub network_of_document : Members → Result Network NetFault
network_of_document members = read_arrays members >>= read_sections

-- The TOML document of a text, or the fault `TooLong` or `Syntax`.
unfoldable pub read_document : List ℕ → Result Members NetFault
read_document = reading.document_of fault.TooLong fault.Syntax

-- The network that the text of a network file describes, or its first fault.
abbrev pub network_of_text : List ℕ → Result Network NetFault
network_of_text text = read_document text >>= network_of_document
