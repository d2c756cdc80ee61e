-- The rows of a traffic file, or its first fault.
use Rattle.std.specs.Prelude.{ℕ, List, [], ◌∷◌, Result}
use Rattle.toml.specs.Data.{Items, Members}
use Rattle.bridge_schema.specs.Readers.{◌>>=◌}
use Rattle.net_file.specs.declared.fault.NetSection.TheVariants as section
use Rattle.net_file.specs.declared.fault.NetFault.{NetFault}
use Rattle.net_file.specs.declared.fault.NetFault.TheVariants as fault
use Rattle.net_file.specs.Document.{has_only_sections, read_document}
use Rattle.net_file.specs.Keys.{instances, section_items, provided}
use Rattle.net_file.specs.declared.traffic_row.TalkerRow.{TalkerRow}
use Rattle.net_file.specs.TrafficRows.{read_row_in_list}

-- The items of the document's section `traffic`, or the first fault at the top of the document.
unfoldable pub row_items : Members → Result Items NetFault
row_items members = do
  keys ← provided (has_only_sections (section.Traffic ∷ []) members) (fault.UnknownKey section.Top 0)
  section_items section.Traffic members

-- The rows that the TOML document of a traffic file describes, or its first fault.
abbrev pub rows_of_document : Members → Result (List TalkerRow) NetFault
rows_of_document members = row_items members >>= λ items. instances read_row_in_list items

-- The rows that the text of a traffic file describes, or its first fault.
abbrev pub rows_of_text : List ℕ → Result (List TalkerRow) NetFault
rows_of_text text = read_document text >>= rows_of_document
