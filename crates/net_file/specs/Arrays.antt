-- Properties of the arrays of a document's sections. No contract of a public function uses them.
use Rattle.std.specs.Prelude.{◌≡◌, ◌<◌, ◌≤◌, true, length}
use Rattle.toml.specs.View.{items_view}
use Rattle.bridge_schema.specs.Readers.{are_tables}
use Rattle.net_file.specs.declared.network_file.SectionArrays.{SectionArrays}
use Rattle.net_file.specs.Document as doc

-- The items of the code's arrays as values of the definition `Arrays`, for contracts of `read_arrays` and
-- `read_sections`.
abbrev pub items_of_arrays : SectionArrays → doc.Arrays
items_of_arrays a = record { bridges = items_view a.bridges.now; links = items_view a.links.now; streams = items_view a.streams.now }

-- Holds if there is a bridge, and no array has more items than its section allows.
pub record AreFew (a : SectionArrays) : Type 0 where
  pub some_bridge : 0 < length a.bridges.now
  pub tables : are_tables (items_view a.bridges.now) ≡ true
  pub bridges : length a.bridges.now ≤ 64
  pub links : length a.links.now ≤ 512
  pub streams : length a.streams.now ≤ 1024
