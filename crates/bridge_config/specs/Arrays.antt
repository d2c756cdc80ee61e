-- Arrays of a document's sections. No public clause uses these definitions.
use Rattle.std.specs.Prelude.{◌≡◌, ◌<◌, ◌≤◌, true, length}
use Rattle.toml.specs.View.{items_view}
use Rattle.bridge_schema.specs.Readers.{are_tables}
use Rattle.bridge_config.specs.declared.section_arrays.SectionArrays.{SectionArrays}
use Rattle.bridge_config.specs.Document as doc

-- The sections of a plan that the code has read, in the type that definitions use.
abbrev pub array_items : SectionArrays → doc.SectionItems
array_items a = record {
  changes = items_view a.changes.now;
  ports = items_view a.ports.now;
  vlans = items_view a.vlans.now;
  statics = items_view a.statics.now;
  streams = items_view a.streams.now;
  gates = items_view a.gates.now;
  meters = items_view a.meters.now;
  filters = items_view a.filters.now;
}

-- Holds if each array is within the limit of its section, and there is a port.
pub record AreWithinLimits (a : SectionArrays) : Type 0 where
  pub some_port : 0 < length a.ports.now
  pub tables : are_tables (items_view a.ports.now) ≡ true
  pub ports : length a.ports.now ≤ 16
  pub vlans : length a.vlans.now ≤ 4094
  pub statics : length a.statics.now ≤ 4096
  pub streams : length a.streams.now ≤ 4096
  pub gates : length a.gates.now ≤ 1024
  pub meters : length a.meters.now ≤ 1024
  pub filters : length a.filters.now ≤ 1024
