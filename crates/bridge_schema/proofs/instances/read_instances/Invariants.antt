use Rattle.std.proofs.Common.{◌≡◌, ◌≤◌, ◌+◌, length, drop}
use Rattle.toml.specs.View.{items_view}
use Rattle.bridge_schema.specs.Reading.{instances, further_instances}
use Rattle.bridge_schema.proofs.instances.read_instances.Given as goal

abbrev pub invariant-items : goal.invariant-items
invariant-items g l = record {
  keeps : g.S.SectionReader.Keeps l.section l.made.items;
  few : length l.made.items ≤ l.item-index;
  index : l.index ≡ l.item-index + 1;
  same : further_instances (g.S.SectionReader.reading l.section) l.made.items l.index (items_view (drop l.item-index l.items)) ≡ instances (g.S.SectionReader.reading l.section) (items_view l.items);
}
