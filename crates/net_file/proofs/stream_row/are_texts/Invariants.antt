use Rattle.std.proofs.Common.{◌≡◌, drop}
use Rattle.toml.specs.View.{items_view}
use Rattle.net_file.specs.Sections.{are_texts}
use Rattle.net_file.proofs.stream_row.are_texts.Given as goal

abbrev pub invariant-items : goal.invariant-items
invariant-items l = are_texts (items_view (drop l.item-index l.items)) ≡ are_texts (items_view l.items)
