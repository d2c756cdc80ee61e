use Rattle.std.proofs.Common.{◌≡◌, ◌<◌, ◌^◌, [], All, length, drop}
use Rattle.toml.specs.View.{items_view}
use Rattle.net_file.specs.Sections.{resolve_more_hops}
use Rattle.net_file.proofs.stream_row.resolve_hops.Given as goal

abbrev pub invariant-items : goal.invariant-items
invariant-items g l = record {
  count : length l.hops.items ≡ l.item-index;
  there : All (λ h. h.0 < length l.bridges) l.hops.items;
  numbers : All (λ h. h.1 < 2 ^ 32) l.hops.items;
  same : resolve_more_hops l.place l.bridges l.hops.items (items_view (drop l.item-index l.items)) ≡ resolve_more_hops l.place l.bridges [] (items_view l.items);
}
