-- Number of an array's items, and of a section's instances.
use Rattle.std.proofs.Common.{◌≡◌, ◌+◌, ◌<◌, ◌≤◌, true, List, [], length, Ok, arith}
use Rattle.toml.specs.View.{items_view}
use Rattle.toml.specs.declared.value.Value.{Value}
use Rattle.bridge_schema.specs.Reading.{are_tables, count_items, instances}
use Rattle.bridge_schema.proofs.Counts.{count_of_view, counted}
use Rattle.net_file.specs.Model.{Bridge}
use Rattle.net_file.specs.Sections.{read_bridge}

-- If the array has an item, the network has a bridge.
pub some_bridge : (bridges : List Bridge) (vs : List Value) → instances read_bridge (items_view vs) ≡ Ok bridges → are_tables (items_view vs) ≡ true → 0 < length vs → 1 ≤ length bridges
some_bridge bridges vs h tables some =
    let all : length bridges ≡ 0 + count_items (items_view vs) = counted read_bridge [] 1 (items_view vs) bridges tables h in
    omega (arith, all, count_of_view vs, some)
