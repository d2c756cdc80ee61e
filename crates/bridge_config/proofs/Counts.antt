-- Number of items in an array.
use Rattle.std.proofs.Common.{◌≡◌, ℕ, ◌+◌, ◌<◌, true, List, [], length, Option, Ok, arith}
use Rattle.toml.specs.View.{items_view}
use Rattle.toml.specs.declared.value.Value.{Value}
use Rattle.bridge_schema.specs.Readers.{are_tables, count_items, instances}
use Rattle.bridge_schema.proofs.Counts.{count_of_view, counted}
use Rattle.bridge_config.specs.declared.ports.PortPlan.{PortPlan}
use Rattle.bridge_config.specs.Sections.{read_port}

pub as_many : {A : Type 0} (change : Option ℕ) (ports : List (PortPlan A)) (vs : List Value) → instances (read_port change) (items_view vs) ≡ Ok ports → are_tables (items_view vs) ≡ true → 0 < length vs → 0 < length ports
as_many change ports vs h tables some =
    let all : length ports ≡ 0 + count_items (items_view vs) = counted (read_port change) [] 1 (items_view vs) ports tables h in
    omega (arith, all, count_of_view vs, some)
