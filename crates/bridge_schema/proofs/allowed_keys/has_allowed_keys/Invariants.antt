use Rattle.std.proofs.Common.{◌≡◌}
use Rattle.toml.specs.View.{members_view, table_view}
use Rattle.bridge_schema.specs.Readers.{has_known_keys}
use Rattle.bridge_schema.specs.AllowedKeys.{allowed_keys}
use Rattle.bridge_schema.proofs.allowed_keys.has_allowed_keys.Given as goal

abbrev pub invariant-members : goal.invariant-members
invariant-members l =
    let keys = allowed_keys l.has_change (table_view l.table) l.keys in
    (goal.iterator-members).can_next l.key-iterator × (goal.iterator-members).is_finite l.key-iterator
    × (has_known_keys keys (members_view l.key-iterator) ≡ has_known_keys keys (members_view l.table.entries))
