use Rattle.std.proofs.Common.{◌≡◌, ◌&&◌, drop, nat_eq}
use Rattle.std.specs.List.{list_any}
use Rattle.std.specs.Cmp.Lexicographic.{pointwise}
use Rattle.toml.specs.View.{table_view}
use Rattle.bridge_schema.specs.declared.keys.KeyRule.{KeyRule}
use Rattle.bridge_schema.specs.Keys.{key_name}
use Rattle.bridge_schema.specs.Readers.{is_key_name}
use Rattle.bridge_schema.specs.AllowedKeys.{is_allowed_presence, allowed_keys}
use Rattle.bridge_schema.proofs.allowed_keys.is_allowed_name.Given as goal

abbrev pub invariant-keys : goal.invariant-keys
invariant-keys l =
    list_any (λ (k : KeyRule). pointwise nat_eq (key_name k.0) l.name && is_allowed_presence l.has_change (table_view l.table) k.2) (drop l.key-index l.keys)
    ≡ is_key_name (allowed_keys l.has_change (table_view l.table) l.keys) l.name
