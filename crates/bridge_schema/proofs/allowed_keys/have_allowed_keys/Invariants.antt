use Rattle.std.proofs.Common.{◌≡◌, drop}
use Rattle.toml.specs.View.{items_view}
use Rattle.bridge_schema.specs.AllowedKeys.{have_allowed_keys}
use Rattle.bridge_schema.proofs.allowed_keys.have_allowed_keys.Given as goal

abbrev pub invariant-items : goal.invariant-items
invariant-items l = have_allowed_keys l.keys (items_view (drop l.item-index l.items)) ≡ have_allowed_keys l.keys (items_view l.items)
