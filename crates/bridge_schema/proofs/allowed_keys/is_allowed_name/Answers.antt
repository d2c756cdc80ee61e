use Rattle.toml.specs.View.{table_view}
use Rattle.bridge_schema.proofs.Standing.{among_standing}
use Rattle.bridge_schema.proofs.allowed_keys.is_allowed_name.Goals as goal

pub keys-init : goal.keys-init
keys-init c = among_standing c.args.has_change (table_view c.args.table.now) c.args.keys.now c.args.name.now
