use Rattle.toml.proofs.Views.{table_get}
use Rattle.bridge_schema.proofs.presence.get_value.Goals as goal

pub returns : goal.returns
returns c = record { value = table_get c.get.result c.args.key.now c.args.table.now.entries c.get.ensures.value }
