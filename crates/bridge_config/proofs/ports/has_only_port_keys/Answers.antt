use Rattle.std.proofs.Common.{ap, ◌∙◌}
use Rattle.toml.specs.View.{table_view}
use Rattle.bridge_schema.specs.declared.keys.TheConstants.{PORT_KEYS}
use Rattle.bridge_schema.specs.AllowedKeys.{has_allowed_keys}
use Rattle.bridge_config.proofs.Tables.{port_alike}
use Rattle.bridge_config.proofs.ports.has_only_port_keys.Goals as goal

pub returns : goal.returns
returns c =
    let table = table_view c.args.table.now in
    c.has_allowed_keys.ensures.known ∙ (ap (λ change. has_allowed_keys change PORT_KEYS table) c.is_some.ensures ∙ port_alike c.args.change table)
