use Rattle.app_cli.proofs.Described.{all_added, same_if}
use Rattle.app_cli.proofs.command.commands_of.Goals as goal

pub returns : goal.returns
returns c = same_if _ _ _ c.with_commands.result c.with_commands.ensures (all_added (λ d. d.now) _ _ c.in_ok-program.ensures c.all_descriptions.ensures)
