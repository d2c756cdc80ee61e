use Rattle.std.proofs.Common.{rules}
use Rattle.clap.specs.Words.{app_of}
use Rattle.app_cli.proofs.Described.{one_further}
use Rattle.app_cli.proofs.command.with_commands.Goals as goal

pub loop-description-preserved : goal.loop-description-preserved
loop-description-preserved c =
    one_further _ _ (app_of c.loop-description.grown) _ c.args.descriptions.now c.loop-description.description-index _ (search rules) c.loop-description.invariant c.in_ok-grown.ensures
