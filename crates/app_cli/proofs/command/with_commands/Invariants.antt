use Rattle.std.proofs.Common.{◌≡◌, take, fold}
use Rattle.clap.specs.Words.{app_of, with_subcommand}
use Rattle.app_cli.specs.CommandLine.{described}
use Rattle.app_cli.proofs.command.with_commands.Given as goal

abbrev pub invariant-loop-description : goal.invariant-loop-description
invariant-loop-description l = app_of l.grown ≡ fold (λ app d. with_subcommand app (described d.now).top) (app_of l.initial.grown) (take l.description-index l.descriptions)
