use Rattle.std.proofs.Common.{◌≡◌, take, false, fold}
use Rattle.clap.specs.Words.{app_of}
use Rattle.clap.specs.declared.builder.command.Command.TheViews.{out-Command as fields_of}
use Rattle.app_cli.specs.CommandLine.{with_word}
use Rattle.app_cli.proofs.command.with_words.Given as goal

abbrev pub invariant-loop-word : goal.invariant-loop-word
invariant-loop-word l = (app_of l.grown ≡ fold with_word (app_of l.initial.grown) (take l.word-index l.words))
    × ((fields_of l.initial.grown).has_globals ≡ false → (fields_of l.grown).has_globals ≡ false)
