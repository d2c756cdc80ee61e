use Rattle.std.proofs.Common.{rules, ◌≡◌}
use Rattle.clap.specs.Words.{app_of, rule_of, with_rule}
use Rattle.app_cli.proofs.Described.{none_global, one_more}
use Rattle.app_cli.proofs.command.with_words.Goals as goal

pub loop-word-preserved : goal.loop-word-preserved
loop-word-preserved c =
    let shape : app_of c.in_ok-grown.grown ≡ with_rule (app_of c.loop-word.grown) (rule_of c.clap_arg.result) = c.in_ok-grown.ensures.shape c.clap_arg.ensures.local in (
      one_more (app_of c.args.command) (app_of c.loop-word.grown) _ c.args.words.now c.loop-word.word-index _ (rule_of c.clap_arg.result) (search rules)
          c.loop-word.invariant.0 c.clap_arg.ensures.rule shape,
      λ local. none_global _ _ _ c.in_ok-grown.ensures.globals c.clap_arg.ensures.local (c.loop-word.invariant.1 local),
    )
