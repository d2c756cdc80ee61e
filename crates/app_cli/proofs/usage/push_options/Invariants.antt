use Rattle.std.proofs.Common.{◌≡◌, ◌||◌, map, take}
use Rattle.clap.specs.Words.{Text}
use Rattle.app_cli.specs.Usages.{has_option, is_among, rule_of_word}
use Rattle.app_cli.proofs.usage.push_options.Given as goal

abbrev pub invariant-loop-word : goal.invariant-loop-word
invariant-loop-word l =
    (name : Text) → is_among name (map (λ known. known.now) l.names.items)
    ≡ (is_among name (map (λ known. known.now) l.initial.names.items) || has_option name (map rule_of_word (take l.word-index l.words)))
