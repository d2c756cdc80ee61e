use Rattle.std.proofs.Common.{◌≡◌, drop, map}
use Rattle.app_cli.specs.Usages.{option_value, rule_of_word}
use Rattle.app_cli.proofs.usage.find_option.Given as goal

abbrev pub invariant-loop-word : goal.invariant-loop-word
invariant-loop-word l = option_value l.name (map rule_of_word l.words) ≡ option_value l.name (map rule_of_word (drop l.word-index l.words))
