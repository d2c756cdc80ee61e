use Rattle.std.proofs.Common.{◌≡◌, drop, map, string_bytes}
use Rattle.std.specs.List.{list_any}
use Rattle.app_cli.specs.Helping.{is_help_word}
use Rattle.app_cli.proofs.helping.has_help_word.Given as goal

abbrev pub invariant-loop-word : goal.invariant-loop-word
invariant-loop-word l = list_any is_help_word (map string_bytes l.words) ≡ list_any is_help_word (map string_bytes (drop l.word-index l.words))
