use Rattle.std.proofs.Common.{◌≡◌, map, string_bytes, take}
use Rattle.app_cli.proofs.manual.copy_words.Given as goal

abbrev pub invariant-loop-word : goal.invariant-loop-word
invariant-loop-word l = map string_bytes l.words.items ≡ map (λ word. word.now) (take l.word-index l.line)
