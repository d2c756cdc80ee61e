use Rattle.std.proofs.Common.{◌≡◌, drop, map, string_bytes}
use Rattle.app_cli.specs.Helping.{has_flag}
use Rattle.app_cli.proofs.request.has_flag.Given as goal

abbrev pub invariant-loop-word : goal.invariant-loop-word
invariant-loop-word l = has_flag l.flag (map string_bytes l.words) ≡ has_flag l.flag (map string_bytes (drop l.word-index l.words))
