use Rattle.std.proofs.Common.{◌≡◌, vec_len}
use Rattle.app_files.proofs.command_files.open_captures.Given as goal

abbrev pub invariant-loop-port : goal.invariant-loop-port
invariant-loop-port g l = vec_len l.files ≡ l.port-index
