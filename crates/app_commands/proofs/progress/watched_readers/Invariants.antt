use Rattle.std.proofs.Common.{◌≡◌, ◌+◌, length}
use Rattle.app_commands.proofs.progress.watched_readers.Given as goal

abbrev pub invariant-loop-reader : goal.invariant-loop-reader
invariant-loop-reader g l = length l.watched.items + length l.reader-iterator.rest.items ≡ length l.fn.readers.items
