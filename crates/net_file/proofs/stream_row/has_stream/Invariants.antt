use Rattle.std.proofs.Common.{◌≡◌, drop}
use Rattle.net_file.specs.Rules.{has_stream}
use Rattle.net_file.proofs.stream_row.has_stream.Given as goal

abbrev pub invariant-loop-stream : goal.invariant-loop-stream
invariant-loop-stream g l = has_stream (drop l.stream-index l.streams) l.name ≡ has_stream l.streams l.name
