use Rattle.std.proofs.Common.{◌≡◌, drop}
use Rattle.show_lint.specs.Streams.{covers}
use Rattle.show_lint.proofs.hidden_stream.covers.Given as goal

abbrev pub invariant-loop-one : goal.invariant-loop-one
invariant-loop-one l = covers (drop l.one-index l.earlier) l.other l.named ≡ covers l.earlier l.other l.named
