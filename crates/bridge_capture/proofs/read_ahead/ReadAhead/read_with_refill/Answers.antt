use Rattle.std.proofs.Common.{◌≡◌, [], take, drop, ap, arith}
use Rattle.std.proofs.KnownBytes.{prepend_known-nil}
use Rattle.bridge_capture.specs.Buffers.{unread_octets}
use Rattle.bridge_capture.proofs.read_ahead.ReadAhead.read_with_refill.Goals as goal

pub returns-then-buf-width-clause-bytes : goal.returns-then-buf-width-clause-bytes
returns-then-buf-width-clause-bytes g c =
    let w = c.args.self.now.window in
    let none = c.len.ensures in
    let bare : unread_octets w ≡ [] = ap (λ n. take n (drop w.start w.octets.items)) {y = 0} (omega arith) in
    rw (bare, prepend_known-nil (g.R.Read.remaining c.args.self.now.source.reader), prepend_known-nil (g.R.Read.remaining c.read.new.self.reader)) c.read.ensures.bytes
