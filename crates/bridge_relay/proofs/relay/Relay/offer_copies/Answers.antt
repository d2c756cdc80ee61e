use Rattle.std.proofs.Common.{◌∙◌, arith, subst, sym}
use Rattle.std.proofs.lemmas.Bool.{eqb-true}
use Rattle.std.proofs.lemmas.List.{nil_from_length}
use Rattle.bridge_relay.specs.RelayedFrames.{HasCopies}
use Rattle.bridge_relay.proofs.relay.Relay.offer_copies.Goals as goal

pub offer_only_copy-requires-clause-copies : goal.offer_only_copy-requires-clause-copies
offer_only_copy-requires-clause-copies g c =
    let all = c.args.copies.ok in
    let zero = eqb-true _ 0 (sym c.is_empty.ensures ∙ c.if-is_empty.true) in
    let none = nil_from_length c.args.copies.items (omega (arith, all, zero)) in
    subst (HasCopies c.args.self.now.ports.slots c.args.set 1 c.args.first.octets.items) none c.requires.copies
