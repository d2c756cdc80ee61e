use Rattle.std.proofs.Common.{◌≡◌, ◌+◌, true, sym, ◌∙◌}
use Rattle.std.proofs.lemmas.Bool.{leb-true}
use Rattle.bridge_cycle.specs.Fits.{is_open}
use Rattle.bridge_port.proofs.Opening.{first_open}
use Rattle.bridge_port.proofs.transmission_gates.fits_in_kept_turn.Goals as goal

pub returns-then-is_open : goal.returns-then-is_open
returns-then-is_open g c = record {
  first = λ enough.
      let opened : is_open c.args.kept.now.state c.args.class ≡ true = sym c.is_open.ensures ∙ c.if-is_open.true in
      first_open c.args.list.now c.args.class c.args.occ c.args.from c.args.kept.now c.requires.lawful (c.has_time.ensures c.if-has_time.true) opened (leb-true (c.args.from + c.args.occ) c.args.kept.now.end enough);
}
