use Rattle.std.proofs.Common.{◌<◌, arith, sym, subst}
use Rattle.std.proofs.lemmas.Bool.{eqb-true, eq-eqb}
use Rattle.bridge_forward.specs.Ports.{IsEmpty}
use Rattle.bridge_forward.proofs.Memberships.{empty_is_zero, zero_is_empty}
use Rattle.bridge_forward.proofs.port_set.has_no_port.Goals as goal

pub returns : goal.returns
returns c = (
  λ h. subst IsEmpty (sym (eqb-true c.args.bits 0 h)) zero_is_empty,
  λ none. let fits = c.ranges.bits.fits in let small : c.args.bits < 65536 = omega arith in eq-eqb c.args.bits 0 (empty_is_zero c.args.bits small none),
)
