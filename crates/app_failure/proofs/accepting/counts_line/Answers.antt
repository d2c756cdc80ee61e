use Rattle.std.proofs.Common.{◌≡◌, false, nat_eq}
use Rattle.std.proofs.lemmas.Bool.{eqb-true, false_from_ne_true}
use Rattle.app_failure.proofs.accepting.counts_line.Goals as goal

pub returns : goal.returns
returns g c =
    let some : nat_eq c.args.grouped 0 ≡ false = false_from_ne_true (nat_eq c.args.grouped 0) (λ e. c.if-grouped-eq0.false (eqb-true c.args.grouped 0 e)) in
    rw some c.in_ok-format-2.ensures.ok
