use Rattle.std.specs.Prelude.{IfSome}
use Rattle.bridge_cycle.specs.ChangingList.{turn_by_time}
use Rattle.bridge_cycle.specs.Fits.{IsFirstFit}
use Rattle.bridge_cycle.specs.Opens.{turn_opens}
use Rattle.bridge_port.proofs.transmission_gates.fit_by_spans.Goals as goal

pub returns-in-Joined : goal.returns-in-Joined
returns-in-Joined g c =
    let own : IfSome c.fit_in_changing_list.result (λ t. IsFirstFit (λ v. turn_opens (turn_by_time c.in-Joined.lists v) c.args.class) c.args.occ c.args.from t) = c.fit_in_changing_list.ensures in
    rw c.in-Joined.is own
