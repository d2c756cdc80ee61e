use Rattle.std.proofs.Common.{subst}
use Rattle.std.specs.Prelude.{MatchOption}
use Rattle.bridge_port.specs.Heads.{StartsNext}
use Rattle.bridge_port.specs.StandsFor.{EgressState, egress_state, IsIdle}
use Rattle.bridge_port.proofs.Best.{best_is_next}
use Rattle.bridge_port.proofs.port.Port.next_head.Goals as goal

pub returns-clause-next : goal.returns-clause-next
returns-clause-next g c =
    let f = c.self.inside in
    let p = egress_state f.speed f.gates f.rings.items f.free f.earliest f.offered f.started in
    let P : EgressState _ → Type 0 = λ q. MatchOption f.best (IsIdle q) (λ b. StartsNext q b.0 b.1) in
    subst P c.self.view_is (best_is_next p f.fits f.best c.self.invariant.kept.queues c.self.invariant.are_fits c.self.invariant.is_best)
