use Rattle.std.proofs.Common.{◌≡◌, ap, sym, ◌∙◌, None, true, subst, refl}
use Rattle.bridge_frame.specs.Link.{transmission_time}
use Rattle.bridge_port.specs.StandsFor.{EgressState, offer_refusal, egress_state}
use Rattle.bridge_port.specs.GateSchedule.{can_fit}
use Rattle.bridge_port.proofs.port.Port.refusal.Goals as goal

pub returns-else-is_full : goal.returns-else-is_full
returns-else-is_full g c = λ x is.
    let f = c.self.inside in
    let p = egress_state f.speed f.gates f.rings.items f.free f.earliest f.offered f.started in
    let S : EgressState _ → Type 0 = λ q. c.args.occ ≡ transmission_time x.len q.speed in
    let same : c.args.occ ≡ transmission_time x.len p.speed = subst S (sym c.self.view_is) is in
    let can : can_fit p.list c.args.class (transmission_time x.len p.speed) ≡ true = ap (can_fit p.list c.args.class) (sym same) ∙ sym c.if-not-can_fit.ensures in
    let P : EgressState _ → Type 0 = λ q. None ≡ offer_refusal q c.args.class x in
    subst P c.self.view_is (rw (can, sym c.if-is_full.ensures) refl)
