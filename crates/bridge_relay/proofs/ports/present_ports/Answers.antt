use Rattle.std.proofs.Common.{◌≡◌, ℕ, subst}
use Rattle.std.specs.Prelude.{if◌then◌else◌}
use Rattle.bridge_relay.specs.Ports.{is_present}
use Rattle.bridge_relay.proofs.Rooms.{is_end}
use Rattle.bridge_relay.proofs.Present.{ArePresent, present_start, present_next, present_end, flag_yes, flag_no}
use Rattle.bridge_relay.proofs.ports.present_ports.Goals.{then-is_some, else-is_some}
use Rattle.bridge_relay.proofs.ports.present_ports.Goals as goal

pub loop-place-init : goal.loop-place-init
loop-place-init g c = record { set = present_start c.args.slots.now }

pub loop-place-preserved : goal.loop-place-preserved
loop-place-preserved g c =
    let o = c.index-slots-place.result in
    let own : c.if-is_some.own ≡ (if is_present o then 1 else 0) = elim c.if-is_some.branch [
      | then-is_some w ↦ flag_yes o c.is_some.result c.if-is_some.own c.is_some.ensures w.if-is_some.true w.own-is
      | else-is_some w ↦ flag_no o c.is_some.result c.if-is_some.own c.is_some.ensures w.if-is_some.false w.own-is
    ] in
    record { set = present_next c.args.slots.now c.loop-place.place c.loop-place.present c.if-is_some.own o c.requires c.loop-place-test.true c.loop-place.invariant.set c.index-slots-place.is own }

pub returns : goal.returns
returns g c =
    let all = is_end c.loop-place.place 16 c.loop-place.auto.place-end c.loop-place-test.false in
    present_end c.args.slots.now c.loop-place.present (subst (λ (n : ℕ). ArePresent c.args.slots.now n c.loop-place.present) all c.loop-place.invariant.set)
