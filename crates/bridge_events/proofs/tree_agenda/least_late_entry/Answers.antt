use Rattle.std.proofs.Common.{◌+◌, ◌∙◌, arith, refl, subst, sym, Option}
use Rattle.bridge_events.specs.Least.{IsLeast, earlier_entry}
use Rattle.bridge_events.specs.Tree.{tree_time}
use Rattle.bridge_events.proofs.Rows.{least_more, least_all, least_none, up_to}
use Rattle.bridge_events.proofs.Trees.{held_next, held_past}
use Rattle.bridge_events.proofs.tree_agenda.least_late_entry.Goals as goal

pub loop-place-init : goal.loop-place-init
loop-place-init c = least_none (tree_time c.args.keys.now c.args.times.now) refl

pub loop-place-preserved : goal.loop-place-preserved
loop-place-preserved c =
    let keys = c.args.keys.now in
    let times = c.args.times.now in
    let k = c.loop-place.place in
    subst (IsLeast (up_to (k + 1) (tree_time keys times))) (sym c.earlier_entry-best.ensures) (subst (λ (o : Option _). IsLeast (up_to (k + 1) (tree_time keys times)) (earlier_entry c.loop-place.best o)) (sym c.entry.ensures) (least_more k (tree_time keys times) c.loop-place.best c.nth_time.result (held_next keys times k ∙ sym c.nth_time.ensures) c.loop-place.invariant))

pub returns : goal.returns
returns c = least_all c.loop-place.place (tree_time c.args.keys.now c.args.times.now) c.loop-place.best (λ p l. held_past c.args.keys.now c.args.times.now p c.told-keys (omega arith)) c.loop-place.invariant
