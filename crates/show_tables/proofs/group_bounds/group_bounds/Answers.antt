use Rattle.std.proofs.Common.{◌∷◌, ◌∙◌, [], ap, arith, length, subst, sym}
use Rattle.std.proofs.lemmas.List.{length-append}
use Rattle.show_tables.specs.GroupBounds.{AreGroupBoundsByPort}
use Rattle.show_tables.proofs.Bounded.{group_port_more}
use Rattle.show_tables.proofs.group_bounds.group_bounds.Goals as goal

pub loop-port-preserved : goal.loop-port-preserved
loop-port-preserved g c =
    let items = c.in_ok-push.ensures.items in
    let many = c.loop-port.invariant.many in
    let longer = ap length items ∙ length-append c.loop-port.bounds.items (c.group_bound.result ∷ []) in
    record {
      many = omega (arith, longer, many);
      all = subst (AreGroupBoundsByPort c.args.queues.now c.args.group) (sym items)
          (group_port_more c.args.queues.now c.args.group c.loop-port.port c.loop-port.bounds.items c.group_bound.result many c.group_bound.ensures c.loop-port.invariant.all);
    }
