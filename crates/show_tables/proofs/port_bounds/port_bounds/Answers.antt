use Rattle.std.proofs.Common.{◌∷◌, ◌∙◌, [], ap, arith, length, subst, sym}
use Rattle.std.proofs.lemmas.List.{length-append}
use Rattle.show_tables.specs.PortBounds.{AreBoundsByPort}
use Rattle.show_tables.proofs.Bounded.{port_more}
use Rattle.show_tables.proofs.port_bounds.port_bounds.Goals as goal

pub loop-port-preserved : goal.loop-port-preserved
loop-port-preserved g c =
    let items = c.in_ok-push.ensures.items in
    let many = c.loop-port.invariant.many in
    let longer = ap length items ∙ length-append c.loop-port.bounds.items (c.port_bound.result ∷ []) in
    record {
      many = omega (arith, longer, many);
      all = subst (AreBoundsByPort c.args.accepted.now c.args.filter) (sym items)
          (port_more c.args.accepted.now c.args.filter c.loop-port.port c.loop-port.bounds.items c.port_bound.result many c.port_bound.ensures c.loop-port.invariant.all);
    }
