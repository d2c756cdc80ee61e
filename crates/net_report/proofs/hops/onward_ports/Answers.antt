use Rattle.std.proofs.Common.{◌∷◌, ◌∙◌, [], ap, arith, length, subst, sym}
use Rattle.std.proofs.lemmas.List.{length-append}
use Rattle.net_report.specs.Hops.{AreOnwardAnswers}
use Rattle.net_report.proofs.Ways.{answers_more}
use Rattle.net_report.proofs.hops.onward_ports.Goals as goal

pub loop-port-preserved : goal.loop-port-preserved
loop-port-preserved g c =
    let items = c.in_ok-push.ensures.items in
    let many = c.loop-port.invariant.many in
    let longer = ap length items ∙ length-append c.loop-port.ways.items (c.has_next_hop.result ∷ []) in
    record {
      many = omega (arith, longer, many);
      each = subst (AreOnwardAnswers c.args.links.now c.args.hops.now c.args.bridge) (sym items)
          (answers_more c.args.links.now c.args.hops.now c.args.bridge c.loop-port.ways.items c.has_next_hop.result c.loop-port.port many c.has_next_hop.ensures c.loop-port.invariant.each);
    }
