use Rattle.std.proofs.Common.{◌≡◌, ℕ, ap, ◌∙◌, arith}
use Rattle.bridge_frame.specs.Link.{transmission_time}
use Rattle.bridge_check.specs.Windows.{longest_frame}
use Rattle.bridge_groups.proofs.GateRuns.{port_bound_is}
use Rattle.bridge_groups.proofs.SharedQueues.{least_small}
use Rattle.bridge_groups.proofs.gate_bounds.port_gate_bound.Goals as goal

pub lists_gate_bound-requires-clause-least : goal.lists_gate_bound-requires-clause-least
lists_gate_bound-requires-clause-least g c = let few = least_small c.args.port.now.speed in let is = c.occupation-shortest.ensures.exact in omega (arith, few, is)

pub returns : goal.returns
returns g c =
    let out = c.args.port.now in
    let longest : c.occupation-longest.result ≡ transmission_time (longest_frame c.args.sdu) out.speed = c.occupation-longest.ensures.exact ∙ ap (λ (n : ℕ). transmission_time n out.speed) c.min.ensures in
    port_bound_is out c.in-Some.lists c.args.gate.now c.args.class c.args.sdu c.occupation-longest.result c.occupation-shortest.result c.args.fewest c.lists_gate_bound.result c.in-Some.is longest c.occupation-shortest.ensures.exact c.lists_gate_bound.ensures
