use Rattle.std.proofs.Common.{◌≡◌, ℕ, ap, ◌∙◌}
use Rattle.bridge_frame.specs.Link.{transmission_time}
use Rattle.bridge_check.specs.Windows.{longest_frame}
use Rattle.bridge_semantics.specs.Offers.{egress_rules}
use Rattle.bridge_bounds.proofs.Lists.{bound_is}
use Rattle.bridge_bounds.proofs.queue_bounds.class_bound.Goals as goal

pub returns : goal.returns
returns g c =
    let out = c.args.port.now in
    let longest = c.port_longest_time-longest in
    let occ : c.occupation-occupied.result ≡ transmission_time (longest_frame c.args.sdu) out.speed = c.occupation-occupied.ensures.exact ∙ ap (λ (n : ℕ). transmission_time n out.speed) c.min.ensures in
    bound_is out c.args.class c.args.sdu ((egress_rules out).room c.args.class) c.occupation-occupied.result longest.result occ longest.ensures.longest longest.ensures.least
