use Rattle.std.proofs.Common.{◌≡◌, ◌+◌, ◌-◌, ℕ, ap, refl, ◌∙◌, inl, inr}
use Rattle.std.proofs.lemmas.Bool.{both_ways}
use Rattle.bridge_frame.specs.Link.{transmission_time}
use Rattle.bridge_check.specs.Windows.{longest_frame}
use Rattle.bridge_bounds.proofs.Lists.{bound_is}
use Rattle.bridge_bounds.proofs.tight_bound.lesser_bound.Goals as goal

pub returns-then-not-are_apart : goal.returns-then-not-are_apart
returns-then-not-are_apart g c =
    let out = c.args.port.now in
    let longest = c.port_longest_time-longest in
    let occ : c.occupation-occupied.result ≡ transmission_time (longest_frame c.args.sdu) out.speed = c.occupation-occupied.ensures.exact ∙ ap (λ (n : ℕ). transmission_time n out.speed) c.min.ensures in
    record {
      few = c.occupation-occupied.result - 1 + longest.result;
      is = bound_is out c.args.class c.args.sdu c.args.few c.occupation-occupied.result longest.result occ longest.ensures.longest longest.ensures.least;
      lesser = inr ((λ apart. both_ways c.are_apart.result c.if-not-are_apart.true (c.are_apart.ensures.1 apart)), refl);
    }

pub returns : goal.returns
returns g c =
    let out = c.args.port.now in
    let longest = c.port_longest_time-longest in
    let occ : c.occupation-occupied.result ≡ transmission_time (longest_frame c.args.sdu) out.speed = c.occupation-occupied.ensures.exact ∙ ap (λ (n : ℕ). transmission_time n out.speed) c.min.ensures in
    record {
      few = c.occupation-occupied.result - 1 + longest.result;
      is = bound_is out c.args.class c.args.sdu c.args.few c.occupation-occupied.result longest.result occ longest.ensures.longest longest.ensures.least;
      lesser = inl (c.are_apart.ensures.0 c.if-not-are_apart.false, c.min-2.ensures);
    }
