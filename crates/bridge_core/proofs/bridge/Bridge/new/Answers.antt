use Rattle.std.proofs.Common.{ap, sym, ◌∙◌, arith}
use Rattle.std.specs.Map.{lookup}
use Rattle.std.specs.Prelude.{nat_eq}
use Rattle.bridge_core.proofs.bridge.Bridge.new.Goals as goal

pub invariant_of-result : goal.invariant_of-result
invariant_of-result g c = record {
  rises = c.in-Ok.ensures.rises;
  same = λ n. c.in-Ok.ensures.same n ∙ ap (λ p. lookup (nat_eq n) p.filters) (c.plan.ensures.plan ∙ sym c.in-Ok-new.ensures.start.0);
  no_views = c.in-Ok-with_capacity.ensures.items;
  views_room = let room = c.in-Ok-with_capacity.ensures.capacity in let many = c.len.ensures in omega arith;
  no_counts = c.in-Ok-with_capacity-2.ensures.items;
  counts_room = let room = c.in-Ok-with_capacity-2.ensures.capacity in omega arith;
  later = let early = c.in-Ok-new.ensures.start.2 in omega arith;
}
