use Rattle.std.proofs.Common.{arith}
use Rattle.bridge_core.proofs.simulation.make_run_lists.Goals as goal

pub returns : goal.returns
returns g c = record {
  ports = c.in-Ok.ensures;
  rises = c.in-Ok-filters_in_order.ensures.rises;
  same = c.in-Ok-filters_in_order.ensures.same;
  no_lines = c.in-Ok-with_capacity.ensures.items;
  lines_room = let room = c.in-Ok-with_capacity.ensures.capacity in let size = c.len.ensures in omega (arith, room, size);
  no_views = c.in-Ok-with_capacity-2.ensures.items;
  views_room = let room = c.in-Ok-with_capacity-2.ensures.capacity in let size = c.len-2.ensures in omega (arith, room, size);
  no_counts = c.in-Ok-with_capacity-3.ensures.items;
  counts_room = let room = c.in-Ok-with_capacity-3.ensures.capacity in omega (arith, room);
}
