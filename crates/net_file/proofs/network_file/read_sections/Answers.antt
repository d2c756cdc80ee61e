use Rattle.std.proofs.Common.{sym, arith}
use Rattle.net_file.proofs.Counts.{some_bridge}
use Rattle.net_file.proofs.network_file.read_sections.Goals as goal

pub invariant_of-result : goal.invariant_of-result
invariant_of-result g c = record {
  some_bridge = some_bridge c.in_ok-bridges.bridges.items c.args.arrays.bridges.now c.in_ok-bridges.ensures.reads c.requires.tables c.requires.some_bridge;
  few_bridges = omega (arith, c.in_ok-bridges.ensures.few, c.requires.bridges);
  few_links = omega (arith, c.in_ok-links.ensures.few, c.requires.links);
  few_streams = omega (arith, c.in_ok-streams.ensures.few, c.requires.streams);
  bridges = c.in_ok-bridges.ensures.keeps;
  links = rw (sym c.deref.ensures.value) c.in_ok-links.ensures.keeps;
  streams = rw (sym c.deref-2.ensures.value) c.in_ok-streams.ensures.keeps;
}
