use Rattle.std.proofs.Common.{◌≡◌, ◌≤◌, ◌+◌, ◌||◌, false, length, take, drop, nat_eq, slice_index_or}
use Rattle.bridge_check.specs.ReachTables.{test_results}
use Rattle.net_model.proofs.entry_ports.mark_port.Given as goal

abbrev pub invariant-loop-i : goal.invariant-loop-i
invariant-loop-i l = record {
  size : length l.ports ≡ 16;
  most : l.i ≤ 16;
  told : take l.i l.ports ≡ test_results l.i (λ i. slice_index_or l.fn.ports i false || nat_eq l.port (i + 1));
  rest : drop l.i l.ports ≡ drop l.i l.fn.ports;
}
