use Rattle.std.proofs.Common.{◌-◌, ◌≤◌}
use Rattle.std.specs.Prelude.{flat_map}
use Rattle.std.specs.List.{range_with_len}
use Rattle.bridge_text.specs.Growth.{HasGrown}
use Rattle.show_tables.specs.DelayTable.{row_of_port}
use Rattle.show_tables.proofs.delays.put_port_rows.Given as goal

abbrev pub invariant-loop-port : goal.invariant-loop-port
invariant-loop-port g l = record {
  from : 1 ≤ l.port;
  told : HasGrown l.fn.text (flat_map (row_of_port l.filter l.view l.bounds) (range_with_len 1 (l.port - 1))) l.text;
}
