use Rattle.std.proofs.Common.{◌-◌, ◌≤◌}
use Rattle.std.specs.Prelude.{flat_map}
use Rattle.std.specs.List.{range_with_len}
use Rattle.bridge_text.specs.Growth.{HasGrown}
use Rattle.show_tables.specs.FrameTable.{port_copy_rows}
use Rattle.show_tables.proofs.frame_rows.put_copies.Given as goal

abbrev pub invariant-loop-port : goal.invariant-loop-port
invariant-loop-port g l = record {
  from : 1 ≤ l.port;
  told : HasGrown l.fn.text (flat_map (port_copy_rows l.frame l.departures l.drops) (range_with_len 1 (l.port - 1))) l.text;
}
