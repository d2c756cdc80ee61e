use Rattle.std.proofs.Common.{◌≡◌, ◌-◌, ap, arith}
use Rattle.std.specs.Prelude.{flat_map}
use Rattle.std.specs.List.{range_with_len}
use Rattle.bridge_text.proofs.Puts.{put_as, put_none, put_piece}
use Rattle.show_tables.specs.DelayTable.{row_of_port}
use Rattle.show_tables.proofs.Ports.{one_port_more}
use Rattle.show_tables.proofs.delays.put_port_rows.Goals as goal

pub loop-port-init : goal.loop-port-init
loop-port-init g c = record { from = omega arith; told = put_none _ }

pub loop-port-preserved : goal.loop-port-preserved
loop-port-preserved g c =
    let rows = row_of_port c.args.filter c.args.view.now c.args.bounds.now in
    record {
      from = omega (arith, c.loop-port.invariant.from);
      told = put_as _ _ _ _ (put_piece _ _ _ _ _ c.loop-port.invariant.told c.put_row_of_port.ensures) (one_port_more rows c.loop-port.port c.loop-port.invariant.from);
    }

pub returns : goal.returns
returns g c =
    let rows = row_of_port c.args.filter c.args.view.now c.args.bounds.now in
    let last : c.loop-port.port ≡ 17 = omega (arith, c.loop-port.auto.port, c.loop-port.auto.port-end, c.loop-port-test.false) in
    put_as _ _ _ _ c.loop-port.invariant.told (ap (λ n. flat_map rows (range_with_len 1 (n - 1))) last)
