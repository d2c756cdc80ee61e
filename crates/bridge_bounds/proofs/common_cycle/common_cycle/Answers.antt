use Rattle.std.proofs.Common.{length, arith, ap}
use Rattle.bridge_bounds.proofs.CommonCycles.{common_by_sizes, many_by_sizes, none_by_sizes, sizes_small}
use Rattle.bridge_bounds.proofs.common_cycle.common_cycle.Goals as goal

pub returns-in_default : goal.returns-in_default
returns-in_default g c = none_by_sizes c.args.gate.now c.args.list.now c.cycle-gate_cycle.result c.cycle-list_cycle.result (length c.entries.result.now) (length c.entries-2.result.now)
    (record { gate_lawful = c.cycle-gate_cycle.ensures.lawful; list_lawful = c.cycle-list_cycle.ensures.lawful; gate_cycle_is = c.cycle-gate_cycle.ensures.cycle; list_cycle_is = c.cycle-list_cycle.ensures.cycle; gate_entries_are = ap length c.entries.ensures.entries; list_entries_are = ap length c.entries-2.ensures.entries })
    c.in_default.ensures

pub overflow_mul-span-2 : goal.overflow_mul-span-2
overflow_mul-span-2 g c =
    let small = sizes_small c.args.gate.now c.args.list.now c.cycle-gate_cycle.result c.cycle-list_cycle.result (length c.entries.result.now) (length c.entries-2.result.now) c.in-Some.cycles
    (record { gate_lawful = c.cycle-gate_cycle.ensures.lawful; list_lawful = c.cycle-list_cycle.ensures.lawful; gate_cycle_is = c.cycle-gate_cycle.ensures.cycle; list_cycle_is = c.cycle-list_cycle.ensures.cycle; gate_entries_are = ap length c.entries.ensures.entries; list_entries_are = ap length c.entries-2.ensures.entries })
    c.in-Some.ensures.within in
    let lists = small.2 in
    omega (arith, lists)

pub overflow_add-cycles : goal.overflow_add-cycles
overflow_add-cycles g c =
    let small = sizes_small c.args.gate.now c.args.list.now c.cycle-gate_cycle.result c.cycle-list_cycle.result (length c.entries.result.now) (length c.entries-2.result.now) c.in-Some.cycles
    (record { gate_lawful = c.cycle-gate_cycle.ensures.lawful; list_lawful = c.cycle-list_cycle.ensures.lawful; gate_cycle_is = c.cycle-gate_cycle.ensures.cycle; list_cycle_is = c.cycle-list_cycle.ensures.cycle; gate_entries_are = ap length c.entries.ensures.entries; list_entries_are = ap length c.entries-2.ensures.entries })
    c.in-Some.ensures.within in
    let gates = small.0 in
    let lists = small.2 in
    omega (arith, gates, lists)

pub returns-then-cycles-gate_entries-gt-MAX_INTERVALS : goal.returns-then-cycles-gate_entries-gt-MAX_INTERVALS
returns-then-cycles-gate_entries-gt-MAX_INTERVALS g c = many_by_sizes c.args.gate.now c.args.list.now c.cycle-gate_cycle.result c.cycle-list_cycle.result (length c.entries.result.now) (length c.entries-2.result.now) _ c.in-Some.cycles
    (record { gate_lawful = c.cycle-gate_cycle.ensures.lawful; list_lawful = c.cycle-list_cycle.ensures.lawful; gate_cycle_is = c.cycle-gate_cycle.ensures.cycle; list_cycle_is = c.cycle-list_cycle.ensures.cycle; gate_entries_are = ap length c.entries.ensures.entries; list_entries_are = ap length c.entries-2.ensures.entries })
    c.in-Some.ensures c.if-cycles-gate_entries-gt-MAX_INTERVALS.true

pub returns : goal.returns
returns g c = common_by_sizes c.args.gate.now c.args.list.now c.cycle-gate_cycle.result c.cycle-list_cycle.result (length c.entries.result.now) (length c.entries-2.result.now) _ c.in-Some.cycles
    (record { gate_lawful = c.cycle-gate_cycle.ensures.lawful; list_lawful = c.cycle-list_cycle.ensures.lawful; gate_cycle_is = c.cycle-gate_cycle.ensures.cycle; list_cycle_is = c.cycle-list_cycle.ensures.cycle; gate_entries_are = ap length c.entries.ensures.entries; list_entries_are = ap length c.entries-2.ensures.entries })
    c.in-Some.ensures c.if-cycles-gate_entries-gt-MAX_INTERVALS.false
