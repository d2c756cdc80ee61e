use Rattle.std.proofs.Common.{rules, sym}
use Rattle.bridge_gate.specs.Gates.{ClearedRx}
use Rattle.bridge_filter.proofs.Numbered.{Changes}
use Rattle.bridge_filter.proofs.Shares.{gates_after}
use Rattle.bridge_filter.proofs.clear_flags.clear_rx.Goals as goal

pub returns-clause-stand : goal.returns-clause-stand
returns-clause-stand g c =
    let old = c.args.gates.now.entries in
    let new = (c.get_mut.follows.lender c.clear_rx.new.self).entries in
    let change : Changes old new c.args.number c.in-Some.gate.now c.clear_rx.new.self = record {
      there = sym c.in-Some.ensures.value;
      own = search rules;
      others = search rules;
    } in
    λ rules share stand. gates_after old new c.args.number c.in-Some.gate.now c.clear_rx.new.self ClearedRx change c.clear_rx.ensures.stands rules share stand
