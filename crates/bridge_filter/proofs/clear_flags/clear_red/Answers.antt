use Rattle.std.proofs.Common.{rules, sym}
use Rattle.bridge_meter.specs.Colours as colours
use Rattle.bridge_filter.proofs.Numbered.{Changes}
use Rattle.bridge_filter.proofs.Shares.{meters_after}
use Rattle.bridge_filter.proofs.clear_flags.clear_red.Goals as goal

pub returns-clause-stand : goal.returns-clause-stand
returns-clause-stand g c =
    let old = c.args.meters.now.entries in
    let new = (c.get_mut.follows.lender c.clear_red.new.self).entries in
    let change : Changes old new c.args.number c.in-Some.meter.now c.clear_red.new.self = record {
      there = sym c.in-Some.ensures.value;
      own = search rules;
      others = search rules;
    } in
    λ plans share stand. meters_after old new c.args.number c.in-Some.meter.now c.clear_red.new.self colours.Cleared change c.clear_red.ensures.stands plans share stand
