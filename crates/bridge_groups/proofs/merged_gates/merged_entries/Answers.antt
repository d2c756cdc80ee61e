use Rattle.std.proofs.Common.{◌+◌, ℕ, List, arith, sym, subst}
use Rattle.bridge_gate.specs.declared.schedule.GateEntry.{GateEntry}
use Rattle.bridge_groups.specs.MergedGates.{AreMergedEntries}
use Rattle.bridge_groups.proofs.MergedGates.{first_of_each, one_more}
use Rattle.bridge_groups.proofs.merged_gates.merged_entries.Goals as goal

pub loop-seen-preserved : goal.loop-seen-preserved
loop-seen-preserved g c =
    let entry = c.in-Some.entry in
    let seen : ℕ = c.loop-seen.seen in
    let is = c.in-Some.ensures in
    let end = is.end in
    let upto = is.some.1 in
    record {
      are = subst (λ (es : List (GateEntry × ℕ)). AreMergedEntries c.args.lists.now es 0 (seen + entry.1)) (sym c.in-Ok.ensures.items)
          (one_more c.args.lists.now c.loop-seen.entries.items entry 0 seen is.some.0 is.opens is.limit (λ l i. let first = first_of_each c.args.lists.now seen c.args.cycle l i in omega (arith, first, end)) c.loop-seen.invariant.are);
      upto = omega (arith, upto);
    }
