use Rattle.std.proofs.Common.{arith}
use Rattle.bridge_report.proofs.Blocks.{items_after}
use Rattle.bridge_report.proofs.Puts.{put_as, put_two}
use Rattle.bridge_report.proofs.lists.put_copies.Goals as goal

pub loop-from-preserved : goal.loop-from-preserved
loop-from-preserved g c =
    let past = c.loop-from-test.true in
    let few = c.min-count.ensures in
    let grown = put_as _ _ _ _ _ c.put_block.ensures c.fill_copies.ensures in
    (omega (arith, past, few), put_two _ _ _ _ _ _ _ c.loop-from.invariant.1 grown (items_after g.C.ListedCopy.line c.args.copies.now c.loop-from.from c.min-count.result))
