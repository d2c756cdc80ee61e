use Rattle.std.proofs.Common.{length, refl}
use Rattle.std.proofs.lemmas.Option.{slice_get_read}
use Rattle.bridge_limits.proofs.Members.{in_at}
use Rattle.bridge_groups.proofs.ApartGates.{all_others, one_more_closed, own_left_out}
use Rattle.bridge_groups.proofs.apart_gates.are_others_closed.Goals as goal
use Rattle.bridge_groups.proofs.apart_gates.are_others_closed.Goals.{else-index-own-via-then-index-own+else-not-is_closed, else-index-own-via-else-index-own}

pub is_closed-requires-clause-lawful : goal.is_closed-requires-clause-lawful
is_closed-requires-clause-lawful g c =
    let at = slice_get_read c.args.lists.now (length c.args.lists.now) c.loop-index.index c.index-lists-index.result refl c.loop-index-test.true c.index-lists-index.is in
    c.requires.lawful c.index-lists-index.result (in_at c.args.lists.now c.loop-index.index c.index-lists-index.result at)

pub loop-index-preserved : goal.loop-index-preserved
loop-index-preserved g c = elim c.else-index-own.branch [
  | else-index-own-via-then-index-own+else-not-is_closed w ↦
      let at = slice_get_read c.args.lists.now (length c.args.lists.now) c.loop-index.index w.index-lists-index.result refl c.loop-index-test.true w.index-lists-index.is in
      one_more_closed c.args.lists.now c.args.own c.args.from c.args.until c.loop-index.index w.index-lists-index.result at (w.is_closed.ensures w.if-not-is_closed.false) c.loop-index.invariant
  | else-index-own-via-else-index-own w ↦ own_left_out c.args.lists.now c.args.own c.args.from c.args.until c.loop-index.index w.if-index-own.false c.loop-index.invariant
]

pub returns : goal.returns
returns g c = λ e. all_others c.args.lists.now c.args.own c.args.from c.args.until c.loop-index.index c.loop-index-test.false c.loop-index.invariant
