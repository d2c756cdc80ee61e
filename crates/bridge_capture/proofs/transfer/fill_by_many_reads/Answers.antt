use Rattle.std.proofs.Common.{rules, arith, refl, true≢false, ◌≡◌, ◌+◌, ◌-◌, ◌∙◌, true, false, length, length-take-le, take, ap, sym, subst}
use Rattle.std.specs.Io.KnownBytes.{Consumes}
use Rattle.std.proofs.KnownBytes.{Consumes-kept, Consumes-trans}
use borrow.Rule.Slice.PartMut.{put_mid}
use Rattle.bridge_capture.proofs.Parts.{take-put_mid_more}
use Rattle.bridge_capture.proofs.transfer.fill_by_many_reads.Goals as goal

pub loop-at-preserved : goal.loop-at-preserved
loop-at-preserved g c =
    let joined = take-put_mid_more c.loop-at.at (length c.loop-at.buf - c.loop-at.at) c.in-Ok.count c.loop-at.buf c.read.new.buf c.loop-at.invariant.within c.in-Ok.ensures.count in
    record {
      within = search rules;
      fresh = λ e. let bad : false ≡ true = c.in-Ok.ensures.stays (c.loop-at.invariant.fresh e).1 in absurd cc;
      sure = λ e. c.in-Ok.ensures.lasts (c.loop-at.invariant.sure e);
      taken = subst (Consumes _ _) (sym joined) (Consumes-trans _ _ _ _ _ c.loop-at.invariant.taken c.in-Ok.ensures.bytes.0);
    }

pub returns-then-count-eq0-clause-stays : goal.returns-then-count-eq0-clause-stays
returns-then-count-eq0-clause-stays g c = λ e some. c.in-Ok.ensures.stays (c.loop-at.invariant.fresh e).1

pub returns-then-count-eq0-clause-sure : goal.returns-then-count-eq0-clause-sure
returns-then-count-eq0-clause-sure g c = λ sure. (refl, c.in-Ok.ensures.lasts (c.loop-at.invariant.sure sure))

pub returns-clause-sure : goal.returns-clause-sure
returns-clause-sure g c = λ sure. (refl, c.loop-at.invariant.sure sure)

pub returns-clause-count : goal.returns-clause-count
returns-clause-count g c = c.loop-at.invariant.within

pub returns-in-Err-clause-fails : goal.returns-in-Err-clause-fails
returns-in-Err-clause-fails g c = c.in-Err.ensures.fails

pub returns-in-Err-clause-sure : goal.returns-in-Err-clause-sure
returns-in-Err-clause-sure g c = λ sure. absurd (true≢false (sym (c.in-Err.ensures.sure (c.loop-at.invariant.sure sure))))

pub returns-in-Err-clause-stays : goal.returns-in-Err-clause-stays
returns-in-Err-clause-stays g c = λ broken some. refl

pub returns-in-Err-clause-part : goal.returns-in-Err-clause-part
returns-in-Err-clause-part g c =
    let at = c.loop-at.at in
    let buf = c.loop-at.buf in
    let front = length-take-le at buf c.loop-at.invariant.within in
    (take at buf, omega (arith, front, c.loop-at.auto.buf), Consumes-kept _ _ _ _ c.loop-at.invariant.taken c.in-Err.ensures.bytes)

pub returns-then-count-eq0-clause-bytes : goal.returns-then-count-eq0-clause-bytes
returns-then-count-eq0-clause-bytes g c =
    let at = c.loop-at.at in
    let joined = take-put_mid_more at (length c.loop-at.buf - at) c.in-Ok.count c.loop-at.buf c.read.new.buf c.loop-at.invariant.within c.in-Ok.ensures.count in
    let same : at ≡ at + c.in-Ok.count = omega (arith, c.if-count-eq0.true) in
    let whole = put_mid at (length c.loop-at.buf - at) c.loop-at.buf c.read.new.buf in
    subst (Consumes _ _) (sym (ap (λ n. take n whole) same ∙ joined)) (Consumes-trans _ _ _ _ _ c.loop-at.invariant.taken c.in-Ok.ensures.bytes.0)
