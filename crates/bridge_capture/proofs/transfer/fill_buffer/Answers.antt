use Rattle.std.proofs.Common.{◌-◌, ◌++◌, length, take, refl, true≢false, sym, subst, arith, length-append, length-take-le}
use Rattle.std.specs.Io.KnownBytes.{Consumes}
use Rattle.std.proofs.KnownBytes.{Consumes-trans}
use Rattle.bridge_capture.proofs.Parts.{take-put_mid_more}
use Rattle.bridge_capture.proofs.transfer.fill_buffer.Goals as goal

pub returns-in-Ok-fill_by_many_reads-clause-bytes : goal.returns-in-Ok-fill_by_many_reads-clause-bytes
returns-in-Ok-fill_by_many_reads-clause-bytes g c =
    let first = c.in-Ok.first in
    let all = c.read.new.buf in
    let joined = take-put_mid_more first (length all - first) c.in-Ok-fill_by_many_reads.more all c.fill_by_many_reads.new.buf c.in-Ok.ensures.count c.in-Ok-fill_by_many_reads.ensures.count in
    subst (Consumes _ _) (sym joined) (Consumes-trans _ _ _ _ _ c.in-Ok.ensures.bytes.0 c.in-Ok-fill_by_many_reads.ensures.bytes)

pub returns-in-Err-fill_by_many_reads-clause-part : goal.returns-in-Err-fill_by_many_reads-clause-part
returns-in-Err-fill_by_many_reads-clause-part g c =
    let first = c.in-Ok.first in
    let all = c.read.new.buf in
    let got = c.in-Err-fill_by_many_reads.ensures.part in
    let front = length-take-le first all c.in-Ok.ensures.count in
    let fewer = got.1 in
    (take first all ++ got.0, (let z = got.1 in let y = c.in-Ok.ensures.count in omega (arith, length-append (take first all) got.0, front, z, y, c.fill_by_many_reads.auto.buf)), Consumes-trans _ _ _ _ _ c.in-Ok.ensures.bytes.0 got.2)

pub returns-in-Err-clause-fails : goal.returns-in-Err-clause-fails
returns-in-Err-clause-fails g c = c.in-Err.ensures.fails

pub returns-in-Err-clause-sure : goal.returns-in-Err-clause-sure
returns-in-Err-clause-sure g c = λ sure. absurd (true≢false (sym (c.in-Err.ensures.sure sure)))

pub returns-in-Err-clause-stays : goal.returns-in-Err-clause-stays
returns-in-Err-clause-stays g c = λ broken some. refl

pub returns-then-is_empty-clause-sure : goal.returns-then-is_empty-clause-sure
returns-then-is_empty-clause-sure g c = λ sure. (refl, sure)

pub returns-then-first-eq0-clause-count : goal.returns-then-first-eq0-clause-count
returns-then-first-eq0-clause-count g c = c.in-Ok.ensures.count

pub returns-then-first-eq0-clause-bytes : goal.returns-then-first-eq0-clause-bytes
returns-then-first-eq0-clause-bytes g c = c.in-Ok.ensures.bytes.0

pub returns-then-first-eq0-clause-sure : goal.returns-then-first-eq0-clause-sure
returns-then-first-eq0-clause-sure g c = λ sure. (refl, c.in-Ok.ensures.lasts sure)

pub returns-then-first-eq0-clause-stays : goal.returns-then-first-eq0-clause-stays
returns-then-first-eq0-clause-stays g c = λ broken some. c.in-Ok.ensures.stays broken

pub returns-in-Ok-fill_by_many_reads-clause-sure : goal.returns-in-Ok-fill_by_many_reads-clause-sure
returns-in-Ok-fill_by_many_reads-clause-sure g c = λ sure. (refl, (c.in-Ok-fill_by_many_reads.ensures.sure (c.in-Ok.ensures.lasts sure)).1)

pub returns-in-Ok-fill_by_many_reads-clause-stays : goal.returns-in-Ok-fill_by_many_reads-clause-stays
returns-in-Ok-fill_by_many_reads-clause-stays g c = λ broken some. c.in-Ok.ensures.stays broken

pub returns-in-Err-fill_by_many_reads-clause-fails : goal.returns-in-Err-fill_by_many_reads-clause-fails
returns-in-Err-fill_by_many_reads-clause-fails g c = c.in-Err-fill_by_many_reads.ensures.fails

pub returns-in-Err-fill_by_many_reads-clause-sure : goal.returns-in-Err-fill_by_many_reads-clause-sure
returns-in-Err-fill_by_many_reads-clause-sure g c = λ sure. absurd (true≢false (sym (c.in-Err-fill_by_many_reads.ensures.sure (c.in-Ok.ensures.lasts sure)).0))

pub returns-in-Err-fill_by_many_reads-clause-stays : goal.returns-in-Err-fill_by_many_reads-clause-stays
returns-in-Err-fill_by_many_reads-clause-stays g c = λ broken some. refl
