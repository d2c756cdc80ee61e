use Rattle.std.proofs.Common.{rules, arith, refl, true≢false, ◌∙◌, ◌≡◌, ◌+◌, take, slice_range, sym, subst, length-take-le}
use Rattle.std.specs.Io.KnownBytes.{Consumes}
use Rattle.bridge_capture.specs.Grammar.{RecordPosition}
use Rattle.bridge_capture.proofs.Fronts.{whole_at_once}
use Rattle.bridge_capture.proofs.Answered.{apart, told_sound}
use Rattle.bridge_capture.proofs.record.read_next_record.Goals as goal

pub returns-then-is_err-clause-taken : goal.returns-then-is_err-clause-taken
returns-then-is_err-clause-taken g c =
    let lent = c.buffered_octets-lent.result.now in
    let left = g.R.ByteSource.remaining in
    (take 16 lent, length-take-le 16 lent (omega (arith, c.in-Some.ensures.whole)), c.in-Some.ensures.sound, subst (λ l. Consumes (left c.args.source.now) (left c.consume.new.self) (take 16 l)) (sym c.buffered_octets-lent.ensures.lent) c.consume.ensures.bytes)

pub returns-clause-record : goal.returns-clause-record
returns-clause-record g c =
    let place : RecordPosition = record { number = c.args.number; earliest = c.args.earliest } in
    let lent = c.buffered_octets-lent.result.now in
    let left = g.R.ByteSource.remaining in
    let head = c.in-Some.ensures in
    let end = 16 + c.in-Some.head.captured in
    let octets : c.extend_from_slice.new.self.items ≡ slice_range lent 16 end = search rules in
    let gone = subst (λ l. Consumes (left c.args.source.now) (left c.consume-2.new.self) (take end l)) (sym c.buffered_octets-lent.ensures.lent) c.consume-2.ensures.bytes in
    rw (head.time, head.original, octets) (whole_at_once _ _ c.args.form place lent end head.few head.whole (omega (arith, head.captured)) head.sound gone)

pub returns-in-Ok-None-clause-record : goal.returns-in-Ok-None-clause-record
returns-in-Ok-None-clause-record g c = rw c.in-Ok-None.field-0-is at c.in-Ok-None.ensures.record

pub returns-in-Ok-Some-clause-record : goal.returns-in-Ok-Some-clause-record
returns-in-Ok-Some-clause-record g c = rw c.in-Ok-Some.field-0-is at c.in-Ok-Some.ensures.record

pub returns-in-Err-clause-record : goal.returns-in-Err-clause-record
returns-in-Err-clause-record g c = c.in-Err.ensures.record

pub returns-in-Err-clause-taken : goal.returns-in-Err-clause-taken
returns-in-Err-clause-taken g c = c.in-Err.ensures.taken

pub returns-in-Ok-Some-clause-told : goal.returns-in-Ok-Some-clause-told
returns-in-Ok-Some-clause-told g c = told_sound refl refl (λ broken. apart (c.in-Ok-Some.ensures.told.broken broken) refl) c.read_unbuffered_record.ensures.told.lasts

pub returns-in-Ok-None-clause-told : goal.returns-in-Ok-None-clause-told
returns-in-Ok-None-clause-told g c = told_sound refl refl (λ broken. apart (c.in-Ok-None.ensures.told.broken broken) refl) c.read_unbuffered_record.ensures.told.lasts

pub returns-in-Err-clause-told : goal.returns-in-Err-clause-told
returns-in-Err-clause-told g c =
    let t = c.in-Err.ensures.told in
    record { failed = t.failed; sure = t.sure; lasts = t.lasts; broken = t.broken; no_write = t.no_write }

pub returns-then-is_err-clause-told : goal.returns-then-is_err-clause-told
returns-then-is_err-clause-told g c = told_sound refl refl (λ broken. true≢false (sym broken ∙ c.buffered_octets-lent.ensures.sound (omega (arith, c.in-Some.ensures.whole)))) c.consume.ensures.lasts

pub returns-clause-told : goal.returns-clause-told
returns-clause-told g c = told_sound refl refl (λ broken. true≢false (sym broken ∙ c.buffered_octets-lent.ensures.sound (omega (arith, c.in-Some.ensures.whole)))) c.consume-2.ensures.lasts

pub returns-in-Ok-Some-clause-bounds : goal.returns-in-Ok-Some-clause-bounds
returns-in-Ok-Some-clause-bounds g c = rw c.in-Ok-Some.field-0-is at c.in-Ok-Some.ensures.bounds
