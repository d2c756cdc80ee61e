use Rattle.std.proofs.Common.{rules, arith, refl, sym, true≢false, Some, None, ◌∙◌, inl, subst, take, take_all}
use Rattle.std.specs.Io.KnownBytes.{Consumes}
use Rattle.std.proofs.lemmas.List.{length-take}
use Rattle.bridge_capture.specs.Grammar.{RecordPosition}
use Rattle.bridge_capture.proofs.Fronts.{ended, too_many, cut_words, words_refused, octets_refused, whole_record, head_is}
use Rattle.bridge_capture.proofs.Answered.{told_sound, told_failed, told_of_words, told_of_octets}
use Rattle.bridge_capture.proofs.Taken.{octets_taken, words_taken, none_taken, some_taken}
use Rattle.bridge_capture.proofs.record.read_unbuffered_record.Goals as goal

pub returns-in-Ok-clause-record : goal.returns-in-Ok-clause-record
returns-in-Ok-clause-record g c = too_many _ _ _ _ _ (omega (arith, length-take c.in-Ok.count c.fill_buffer.new.buf, c.if-count-gt0.true, c.in-Ok.ensures.count)) (search rules) c.in-Ok.ensures.bytes

pub returns-in-Ok-2-clause-record : goal.returns-in-Ok-2-clause-record
returns-in-Ok-2-clause-record g c = ended _ _ _ _ _ (search rules) c.in-Ok-2.ensures.bytes (c.in-Ok-2.ensures.end (search rules))

pub returns-then-count-eq0-clause-record : goal.returns-then-count-eq0-clause-record
returns-then-count-eq0-clause-record g c = ended _ _ _ _ _ (search rules) c.in-Ok-fill_buffer.ensures.bytes (c.in-Ok-fill_buffer.ensures.end (search rules))

pub returns-then-count-lt16-clause-record : goal.returns-then-count-lt16-clause-record
returns-then-count-lt16-clause-record g c =
    let held = length-take c.in-Ok-fill_buffer.count c.fill_buffer-2.new.buf in
    cut_words _ _ _ _ _ (omega (arith, held, c.in-Ok-fill_buffer.ensures.count)) (omega (arith, held)) (search rules) c.in-Ok-fill_buffer.ensures.bytes (c.in-Ok-fill_buffer.ensures.end (omega (arith, c.in-Ok-fill_buffer.ensures.count)))

pub returns-in-Err-check_record_header-clause-record : goal.returns-in-Err-check_record_header-clause-record
returns-in-Err-check_record_header-clause-record g c =
    let place : RecordPosition = record { number = c.args.number; earliest = c.args.earliest } in
    let words = c.fill_buffer-2.new.buf in
    let full = subst (Consumes _ _) (take_all c.in-Ok-fill_buffer.count words (omega (arith, c.in-Ok-fill_buffer.ensures.count))) c.in-Ok-fill_buffer.ensures.bytes in
    let head = c.parse_record_header-head.ensures in
    let fault = head_is place _ _ _ _ _ _ (Some c.in-Err-check_record_header.fault) head.time head.captured head.original c.in-Err-check_record_header.ensures.judged in
    words_refused _ _ c.args.form place words c.in-Err-check_record_header.fault (search rules) (search rules) fault full

pub returns-in-Ok-read_octets-clause-record : goal.returns-in-Ok-read_octets-clause-record
returns-in-Ok-read_octets-clause-record g c =
    let place : RecordPosition = record { number = c.args.number; earliest = c.args.earliest } in
    let words = c.fill_buffer-2.new.buf in
    let full = subst (Consumes _ _) (take_all c.in-Ok-fill_buffer.count words (omega (arith, c.in-Ok-fill_buffer.ensures.count))) c.in-Ok-fill_buffer.ensures.bytes in
    let head = c.parse_record_header-head.ensures in
    let sound = head_is place _ _ _ _ _ _ None head.time head.captured head.original c.in_default.ensures.judged in
    let took = c.in-Ok-read_octets.ensures.octets in
    rw (head.time, head.original) (whole_record _ _ _ c.args.form place words c.read_octets.new.octets.items (search rules) (search rules) sound full took.1 (took.0 ∙ head.captured))

pub returns-in-Err-read_octets-clause-record : goal.returns-in-Err-read_octets-clause-record
returns-in-Err-read_octets-clause-record g c =
    let place : RecordPosition = record { number = c.args.number; earliest = c.args.earliest } in
    let words = c.fill_buffer-2.new.buf in
    let full = subst (Consumes _ _) (take_all c.in-Ok-fill_buffer.count words (omega (arith, c.in-Ok-fill_buffer.ensures.count))) c.in-Ok-fill_buffer.ensures.bytes in
    let head = c.parse_record_header-head.ensures in
    let sound = head_is place _ _ _ _ _ _ None head.time head.captured head.original c.in_default.ensures.judged in
    octets_refused _ _ _ c.args.form place words c.in-Err-read_octets.fault (search rules) (search rules) sound full (rw head.captured at c.in-Err-read_octets.ensures.octets)

pub returns-in-Err-read_octets-clause-taken : goal.returns-in-Err-read_octets-clause-taken
returns-in-Err-read_octets-clause-taken g c =
    let place : RecordPosition = record { number = c.args.number; earliest = c.args.earliest } in
    let words = c.fill_buffer-2.new.buf in
    let full = subst (Consumes _ _) (take_all c.in-Ok-fill_buffer.count words (omega (arith, c.in-Ok-fill_buffer.ensures.count))) c.in-Ok-fill_buffer.ensures.bytes in
    let head = c.parse_record_header-head.ensures in
    let sound = head_is place _ _ _ _ _ _ None head.time head.captured head.original c.in_default.ensures.judged in
    octets_taken c.args.form place _ _ _ words c.in-Err-read_octets.fault (search rules) (search rules) sound full (rw head.captured at c.in-Err-read_octets.ensures.octets)

pub returns-then-count-lt16-clause-taken : goal.returns-then-count-lt16-clause-taken
returns-then-count-lt16-clause-taken g c =
    (take c.in-Ok-fill_buffer.count c.fill_buffer-2.new.buf, inl (omega (arith, length-take c.in-Ok-fill_buffer.count c.fill_buffer-2.new.buf, c.if-count-lt16.true)), c.in-Ok-fill_buffer.ensures.bytes)

pub returns-in-Err-check_record_header-clause-taken : goal.returns-in-Err-check_record_header-clause-taken
returns-in-Err-check_record_header-clause-taken g c =
    let place : RecordPosition = record { number = c.args.number; earliest = c.args.earliest } in
    let words = c.fill_buffer-2.new.buf in
    let full = subst (Consumes _ _) (take_all c.in-Ok-fill_buffer.count words (omega (arith, c.in-Ok-fill_buffer.ensures.count))) c.in-Ok-fill_buffer.ensures.bytes in
    words_taken c.args.form place _ _ words c.in-Err-check_record_header.fault c.in-Err-check_record_header.ensures.only (search rules) full

pub returns-in-Err-clause-taken : goal.returns-in-Err-clause-taken
returns-in-Err-clause-taken g c = none_taken c.args.form (record { number = c.args.number; earliest = c.args.earliest }) _ _ c.in-Err.ensures.part

pub returns-in-Err-fill_buffer-clause-taken : goal.returns-in-Err-fill_buffer-clause-taken
returns-in-Err-fill_buffer-clause-taken g c = some_taken c.args.form (record { number = c.args.number; earliest = c.args.earliest }) _ _ (search rules) c.in-Err-fill_buffer.ensures.part

pub returns-in-Ok-clause-told : goal.returns-in-Ok-clause-told
returns-in-Ok-clause-told g c = told_sound refl refl (λ broken. true≢false (sym (c.in-Ok.ensures.stays broken (omega arith)))) (λ sure. (c.in-Ok.ensures.sure sure).1)

pub returns-in-Ok-2-clause-told : goal.returns-in-Ok-2-clause-told
returns-in-Ok-2-clause-told g c = told_sound refl refl (λ broken. true≢false (sym (c.in-Ok-2.ensures.stays broken (omega arith)))) (λ sure. (c.in-Ok-2.ensures.sure sure).1)

pub returns-then-count-eq0-clause-told : goal.returns-then-count-eq0-clause-told
returns-then-count-eq0-clause-told g c = told_sound refl refl (λ broken. true≢false (sym (c.in-Ok-fill_buffer.ensures.stays broken (omega arith)))) (λ sure. (c.in-Ok-fill_buffer.ensures.sure sure).1)

pub returns-then-count-lt16-clause-told : goal.returns-then-count-lt16-clause-told
returns-then-count-lt16-clause-told g c = told_sound refl refl (λ broken. true≢false (sym (c.in-Ok-fill_buffer.ensures.stays broken (omega arith)))) (λ sure. (c.in-Ok-fill_buffer.ensures.sure sure).1)

pub returns-in-Err-clause-told : goal.returns-in-Err-clause-told
returns-in-Err-clause-told g c = told_failed c.in-Err.ensures.fails (λ sure. true≢false (sym (c.in-Err.ensures.sure sure).0))

pub returns-in-Err-fill_buffer-clause-told : goal.returns-in-Err-fill_buffer-clause-told
returns-in-Err-fill_buffer-clause-told g c = told_failed c.in-Err-fill_buffer.ensures.fails (λ sure. true≢false (sym (c.in-Err-fill_buffer.ensures.sure sure).0))

pub returns-in-Err-check_record_header-clause-told : goal.returns-in-Err-check_record_header-clause-told
returns-in-Err-check_record_header-clause-told g c = told_of_words c.in-Err-check_record_header.fault c.in-Err-check_record_header.ensures.only (λ broken. true≢false (sym (c.in-Ok-fill_buffer.ensures.stays broken (omega arith)))) (λ sure. (c.in-Ok-fill_buffer.ensures.sure sure).1)

pub returns-in-Ok-read_octets-clause-told : goal.returns-in-Ok-read_octets-clause-told
returns-in-Ok-read_octets-clause-told g c = told_sound refl refl (λ broken. true≢false (sym (c.in-Ok-fill_buffer.ensures.stays broken (omega arith)))) (λ sure. c.read_octets.ensures.lasts (c.in-Ok-fill_buffer.ensures.sure sure).1)

pub returns-in-Err-read_octets-clause-told : goal.returns-in-Err-read_octets-clause-told
returns-in-Err-read_octets-clause-told g c =
    let e = c.in-Err-read_octets.ensures in
    told_of_octets c.fill_buffer-2.new.source c.args.number c.parse_record_header-head.result.captured _ _ c.in-Err-read_octets.fault e.octets e.failed e.sure c.read_octets.ensures.lasts (λ broken. true≢false (sym (c.in-Ok-fill_buffer.ensures.stays broken (omega arith)))) (λ sure. (c.in-Ok-fill_buffer.ensures.sure sure).1)
