use Rattle.std.proofs.Common.{true, ◌≡◌, ◌<◌, Some, length, slice_index_or, refl, subst, arith}
use Rattle.std.specs.Prelude.{slice_get}
use Rattle.std.specs.Io.KnownBytes.{Appends}
use Rattle.std.proofs.lemmas.Option.{slice_get-get_or}
use Rattle.bridge_limits.proofs.Lists.{set_is}
use Rattle.bridge_capture.specs.WrittenCapture.{written_record}
use Rattle.bridge_capture.specs.Sinks.{AppendsPrefix}
use Rattle.bridge_capture.proofs.Looks.{lasts_set, sure_next, one_place}
use Rattle.bridge_core.specs.CaptureWriters.{writer_ports}
use Rattle.bridge_core.proofs.Written.{numbers_set, writes_one, breaks_one, writes_none, fits_record}
use Rattle.bridge_core.proofs.capture_writer.write_frame.Goals as goal

pub returns-in_default-clause-writes : goal.returns-in_default-clause-writes
returns-in_default-clause-writes g c = λ olds left h. writes_none g.W.ByteSink.contents (writer_ports c.args.lines.now) olds c.args.sinks.now left c.args.sent.now (c.in_default.ensures.none refl) h

pub returns-in-Ok-clause-writes : goal.returns-in-Ok-clause-writes
returns-in-Ok-clause-writes g c = λ olds left h.
    let sent = c.args.sent.now in
    let contents = g.W.ByteSink.contents in
    let place = c.in-Some.place in
    let inside : place < length c.args.sinks.now = (let within = c.in-Some.ensures.within in let size = c.requires.size in omega (arith, within, size)) in
    let mid = slice_index_or c.args.sinks.now place c.index-sinks-place.result in
    let was : slice_get c.args.sinks.now place ≡ Some mid = slice_get-get_or c.args.sinks.now place c.index-sinks-place.result inside in
    let more = subst (λ l. Appends (contents mid) (contents c.put.new.sink) (written_record sent.done sent.len l)) c.deref.ensures.value c.in-Ok.ensures.ok in
    writes_one contents (writer_ports c.args.lines.now) olds c.args.sinks.now left sent place mid c.put.new.sink c.requires.rises c.in-Some.ensures.there was more (fits_record sent c.requires.writable.0 c.requires.writable.1 c.requires.writable.2) h

pub returns-in-Ok-clause-numbers : goal.returns-in-Ok-clause-numbers
returns-in-Ok-clause-numbers g c = numbers_set c.args.lines.now c.in-Some.place _ _ refl

pub returns-in-Err-clause-writes : goal.returns-in-Err-clause-writes
returns-in-Err-clause-writes g c = λ olds left h.
    let sent = c.args.sent.now in
    let contents = g.W.ByteSink.contents in
    let place = c.in-Some.place in
    let inside : place < length c.args.sinks.now = (let within = c.in-Some.ensures.within in let size = c.requires.size in omega (arith, within, size)) in
    let mid = slice_index_or c.args.sinks.now place c.index-sinks-place.result in
    let was : slice_get c.args.sinks.now place ≡ Some mid = slice_get-get_or c.args.sinks.now place c.index-sinks-place.result inside in
    let front = subst (λ l. AppendsPrefix (contents mid) (contents c.put.new.sink) (written_record sent.done sent.len l)) c.deref.ensures.value c.in-Err.ensures.err in
    (refl, breaks_one contents (writer_ports c.args.lines.now) olds c.args.sinks.now left sent place mid c.put.new.sink c.requires.rises c.in-Some.ensures.there was front h)

pub returns-in-Err-clause-numbers : goal.returns-in-Err-clause-numbers
returns-in-Err-clause-numbers g c = numbers_set c.args.lines.now c.in-Some.place _ _ refl

pub returns-in-Err-clause-failed : goal.returns-in-Err-clause-failed
returns-in-Err-clause-failed g c = λ i w port is.
    let sent = c.args.sent.now in
    let place = c.in-Some.place in
    let same : i ≡ place = one_place (writer_ports c.args.lines.now) i place sent.port c.requires.rises port c.in-Some.ensures.there in
    let now : c.put.new.sink ≡ w = set_is c.args.sinks.now place c.put.new.sink w (rw same at is) in
    subst (λ z. g.W.ByteSink.has_failed z ≡ true) now c.in-Err.ensures.fails

pub returns-in-Err-clause-sound : goal.returns-in-Err-clause-sound
returns-in-Err-clause-sound g c = λ sure i w port is.
    let sent = c.args.sent.now in
    let place = c.in-Some.place in
    let inside : place < length c.args.sinks.now = (let within = c.in-Some.ensures.within in let size = c.requires.size in omega (arith, within, size)) in
    let same : i ≡ place = one_place (writer_ports c.args.lines.now) i place sent.port c.requires.rises port c.in-Some.ensures.there in
    let now : c.put.new.sink ≡ w = set_is c.args.sinks.now place c.put.new.sink w (rw same at is) in
    subst (λ z. g.W.ByteSink.ran_out z ≡ true) now (c.in-Err.ensures.sure (sure_next g.W.ByteSink.never_fails c.args.sinks.now place c.index-sinks-place.result inside sure))

pub returns-in-Ok-clause-holds : goal.returns-in-Ok-clause-holds
returns-in-Ok-clause-holds g c = λ sure.
    let inside : c.in-Some.place < length c.args.sinks.now = (let within = c.in-Some.ensures.within in let size = c.requires.size in omega (arith, within, size)) in
    lasts_set g.W.ByteSink.never_fails c.args.sinks.now c.in-Some.place c.index-sinks-place.result c.put.new.sink inside c.put.ensures.lasts sure

pub returns-in-Err-clause-holds : goal.returns-in-Err-clause-holds
returns-in-Err-clause-holds g c = λ sure.
    let inside : c.in-Some.place < length c.args.sinks.now = (let within = c.in-Some.ensures.within in let size = c.requires.size in omega (arith, within, size)) in
    lasts_set g.W.ByteSink.never_fails c.args.sinks.now c.in-Some.place c.index-sinks-place.result c.put.new.sink inside c.put.ensures.lasts sure
