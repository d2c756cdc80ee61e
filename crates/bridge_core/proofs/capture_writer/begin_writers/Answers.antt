use Rattle.std.proofs.Common.{◌<◌, length, slice_index_or, refl, ap, ◌∙◌, arith}
use Rattle.std.proofs.lemmas.List.{take_all}
use Rattle.std.proofs.lemmas.Option.{slice_get-get_or}
use Rattle.bridge_capture.proofs.Looks.{lasts_set, sure_next}
use Rattle.bridge_relay.proofs.Rooms.{few_more, none_few, room_kept, room_left}
use Rattle.bridge_core.specs.declared.capture_writer.CaptureWriter.{CaptureWriter}
use Rattle.bridge_core.specs.CaptureWriters.{writer_ports}
use Rattle.bridge_core.proofs.Written.{headers_none, headers_more, headers_stop, headers_all, numbers_more}
use Rattle.bridge_core.proofs.capture_writer.begin_writers.Goals as goal

pub loop-place-init : goal.loop-place-init
loop-place-init g c =
    let none = c.requires.none in
    record {
      headers = headers_none g.W.ByteSink.contents c.args.sinks.now;
      numbers = ap writer_ports none;
      holds = λ sure. sure;
      few = none_few _ (c.args.lines.ok.0 ∙ ap length none);
      room = c.requires.room;
    }

pub returns-in-Err-clause-stops : goal.returns-in-Err-clause-stops
returns-in-Err-clause-stops g c =
    let kept = c.loop-place.invariant in
    let place = c.loop-place.place in
    let below : place < length c.args.ports.now = c.loop-place-test.true in
    let inside : place < length c.loop-place.sinks = omega (arith, kept.headers.size, c.requires.size) in
    let mid = slice_index_or c.loop-place.sinks place c.index-sinks-place.result in
    headers_stop g.W.ByteSink.contents g.W.ByteSink.has_failed c.args.ports.now c.args.sinks.now c.loop-place.sinks place (slice_index_or c.args.ports.now place 0) mid c.begin.new.sink
    (slice_get-get_or c.args.ports.now place 0 below) (slice_get-get_or c.loop-place.sinks place c.index-sinks-place.result inside) c.in-Err.ensures.err c.in-Err.ensures.fails kept.headers

pub returns-in-Err-clause-sound : goal.returns-in-Err-clause-sound
returns-in-Err-clause-sound g c = λ sure.
    let kept = c.loop-place.invariant in
    let place = c.loop-place.place in
    let below : place < length c.args.ports.now = c.loop-place-test.true in
    let inside : place < length c.loop-place.sinks = omega (arith, kept.headers.size, c.requires.size) in
    let mid = slice_index_or c.loop-place.sinks place c.index-sinks-place.result in
    headers_stop g.W.ByteSink.contents g.W.ByteSink.ran_out c.args.ports.now c.args.sinks.now c.loop-place.sinks place (slice_index_or c.args.ports.now place 0) mid c.begin.new.sink
    (slice_get-get_or c.args.ports.now place 0 below) (slice_get-get_or c.loop-place.sinks place c.index-sinks-place.result inside) c.in-Err.ensures.err
    (c.in-Err.ensures.sure (sure_next g.W.ByteSink.never_fails c.loop-place.sinks place c.index-sinks-place.result inside (kept.holds sure))) kept.headers

pub returns-in-Err-clause-holds : goal.returns-in-Err-clause-holds
returns-in-Err-clause-holds g c = λ sure.
    let kept = c.loop-place.invariant in
    let below = c.loop-place-test.true in
    let inside : c.loop-place.place < length c.loop-place.sinks = omega (arith, kept.headers.size, c.requires.size, below) in
    lasts_set g.W.ByteSink.never_fails c.loop-place.sinks c.loop-place.place c.index-sinks-place.result c.begin.new.sink inside c.begin.ensures.lasts (kept.holds sure)

pub loop-place-preserved : goal.loop-place-preserved
loop-place-preserved g c =
    let kept = c.loop-place.invariant in
    let place = c.loop-place.place in
    let below : place < length c.args.ports.now = c.loop-place-test.true in
    let inside : place < length c.loop-place.sinks = omega (arith, kept.headers.size, c.requires.size) in
    let mid = slice_index_or c.loop-place.sinks place c.index-sinks-place.result in
    let line : CaptureWriter = record { number = slice_index_or c.args.ports.now place 0; writer = c.in-Ok.writer } in
    record {
      headers = headers_more g.W.ByteSink.contents c.args.sinks.now c.loop-place.sinks place mid c.begin.new.sink (slice_get-get_or c.loop-place.sinks place c.index-sinks-place.result inside) c.in-Ok.ensures.ok kept.headers;
      numbers = numbers_more c.loop-place.lines.items c.push_reserved.new.self.items line c.args.ports.now place c.push_reserved.ensures.items below refl kept.numbers;
      holds = λ sure. lasts_set g.W.ByteSink.never_fails c.loop-place.sinks place c.index-sinks-place.result c.begin.new.sink inside c.begin.ensures.lasts (kept.holds sure);
      few = few_more _ _ place kept.few c.push_reserved.ensures.len;
      room = room_kept _ _ _ kept.room c.push_reserved.ensures.capacity;
    }

pub returns-clause-lines : goal.returns-clause-lines
returns-clause-lines g c = c.loop-place.invariant.numbers ∙ take_all c.loop-place.place c.args.ports.now c.loop-place-test.false

pub returns-clause-headers : goal.returns-clause-headers
returns-clause-headers g c = headers_all g.W.ByteSink.contents c.args.ports.now c.args.sinks.now c.loop-place.sinks c.loop-place.place c.loop-place-test.false c.loop-place.invariant.headers

pub push_reserved-requires : goal.push_reserved-requires
push_reserved-requires g c =
    let kept = c.loop-place.invariant in
    room_left _ c.loop-place.place _ _ kept.few c.loop-place-test.true kept.room
