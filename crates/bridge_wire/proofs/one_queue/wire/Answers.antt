use Rattle.std.proofs.Common.{◌≡◌, [], Err, inl, ap, subst, sym, ◌∙◌}
use Rattle.bridge_wire.specs.Departures.{IsUnderWay, no_count}
use Rattle.bridge_wire.specs.Wire.{StopsRun}
use Rattle.bridge_wire.specs.OpenQueues.{packet_ahead, place_ahead, queue_reader, queue_state}
use Rattle.bridge_wire.proofs.Queues.{begins_ahead}
use Rattle.bridge_wire.proofs.Ends.{ends_err, ends_ok, refuses_first, running_new, stops_at_header, wants_behind}
use Rattle.bridge_wire.proofs.one_queue.wire.Goals as goal

pub returns-in-Err-clause-err : goal.returns-in-Err-clause-err
returns-in-Err-clause-err g c = λ text is.
    let contents = g.W.ByteSink.contents in
    let rest = g.R.ByteSource.remaining c.begin.new.source in
    subst (StopsRun c.args.speed c.args.room text rest (contents c.args.sink.now) (contents c.args.sink.now)) (sym c.run_fault.ensures)
    (refuses_first c.args.speed c.args.room text rest (contents c.args.sink.now) c.in-Err.fault (λ e. c.begin.ensures.no_write (c.in-Err.is ∙ ap Err e)) (c.in-Err.ensures.begins text is))

pub returns-in_default-clause-err : goal.returns-in_default-clause-err
returns-in_default-clause-err g c = λ text is. inl (wants_behind text (g.R.ByteSource.remaining c.begin.new.source) (g.W.ByteSink.contents c.args.sink.now) c.in-Ok.lane.ahead (c.in-Ok.ensures.begins text is).finds)

pub returns-clause-sure : goal.returns-clause-sure
returns-clause-sure g c = λ port sure is. c.send_all-done.ensures.sure port (c.begin.ensures.lasts sure) is

pub returns-in_default-begin-clause-err : goal.returns-in_default-begin-clause-err
returns-in_default-begin-clause-err g c = λ text is.
    let contents = g.W.ByteSink.contents in
    stops_at_header c.args.speed c.args.room text c.in-Ok.lane.ahead (contents c.args.sink.now) (contents c.begin-2.new.sink) (c.in-Ok.ensures.begins text is).finds c.in_default-begin.ensures.err

pub returns-clause-ok : goal.returns-clause-ok
returns-clause-ok g c = λ text is.
    let contents = g.W.ByteSink.contents in
    let running = running_new c.args.speed c.args.room (queue_state c.in-Ok-new.queue) (contents c.args.sink.now) (contents c.begin-2.new.sink) c.in-Ok-new.ensures.new c.in-Ok-new.ensures.stands c.in-Ok-begin.ensures.ok in
    let q = c.in-Ok-new.queue in
    let lane = c.in-Ok.lane in
    let same : packet_ahead c.split_packet-first.result.0 (place_ahead q) ≡ lane.ahead = ap (packet_ahead c.split_packet-first.result.0) c.in-Ok-new.ensures.ahead ∙ c.split_packet-first.ensures in
    let ahead = begins_ahead lane c.split_packet-first.result.0 q (g.R.ByteSource.remaining c.begin.new.source) text same (c.in-Ok.ensures.begins text is) in
    let under : IsUnderWay c.args.speed c.args.room text (g.R.ByteSource.remaining c.begin.new.source) (queue_reader lane.capture c.split_packet-first.result.0 q) (queue_state q) no_count (contents c.args.sink.now) (contents c.begin-2.new.sink) = record { frames = []; ahead = ahead; running = running } in
    ends_ok c.args.speed c.args.room text (g.R.ByteSource.remaining c.send_all-done.new.source) (contents c.args.sink.now) (contents c.send_all-done.new.sink) c.send_all-done.result (c.send_all-done.ensures.ends c.args.room text (contents c.args.sink.now) under)

pub returns-clause-err : goal.returns-clause-err
returns-clause-err g c = λ text is.
    let contents = g.W.ByteSink.contents in
    let running = running_new c.args.speed c.args.room (queue_state c.in-Ok-new.queue) (contents c.args.sink.now) (contents c.begin-2.new.sink) c.in-Ok-new.ensures.new c.in-Ok-new.ensures.stands c.in-Ok-begin.ensures.ok in
    let q = c.in-Ok-new.queue in
    let lane = c.in-Ok.lane in
    let same : packet_ahead c.split_packet-first.result.0 (place_ahead q) ≡ lane.ahead = ap (packet_ahead c.split_packet-first.result.0) c.in-Ok-new.ensures.ahead ∙ c.split_packet-first.ensures in
    let ahead = begins_ahead lane c.split_packet-first.result.0 q (g.R.ByteSource.remaining c.begin.new.source) text same (c.in-Ok.ensures.begins text is) in
    let under : IsUnderWay c.args.speed c.args.room text (g.R.ByteSource.remaining c.begin.new.source) (queue_reader lane.capture c.split_packet-first.result.0 q) (queue_state q) no_count (contents c.args.sink.now) (contents c.begin-2.new.sink) = record { frames = []; ahead = ahead; running = running } in
    ends_err c.args.speed c.args.room text (g.R.ByteSource.remaining c.send_all-done.new.source) (contents c.args.sink.now) (contents c.send_all-done.new.sink) c.send_all-done.result (c.send_all-done.ensures.ends c.args.room text (contents c.args.sink.now) under)
