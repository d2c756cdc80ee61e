use Rattle.std.proofs.Common.{◌≡◌, ℕ, ◌+◌, ◌<◌, ◌≤◌, ◌∷◌, ◌++◌, [], arith, ap, sym, subst, ◌∙◌, Some, Ok, Err, slice_get, slice_set}
use Rattle.std.proofs.lemmas.Option.{same_Some}
use Rattle.bridge_capture.specs.Reading.{packet_frame}
use Rattle.bridge_capture.specs.StandsFor.{IsRefusal}
use Rattle.bridge_relay.specs.Ports.{StartsNoEarlier}
use Rattle.bridge_semantics.specs.Events.{arrival, Arrived}
use Rattle.bridge_semantics.specs.Merge.{input_events, capture_input}
use Rattle.bridge_relay.specs.RelayState.{RelayStandsFor}
use Rattle.bridge_capture.specs.CaptureReaders.{run_fault, port_numbers, total_frames_left}
use Rattle.bridge_core.specs.CaptureWriters.{AreWritten, writer_ports as written_numbers}
use Rattle.bridge_core.specs.Running.{IsUnderWay, CanTakeFrames, StopsForMemory, StopsUnderWay}
use Rattle.bridge_core.proofs.Faults.{at_written, memory_read, memory_written, ok_err, written_read}
use Rattle.bridge_core.proofs.Heads.{heads_but}
use Rattle.bridge_core.proofs.Steps.{all_later, depart_stops, look_stops, memory_before, newest_late, number_at, one_place, stood, waits_of, went_on, written_so}
use Rattle.bridge_core.proofs.Taken.{again, err_is, fewer_room, may_again, more_may_come, numbers_given, numbers_renewed, port_known, read_at, renewed, rest_left, still_reading}
use Rattle.bridge_core.proofs.run.process_frame.Goals as goal

pub send_due_frames-requires-clause-early : goal.send_due_frames-requires-clause-early
send_due_frames-requires-clause-early g c = let h = c.take_frame-number.ensures.given in c.requires.may.onward c.args.place h.lane c.take_frame-number.result.1 h.there h.ahead

pub returns-in-Err-clause-goes : goal.returns-in-Err-clause-goes
returns-in-Err-clause-goes g c = λ p texts commanded next olds before u rests are.
    let h = c.take_frame-number.ensures.given in
    let first = again c.args.lanes.now c.take_frame-number.new.lanes c.args.place c.take_frame-number.result c.requires.first h in
    let early = before h.lane c.take_frame-number.result.1 h.there h.ahead in
    subst (λ ns. StopsUnderWay p texts rests commanded next g.W.ByteSink.contents ns olds c.send_due_frames.new.sinks c.in-Err.fault) (sym (numbers_given c.args.lanes.now c.take_frame-number.new.lanes c.args.place c.take_frame-number.result h))
    (depart_stops g.R.ByteSource.remaining g.W.ByteSink.contents p texts commanded next olds c.args.relay.now c.args.lanes.now c.args.sources.now c.args.sinks.now u c.requires.sources rests
    (Some c.take_frame-number.result.1.time) c.send_due_frames.new.relay (written_numbers c.args.lines.now) c.send_due_frames.new.sinks c.in-Err.fault c.requires.lines
    (all_later g.R.ByteSource.remaining g.W.ByteSink.contents p texts commanded next olds c.args.relay.now c.args.lanes.now c.args.sources.now c.args.sinks.now u c.requires.sources c.requires.may c.args.place first early)
    (waits_of c.take_frame-number.result.1.time next early)
    (c.in-Err.ensures.departs p (input_events u.inputs) olds u.left u.stands
    (written_so g.R.ByteSource.remaining g.W.ByteSink.contents p texts commanded next olds c.args.relay.now c.args.lanes.now c.args.sources.now c.args.sinks.now u c.requires.sources (written_numbers c.args.lines.now) c.requires.lines)))

pub returns-in-Err-clause-same : goal.returns-in-Err-clause-same
returns-in-Err-clause-same g c = (c.send_due_frames.ensures.same.0, numbers_given c.args.lanes.now c.take_frame-number.new.lanes c.args.place c.take_frame-number.result c.take_frame-number.ensures.given, c.send_due_frames.ensures.numbers)

pub returns-in-Err-clause-devices : goal.returns-in-Err-clause-devices
returns-in-Err-clause-devices g c = record {
  read = λ port e. absurd (written_read _ _ _ _ c.in-Err.ensures.only.1 e);
  sure = λ sure port e. written_read _ _ _ _ c.in-Err.ensures.only.1 e;
  lasts = λ sure. sure;
  wrote = λ port e i w h k. c.in-Err.ensures.failed port e i w (subst (λ ns. slice_get ns i ≡ Some port) (sym c.requires.lines) h) k;
  sound = λ sure port e i w h k. c.in-Err.ensures.sound sure port e i w (subst (λ ns. slice_get ns i ≡ Some port) (sym c.requires.lines) h) k;
  holds = c.send_due_frames.ensures.holds;
}

pub handle_arrival-requires-clause-known : goal.handle_arrival-requires-clause-known
handle_arrival-requires-clause-known g c = port_known c.args.relay.now c.send_due_frames.new.relay c.args.lanes.now c.take_frame-number.new.lanes c.args.place c.take_frame-number.result c.requires.may c.take_frame-number.ensures.given c.send_due_frames.ensures.same.0

pub handle_arrival-requires-clause-time : goal.handle_arrival-requires-clause-time
handle_arrival-requires-clause-time g c = let h = c.take_frame-number.ensures.given in (c.send_due_frames.ensures.early, (c.requires.may.each c.args.place h.lane h.there c.take_frame-number.result.1 h.ahead).early)

pub handle_arrival-requires-clause-octets : goal.handle_arrival-requires-clause-octets
handle_arrival-requires-clause-octets g c = let h = c.take_frame-number.ensures.given in let z = c.requires.may.each c.args.place h.lane h.there c.take_frame-number.result.1 h.ahead in (z.small, z.within)

pub handle_arrival-requires-clause-few : goal.handle_arrival-requires-clause-few
handle_arrival-requires-clause-few g c =
    let h = c.take_frame-number.ensures.given in
    subst (λ n. n < 16000000) (sym c.send_due_frames.ensures.same.1) (more_may_come c.args.relay.now c.args.lanes.now c.args.place h.lane c.take_frame-number.result.1 c.requires.may h.there h.ahead)

pub read_next_ahead-requires-clause-reading : goal.read_next_ahead-requires-clause-reading
read_next_ahead-requires-clause-reading g c = still_reading c.args.lanes.now c.take_frame-number.new.lanes c.args.place c.take_frame-number.result c.requires.may.each c.take_frame-number.ensures.given

pub returns-in-Err-handle_arrival-clause-goes : goal.returns-in-Err-handle_arrival-clause-goes
returns-in-Err-handle_arrival-clause-goes g c = λ p texts commanded next olds before u rests are.
    let h = c.take_frame-number.ensures.given in
    let first = again c.args.lanes.now c.take_frame-number.new.lanes c.args.place c.take_frame-number.result c.requires.first h in
    let early = before h.lane c.take_frame-number.result.1 h.there h.ahead in
    let d = c.in_default.ensures.departs p (input_events u.inputs) olds u.left u.stands
    (written_so g.R.ByteSource.remaining g.W.ByteSink.contents p texts commanded next olds c.args.relay.now c.args.lanes.now c.args.sources.now c.args.sinks.now u c.requires.sources (written_numbers c.args.lines.now) c.requires.lines) in
    let same : c.send_due_frames.new.relay ≡ c.handle_arrival.new.self = sym c.in-Err-handle_arrival.ensures.err in
    let reaches = c.assert_reached.ensures.reaches p (input_events u.inputs) d.0 c.take_frame-number.result.1.time (subst (λ b. RelayStandsFor p b (input_events u.inputs) d.0) same d.1) (subst (λ b. b.earliest ≤ c.take_frame-number.result.1.time) same c.send_due_frames.ensures.early) (subst (λ b. StartsNoEarlier (g.G.Agenda.held b.ports.agenda) c.take_frame-number.result.1.time) same c.in_default.ensures.waits) in
    let late = newest_late (capture_input h.lane.number (packet_frame c.take_frame-number.result.1)) u.inputs (u.follow c.args.place h.lane c.take_frame-number.result.1 h.there h.ahead) in
    subst (λ ns. StopsForMemory p texts rests commanded next g.W.ByteSink.contents ns olds c.send_due_frames.new.sinks) (sym (numbers_given c.args.lanes.now c.take_frame-number.new.lanes c.args.place c.take_frame-number.result h))
    (memory_before g.R.ByteSource.remaining g.W.ByteSink.contents p texts commanded next olds c.args.relay.now c.args.lanes.now c.args.sources.now c.args.sinks.now u c.requires.sources rests c.take_frame-number.result.1.time c.send_due_frames.new.sinks d.0 late
    (all_later g.R.ByteSource.remaining g.W.ByteSink.contents p texts commanded next olds c.args.relay.now c.args.lanes.now c.args.sources.now c.args.sinks.now u c.requires.sources c.requires.may c.args.place first early)
    early reaches
    (subst (λ ns. AreWritten g.W.ByteSink.contents ns olds c.send_due_frames.new.sinks d.0) c.requires.lines d.2))

pub returns-in-Err-handle_arrival-clause-same : goal.returns-in-Err-handle_arrival-clause-same
returns-in-Err-handle_arrival-clause-same g c = (ap (λ b. b.plan) c.in-Err-handle_arrival.ensures.err ∙ c.send_due_frames.ensures.same.0, numbers_given c.args.lanes.now c.take_frame-number.new.lanes c.args.place c.take_frame-number.result c.take_frame-number.ensures.given, c.send_due_frames.ensures.numbers)

pub returns-in-Ok-read_next_ahead-clause-goes : goal.returns-in-Ok-read_next_ahead-clause-goes
returns-in-Ok-read_next_ahead-clause-goes g c = λ p texts commanded next olds before u.
    let h = c.take_frame-number.ensures.given in
    let first = again c.args.lanes.now c.take_frame-number.new.lanes c.args.place c.take_frame-number.result c.requires.first h in
    let early = before h.lane c.take_frame-number.result.1 h.there h.ahead in
    let r = renewed g.R.ByteSource.remaining c.args.lanes.now c.take_frame-number.new.lanes c.read_next_ahead.new.lanes c.args.sources.now c.read_next_ahead.new.sources c.args.place c.take_frame-number.result (Ok tt) h c.in-Ok-read_next_ahead.ensures.looked in
    let d = c.in_default.ensures.departs p (input_events u.inputs) olds u.left u.stands
    (written_so g.R.ByteSource.remaining g.W.ByteSink.contents p texts commanded next olds c.args.relay.now c.args.lanes.now c.args.sources.now c.args.sinks.now u c.requires.sources (written_numbers c.args.lines.now) c.requires.lines) in
    let packet = c.take_frame-number.result.1 in
    let stands = subst (λ (n : ℕ). RelayStandsFor p c.handle_arrival.new.self (Arrived (arrival packet.time n packet.octets.items packet.len) ∷ input_events u.inputs) d.0) (sym h.number) (c.in-Ok.ensures.stands p (input_events u.inputs) d.0 d.1) in
    let latest = (c.requires.may.each c.args.place h.lane h.there packet h.ahead).latest in
    subst (λ ls. IsUnderWay g.R.ByteSource.remaining g.W.ByteSink.contents p texts commanded next olds c.handle_arrival.new.self ls c.read_next_ahead.new.sources c.send_due_frames.new.sinks) (sym r.lanes_are)
    (subst (λ ss. IsUnderWay g.R.ByteSource.remaining g.W.ByteSink.contents p texts commanded next olds c.handle_arrival.new.self (slice_set c.args.lanes.now c.args.place r.lane) ss c.send_due_frames.new.sinks) (sym r.sources_are)
    (went_on g.R.ByteSource.remaining g.W.ByteSink.contents p texts commanded next olds c.args.relay.now c.args.lanes.now c.args.sources.now c.args.sinks.now u c.requires.sources c.requires.may c.args.place first early
    r.lane r.left c.handle_arrival.new.self c.send_due_frames.new.sinks d.0 r.number (λ e a. subst (λ (n : ℕ). n ≤ e.time) latest (r.onward e a))
    (r.looks (texts h.lane.number) _ (stood g.R.ByteSource.remaining g.W.ByteSink.contents p texts commanded next olds c.args.relay.now c.args.lanes.now c.args.sources.now c.args.sinks.now u c.requires.sources c.requires.may c.args.place first early r.source r.lent))
    stands (let moved = c.in-Ok.ensures.moved in let at = moved.1 in omega (arith, at)) (subst (λ ns. AreWritten g.W.ByteSink.contents ns olds c.send_due_frames.new.sinks d.0) c.requires.lines d.2)))

pub returns-in-Ok-read_next_ahead-clause-waits : goal.returns-in-Ok-read_next_ahead-clause-waits
returns-in-Ok-read_next_ahead-clause-waits g c = subst (StartsNoEarlier (g.G.Agenda.held c.handle_arrival.new.self.ports.agenda)) (sym c.in-Ok.ensures.moved.1) c.in-Ok.ensures.waits

pub returns-in-Ok-read_next_ahead-clause-may : goal.returns-in-Ok-read_next_ahead-clause-may
returns-in-Ok-read_next_ahead-clause-may g c =
    let h = c.take_frame-number.ensures.given in
    let first = again c.args.lanes.now c.take_frame-number.new.lanes c.args.place c.take_frame-number.result c.requires.first h in
    let r = renewed g.R.ByteSource.remaining c.args.lanes.now c.take_frame-number.new.lanes c.read_next_ahead.new.lanes c.args.sources.now c.read_next_ahead.new.sources c.args.place c.take_frame-number.result (Ok tt) h c.in-Ok-read_next_ahead.ensures.looked in
    let latest = (c.requires.may.each c.args.place h.lane h.there c.take_frame-number.result.1 h.ahead).latest in
    let moved = c.in-Ok.ensures.moved in
    subst (CanTakeFrames c.handle_arrival.new.self) (sym r.lanes_are)
    (may_again c.args.relay.now c.handle_arrival.new.self c.args.lanes.now c.args.place first r.lane c.requires.may (moved.2 ∙ c.send_due_frames.ensures.same.0) (moved.0 ∙ ap (λ n. n + 1) c.send_due_frames.ensures.same.1) moved.1 r.number r.is_lane (λ e a. subst (λ (n : ℕ). n ≤ e.time) latest (r.onward e a)) r.fewer)

pub returns-in-Ok-read_next_ahead-clause-fewer : goal.returns-in-Ok-read_next_ahead-clause-fewer
returns-in-Ok-read_next_ahead-clause-fewer g c =
    let h = c.take_frame-number.ensures.given in
    let r = renewed g.R.ByteSource.remaining c.args.lanes.now c.take_frame-number.new.lanes c.read_next_ahead.new.lanes c.args.sources.now c.read_next_ahead.new.sources c.args.place c.take_frame-number.result (Ok tt) h c.in-Ok-read_next_ahead.ensures.looked in
    let z = fewer_room c.args.lanes.now c.args.place h.lane r.lane c.take_frame-number.result.1 h.there h.ahead r.fewer in
    subst (λ ls. total_frames_left ls < total_frames_left c.args.lanes.now) (sym r.lanes_are) (omega (arith, z))

pub returns-in-Ok-read_next_ahead-clause-same : goal.returns-in-Ok-read_next_ahead-clause-same
returns-in-Ok-read_next_ahead-clause-same g c =
    let h = c.take_frame-number.ensures.given in
    let r = renewed g.R.ByteSource.remaining c.args.lanes.now c.take_frame-number.new.lanes c.read_next_ahead.new.lanes c.args.sources.now c.read_next_ahead.new.sources c.args.place c.take_frame-number.result (Ok tt) h c.in-Ok-read_next_ahead.ensures.looked in
    (c.in-Ok.ensures.moved.2 ∙ c.send_due_frames.ensures.same.0, numbers_renewed g.R.ByteSource.remaining h.lane c.args.lanes.now c.read_next_ahead.new.lanes c.args.sources.now c.read_next_ahead.new.sources c.args.place (Ok tt) h.there r, c.send_due_frames.ensures.numbers)

pub returns-in-Err-read_next_ahead-clause-goes : goal.returns-in-Err-read_next_ahead-clause-goes
returns-in-Err-read_next_ahead-clause-goes g c = λ p texts commanded next olds before u rests are.
    let h = c.take_frame-number.ensures.given in
    let fault = c.in-Err-read_next_ahead.fault in
    let first = again c.args.lanes.now c.take_frame-number.new.lanes c.args.place c.take_frame-number.result c.requires.first h in
    let early = before h.lane c.take_frame-number.result.1 h.there h.ahead in
    let r = renewed g.R.ByteSource.remaining c.args.lanes.now c.take_frame-number.new.lanes c.read_next_ahead.new.lanes c.args.sources.now c.read_next_ahead.new.sources c.args.place c.take_frame-number.result (Err fault) h c.in-Err-read_next_ahead.ensures.looked in
    let d = c.in_default.ensures.departs p (input_events u.inputs) olds u.left u.stands
    (written_so g.R.ByteSource.remaining g.W.ByteSink.contents p texts commanded next olds c.args.relay.now c.args.lanes.now c.args.sources.now c.args.sinks.now u c.requires.sources (written_numbers c.args.lines.now) c.requires.lines) in
    let packet = c.take_frame-number.result.1 in
    let stands = subst (λ (n : ℕ). RelayStandsFor p c.handle_arrival.new.self (Arrived (arrival packet.time n packet.octets.items packet.len) ∷ input_events u.inputs) d.0) (sym h.number) (c.in-Ok.ensures.stands p (input_events u.inputs) d.0 d.1) in
    let moved = c.in-Ok.ensures.moved in
    let at = moved.1 in
    let reaches = c.assert_reached-in-Err-read_next_ahead.ensures.reaches p (Arrived (arrival packet.time h.lane.number packet.octets.items packet.len) ∷ input_events u.inputs) d.0 packet.time stands (omega (arith, at)) c.in-Ok.ensures.waits in
    subst (λ z. StopsUnderWay p texts rests commanded next g.W.ByteSink.contents (port_numbers c.read_next_ahead.new.lanes) olds c.send_due_frames.new.sinks z) (ap (λ n. run_fault n fault) h.number ∙ sym c.run_fault.ensures)
    (subst (λ ns. StopsUnderWay p texts rests commanded next g.W.ByteSink.contents ns olds c.send_due_frames.new.sinks (run_fault h.lane.number fault)) (sym (numbers_renewed g.R.ByteSource.remaining h.lane c.args.lanes.now c.read_next_ahead.new.lanes c.args.sources.now c.read_next_ahead.new.sources c.args.place (Err fault) h.there r))
    (look_stops g.R.ByteSource.remaining g.W.ByteSink.contents p texts commanded next olds c.args.relay.now c.args.lanes.now c.args.sources.now c.args.sinks.now u c.requires.sources c.requires.may c.args.place first early rests fault c.send_due_frames.new.sinks d.0 (λ e. c.in-Err-read_next_ahead.ensures.no_write (ap (λ f. Err f) e))
    (subst (λ o. IsRefusal fault o (texts h.lane.number) (u.frames h.lane.number ++ packet_frame packet ∷ [])) (rest_left g.R.ByteSource.remaining h.lane c.args.lanes.now c.read_next_ahead.new.lanes c.args.sources.now c.read_next_ahead.new.sources c.args.place (Err fault) rests h.there c.requires.sources r are)
    (r.looks (texts h.lane.number) _ (stood g.R.ByteSource.remaining g.W.ByteSink.contents p texts commanded next olds c.args.relay.now c.args.lanes.now c.args.sources.now c.args.sinks.now u c.requires.sources c.requires.may c.args.place first early r.source r.lent)))
    reaches (subst (λ ns. AreWritten g.W.ByteSink.contents ns olds c.send_due_frames.new.sinks d.0) c.requires.lines d.2)))

pub returns-in-Err-read_next_ahead-clause-same : goal.returns-in-Err-read_next_ahead-clause-same
returns-in-Err-read_next_ahead-clause-same g c =
    let h = c.take_frame-number.ensures.given in
    let r = renewed g.R.ByteSource.remaining c.args.lanes.now c.take_frame-number.new.lanes c.read_next_ahead.new.lanes c.args.sources.now c.read_next_ahead.new.sources c.args.place c.take_frame-number.result (Err c.in-Err-read_next_ahead.fault) h c.in-Err-read_next_ahead.ensures.looked in
    (c.in-Ok.ensures.moved.2 ∙ c.send_due_frames.ensures.same.0, numbers_renewed g.R.ByteSource.remaining h.lane c.args.lanes.now c.read_next_ahead.new.lanes c.args.sources.now c.read_next_ahead.new.sources c.args.place (Err c.in-Err-read_next_ahead.fault) h.there r, c.send_due_frames.ensures.numbers)

pub returns-in-Err-read_next_ahead-clause-devices : goal.returns-in-Err-read_next_ahead-clause-devices
returns-in-Err-read_next_ahead-clause-devices g c = record {
  read = λ port e i w k m.
      let h = c.take_frame-number.ensures.given in
      let z = read_at c.take_frame-number.result.0 port c.in-Err-read_next_ahead.fault (sym c.run_fault.ensures ∙ err_is _ _ e) in
      let here : slice_get (port_numbers c.args.lanes.now) c.args.place ≡ Some port = number_at c.args.lanes.now c.args.place h.lane h.there ∙ ap (λ n. Some n) (h.number ∙ sym z.1) in
      let same = one_place c.args.lanes.now i c.args.place port c.requires.may.rises k here in
      c.in-Err-read_next_ahead.ensures.read (ap (λ f. Err f) z.0) w (subst (λ n. slice_get c.read_next_ahead.new.sources n ≡ Some w) same m);
  sure = λ sure port e.
      let z = read_at c.take_frame-number.result.0 port c.in-Err-read_next_ahead.fault (sym c.run_fault.ensures ∙ err_is _ _ e) in
      c.in-Err-read_next_ahead.ensures.sure sure (ap (λ f. Err f) z.0);
  lasts = c.read_next_ahead.ensures.lasts;
  wrote = λ port e. absurd (at_written c.take_frame-number.result.0 port c.in-Err-read_next_ahead.fault (ap (λ f. Err f) (sym c.run_fault.ensures) ∙ e));
  sound = λ sure port e. absurd (at_written c.take_frame-number.result.0 port c.in-Err-read_next_ahead.fault (ap (λ f. Err f) (sym c.run_fault.ensures) ∙ e));
  holds = c.send_due_frames.ensures.holds;
}

pub send_due_frames-requires-clause-size : goal.send_due_frames-requires-clause-size
send_due_frames-requires-clause-size g c = c.requires.sinks

pub send_due_frames-requires-clause-waits : goal.send_due_frames-requires-clause-waits
send_due_frames-requires-clause-waits g c = c.requires.waits

pub handle_arrival-requires-clause-due : goal.handle_arrival-requires-clause-due
handle_arrival-requires-clause-due g c = c.in_default.ensures.waits

pub returns-in-Err-handle_arrival-clause-devices : goal.returns-in-Err-handle_arrival-clause-devices
returns-in-Err-handle_arrival-clause-devices g c = record {
  read = λ port e. absurd (memory_read _ _ e);
  sure = λ sure port e. memory_read _ _ e;
  lasts = λ sure. sure;
  wrote = λ port e. absurd (memory_written _ e);
  sound = λ sure port e. absurd (memory_written _ e);
  holds = c.send_due_frames.ensures.holds;
}

pub returns-in-Ok-read_next_ahead-clause-moved : goal.returns-in-Ok-read_next_ahead-clause-moved
returns-in-Ok-read_next_ahead-clause-moved g c = λ l p there ahead.
    let h = c.take_frame-number.ensures.given in
    let same : h.lane.ahead ≡ l.ahead = ap (λ z. z.ahead) (same_Some h.lane l (sym h.there ∙ there)) in
    let one : c.take_frame-number.result.1 ≡ p = same_Some c.take_frame-number.result.1 p (sym h.ahead ∙ same ∙ ahead) in
    subst (λ q. c.handle_arrival.new.self.earliest ≡ q.time) one c.in-Ok.ensures.moved.1

pub returns-in-Ok-read_next_ahead-clause-devices : goal.returns-in-Ok-read_next_ahead-clause-devices
returns-in-Ok-read_next_ahead-clause-devices g c = record {
  read = λ port e. absurd (ok_err _ _ e);
  sure = λ sure port e. ok_err _ _ e;
  lasts = c.read_next_ahead.ensures.lasts;
  wrote = λ port e. absurd (ok_err _ _ e);
  sound = λ sure port e. absurd (ok_err _ _ e);
  holds = c.send_due_frames.ensures.holds;
}

pub update_head-requires-clause-place : goal.update_head-requires-clause-place
update_head-requires-clause-place g c = let place = c.requires.place in let given = c.take_frame-number.auto.lanes in let looked = c.read_next_ahead.auto.lanes in omega (arith, place, given, looked)

pub update_head-requires-clause-few : goal.update_head-requires-clause-few
update_head-requires-clause-few g c = let few = c.requires.heads.few in let given = c.take_frame-number.auto.lanes in let looked = c.read_next_ahead.auto.lanes in omega (arith, few, given, looked)

pub update_head-requires-clause-others : goal.update_head-requires-clause-others
update_head-requires-clause-others g c =
    let h = c.take_frame-number.ensures.given in
    let r = renewed g.R.ByteSource.remaining c.args.lanes.now c.take_frame-number.new.lanes c.read_next_ahead.new.lanes c.args.sources.now c.read_next_ahead.new.sources c.args.place c.take_frame-number.result (Ok tt) h c.in-Ok-read_next_ahead.ensures.looked in
    heads_but (g.G.Agenda.held c.args.heads.now) c.args.lanes.now c.read_next_ahead.new.lanes c.args.place r.lane r.lanes_are c.requires.heads

pub returns-in-Ok-read_next_ahead-clause-heads : goal.returns-in-Ok-read_next_ahead-clause-heads
returns-in-Ok-read_next_ahead-clause-heads g c = c.update_head.ensures
