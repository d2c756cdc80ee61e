use Rattle.std.proofs.Common.{◌≡◌, ◌<◌, length, arith, refl, sym, subst, ◌∙◌, Some, slice_get}
use Rattle.std.specs.Prelude.{IsTrue}
use Rattle.bridge_limits.specs.Members.{IsOrdered}
use Rattle.bridge_config.specs.Commands.{has_instance}
use Rattle.bridge_relay.specs.Ports.{StartsNoEarlier}
use Rattle.bridge_semantics.specs.Merge.{input_events, command_as_input}
use Rattle.bridge_capture.specs.CaptureReaders.{port_numbers}
use Rattle.bridge_core.specs.CaptureWriters.{AreWritten, writer_ports as written_numbers}
use Rattle.bridge_core.proofs.Commanded.{command_next, may_still}
use Rattle.bridge_core.proofs.Faults.{ok_err, written_read}
use Rattle.bridge_core.proofs.Steps.{depart_stops, written_so}
use Rattle.bridge_core.proofs.run.process_command.Goals as goal

pub returns-in-Err-clause-goes : goal.returns-in-Err-clause-goes
returns-in-Err-clause-goes g c = λ p texts commanded next olds after u. c.in-Err.ensures.goes p texts commanded (Some (command_as_input c.args.command)) olds refl u

pub returns-in-Err-send_due_frames-clause-goes : goal.returns-in-Err-send_due_frames-clause-goes
returns-in-Err-send_due_frames-clause-goes g c = λ p texts commanded next olds after u rests are.
    let at = Some c.args.command.at in
    let v = c.in_default.ensures.goes p texts commanded (Some (command_as_input c.args.command)) olds refl u in
    let size : length c.process_earlier_frames.new.sources ≡ length c.process_earlier_frames.new.lanes = (let s = c.process_earlier_frames.auto.sources in let l = c.process_earlier_frames.auto.lanes in let command_as_input = c.requires.sources in omega (arith, s, l, command_as_input)) in
    let same : written_numbers c.process_earlier_frames.new.lines ≡ port_numbers c.process_earlier_frames.new.lanes = let z = c.process_earlier_frames.ensures.same in z.2 ∙ c.requires.lines ∙ sym z.1 in
    depart_stops g.R.ByteSource.remaining g.W.ByteSink.contents p texts commanded (Some (command_as_input c.args.command)) olds c.process_earlier_frames.new.relay c.process_earlier_frames.new.lanes c.process_earlier_frames.new.sources c.process_earlier_frames.new.sinks v size rests
    at c.send_due_frames.new.relay (written_numbers c.process_earlier_frames.new.lines) c.send_due_frames.new.sinks c.in-Err-send_due_frames.fault same c.in_default.ensures.later (c.args.command.at, refl, omega arith)
    (c.in-Err-send_due_frames.ensures.departs p (input_events v.inputs) olds v.left v.stands
    (written_so g.R.ByteSource.remaining g.W.ByteSink.contents p texts commanded (Some (command_as_input c.args.command)) olds c.process_earlier_frames.new.relay c.process_earlier_frames.new.lanes c.process_earlier_frames.new.sources c.process_earlier_frames.new.sinks v size (written_numbers c.process_earlier_frames.new.lines) same))

pub returns-in-Err-send_due_frames-clause-devices : goal.returns-in-Err-send_due_frames-clause-devices
returns-in-Err-send_due_frames-clause-devices g c = record {
  read = λ port e. absurd (written_read _ _ _ _ c.in-Err-send_due_frames.ensures.only.1 e);
  sure = λ sure port e. written_read _ _ _ _ c.in-Err-send_due_frames.ensures.only.1 e;
  lasts = c.process_earlier_frames.ensures.devices.lasts;
  wrote = λ port e i w h k. c.in-Err-send_due_frames.ensures.failed port e i w (subst (λ ns. slice_get ns i ≡ Some port) (sym (c.process_earlier_frames.ensures.same.2 ∙ c.requires.lines)) h) k;
  sound = λ sure port e i w h k. c.in-Err-send_due_frames.ensures.sound (c.process_earlier_frames.ensures.devices.holds sure) port e i w (subst (λ ns. slice_get ns i ≡ Some port) (sym (c.process_earlier_frames.ensures.same.2 ∙ c.requires.lines)) h) k;
  holds = λ sure. c.send_due_frames.ensures.holds (c.process_earlier_frames.ensures.devices.holds sure);
}

pub returns-clause-devices : goal.returns-clause-devices
returns-clause-devices g c = record {
  read = λ port e. absurd (ok_err _ _ e);
  sure = λ sure port e. ok_err _ _ e;
  lasts = c.process_earlier_frames.ensures.devices.lasts;
  wrote = λ port e. absurd (ok_err _ _ e);
  sound = λ sure port e. absurd (ok_err _ _ e);
  holds = λ sure. c.send_due_frames.ensures.holds (c.process_earlier_frames.ensures.devices.holds sure);
}

pub returns-clause-goes : goal.returns-clause-goes
returns-clause-goes g c = λ p texts commanded next olds after u.
    let v = c.in_default.ensures.goes p texts commanded (Some (command_as_input c.args.command)) olds refl u in
    let size : length c.process_earlier_frames.new.sources ≡ length c.process_earlier_frames.new.lanes = (let s = c.process_earlier_frames.auto.sources in let l = c.process_earlier_frames.auto.lanes in let command_as_input = c.requires.sources in omega (arith, s, l, command_as_input)) in
    let same : written_numbers c.process_earlier_frames.new.lines ≡ port_numbers c.process_earlier_frames.new.lanes = let z = c.process_earlier_frames.ensures.same in z.2 ∙ c.requires.lines ∙ sym z.1 in
    let d = c.in_default-send_due_frames.ensures.departs p (input_events v.inputs) olds v.left v.stands
    (written_so g.R.ByteSource.remaining g.W.ByteSink.contents p texts commanded (Some (command_as_input c.args.command)) olds c.process_earlier_frames.new.relay c.process_earlier_frames.new.lanes c.process_earlier_frames.new.sources c.process_earlier_frames.new.sinks v size (written_numbers c.process_earlier_frames.new.lines) same) in
    command_next g.R.ByteSource.remaining g.W.ByteSink.contents p texts commanded c.args.command next olds c.process_earlier_frames.new.relay c.clear.new.self c.process_earlier_frames.new.lanes c.process_earlier_frames.new.sources c.process_earlier_frames.new.sinks c.send_due_frames.new.sinks d.0 v after c.in_default.ensures.later
    (c.clear.ensures.stands p (input_events v.inputs) d.0 d.1) (let moved = c.clear.ensures.moved in let at = moved.0 in omega (arith, at)) (subst (λ ns. AreWritten g.W.ByteSink.contents ns olds c.send_due_frames.new.sinks d.0) same d.2)

pub returns-clause-waits : goal.returns-clause-waits
returns-clause-waits g c =
    let moved = c.clear.ensures.moved in
    subst (StartsNoEarlier (g.G.Agenda.held c.clear.new.self.ports.agenda)) (sym moved.0)
    (subst (λ ports. StartsNoEarlier (g.G.Agenda.held ports.agenda) c.args.command.at) (sym moved.3) c.in_default-send_due_frames.ensures.waits)

pub returns-clause-heads : goal.returns-clause-heads
returns-clause-heads g c = c.in_default.ensures.heads

pub returns-clause-may : goal.returns-clause-may
returns-clause-may g c =
    let moved = c.clear.ensures.moved in
    may_still c.process_earlier_frames.new.relay c.clear.new.self c.process_earlier_frames.new.lanes c.args.command.at c.in_default.ensures.may (moved.2 ∙ c.send_due_frames.ensures.same.0) (moved.1 ∙ c.send_due_frames.ensures.same.1) moved.0 c.in_default.ensures.later

pub process_earlier_frames-requires-clause-may : goal.process_earlier_frames-requires-clause-may
process_earlier_frames-requires-clause-may g c = c.requires.may

pub process_earlier_frames-requires-clause-lines : goal.process_earlier_frames-requires-clause-lines
process_earlier_frames-requires-clause-lines g c = c.requires.lines

pub process_earlier_frames-requires-clause-sources : goal.process_earlier_frames-requires-clause-sources
process_earlier_frames-requires-clause-sources g c = c.requires.sources

pub process_earlier_frames-requires-clause-sinks : goal.process_earlier_frames-requires-clause-sinks
process_earlier_frames-requires-clause-sinks g c = c.requires.sinks

pub process_earlier_frames-requires-clause-waits : goal.process_earlier_frames-requires-clause-waits
process_earlier_frames-requires-clause-waits g c = c.requires.waits

pub process_earlier_frames-requires-clause-heads : goal.process_earlier_frames-requires-clause-heads
process_earlier_frames-requires-clause-heads g c = c.requires.heads

pub process_earlier_frames-requires-clause-early : goal.process_earlier_frames-requires-clause-early
process_earlier_frames-requires-clause-early g c = c.requires.time

pub returns-in-Err-clause-same : goal.returns-in-Err-clause-same
returns-in-Err-clause-same g c = c.process_earlier_frames.ensures.same

pub returns-in-Err-clause-devices : goal.returns-in-Err-clause-devices
returns-in-Err-clause-devices g c = record {
  read = c.in-Err.ensures.devices.read;
  sure = c.in-Err.ensures.devices.sure;
  lasts = c.process_earlier_frames.ensures.devices.lasts;
  wrote = c.in-Err.ensures.devices.wrote;
  sound = c.in-Err.ensures.devices.sound;
  holds = c.process_earlier_frames.ensures.devices.holds;
}

pub send_due_frames-requires-clause-rises : goal.send_due_frames-requires-clause-rises
send_due_frames-requires-clause-rises g c = subst (IsOrdered (λ a b. a < b)) (sym (c.process_earlier_frames.ensures.same.2 ∙ c.requires.lines)) c.requires.may.rises

pub send_due_frames-requires-clause-early : goal.send_due_frames-requires-clause-early
send_due_frames-requires-clause-early g c = c.in_default.ensures.early

pub send_due_frames-requires-clause-waits : goal.send_due_frames-requires-clause-waits
send_due_frames-requires-clause-waits g c = c.in_default.ensures.waits

pub returns-in-Err-send_due_frames-clause-same : goal.returns-in-Err-send_due_frames-clause-same
returns-in-Err-send_due_frames-clause-same g c = let z = c.process_earlier_frames.ensures.same in (c.send_due_frames.ensures.same.0 ∙ z.0, z.1, c.send_due_frames.ensures.numbers ∙ z.2)

pub returns-clause-same : goal.returns-clause-same
returns-clause-same g c = let z = c.process_earlier_frames.ensures.same in (c.clear.ensures.moved.2 ∙ c.send_due_frames.ensures.same.0 ∙ z.0, z.1, c.send_due_frames.ensures.numbers ∙ z.2)

pub returns-clause-moved : goal.returns-clause-moved
returns-clause-moved g c = c.clear.ensures.moved.0

pub clear-requires-clause-time : goal.clear-requires-clause-time
clear-requires-clause-time g c = c.send_due_frames.ensures.early

pub clear-requires-clause-instance : goal.clear-requires-clause-instance
clear-requires-clause-instance g c = subst (λ p. IsTrue (has_instance p c.args.command.clear c.args.command.number)) (sym (c.send_due_frames.ensures.same.0 ∙ c.process_earlier_frames.ensures.same.0)) c.requires.instance

pub send_due_frames-requires-clause-size : goal.send_due_frames-requires-clause-size
send_due_frames-requires-clause-size g c = let s = c.process_earlier_frames.auto.sinks in let l = c.process_earlier_frames.auto.lines in let command_as_input = c.requires.sinks in omega (arith, s, l, command_as_input)
