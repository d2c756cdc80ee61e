use Rattle.std.proofs.Common.{◌≡◌, ◌+◌, ◌<◌, ◌≤◌, length, take, drop, arith, refl, sym, subst, ◌∙◌, Some, None, slice_get}
use Rattle.bridge_filter.specs.declared.Clear.TheVariants.{Blocked}
use Rattle.bridge_limits.specs.Members.{IsOrdered}
use Rattle.bridge_relay.specs.Ports.{StartsNoEarlier}
use Rattle.bridge_semantics.specs.Merge.{input_events, commands_of}
use Rattle.bridge_capture.specs.CaptureReaders.{port_numbers}
use Rattle.bridge_core.specs.CaptureWriters.{writer_ports as written_numbers}
use Rattle.bridge_core.specs.Running.{first_command, IsUnderWay}
use Rattle.bridge_core.proofs.Faults.{only_read}
use Rattle.bridge_core.proofs.Running.{all_done, behind_it, first_is, gone, has_it, idle_at, next_later, rises_behind, stops_at, stops_behind, with_it}
use Rattle.bridge_core.proofs.Steps.{written_so}
use Rattle.bridge_core.proofs.run.run.Goals as goal

pub process_command-requires-clause-instance : goal.process_command-requires-clause-instance
process_command-requires-clause-instance g c = has_it c.args.relay.now.plan c.loop-command.relay.plan c.args.commands.now c.loop-command.command-index _ c.requires.commands c.loop-command.invariant.plan c.loop-command-test.true

pub returns-in-Err-clause-goes : goal.returns-in-Err-clause-goes
returns-in-Err-clause-goes g c = λ p texts olds u rests are.
    let at = c.loop-command.command-index in
    let l = c.loop-command-test.true in
    let v = subst (λ o. IsUnderWay g.R.ByteSource.remaining g.W.ByteSink.contents p texts (commands_of (take at c.args.commands.now)) o olds c.loop-command.relay c.loop-command.lanes c.loop-command.sources c.loop-command.sinks)
    (first_is c.args.commands.now at _ l) (c.loop-command.invariant.goes p texts olds u) in
    stops_at p texts rests c.args.commands.now at _ g.W.ByteSink.contents (port_numbers c.process_command.new.lanes) olds c.process_command.new.sinks c.in-Err.fault l
    (c.in-Err.ensures.goes p texts (commands_of (take at c.args.commands.now)) (first_command (drop (at + 1) c.args.commands.now)) olds (next_later c.args.relay.now.plan c.args.commands.now at _ c.requires.commands l) v rests are)

pub returns-in-Err-clause-devices : goal.returns-in-Err-clause-devices
returns-in-Err-clause-devices g c = record {
  read = λ port e i w k m. c.in-Err.ensures.devices.read port e i w (subst (λ ns. slice_get ns i ≡ Some port) (sym c.loop-command.invariant.numbers) k) m;
  sure = λ sure port e. c.process_command.ensures.devices.sure (c.loop-command.invariant.lasts sure) port (c.in-Err.is ∙ e);
  lasts = λ sure. c.process_command.ensures.devices.lasts (c.loop-command.invariant.lasts sure);
  wrote = λ port e i w k m. c.in-Err.ensures.devices.wrote port e i w (subst (λ ns. slice_get ns i ≡ Some port) (sym c.loop-command.invariant.numbers) k) m;
  sound = λ sure port e i w k m. c.in-Err.ensures.devices.sound (c.loop-command.invariant.holds sure) port e i w (subst (λ ns. slice_get ns i ≡ Some port) (sym c.loop-command.invariant.numbers) k) m;
  holds = λ sure. c.process_command.ensures.devices.holds (c.loop-command.invariant.holds sure);
}

pub loop-command-preserved : goal.loop-command-preserved
loop-command-preserved g c =
    let i = c.loop-command.invariant in
    let at = c.loop-command.command-index in
    let l = c.loop-command-test.true in
    let same = c.process_command.ensures.same in
    record {
      may = c.in_default.ensures.may;
      lines = same.2 ∙ i.lines ∙ sym same.1;
      sources = let s = c.process_command.auto.sources in let l = c.process_command.auto.lanes in let was = i.sources in omega (arith, s, l, was);
      sinks = let s = c.process_command.auto.sinks in let l = c.process_command.auto.lines in let was = i.sinks in omega (arith, s, l, was);
      early = λ d rest e. let moved = c.in_default.ensures.moved in let z = rises_behind c.args.relay.now.plan c.args.commands.now at (record { at = 0; clear = Blocked; number = 0 }) c.requires.commands l d rest e in omega (arith, moved, z);
      plan = same.0 ∙ i.plan;
      numbers = same.1 ∙ i.numbers;
      written = same.2 ∙ i.written;
      lasts = λ sure. c.process_command.ensures.devices.lasts (i.lasts sure);
      waits = c.in_default.ensures.waits;
      heads = c.in_default.ensures.heads;
      holds = λ sure. c.process_command.ensures.devices.holds (i.holds sure);
      goes = λ p texts olds u.
          let v = subst (λ o. IsUnderWay g.R.ByteSource.remaining g.W.ByteSink.contents p texts (commands_of (take at c.args.commands.now)) o olds c.loop-command.relay c.loop-command.lanes c.loop-command.sources c.loop-command.sinks)
          (first_is c.args.commands.now at _ l) (i.goes p texts olds u) in
          subst (λ cs. IsUnderWay g.R.ByteSource.remaining g.W.ByteSink.contents p texts cs (first_command (drop (at + 1) c.args.commands.now)) olds c.process_command.new.relay c.process_command.new.lanes c.process_command.new.sources c.process_command.new.sinks) (sym (with_it c.args.commands.now at _ l))
          (c.in_default.ensures.goes p texts (commands_of (take at c.args.commands.now)) (first_command (drop (at + 1) c.args.commands.now)) olds (next_later c.args.relay.now.plan c.args.commands.now at _ c.requires.commands l) v);
    }

pub returns-in-Err-process_earlier_frames-clause-goes : goal.returns-in-Err-process_earlier_frames-clause-goes
returns-in-Err-process_earlier_frames-clause-goes g c = λ p texts olds u rests are.
    let i = c.loop-command.invariant in
    let v = all_done g.R.ByteSource.remaining g.W.ByteSink.contents p texts c.args.commands.now c.loop-command.command-index olds c.loop-command.relay c.loop-command.lanes c.loop-command.sources c.loop-command.sinks (omega (arith, c.loop-command-test.false)) (i.goes p texts olds u) in
    stops_behind p texts rests c.args.commands.now g.W.ByteSink.contents (port_numbers c.process_earlier_frames.new.lanes) olds c.process_earlier_frames.new.sinks c.in-Err-process_earlier_frames.fault (c.in-Err-process_earlier_frames.ensures.goes p texts (commands_of c.args.commands.now) None olds tt v rests are)

pub returns-in-Err-process_earlier_frames-clause-devices : goal.returns-in-Err-process_earlier_frames-clause-devices
returns-in-Err-process_earlier_frames-clause-devices g c = record {
  read = λ port e i w k m. c.in-Err-process_earlier_frames.ensures.devices.read port e i w (subst (λ ns. slice_get ns i ≡ Some port) (sym c.loop-command.invariant.numbers) k) m;
  sure = λ sure port e. c.process_earlier_frames.ensures.devices.sure (c.loop-command.invariant.lasts sure) port (c.in-Err-process_earlier_frames.is ∙ e);
  lasts = λ sure. c.process_earlier_frames.ensures.devices.lasts (c.loop-command.invariant.lasts sure);
  wrote = λ port e i w k m. c.in-Err-process_earlier_frames.ensures.devices.wrote port e i w (subst (λ ns. slice_get ns i ≡ Some port) (sym c.loop-command.invariant.numbers) k) m;
  sound = λ sure port e i w k m. c.in-Err-process_earlier_frames.ensures.devices.sound (c.loop-command.invariant.holds sure) port e i w (subst (λ ns. slice_get ns i ≡ Some port) (sym c.loop-command.invariant.numbers) k) m;
  holds = λ sure. c.process_earlier_frames.ensures.devices.holds (c.loop-command.invariant.holds sure);
}

pub returns-clause-devices : goal.returns-clause-devices
returns-clause-devices g c = record {
  read = λ port e. absurd (only_read c.send_due_frames.result port _ c.send_due_frames.ensures.only e);
  sure = λ sure port e. only_read c.send_due_frames.result port _ c.send_due_frames.ensures.only e;
  lasts = λ sure. c.process_earlier_frames.ensures.devices.lasts (c.loop-command.invariant.lasts sure);
  wrote = λ port e i w k m.
      let v = c.loop-command.invariant in
      c.send_due_frames.ensures.failed port e i w (subst (λ ns. slice_get ns i ≡ Some port) (sym (c.process_earlier_frames.ensures.same.2 ∙ v.lines ∙ v.numbers)) k) m;
  sound = λ sure port e i w k m.
      let v = c.loop-command.invariant in
      c.send_due_frames.ensures.sound (c.process_earlier_frames.ensures.devices.holds (v.holds sure)) port e i w (subst (λ ns. slice_get ns i ≡ Some port) (sym (c.process_earlier_frames.ensures.same.2 ∙ v.lines ∙ v.numbers)) k) m;
  holds = λ sure. c.send_due_frames.ensures.holds (c.process_earlier_frames.ensures.devices.holds (c.loop-command.invariant.holds sure));
}

pub returns-clause-goes : goal.returns-clause-goes
returns-clause-goes g c = λ p texts olds u.
    let i = c.loop-command.invariant in
    let v = all_done g.R.ByteSource.remaining g.W.ByteSink.contents p texts c.args.commands.now c.loop-command.command-index olds c.loop-command.relay c.loop-command.lanes c.loop-command.sources c.loop-command.sinks (omega (arith, c.loop-command-test.false)) (i.goes p texts olds u) in
    let w = c.in_default-process_earlier_frames.ensures.goes p texts (commands_of c.args.commands.now) None olds tt v in
    let size : length c.process_earlier_frames.new.sources ≡ length c.process_earlier_frames.new.lanes = (let s = c.process_earlier_frames.auto.sources in let l = c.process_earlier_frames.auto.lanes in let asked = i.sources in omega (arith, s, l, asked)) in
    let z = c.process_earlier_frames.ensures.same in
    let same : written_numbers c.process_earlier_frames.new.lines ≡ port_numbers c.process_earlier_frames.new.lanes = z.2 ∙ i.lines ∙ sym z.1 in
    gone g.R.ByteSource.remaining g.W.ByteSink.contents p texts c.args.commands.now olds c.process_earlier_frames.new.relay c.send_due_frames.new.relay c.process_earlier_frames.new.lanes c.process_earlier_frames.new.sources c.process_earlier_frames.new.sinks c.send_due_frames.new.sinks (written_numbers c.process_earlier_frames.new.lines) c.send_due_frames.result w size same c.in_default-process_earlier_frames.ensures.later c.send_due_frames.ensures.onward
    (c.send_due_frames.ensures.departs p (input_events w.inputs) olds w.left w.stands (written_so g.R.ByteSource.remaining g.W.ByteSink.contents p texts (commands_of c.args.commands.now) None olds c.process_earlier_frames.new.relay c.process_earlier_frames.new.lanes c.process_earlier_frames.new.sources c.process_earlier_frames.new.sinks w size (written_numbers c.process_earlier_frames.new.lines) same))

pub returns-clause-idle : goal.returns-clause-idle
returns-clause-idle g c = idle_at _ c.send_due_frames.result c.send_due_frames.ensures.idle

pub loop-command-init : goal.loop-command-init
loop-command-init g c = record {
  may = c.requires.may;
  lines = c.requires.lines;
  sources = c.requires.sources;
  sinks = c.requires.sinks;
  early = λ d rest e. subst (λ n. n ≤ d.at) (sym c.requires.new) (omega arith);
  plan = refl;
  numbers = refl;
  written = refl;
  lasts = λ sure. sure;
  waits = subst (StartsNoEarlier (g.G.Agenda.held c.args.relay.now.ports.agenda)) (sym c.requires.new) (λ q t h. omega arith);
  heads = c.requires.heads;
  holds = λ sure. sure;
  goes = λ p texts olds u. u;
}

pub process_command-requires-clause-may : goal.process_command-requires-clause-may
process_command-requires-clause-may g c = c.loop-command.invariant.may

pub process_command-requires-clause-lines : goal.process_command-requires-clause-lines
process_command-requires-clause-lines g c = c.loop-command.invariant.lines

pub process_command-requires-clause-sources : goal.process_command-requires-clause-sources
process_command-requires-clause-sources g c = c.loop-command.invariant.sources

pub process_command-requires-clause-sinks : goal.process_command-requires-clause-sinks
process_command-requires-clause-sinks g c = c.loop-command.invariant.sinks

pub process_command-requires-clause-heads : goal.process_command-requires-clause-heads
process_command-requires-clause-heads g c = c.loop-command.invariant.heads

pub process_command-requires-clause-waits : goal.process_command-requires-clause-waits
process_command-requires-clause-waits g c = c.loop-command.invariant.waits

pub returns-in-Err-clause-same : goal.returns-in-Err-clause-same
returns-in-Err-clause-same g c = let z = c.process_command.ensures.same in let i = c.loop-command.invariant in (z.0 ∙ i.plan, z.1 ∙ i.numbers, z.2 ∙ i.written)

pub process_earlier_frames-requires-clause-may : goal.process_earlier_frames-requires-clause-may
process_earlier_frames-requires-clause-may g c = c.loop-command.invariant.may

pub process_earlier_frames-requires-clause-lines : goal.process_earlier_frames-requires-clause-lines
process_earlier_frames-requires-clause-lines g c = c.loop-command.invariant.lines

pub process_earlier_frames-requires-clause-sources : goal.process_earlier_frames-requires-clause-sources
process_earlier_frames-requires-clause-sources g c = c.loop-command.invariant.sources

pub process_earlier_frames-requires-clause-sinks : goal.process_earlier_frames-requires-clause-sinks
process_earlier_frames-requires-clause-sinks g c = c.loop-command.invariant.sinks

pub process_earlier_frames-requires-clause-heads : goal.process_earlier_frames-requires-clause-heads
process_earlier_frames-requires-clause-heads g c = c.loop-command.invariant.heads

pub process_earlier_frames-requires-clause-waits : goal.process_earlier_frames-requires-clause-waits
process_earlier_frames-requires-clause-waits g c = c.loop-command.invariant.waits

pub returns-in-Err-process_earlier_frames-clause-same : goal.returns-in-Err-process_earlier_frames-clause-same
returns-in-Err-process_earlier_frames-clause-same g c = let z = c.process_earlier_frames.ensures.same in let i = c.loop-command.invariant in (z.0 ∙ i.plan, z.1 ∙ i.numbers, z.2 ∙ i.written)

pub send_due_frames-requires-clause-rises : goal.send_due_frames-requires-clause-rises
send_due_frames-requires-clause-rises g c = let i = c.loop-command.invariant in subst (IsOrdered (λ a b. a < b)) (sym (c.process_earlier_frames.ensures.same.2 ∙ i.lines)) i.may.rises

pub send_due_frames-requires-clause-waits : goal.send_due_frames-requires-clause-waits
send_due_frames-requires-clause-waits g c = c.in_default-process_earlier_frames.ensures.waits

pub returns-clause-same : goal.returns-clause-same
returns-clause-same g c = let z = c.process_earlier_frames.ensures.same in let i = c.loop-command.invariant in (c.send_due_frames.ensures.same.0 ∙ z.0 ∙ i.plan, z.1 ∙ i.numbers, c.send_due_frames.ensures.numbers ∙ z.2 ∙ i.written)

pub process_command-requires-clause-time : goal.process_command-requires-clause-time
process_command-requires-clause-time g c =
    let at = c.loop-command.command-index in
    c.loop-command.invariant.early _ (drop (at + 1) c.args.commands.now) (behind_it c.args.commands.now at _ c.loop-command-test.true)

pub send_due_frames-requires-clause-early : goal.send_due_frames-requires-clause-early
send_due_frames-requires-clause-early g c = tt

pub send_due_frames-requires-clause-size : goal.send_due_frames-requires-clause-size
send_due_frames-requires-clause-size g c = let s = c.process_earlier_frames.auto.sinks in let l = c.process_earlier_frames.auto.lines in let was = c.loop-command.invariant.sinks in omega (arith, s, l, was)
