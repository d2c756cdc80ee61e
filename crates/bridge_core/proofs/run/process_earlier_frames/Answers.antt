use Rattle.std.proofs.Common.{◌≡◌, arith, refl, sym, subst, ◌∙◌, Some, slice_get}
use Rattle.bridge_core.proofs.Faults.{ok_err}
use Rattle.bridge_core.proofs.Steps.{before_next, early_next}
use Rattle.bridge_capture.specs.CaptureReaders.{port_numbers}
use Rattle.bridge_core.proofs.run.process_earlier_frames.Goals as goal

pub loop-place-preserved : goal.loop-place-preserved
loop-place-preserved g c =
    let i = c.loop-place.invariant in
    let same = c.process_frame.ensures.same in
    record {
      may = c.in_default-process_frame.ensures.may;
      lines = same.2 ∙ i.lines ∙ sym same.1;
      sources = let s = c.process_frame.auto.sources in let l = c.process_frame.auto.lanes in let was = i.sources in omega (arith, s, l, was);
      sinks = let s = c.process_frame.auto.sinks in let l = c.process_frame.auto.lines in let was = i.sinks in omega (arith, s, l, was);
      until = refl;
      early = early_next c.args.until c.loop-place.lanes c.in-Some.place c.process_frame.new.relay.earliest c.in-Some.ensures.first c.in-Some.ensures.before c.in_default-process_frame.ensures.moved;
      plan = same.0 ∙ i.plan;
      numbers = same.1 ∙ i.numbers;
      written = same.2 ∙ i.written;
      lasts = λ sure. c.process_frame.ensures.devices.lasts (i.lasts sure);
      waits = c.in_default-process_frame.ensures.waits;
      heads = c.in_default-process_frame.ensures.heads;
      holds = λ sure. c.process_frame.ensures.devices.holds (i.holds sure);
      goes = λ p texts commanded next olds now u. c.in_default-process_frame.ensures.goes p texts commanded next olds (before_next c.args.until next c.loop-place.lanes c.in-Some.place now c.in-Some.ensures.before) (i.goes p texts commanded next olds now u);
    }

pub returns-in-Err-clause-goes : goal.returns-in-Err-clause-goes
returns-in-Err-clause-goes g c = λ p texts commanded next olds now u. c.in-Err.ensures.goes p texts commanded next olds (before_next c.args.until next c.loop-place.lanes c.in-Some.place now c.in-Some.ensures.before) (c.loop-place.invariant.goes p texts commanded next olds now u)

pub returns-in-Err-clause-devices : goal.returns-in-Err-clause-devices
returns-in-Err-clause-devices g c = record {
  read = λ port e i w k m. c.in-Err.ensures.devices.read port e i w (subst (λ ns. slice_get ns i ≡ Some port) (sym c.loop-place.invariant.numbers) k) m;
  sure = λ sure port e. c.process_frame.ensures.devices.sure (c.loop-place.invariant.lasts sure) port (c.in-Err.is ∙ e);
  lasts = λ sure. c.process_frame.ensures.devices.lasts (c.loop-place.invariant.lasts sure);
  wrote = λ port e i w k m. c.in-Err.ensures.devices.wrote port e i w (subst (λ ns. slice_get ns i ≡ Some port) (sym c.loop-place.invariant.numbers) k) m;
  sound = λ sure port e i w k m. c.in-Err.ensures.devices.sound (c.loop-place.invariant.holds sure) port e i w (subst (λ ns. slice_get ns i ≡ Some port) (sym c.loop-place.invariant.numbers) k) m;
  holds = λ sure. c.process_frame.ensures.devices.holds (c.loop-place.invariant.holds sure);
}

pub returns-clause-later : goal.returns-clause-later
returns-clause-later g c = c.in_default.ensures.later refl

pub process_frame-requires-clause-place : goal.process_frame-requires-clause-place
process_frame-requires-clause-place g c = c.in-Some.ensures.place

pub process_frame-requires-clause-first : goal.process_frame-requires-clause-first
process_frame-requires-clause-first g c = c.in-Some.ensures.first

pub process_frame-requires-clause-may : goal.process_frame-requires-clause-may
process_frame-requires-clause-may g c = c.loop-place.invariant.may

pub process_frame-requires-clause-lines : goal.process_frame-requires-clause-lines
process_frame-requires-clause-lines g c = c.loop-place.invariant.lines

pub process_frame-requires-clause-sources : goal.process_frame-requires-clause-sources
process_frame-requires-clause-sources g c = c.loop-place.invariant.sources

pub process_frame-requires-clause-sinks : goal.process_frame-requires-clause-sinks
process_frame-requires-clause-sinks g c = c.loop-place.invariant.sinks

pub process_frame-requires-clause-heads : goal.process_frame-requires-clause-heads
process_frame-requires-clause-heads g c = c.loop-place.invariant.heads

pub process_frame-requires-clause-waits : goal.process_frame-requires-clause-waits
process_frame-requires-clause-waits g c = c.loop-place.invariant.waits

pub loop-place-smaller : goal.loop-place-smaller
loop-place-smaller g c = c.in_default-process_frame.ensures.fewer

pub returns-in-Err-clause-same : goal.returns-in-Err-clause-same
returns-in-Err-clause-same g c = let (plan, port_numbers, written) = c.process_frame.ensures.same in (plan ∙ c.loop-place.invariant.plan, port_numbers ∙ c.loop-place.invariant.numbers, written ∙ c.loop-place.invariant.written)

pub returns-clause-goes : goal.returns-clause-goes
returns-clause-goes g c = c.loop-place.invariant.goes

pub returns-clause-may : goal.returns-clause-may
returns-clause-may g c = c.loop-place.invariant.may

pub returns-clause-heads : goal.returns-clause-heads
returns-clause-heads g c = c.loop-place.invariant.heads

pub returns-clause-waits : goal.returns-clause-waits
returns-clause-waits g c = c.loop-place.invariant.waits

pub returns-clause-early : goal.returns-clause-early
returns-clause-early g c = c.loop-place.invariant.early

pub returns-clause-same : goal.returns-clause-same
returns-clause-same g c = (c.loop-place.invariant.plan, c.loop-place.invariant.numbers, c.loop-place.invariant.written)

pub returns-clause-devices : goal.returns-clause-devices
returns-clause-devices g c = record {
  read = λ port e. absurd (ok_err _ _ e);
  sure = λ sure port e. ok_err _ _ e;
  lasts = c.loop-place.invariant.lasts;
  wrote = λ port e. absurd (ok_err _ _ e);
  sound = λ sure port e. absurd (ok_err _ _ e);
  holds = c.loop-place.invariant.holds;
}

pub next_reader-requires : goal.next_reader-requires
next_reader-requires g c = record { heads = c.loop-place.invariant.heads }
