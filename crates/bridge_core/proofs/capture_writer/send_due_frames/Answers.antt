use Rattle.std.proofs.Common.{◌≡◌, ◌<◌, ℕ, Some, Err, refl, ◌∙◌, sym, subst, arith, rules}
use Rattle.std.proofs.lemmas.Option.{none-some}
use Rattle.bridge_limits.specs.Members.{IsOrdered}
use Rattle.bridge_relay.specs.RelayState.{sent_record, with_sent_frame}
use Rattle.bridge_capture.specs.Devices.{HasFailed}
use Rattle.bridge_core.specs.CaptureWriters.{AreWritten, IsOutOfMemory, MakesStart, writer_ports, WritesFrame}
use Rattle.bridge_core.proofs.Departing.{waits_there, early_next, after_start, departs_stop, from_on, none_then, sooner}
use Rattle.bridge_core.proofs.capture_writer.send_due_frames.Goals as goal
use Rattle.bridge_core.proofs.capture_writer.send_due_frames.Goals.{in_default-via-in-None-1, in_default-via-in-Some-until+else-start-t}

pub loop-start-init : goal.loop-start-init
loop-start-init g c = record {
  until = refl;
  departs = λ p es olds left s w. (left, s, w);
  early = c.requires.early;
  same = (refl, refl);
  holds = λ sure. sure;
  waits = c.requires.waits;
  onward = omega arith;
  numbers = refl;
}

pub returns-in-Some-clause-departs : goal.returns-in-Some-clause-departs
returns-in-Some-clause-departs g c = c.loop-start.invariant.departs

pub returns-in-Some-clause-waits : goal.returns-in-Some-clause-waits
returns-in-Some-clause-waits g c =
    let is = sym c.loop-start.invariant.until ∙ c.in-Some-until.is in
    waits_there (g.G.Agenda.held c.loop-start.relay.ports.agenda) c.args.until c.in-Some.field-0-0 c.in-Some.start c.in-Some-until.t is c.in-Some.ensures c.if-start-t.true

pub returns-in-Some-clause-idle : goal.returns-in-Some-clause-idle
returns-in-Some-clause-idle g c = λ none. absurd (none-some c.in-Some-until.t (sym none ∙ (sym c.loop-start.invariant.until ∙ c.in-Some-until.is)))

pub returns-in-Some-clause-early : goal.returns-in-Some-clause-early
returns-in-Some-clause-early g c = c.loop-start.invariant.early

pub returns-in-Some-clause-same : goal.returns-in-Some-clause-same
returns-in-Some-clause-same g c = c.loop-start.invariant.same

pub returns-in-Some-clause-numbers : goal.returns-in-Some-clause-numbers
returns-in-Some-clause-numbers g c = c.loop-start.invariant.numbers

pub write_frame-requires-clause-rises : goal.write_frame-requires-clause-rises
write_frame-requires-clause-rises g c = subst (λ l. IsOrdered (λ a b. a < b) l) (sym c.loop-start.invariant.numbers) c.requires.rises

pub returns-in-Err-clause-departs : goal.returns-in-Err-clause-departs
returns-in-Err-clause-departs g c = λ p es olds left s w.
    let kept = c.loop-start.invariant in
    let contents = g.W.ByteSink.contents in
    let ports = writer_ports c.args.lines.now in
    let sent = c.advance-sent.result in
    let until = c.args.until in
    let so_far = kept.departs p es olds left s w in
    let before : (t : ℕ) → until ≡ Some t → sent.start < t = elim c.in_default.branch [
      | in_default-via-in-None-1 w ↦ λ t is. absurd (none_then _ until t kept.until is (search rules))
      | in_default-via-in-Some-until+else-start-t w ↦ λ t is. sooner (g.G.Agenda.held c.loop-start.relay.ports.agenda) until c.in-Some.field-0-0 c.in-Some.start sent.port sent.start t w.in-Some-until.t c.in-Some.ensures c.advance-sent.ensures.which (sym kept.until ∙ w.in-Some-until.is) w.if-start-t.false is
    ] in
    let makes : MakesStart p es sent.start sent.port (with_sent_frame so_far.0 sent) = record {
      before = so_far.0;
      class = sent.class;
      frame = sent_record sent;
      sends = c.advance-sent.ensures.sends p es so_far.0 so_far.1;
      with_it = λ q. refl;
      reaches = c.advance-sent.ensures.reaches p es so_far.0 so_far.1;
    } in
    let writes = c.in-Err.ensures.writes olds so_far.0 (subst (λ l. AreWritten contents l olds c.loop-start.sinks so_far.0) (sym kept.numbers) so_far.2) in
    departs_stop contents p es c.args.relay.now.earliest until c.advance-sent.new.self sent.port sent.start ports olds c.write_frame.new.sinks (with_sent_frame so_far.0 sent) c.in-Err.fault (from_on (g.G.Agenda.held c.loop-start.relay.ports.agenda) sent.port sent.start c.args.relay.now.earliest c.advance-sent.ensures.which kept.waits) before makes
    (subst (λ l. WritesFrame contents sent.port l olds c.write_frame.new.sinks (with_sent_frame so_far.0 sent) (Err c.in-Err.fault)) kept.numbers writes)

pub returns-in-Err-clause-early : goal.returns-in-Err-clause-early
returns-in-Err-clause-early g c =
    let kept = c.loop-start.invariant in
    let sent = c.advance-sent.result in
    let until = c.args.until in
    let before : (t : ℕ) → until ≡ Some t → sent.start < t = elim c.in_default.branch [
      | in_default-via-in-None-1 w ↦ λ t is. absurd (none_then _ until t kept.until is (search rules))
      | in_default-via-in-Some-until+else-start-t w ↦ λ t is. sooner (g.G.Agenda.held c.loop-start.relay.ports.agenda) until c.in-Some.field-0-0 c.in-Some.start sent.port sent.start t w.in-Some-until.t c.in-Some.ensures c.advance-sent.ensures.which (sym kept.until ∙ w.in-Some-until.is) w.if-start-t.false is
    ] in
    early_next until c.loop-start.relay.earliest c.advance-sent.new.self.earliest sent.start kept.early before c.advance-sent.ensures.sent.earliest

pub returns-in-Err-clause-same : goal.returns-in-Err-clause-same
returns-in-Err-clause-same g c = let kept = c.loop-start.invariant.same in let more = c.advance-sent.ensures.same in (more.0 ∙ kept.0, more.1 ∙ kept.1)

pub returns-in-Err-clause-numbers : goal.returns-in-Err-clause-numbers
returns-in-Err-clause-numbers g c = c.write_frame.ensures.numbers ∙ c.loop-start.invariant.numbers

pub returns-in-Err-clause-failed : goal.returns-in-Err-clause-failed
returns-in-Err-clause-failed g c = λ port is.
    let only = c.in-Err.ensures.only in
    let same : c.advance-sent.result.port ≡ port = cc in
    let has_failed = g.W.ByteSink.has_failed in
    let sinks = c.write_frame.new.sinks in
    subst (λ q. HasFailed has_failed (writer_ports c.args.lines.now) q sinks) same
    (subst (λ l. HasFailed has_failed l c.advance-sent.result.port sinks) c.loop-start.invariant.numbers c.in-Err.ensures.failed)

pub returns-in-Err-clause-sound : goal.returns-in-Err-clause-sound
returns-in-Err-clause-sound g c = λ sure port is.
    let only = c.in-Err.ensures.only in
    let same : c.advance-sent.result.port ≡ port = cc in
    let ran_out = g.W.ByteSink.ran_out in
    let sinks = c.write_frame.new.sinks in
    subst (λ q. IsOutOfMemory ran_out (writer_ports c.args.lines.now) q sinks) same
    (subst (λ l. IsOutOfMemory ran_out l c.advance-sent.result.port sinks) c.loop-start.invariant.numbers (c.in-Err.ensures.sound (c.loop-start.invariant.holds sure)))

pub returns-in-Err-clause-holds : goal.returns-in-Err-clause-holds
returns-in-Err-clause-holds g c = λ sure. c.write_frame.ensures.holds (c.loop-start.invariant.holds sure)

pub loop-start-smaller : goal.loop-start-smaller
loop-start-smaller g c = let fewer = c.advance-sent.ensures.fewer in omega arith

pub loop-start-preserved : goal.loop-start-preserved
loop-start-preserved g c =
    let kept = c.loop-start.invariant in
    let contents = g.W.ByteSink.contents in
    let sent = c.advance-sent.result in
    let until = c.args.until in
    let ports = writer_ports c.args.lines.now in
    let same = c.advance-sent.ensures.same in
    let before : (t : ℕ) → until ≡ Some t → sent.start < t = elim c.in_default.branch [
      | in_default-via-in-None-1 w ↦ λ t is. absurd (none_then _ until t kept.until is (search rules))
      | in_default-via-in-Some-until+else-start-t w ↦ λ t is. sooner (g.G.Agenda.held c.loop-start.relay.ports.agenda) until c.in-Some.field-0-0 c.in-Some.start sent.port sent.start t w.in-Some-until.t c.in-Some.ensures c.advance-sent.ensures.which (sym kept.until ∙ w.in-Some-until.is) w.if-start-t.false is
    ] in
    record {
      until = elim c.in_default.branch [ in_default-via-in-None-1 w ↦ w.until-is ∙ kept.until | in_default-via-in-Some-until+else-start-t w ↦ w.until-is ∙ (sym w.in-Some-until.is ∙ kept.until) ];
      departs = λ p es olds left s w.
          let so_far = kept.departs p es olds left s w in
          let writes = c.in_default-write_frame.ensures.writes olds so_far.0 (subst (λ l. AreWritten contents l olds c.loop-start.sinks so_far.0) (sym kept.numbers) so_far.2) in
          (with_sent_frame so_far.0 sent, c.advance-sent.ensures.stands p es so_far.0 so_far.1, subst (λ l. AreWritten contents l olds c.write_frame.new.sinks (with_sent_frame so_far.0 sent)) kept.numbers writes);
      early = early_next until c.loop-start.relay.earliest c.advance-sent.new.self.earliest sent.start kept.early before c.advance-sent.ensures.sent.earliest;
      same = (same.0 ∙ kept.same.0, same.1 ∙ kept.same.1);
      holds = λ sure. c.write_frame.ensures.holds (kept.holds sure);
      waits = after_start (g.G.Agenda.held c.advance-sent.new.self.ports.agenda) sent.port sent.start c.args.relay.now.earliest c.advance-sent.ensures.later (from_on (g.G.Agenda.held c.loop-start.relay.ports.agenda) sent.port sent.start c.args.relay.now.earliest c.advance-sent.ensures.which kept.waits);
      onward = let z = kept.onward in let y = c.advance-sent.ensures.sent.earliest in omega arith;
      numbers = c.write_frame.ensures.numbers ∙ kept.numbers;
    }

pub returns-clause-departs : goal.returns-clause-departs
returns-clause-departs g c = c.loop-start.invariant.departs

pub returns-clause-onward : goal.returns-clause-onward
returns-clause-onward g c = c.loop-start.invariant.onward

pub returns-in-Some-clause-onward : goal.returns-in-Some-clause-onward
returns-in-Some-clause-onward g c = c.loop-start.invariant.onward

pub returns-in-Err-clause-onward : goal.returns-in-Err-clause-onward
returns-in-Err-clause-onward g c = let z = c.loop-start.invariant.onward in let y = c.advance-sent.ensures.sent.earliest in omega arith

pub returns-clause-early : goal.returns-clause-early
returns-clause-early g c = c.loop-start.invariant.early

pub returns-clause-same : goal.returns-clause-same
returns-clause-same g c = c.loop-start.invariant.same

pub returns-clause-numbers : goal.returns-clause-numbers
returns-clause-numbers g c = c.loop-start.invariant.numbers
