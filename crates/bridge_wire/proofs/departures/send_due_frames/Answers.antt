use Rattle.std.proofs.Common.{◌≡◌, ◌+◌, ◌++◌, Ok, Err, ◌∙◌, arith, rules}
use Rattle.bridge_wire.specs.OpenQueues.{queue_state}
use Rattle.bridge_wire.proofs.Sends.{calm_early, err_told, goes_none, goes_after, goes_err}
use Rattle.bridge_wire.proofs.departures.send_due_frames.Goals as goal

pub loop-k-init : goal.loop-k-init
loop-k-init g c = record {
  goes = λ offers sent full left s. goes_none (queue_state c.args.queue.now) offers sent full left (g.W.ByteSink.contents c.args.sink.now) s;
  same = search rules;
  within = c.requires.within;
  earliest = λ h. h;
  holds = λ h. h;
  calm = λ h z. z;
}

pub loop-k-preserved : goal.loop-k-preserved
loop-k-preserved g c =
    let kept = c.loop-k.invariant in
    let same = c.send_next.ensures.same in
    let contents = g.W.ByteSink.contents in
    record {
      goes = λ offers sent full left s.
          let first = kept.goes offers sent full left s in
          goes_after (queue_state c.send_next.new.queue) offers sent full left first.0 (contents c.args.sink.now) (contents c.loop-k.sink) (contents c.send_next.new.sink) (Ok c.in_ok-send_next.field-0) first.2 (c.in_ok-send_next.ensures.goes offers sent full (left ++ first.0) first.1);
      same = (same.0 ∙ kept.same.0, same.1 ∙ kept.same.1, same.2 ∙ kept.same.2, same.3 ∙ kept.same.3);
      within = c.send_next.ensures.within;
      earliest = λ h. let e : c.send_next.new.queue.earliest ≡ c.in-Some.k + 1 = c.send_next.ensures.moment in let l = c.if-k-t.false in omega arith;
      holds = λ h. c.send_next.ensures.holds (kept.holds h);
      calm = λ h z. calm_early (queue_state c.send_next.new.queue) h (let l = c.send_next.ensures.late h (kept.calm h z) in omega arith);
    }

pub returns-in_err-send_next-clause-goes : goal.returns-in_err-send_next-clause-goes
returns-in_err-send_next-clause-goes g c = λ offers sent full left s.
    let contents = g.W.ByteSink.contents in
    let first = c.loop-k.invariant.goes offers sent full left s in
    let e = c.in_err-send_next.field-0.0 in
    goes_err (queue_state c.send_next.new.queue) offers sent full left (contents c.args.sink.now) (contents c.send_next.new.sink) e c.from_residual.result c.from_residual.ensures.0
    (goes_after (queue_state c.send_next.new.queue) offers sent full left first.0 (contents c.args.sink.now) (contents c.loop-k.sink) (contents c.send_next.new.sink) (Err e) first.2 (c.in_err-send_next.ensures.goes offers sent full (left ++ first.0) first.1))

pub returns-in_err-send_next-clause-earliest : goal.returns-in_err-send_next-clause-earliest
returns-in_err-send_next-clause-earliest g c = λ h. let e : c.send_next.new.queue.earliest ≡ c.in-Some.k + 1 = c.send_next.ensures.moment in let l = c.if-k-t.false in omega arith

pub returns-in_err-send_next-clause-calm : goal.returns-in_err-send_next-clause-calm
returns-in_err-send_next-clause-calm g c = λ h z. calm_early (queue_state c.send_next.new.queue) h (let l = c.send_next.ensures.late h (c.loop-k.invariant.calm h z) in omega arith)

pub returns-in_err-send_next-clause-late : goal.returns-in_err-send_next-clause-late
returns-in_err-send_next-clause-late g c = err_told c.from_residual.result c.from_residual.ensures.0 (λ h z. let l = c.send_next.ensures.late h (c.loop-k.invariant.calm h z) in omega arith)
