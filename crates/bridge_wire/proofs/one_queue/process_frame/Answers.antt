use Rattle.std.proofs.Common.{◌≡◌, [], Err, ◌++◌, ◌∷◌, inr, ap, sym, ◌∙◌, subst}
use Rattle.bridge_capture.specs.declared.fault.RunFault.TheVariants as run
use Rattle.bridge_wire.specs.Wire.{StopsRun}
use Rattle.bridge_wire.specs.OpenQueues.{arrived_frame, queue_state, with_frames}
use Rattle.bridge_wire.proofs.Ends.{stops_behind, stops_writing}
use Rattle.bridge_wire.proofs.one_queue.process_frame.Goals as goal

pub returns-in-Err-clause-goes : goal.returns-in-Err-clause-goes
returns-in-Err-clause-goes g c = λ x room text frames began there stands gave r.
    let contents = g.W.ByteSink.contents in
    let s = c.in-Err.ensures.continues x room frames began there r in
    let is : c.in-Err.fault ≡ run.Write 1 = (let was = c.in-Err.is in let only = c.in-Err.ensures.only in cc) in
    subst (StopsRun c.args.speed room text (g.R.ByteSource.remaining c.args.source.now) began (contents c.offer_frame.new.sink)) (sym is)
    (stops_writing c.args.speed room text frames c.args.time began (contents c.offer_frame.new.sink) s (inr (arrived_frame c.args.time x, gave, s.within)))

pub returns-in-Err-read_ahead-clause-goes : goal.returns-in-Err-read_ahead-clause-goes
returns-in-Err-read_ahead-clause-goes g c = λ x room text frames began there stands gave r.
    let contents = g.W.ByteSink.contents in
    let fault = c.in-Err-read_ahead.fault in
    let running = c.in_default.ensures.continues x room frames began there r in
    let refused = c.in-Err-read_ahead.ensures.looks text (frames ++ arrived_frame c.args.time x ∷ []) stands in
    subst (StopsRun c.args.speed room text (g.R.ByteSource.remaining c.read_ahead.new.source) began (contents c.offer_frame.new.sink)) (sym c.run_fault.ensures)
    (stops_behind c.args.speed room text (g.R.ByteSource.remaining c.read_ahead.new.source) frames (arrived_frame c.args.time x) (queue_state c.offer_frame.new.queue) (with_frames c.offer_frame.new.count) began (contents c.offer_frame.new.sink) fault (λ e. c.read_ahead.ensures.no_write (c.in-Err-read_ahead.is ∙ ap Err e)) refused running)
