use Rattle.std.proofs.Common.{◌≡◌, ◌++◌, None, refl, sym, ◌∙◌, subst, arith}
use Rattle.bridge_capture.specs.StandsFor.{last_time, StandsFor}
use Rattle.bridge_capture.specs.CaptureReaders.{frame_ahead, FindsNext}
use Rattle.bridge_capture.specs.declared.fault.RunFault.TheVariants as run
use Rattle.bridge_wire.specs.Wire.{frame_offers, StopsRun}
use Rattle.bridge_wire.specs.OpenQueues.{place_ahead, queue_reader, queue_state, with_frames}
use Rattle.bridge_wire.proofs.Running.{HasGone}
use Rattle.bridge_wire.proofs.Queues.{ahead_of, place_some}
use Rattle.bridge_wire.proofs.Ends.{idle_late, room_some, stops_at_end, wires_all}
use Rattle.bridge_wire.proofs.one_queue.send_all.Goals as goal

pub loop-next-init : goal.loop-next-init
loop-next-init g c = record {
  speed = c.requires.speed;
  within = c.requires.within;
  lane = c.requires.lane;
  onward = λ t e. let z = c.requires.new.0 in omega arith;
  offered = let z = c.requires.new.1 in omega arith;
  few = let z = c.requires.few in omega arith;
  lasts = λ h. h;
  holds = λ h. h;
  under = λ room text began u. u;
}

pub process_frame-requires-clause-time : goal.process_frame-requires-clause-time
process_frame-requires-clause-time g c =
    let q = c.loop-next.queue in
    let x = place_some q in
    (c.loop-next.invariant.onward c.in-Some.time c.in-Some.is, (c.loop-next.invariant.lane _ (ahead_of c.loop-next.next (place_ahead q) c.in-Some.time x.0 c.in-Some.is x.1)).early)

pub process_frame-requires-clause-octets : goal.process_frame-requires-clause-octets
process_frame-requires-clause-octets g c = λ x there.
    let next = c.loop-next.invariant.lane _ (ahead_of c.loop-next.next (place_ahead c.loop-next.queue) c.in-Some.time x c.in-Some.is there) in
    (next.small, next.within)

pub process_frame-requires-clause-speed : goal.process_frame-requires-clause-speed
process_frame-requires-clause-speed g c = c.loop-next.invariant.speed

pub process_frame-requires-clause-within : goal.process_frame-requires-clause-within
process_frame-requires-clause-within g c = c.loop-next.invariant.within

pub process_frame-requires-clause-offered : goal.process_frame-requires-clause-offered
process_frame-requires-clause-offered g c = c.loop-next.invariant.offered

pub process_frame-requires-clause-few : goal.process_frame-requires-clause-few
process_frame-requires-clause-few g c =
    let q = c.loop-next.queue in
    let x = place_some q in
    let room = room_some (queue_reader c.loop-next.capture c.loop-next.next q) _ (ahead_of c.loop-next.next (place_ahead q) c.in-Some.time x.0 c.in-Some.is x.1) in
    let few = c.loop-next.invariant.few in omega arith

pub process_frame-requires-clause-reading : goal.process_frame-requires-clause-reading
process_frame-requires-clause-reading g c =
    let q = c.loop-next.queue in
    let x = place_some q in
    (c.loop-next.invariant.lane _ (ahead_of c.loop-next.next (place_ahead q) c.in-Some.time x.0 c.in-Some.is x.1)).reading

pub process_frame-requires-clause-latest : goal.process_frame-requires-clause-latest
process_frame-requires-clause-latest g c =
    let q = c.loop-next.queue in
    let x = place_some q in
    (c.loop-next.invariant.lane _ (ahead_of c.loop-next.next (place_ahead q) c.in-Some.time x.0 c.in-Some.is x.1)).latest

pub returns-in-Err-clause-ends : goal.returns-in-Err-clause-ends
returns-in-Err-clause-ends g c = λ room text began start.
    let capture = c.loop-next.capture in
    let q = c.loop-next.queue in
    let x = place_some q in
    let ahead = ahead_of c.loop-next.next (place_ahead q) c.in-Some.time x.0 c.in-Some.is x.1 in
    let u = c.loop-next.invariant.under room text began start in
    let stands = subst (λ a. StandsFor capture (g.R.ByteSource.remaining c.loop-next.source) text (u.frames ++ frame_ahead a)) ahead u.ahead.stands in
    let gave = subst (FindsNext text u.frames) ahead u.ahead.finds in
    c.in-Err.ensures.goes x.0 room text u.frames began x.1 stands gave u.running

pub returns-in-Err-clause-sure : goal.returns-in-Err-clause-sure
returns-in-Err-clause-sure g c = λ number sure is. c.process_frame.ensures.sure number (c.loop-next.invariant.lasts sure) (c.in-Err.is ∙ cc)

pub returns-in-Err-clause-sound : goal.returns-in-Err-clause-sound
returns-in-Err-clause-sound g c = λ number sure is. c.process_frame.ensures.sound number (c.loop-next.invariant.holds sure) (c.in-Err.is ∙ cc)

pub loop-next-smaller : goal.loop-next-smaller
loop-next-smaller g c =
    let q = c.loop-next.queue in
    let x = place_some q in
    let room = room_some (queue_reader c.loop-next.capture c.loop-next.next q) _ (ahead_of c.loop-next.next (place_ahead q) c.in-Some.time x.0 c.in-Some.is x.1) in
    let fewer = c.in-Ok.ensures.fewer in omega arith

pub loop-next-preserved : goal.loop-next-preserved
loop-next-preserved g c =
    let kept = c.loop-next.invariant in
    let e = c.in-Ok.ensures in
    record {
      speed = e.same.0;
      within = e.same.1;
      lane = e.lane;
      onward = e.onward;
      offered = e.counts.1;
      few =
          let q = c.loop-next.queue in
          let x = place_some q in
          let room = room_some (queue_reader c.loop-next.capture c.loop-next.next q) _ (ahead_of c.loop-next.next (place_ahead q) c.in-Some.time x.0 c.in-Some.is x.1) in
          let few = kept.few in let fewer = e.fewer in let one = e.counts.0 in omega arith;
      lasts = λ h. e.lasts (kept.lasts h);
      holds = λ h. e.holds (kept.holds h);
      under = λ room text began start.
          let capture = c.loop-next.capture in
          let q = c.loop-next.queue in
          let x = place_some q in
          let ahead = ahead_of c.loop-next.next (place_ahead q) c.in-Some.time x.0 c.in-Some.is x.1 in
          let u = c.loop-next.invariant.under room text began start in
          let stands = subst (λ a. StandsFor capture (g.R.ByteSource.remaining c.loop-next.source) text (u.frames ++ frame_ahead a)) ahead u.ahead.stands in
          let gave = subst (FindsNext text u.frames) ahead u.ahead.finds in
          e.goes x.0 room text u.frames began x.1 stands gave u.running;
    }

pub send_due_frames-requires : goal.send_due_frames-requires
send_due_frames-requires g c = record { within = c.loop-next.invariant.within }

pub returns-in-Err-send_due_frames-clause-ends : goal.returns-in-Err-send_due_frames-clause-ends
returns-in-Err-send_due_frames-clause-ends g c = λ room text began start.
    let contents = g.W.ByteSink.contents in
    let lane = queue_reader c.loop-next.capture c.loop-next.next c.loop-next.queue in
    let old = queue_state c.loop-next.queue in
    let u = c.loop-next.invariant.under room text began start in
    let none : lane.ahead ≡ None = rw c.in_default.is refl in
    let new = queue_state c.send_due_frames.new.queue in
    let same = c.send_due_frames.ensures.same in
    let e = c.in-Err-send_due_frames.ensures in
    let is : c.in-Err-send_due_frames.fault ≡ run.Write 1 = (let was = c.in-Err-send_due_frames.is in let only = e.only in cc) in
    let gone = e.goes (frame_offers u.frames) c.loop-next.count.sent c.loop-next.count.full u.running.left u.running.sends in
    subst (StopsRun c.args.speed room text (g.R.ByteSource.remaining c.loop-next.source) began (contents c.send_due_frames.new.sink)) (sym is)
    (stops_at_end c.args.speed room text (g.R.ByteSource.remaining c.loop-next.source) lane old new (with_frames c.loop-next.count) began (contents c.loop-next.sink) (contents c.send_due_frames.new.sink) u none refl same.0 same.1 (e.late (last_time 0 u.frames) u.running.calm) gone.0 gone.1 gone.2)

pub returns-clause-ends : goal.returns-clause-ends
returns-clause-ends g c = λ room text began start.
    let contents = g.W.ByteSink.contents in
    let lane = queue_reader c.loop-next.capture c.loop-next.next c.loop-next.queue in
    let u = c.loop-next.invariant.under room text began start in
    let none : lane.ahead ≡ None = rw c.in_default.is refl in
    let old = queue_state c.loop-next.queue in
    let new = queue_state c.send_due_frames.new.queue in
    let same = c.send_due_frames.ensures.same in
    let gone : HasGone old new (contents c.loop-next.sink) (contents c.send_due_frames.new.sink) = record { list = refl; speed = same.0; rooms = same.1; offered = same.2; within = c.send_due_frames.ensures.within; goes = λ offers sent full left s. c.in_default-send_due_frames.ensures.goes offers sent full left s } in
    let due = c.in_default-send_due_frames.ensures.due in
    wires_all c.args.speed room text (g.R.ByteSource.remaining c.loop-next.source) lane old new (with_frames c.loop-next.count) began (contents c.loop-next.sink) (contents c.send_due_frames.new.sink) u none gone (idle_late new 18446744073709551615 due.0 due.1 due.2 (omega arith))

pub returns-clause-few : goal.returns-clause-few
returns-clause-few g c = let few = c.loop-next.invariant.few in omega arith
