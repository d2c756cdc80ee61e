use Rattle.std.proofs.Common.{◌≡◌, ◌+◌, ◌≤◌, ℕ, List, Option, Some, true}
use Rattle.bridge_capture.specs.declared.record.TheConstants.{MAX_RECORDS}
use Rattle.bridge_port.specs.StandsFor.{count_queued}
use Rattle.bridge_capture.specs.CaptureReaders.{IsReader}
use Rattle.bridge_capture.specs.CaptureReaders.{frames_left as room_ahead}
use Rattle.bridge_wire.specs.Departures.{is_overlong, IsUnderWay, no_count}
use Rattle.bridge_wire.specs.OpenQueues.{queue_reader, queue_state, with_frames}
use Rattle.bridge_wire.proofs.one_queue.send_all.Given as goal

abbrev pub invariant-loop-next : goal.invariant-loop-next
invariant-loop-next g l =
    let contents = g.W.ByteSink.contents in
    let remaining = g.R.ByteSource.remaining in
    record {
      speed : l.queue.speed ≡ l.fn.speed;
      within : count_queued is_overlong (queue_state l.queue) ≡ 0;
      lane : IsReader (queue_reader l.capture l.next l.queue);
      onward : (t : ℕ) → l.next ≡ Some t → l.queue.earliest ≤ t;
      offered : l.queue.offered ≤ (with_frames l.count).frames;
      few : (with_frames l.count).frames + room_ahead (queue_reader l.capture l.next l.queue) ≤ MAX_RECORDS;
      lasts : g.R.ByteSource.never_fails l.fn.source ≡ true → g.R.ByteSource.never_fails l.source ≡ true;
      holds : g.W.ByteSink.never_fails l.fn.sink ≡ true → g.W.ByteSink.never_fails l.sink ≡ true;
      under : (room : ℕ) (text : List ℕ) (began : Option (List ℕ)) → IsUnderWay l.fn.speed room text (remaining l.fn.source) (queue_reader l.fn.capture l.fn.first l.fn.queue) (queue_state l.fn.queue) no_count began (contents l.fn.sink) → IsUnderWay l.fn.speed room text (remaining l.source) (queue_reader l.capture l.next l.queue) (queue_state l.queue) (with_frames l.count) began (contents l.sink);
    }

abbrev pub decreases-loop-next : goal.decreases-loop-next
decreases-loop-next g l = room_ahead (queue_reader l.capture l.next l.queue)
