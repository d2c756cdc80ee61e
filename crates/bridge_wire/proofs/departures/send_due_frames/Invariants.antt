use Rattle.std.proofs.Common.{◌≡◌, ◌≤◌, ◌++◌, ℕ, List, true}
use Rattle.std.specs.List.{flat_map}
use Rattle.std.specs.Io.KnownBytes.{Appends}
use Rattle.bridge_capture.specs.Grammar.{CapturedFrame}
use Rattle.bridge_capture.specs.WrittenCapture.{written_frame}
use Rattle.bridge_port.specs.StandsFor.{count_queued, HasNoStartEarlier}
use Rattle.bridge_wire.specs.Wire.{Offer}
use Rattle.bridge_wire.specs.Departures.{HasSent, is_overlong}
use Rattle.bridge_wire.specs.OpenQueues.{place_ahead, queue_state}
use Rattle.bridge_wire.proofs.departures.send_due_frames.Given as goal

abbrev pub invariant-loop-k : goal.invariant-loop-k
invariant-loop-k g l =
    let contents = g.W.ByteSink.contents in
    record {
      goes : (offers : List Offer) (sent full : ℕ) (left : List CapturedFrame) → HasSent (queue_state l.fn.queue) offers sent full left → (gone : List CapturedFrame) × HasSent (queue_state l.queue) offers sent full (left ++ gone) × Appends (contents l.fn.sink) (contents l.sink) (flat_map written_frame gone);
      same : (l.queue.speed ≡ l.fn.queue.speed) × ((queue_state l.queue).rooms ≡ (queue_state l.fn.queue).rooms) × (l.queue.offered ≡ l.fn.queue.offered) × (place_ahead l.queue ≡ place_ahead l.fn.queue);
      within : count_queued is_overlong (queue_state l.queue) ≡ 0;
      earliest : l.fn.queue.earliest ≤ l.t → l.queue.earliest ≤ l.t;
      holds : g.W.ByteSink.never_fails l.fn.sink ≡ true → g.W.ByteSink.never_fails l.sink ≡ true;
      calm : (h : ℕ) → HasNoStartEarlier (queue_state l.fn.queue) h → HasNoStartEarlier (queue_state l.queue) h;
    }

abbrev pub decreases-loop-k : goal.decreases-loop-k
decreases-loop-k g l = l.queue.queued
