-- The warnings of shared queues.
use Rattle.std.proofs.Common.{◌≡◌, ◌∙◌, ◌++◌, ℕ, Bool, false, List, [], OnOk, Result, Ok, Err, ap, append_assoc}
use Rattle.std.specs.Prelude.{if◌then◌else◌}
use Rattle.bridge_groups.specs.declared.shared_queues.SharedQueue.{SharedQueue}
use Rattle.bridge_groups.specs.SharedQueues.{is_bounded_by_gates}
use Rattle.net_latency.specs.SharedLines.{is_lossy}
use Rattle.net_latency.specs.SharedWarnings.{lossy_warning, shared_warning, unknown_room_warning, unmetered_warning}

-- If not all filters have meters, the warning depends on whether stream gates bound the delay.
pub without_meters : (s : SharedQueue) (by_gates : Bool) → s.is_metered ≡ false → is_bounded_by_gates s ≡ by_gates
    → shared_warning s ≡ (if by_gates then unknown_room_warning s else unmetered_warning s)
without_meters s by_gates lacks by =
    ap (λ m. if m then (if is_lossy s.room s.capacity then lossy_warning s else []) else if is_bounded_by_gates s then unknown_room_warning s else unmetered_warning s) lacks
    ∙ ap (λ b. if b then unknown_room_warning s else unmetered_warning s) by

-- A text that grew by `start`, then by `more`.
pub then_more : {T E : Type 0} (r : Result T E) (old middle new start more : List ℕ) → middle ≡ old ++ start → OnOk r (new ≡ middle ++ more) → OnOk r (new ≡ old ++ (start ++ more))
then_more (Ok t) old middle new start more is grown = grown ∙ (ap (λ l. l ++ more) is ∙ append_assoc old start more)
then_more (Err e) old middle new start more is grown = tt
