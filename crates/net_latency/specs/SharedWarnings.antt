-- Warnings of `bounds` about queues that groups share.
use Rattle.std.specs.Prelude.{◌≡◌, ℕ, List, [], ◌++◌, Option, Some, None, flat_map, codes, decimal, if◌then◌else◌}
use Rattle.bridge_config.specs.Model.{Plan}
use Rattle.bridge_groups.specs.declared.shared_queues.SharedQueue.{SharedQueue}
use Rattle.bridge_groups.specs.GroupRows.{AreSharedQueues}
use Rattle.bridge_groups.specs.SharedQueues.{is_bounded_by_gates}
use Rattle.net_latency.specs.SharedLines.{is_lossy}

-- The start of the warning for a queue: `start`, its group, `fault`, its port and class.
unfoldable pub queue_fault : List ℕ → List ℕ → SharedQueue → List ℕ
queue_fault start fault s =
    codes "Warning: " ++ (start ++ (codes "group " ++ (decimal s.group ++ (fault ++ (codes " at port " ++ (decimal s.port ++ (codes ", class " ++ decimal s.class)))))))

-- The warning for a queue: its start and `remedy`.
abbrev pub queue_warning : List ℕ → List ℕ → SharedQueue → List ℕ → List ℕ
queue_warning start fault s remedy = queue_fault start fault s ++ remedy

-- The warning for a queue that may lose frames.
abbrev pub loss_warning : SharedQueue → List ℕ → List ℕ
loss_warning s remedy = queue_warning [] (codes " may lose frames") s remedy

-- The warning for a queue whose delay only its capacity bounds.
abbrev pub unmetered_warning : SharedQueue → List ℕ
unmetered_warning s =
    queue_warning (codes "only the capacity bounds the delay of ") [] s
    (codes ". A filter has no meter, or the meters pass more than the windows carry. Give each filter a meter, or lower the rates.\n")

-- The warning for a queue whose delay stream gates bound, but for which no capacity is known to suffice, because meters are missing.
abbrev pub unknown_room_warning : SharedQueue → List ℕ
unknown_room_warning s = loss_warning s (codes ", because no capacity of the queue is known to suffice. Give each filter a meter.\n")

-- The remedy for a queue that contains `capacity` frames and needs `room`.
unfoldable pub small_remedy : ℕ → ℕ → List ℕ
small_remedy room capacity =
    codes ", because the queue holds only " ++ (decimal capacity ++ (codes " instead of " ++ (decimal room
    ++ codes ". Raise `rooms`, or lower the rates of the meters.\n")))

-- The warning of a queue that may drop copies as full: no capacity is known to suffice, or its own is less than `room`.
abbrev pub lossy_words : Option ℕ → SharedQueue → List ℕ
lossy_words None s =
    loss_warning s (codes ", because no capacity of the queue is known to suffice. Remove the `[[change]]`, or lower the rates of the meters.\n")
lossy_words (Some room) s = loss_warning s (small_remedy room s.capacity)

-- The warning for a queue that may drop copies as full.
abbrev pub lossy_warning : SharedQueue → List ℕ
lossy_warning s = lossy_words s.room s

-- The warning of a shared queue with the mark `unmetered` or `lossy`; empty for a queue without a mark.
abbrev pub shared_warning : SharedQueue → List ℕ
shared_warning s = if s.is_metered then (if is_lossy s.room s.capacity then lossy_warning s else []) else if is_bounded_by_gates s then unknown_room_warning s else unmetered_warning s

-- The warnings of `bounds`, one for each shared queue with a mark.
abbrev pub shared_warnings : List SharedQueue → List ℕ
shared_warnings rows = flat_map shared_warning rows

-- Holds if `text` is the list of warnings for the queues with a mark that the plan's groups share.
abbrev pub AreSharedWarnings : {A : Type 0} → Plan A → List ℕ → Type 0
AreSharedWarnings p text = (shared : List SharedQueue) × AreSharedQueues p shared × (text ≡ shared_warnings shared)
