-- Lines of `bounds` about the queues that groups share.
use Rattle.std.specs.Prelude.{ℕ, Bool, true, false, List, [], ◌++◌, Option, Some, None, flat_map, codes, decimal, nat_lt, if◌then◌else◌}
use Rattle.bridge_groups.specs.declared.shared_queues.SharedQueue.{SharedQueue}
use Rattle.bridge_groups.specs.SharedQueues.{is_bounded_by_gates, least_shared_bound, padded_shared_bound}

-- True if a queue may drop copies as full: no capacity is known to suffice, or the queue's own `capacity` is less.
abbrev pub is_lossy : Option ℕ → ℕ → Bool
is_lossy None capacity = true
is_lossy (Some room) capacity = nat_lt capacity room

-- The mark of a shared queue: ` unmetered` if only its capacity bounds the delay. Otherwise ` lossy` if it may drop copies as full, or
-- nothing. Without meters, no capacity is known to suffice.
abbrev pub shared_mark : SharedQueue → List ℕ
shared_mark s = if s.is_metered then (if is_lossy s.room s.capacity then codes " lossy" else []) else if is_bounded_by_gates s then codes " lossy" else codes " unmetered"

-- The words for the bound of frames of at least 60 octets, or nothing if there is none.
abbrev pub padded_words : Option ℕ → List ℕ
padded_words None = []
padded_words (Some padded) = codes " padded " ++ decimal padded

-- The words for the capacity that suffices (the word `none` if it is unknown), and for the queue's own capacity.
abbrev pub room_words : Option ℕ → ℕ → List ℕ
room_words None capacity = codes " room none of " ++ decimal capacity
room_words (Some room) capacity = codes " room " ++ (decimal room ++ (codes " of " ++ decimal capacity))

-- The word ` apart` if the stream gates of the queue's filters are apart in time, otherwise nothing.
abbrev pub apart_word : Bool → List ℕ
apart_word true = codes " apart"
apart_word false = []

-- The line of `bounds` about shared queue `s`: group, port, class, mark, delay bound in ns, capacities, and `apart`.
unfoldable pub shared_line : SharedQueue → List ℕ
shared_line s = codes "group " ++ (decimal s.group ++ (codes " port " ++ (decimal s.port ++ (codes " class " ++ (decimal s.class ++ (shared_mark s ++ (codes " bound " ++ (decimal (least_shared_bound s) ++ (padded_words (padded_shared_bound s) ++ (room_words s.room s.capacity ++ (apart_word s.is_apart ++ codes "\n")))))))))))

-- The lines of `bounds`, one for each shared queue, in order.
abbrev pub shared_text : List SharedQueue → List ℕ
shared_text rows = flat_map shared_line rows
