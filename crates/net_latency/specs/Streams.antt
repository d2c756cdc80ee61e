-- Delay bounds of streams, and the lines about streams that `net check` prints.
use Rattle.std.specs.Prelude.{ℕ, Bool, true, false, ◌+◌, ◌-◌, ◌&&◌, ◌||◌, nat_eq, max, List, [], ◌∷◌, ◌++◌, Option, Some, None, drop, fold, sum_by, flat_map, slice_get, Vec, codes, decimal, if◌then◌else◌}
use Rattle.std.specs.List.{list_all, list_any}
use Rattle.bridge_config.specs.Model.{Plan}
use Rattle.net_latency.specs.declared.latency.StreamLatency.{StreamLatency}
use Rattle.net_file.specs.declared.link_row.LinkRow.{LinkRow}
use Rattle.net_file.specs.declared.talker.Talker.{Talker}
use Rattle.net_file.specs.Model.{Stream}
use Rattle.net_model.specs.declared.links.StreamHop.{StreamHop}
use Rattle.net_latency.specs.declared.bounds.QueueBound.{QueueBound}
use Rattle.net_latency.specs.Bounds.{AreLeastBounds}
use Rattle.net_latency.specs.Traffic.{is_met}
use Rattle.net_latency.specs.TrafficText.{deadline_words, delay_words}

-- The greater of `m` and the queue's bound if the queue belongs to filter `n`, otherwise `m`.
abbrev pub greater_bound : ℕ → ℕ → QueueBound → ℕ
greater_bound n m r = if nat_eq r.filter n then max m r.bound else m

-- The greatest bound of a filter's queues; 0 if it has none.
abbrev pub filter_bound : ℕ → List QueueBound → ℕ
filter_bound n rows = fold (greater_bound n) 0 rows

-- The bounds in an optional vector, or an empty list for `None`.
abbrev pub bounds_if_any : {A : Type 0} → Option (Vec QueueBound A) → List QueueBound
bounds_if_any None = []
bounds_if_any (Some v) = v.items

-- The greatest delay bound in ns of a hop's queues; 0 if it has none.
abbrev pub hop_bound : {A : Type 0} → List (Vec QueueBound A) → ℕ × ℕ → ℕ
hop_bound bounds h = filter_bound h.1 (bounds_if_any (slice_get bounds h.0))

-- True if one of these hops is at bridge `b`.
abbrev pub has_hop_at_bridge : List (ℕ × ℕ) → ℕ → Bool
has_hop_at_bridge hops b = list_any (λ (h : ℕ × ℕ). nat_eq h.0 b) hops

-- True if a link joins bridge `b` to the bridge of one of these hops.
abbrev pub is_joining_link : List (ℕ × ℕ) → ℕ → LinkRow → Bool
is_joining_link hops b l = (nat_eq l.one.0 b && has_hop_at_bridge hops l.other.0) || (nat_eq l.other.0 b && has_hop_at_bridge hops l.one.0)

-- The greater of `m` and the link's delay if the link joins bridge `b` to the bridge of a hop, otherwise `m`.
abbrev pub greater_delay : List (ℕ × ℕ) → ℕ → ℕ → LinkRow → ℕ
greater_delay hops b m l = if is_joining_link hops b l then max m l.delay else m

-- The greatest delay in ns of a link between bridge `b` and the bridges of these hops; 0 without a link.
abbrev pub link_delay : List LinkRow → List (ℕ × ℕ) → ℕ → ℕ
link_delay links hops b = fold (greater_delay hops b) 0 links

-- The greatest delay in ns of a link between the bridge of hop `h` and the bridges of these hops; 0 without a link.
abbrev pub hop_delay : List LinkRow → List (ℕ × ℕ) → ℕ × ℕ → ℕ
hop_delay links hops h = link_delay links hops h.0

-- The delay bound in ns of a frame that crosses each hop once. It sums each hop's greatest bound, and the greatest link
-- delay of each hop after the first.
abbrev pub stream_bound : {A : Type 0} → List (Vec QueueBound A) → List LinkRow → List (ℕ × ℕ) → ℕ
stream_bound bounds links hops = sum_by (hop_bound bounds) hops + sum_by (hop_delay links hops) (drop 1 hops)

-- The pair of a network file as a hop of `net_model`.
abbrev pub stream_hop_value : ℕ × ℕ → StreamHop
stream_hop_value h = record { bridge = h.0; filter = h.1 }

-- The worst delay of a stream, or its bound if the delay is unknown.
abbrev pub worst_latency : Option StreamLatency → ℕ → ℕ
worst_latency None bound = bound
worst_latency (Some x) bound = x.worst

-- The word of a stream: `refusable` if its frames may be refused, `arrives` if each frame of its talker arrives within the delays. It is
-- empty if the stream has no periodic talker.
abbrev pub arrival_word : Bool → Option StreamLatency → List ℕ
arrival_word false c = codes " refusable"
arrival_word true None = codes ""
arrival_word true (Some x) = codes " arrives"

-- True if the talker isn't periodic, or each of its frames passes.
abbrev pub is_passing : Option Talker → Option StreamLatency → Bool
is_passing None c = true
is_passing (Some t) None = false
is_passing (Some t) (Some x) = x.passes

-- The delays and phases of a stream; empty if they are unknown.
abbrev pub course_words : Option StreamLatency → List ℕ
course_words None = codes ""
course_words (Some x) = delay_words x.worst x.best (Some x.phases)

-- The delays of a stream if they are known, and its bound.
abbrev pub latency_words : Option StreamLatency → ℕ → List ℕ
latency_words c bound = course_words c ++ (codes " bound " ++ decimal bound)

-- Text of the `stream` line on an optional deadline in ns: ` margin N` if the worst delay is `N` ns before the deadline, or equal (`N` is
-- 0); ` lacks N` if it is `N` ns after. Empty without a deadline.
abbrev pub margin_words : Option ℕ → ℕ → List ℕ
margin_words None worst = codes ""
margin_words (Some d) worst = if is_met (Some d) worst then codes " margin " ++ decimal (d - worst) else codes " lacks " ++ decimal (worst - d)

-- The `stream` line of a stream: its name and word, its delays and bound, and whether it meets its deadline, with the
-- margin.
unfoldable pub stream_line : {A : Type 0} → List (Vec QueueBound A) → List LinkRow → Stream × Option StreamLatency → List ℕ
stream_line bounds links r =
    codes "stream " ++ (r.0.name ++ (arrival_word (is_passing r.0.talker r.1) r.1 ++ (latency_words r.1 (stream_bound bounds links r.0.hops)
    ++ (deadline_words r.0.deadline (worst_latency r.1 (stream_bound bounds links r.0.hops))
    ++ (margin_words r.0.deadline (worst_latency r.1 (stream_bound bounds links r.0.hops)) ++ codes "\n")))))

-- The lines of `net check` about all streams, in file order.
abbrev pub stream_lines : {A : Type 0} → List (Vec QueueBound A) → List LinkRow → List (Stream × Option StreamLatency) → List ℕ
stream_lines bounds links rows = flat_map (stream_line bounds links) rows

-- True if each frame of a stream passes and the stream meets its deadline.
abbrev pub is_in_time : {A : Type 0} → List (Vec QueueBound A) → List LinkRow → Stream × Option StreamLatency → Bool
is_in_time bounds links r = is_passing r.0.talker r.1 && is_met r.0.deadline (worst_latency r.1 (stream_bound bounds links r.0.hops))

-- True if all streams pass and meet their deadlines.
abbrev pub are_in_time : {A : Type 0} → List (Vec QueueBound A) → List LinkRow → List (Stream × Option StreamLatency) → Bool
are_in_time bounds links rows = list_all (is_in_time bounds links) rows

-- Holds if `bounds` has the least delay bounds of each plan, in the order of the plans.
abbrev pub AreQueueBoundsOfPlans : {A : Type 0} → List (Plan A) → List (Vec QueueBound A) → Type 0
AreQueueBoundsOfPlans [] [] = Unit {0}
AreQueueBoundsOfPlans (p ∷ ps) (v ∷ vs) = AreLeastBounds p v.items × AreQueueBoundsOfPlans ps vs
AreQueueBoundsOfPlans plans bounds = ⊥
