-- Streams with periodic talkers: the periods that suit the plans, and the delays of their frames.
use Rattle.std.specs.Prelude.{◌≡◌, ℕ, Bool, true, ◌+◌, List, [], ◌∷◌, Option, Some, None, Vec, All, filter, flat_map, map, nat_eq, slice_get, if◌then◌else◌}
use Rattle.std.specs.List.{list_all}
use Rattle.std.specs.Map.{lookup}
use Rattle.bridge_filter.specs.declared.FilterPlan.{FilterPlan}
use Rattle.bridge_config.specs.Model.{Plan}
use Rattle.net_latency.specs.declared.latency.StreamLatency.{StreamLatency}
use Rattle.net_latency.specs.declared.tree.HopQueue.{HopQueue}
use Rattle.net_latency.specs.Entering.{IsStreamCourse}
use Rattle.net_file.specs.declared.fault.NetField.TheVariants as field
use Rattle.net_file.specs.declared.fault.NetFault.{NetFault}
use Rattle.net_file.specs.declared.fault.NetFault.TheVariants as net
use Rattle.net_file.specs.declared.fault.NetSection.TheVariants as section
use Rattle.net_file.specs.declared.link_row.LinkRow.{LinkRow}
use Rattle.net_file.specs.declared.talker.Talker.{Talker}
use Rattle.net_file.specs.Model.{Stream}
use Rattle.net_model.specs.declared.links.Link.{Link}
use Rattle.net_model.specs.declared.links.StreamHop.{StreamHop}
use Rattle.bridge_bounds.specs.declared.traffic.Traffic.{Traffic}
use Rattle.net_latency.specs.declared.bounds.QueueBound.{QueueBound}
use Rattle.net_latency.specs.Streams.{are_in_time, stream_hop_value, bounds_if_any, stream_lines}
use Rattle.net_latency.specs.Traffic.{suits}

-- PERIODS THAT SUIT

-- True if a period is a multiple of each cycle time on the route of an optional filter. True without a filter.
abbrev pub suits_filter : {A : Type 0} → Plan A → ℕ → Option FilterPlan → Bool
suits_filter p period None = true
suits_filter p period (Some f) = suits p f period

-- True if a period suits filter `n` of an optional plan. True without a plan.
abbrev pub suits_hop : {A : Type 0} → Option (Plan A) → ℕ → ℕ → Bool
suits_hop None n period = true
suits_hop (Some p) n period = suits_filter p period (lookup (nat_eq n) p.filters)

-- True if the period of an optional talker suits each hop of its stream. True without a talker.
abbrev pub suits_hops : {A : Type 0} → List (Plan A) → Option Talker → List (ℕ × ℕ) → Bool
suits_hops plans None hops = true
suits_hops plans (Some t) hops = list_all (λ (h : ℕ × ℕ). suits_hop (slice_get plans h.0) h.1 t.period) hops

-- The fault of the first stream whose period doesn't suit a hop. `None` if every period suits all hops. The first
-- stream has number `index`.
abbrev pub first_misfit : {A : Type 0} → List (Plan A) → ℕ → List Stream → Option NetFault
first_misfit plans index [] = None
first_misfit plans index (s ∷ ss) =
    if suits_hops plans s.talker s.hops then first_misfit plans (index + 1) ss
    else Some (net.OutOfRange (record { section = section.Stream; index = index; field = field.Period }))

-- DELAYS OF TALKERS' FRAMES

-- The traffic of a network file's talker in the form of `bridge_bounds`, which defines delays.
abbrev pub talker_traffic : Talker → Traffic
talker_traffic t = record { period = t.period; from = t.from; to = t.to; least = t.least; longest = t.longest }

-- A reachable queue of a hop, from its delay bound.
abbrev pub hop_queue : StreamHop → QueueBound → HopQueue
hop_queue h r = record { hop = h; port = r.port; class = r.class }

-- True if a queue belongs to the filter of a hop.
abbrev pub is_queue_of_hop : StreamHop → QueueBound → Bool
is_queue_of_hop h r = nat_eq r.filter h.filter

-- The reachable queues of hop `h`, from the delay bounds `rows` of its bridge.
abbrev pub filter_queues : List QueueBound → StreamHop → List HopQueue
filter_queues rows h = map (hop_queue h) (filter (is_queue_of_hop h) rows)

-- The reachable queues of a hop, from the delay bounds of all bridges.
abbrev pub queues_of_hop : {A : Type 0} → List (Vec QueueBound A) → StreamHop → List HopQueue
queues_of_hop bounds h = filter_queues (bounds_if_any (slice_get bounds h.bridge)) h

-- The reachable queues of all hops of a stream, hop by hop.
abbrev pub hop_queues : {A : Type 0} → List (Vec QueueBound A) → List StreamHop → List HopQueue
hop_queues bounds hops = flat_map (queues_of_hop bounds) hops

-- Holds if `r` has the delays of the frames of a stream's optional periodic talker. It is `None` if the stream has no
-- talker.
abbrev pub IsTalkerLatency : {A : Type 0} → List (Plan A) → List Link → List (Vec QueueBound A) → Option Talker → List StreamHop → Option StreamLatency → Type 0
IsTalkerLatency plans links bounds None hops r = r ≡ None
IsTalkerLatency plans links bounds (Some t) hops r = IsStreamCourse plans links hops (hop_queues bounds hops) (talker_traffic t) r

-- Holds if `rows` has the streams, each with its delays.
pub record AreStreamLatencies {A : Type 0} (plans : List (Plan A)) (links : List Link) (bounds : List (Vec QueueBound A)) (streams : List Stream) (rows : List (Stream × Option StreamLatency)) : Type 0 where
  pub are_streams : map (λ (r : Stream × Option StreamLatency). r.0) rows ≡ streams
  pub courses : All (λ (r : Stream × Option StreamLatency). IsTalkerLatency plans links bounds r.0.talker (map stream_hop_value r.0.hops) r.1) rows

-- Holds if `lines` has the `stream` lines of the streams, with their delays. `kept` is true if all pass and meet their
-- deadlines.
pub record AreStreamLines {A : Type 0} (plans : List (Plan A)) (links : List Link) (bounds : List (Vec QueueBound A)) (rows : List LinkRow) (streams : List Stream) (lines : List ℕ) (kept : Bool) : Type 0 where
  pub figures : List (Stream × Option StreamLatency)
  pub are_courses : AreStreamLatencies plans links bounds streams figures
  pub lines_are : lines ≡ stream_lines bounds rows figures
  pub kept_is : kept ≡ are_in_time bounds rows figures
