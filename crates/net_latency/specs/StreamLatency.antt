-- Delays of streams: the phases of a periodic talker's frames at each hop, and their delays over all routes.
use Rattle.std.specs.Prelude.{◌≡◌, ◌↔◌, ℕ, zero, suc, Bool, true, false, ◌&&◌, ◌+◌, ◌-◌, ◌*◌, ◌^◌, ◌<◌, ◌≤◌, ◌%◌, min, max, List, [], ◌∷◌, Option, Some, None, MatchOption, filter, fold, length, nat_eq, nat_le, nat_lt, slice_get, if◌then◌else◌}
use Rattle.std.specs.Map.{lookup}
use Rattle.bridge_filter.specs.declared.FilterPlan.{FilterPlan}
use Rattle.bridge_config.specs.Model.{Plan}
use Rattle.bridge_bounds.specs.Bounds.{HasNoBound}
use Rattle.net_model.specs.declared.links.Link.{Link}
use Rattle.net_model.specs.declared.links.StreamHop.{StreamHop}
use Rattle.bridge_bounds.specs.declared.traffic.Traffic.{Traffic}
use Rattle.bridge_bounds.specs.declared.timing.Phases.{Phases}
use Rattle.bridge_bounds.specs.declared.timing.Timing.{Timing}
use Rattle.bridge_bounds.specs.Passing.{Passes}
use Rattle.bridge_bounds.specs.Timings.{IsTiming}
use Rattle.bridge_bounds.specs.Traffic.{IsTraffic}
use Rattle.net_latency.specs.declared.latency.StreamLatency.{StreamLatency}
use Rattle.net_latency.specs.declared.latency.CombinedLatency.{CombinedLatency}
use Rattle.net_latency.specs.declared.latency.CombinedLatency.TheVariants as gathered
use Rattle.net_latency.specs.declared.next_hop.NextHop.{NextHop}
use Rattle.net_latency.specs.declared.queue_exit.StreamContext.{StreamContext}
use Rattle.net_latency.specs.declared.queue_exit.HopArrival.{HopArrival}
use Rattle.net_latency.specs.declared.queue_exit.QueueExit.{QueueExit}
use Rattle.net_latency.specs.declared.queue_exit.QueueExit.TheVariants as stop
use Rattle.net_latency.specs.declared.tree.HopQueue.{HopQueue}
use Rattle.net_latency.specs.NextHop.{next_hop}
use Rattle.net_latency.specs.Trees.{is_tree}

-- A stream of a network: plans and links, its hops, their reachable queues, and the first phase at which its talker sends.
pub record StreamModel (A : Type 0) : Type 0 where
  pub plans : List (Plan A)
  pub links : List Link
  pub hops : List StreamHop
  pub queues : List HopQueue
  pub from : ℕ

-- Converts a stream of the program to the form of these definitions.
abbrev pub stream_model : {A : Type 0} → StreamContext A → StreamModel A
stream_model c = record { plans = c.plans.now; links = c.links.now; hops = c.hops.now; queues = c.queues.now; from = c.from }

-- Holds if a queue is of a port from 1 to 16 and a class from 0 to 7.
pub record IsQueue (x : HopQueue) : Type 0 where
  pub from : 1 ≤ x.port
  pub to : x.port ≤ 16
  pub class : x.class < 8

-- ONE QUEUE

-- Holds if the optional plan is present and has filter `n`, and this filter passes each frame of the traffic.
abbrev pub HopPasses : {A : Type 0} → Option (Plan A) → ℕ → Traffic → Type 0
HopPasses None n t = ⊥
HopPasses (Some p) n t = (f : FilterPlan) × (lookup (nat_eq n) p.filters ≡ Some f) × Passes p f t

-- The delays of a route that ends at a queue. Worst: the lesser of the summed worst delays and the time from phase
-- `from` to the last phase of `done`. Best: the summed best delays.
abbrev pub latency_at_last_queue : ℕ → HopArrival → Timing → Phases → Bool → StreamLatency
latency_at_last_queue from a x done passes = record {
  passes = a.passes && passes;
  worst = min (a.later + done.to - from) (a.worst + x.worst);
  best = a.best + x.best;
  phases = done;
}

-- The time in ns of all whole periods before a phase.
abbrev pub whole_periods : ℕ → ℕ → ℕ
whole_periods period phase = phase - phase % period

-- The arrival at the next hop over a link. Its phases lie `delay` ns after the phases `done`, counted from the start of the first one's
-- period.
abbrev pub arrival_over_link : HopArrival → Timing → Phases → ℕ → Bool → HopArrival
arrival_over_link a x done delay passes = record {
  traffic = record {
    period = a.traffic.period;
    from = (done.from + delay) % a.traffic.period;
    to = done.to + delay - whole_periods a.traffic.period (done.from + delay);
    least = a.traffic.least;
    longest = a.traffic.longest;
  };
  later = a.later + whole_periods a.traffic.period (done.from + delay);
  worst = a.worst + x.worst + delay;
  best = a.best + x.best + delay;
  passes = a.passes && passes;
}

-- True if the traffic's phases are ordered and lie in one period.
abbrev pub is_in_one_period : Traffic → Bool
is_in_one_period t = nat_le t.from t.to && nat_lt t.to t.period

-- The arrival at the next hop over a link of `delay` ns if its phases lie in one period, otherwise `None`.
abbrev pub next_hop_arrival : HopArrival → Timing → Phases → ℕ → Bool → Option HopArrival
next_hop_arrival a x done delay passes =
    if is_in_one_period (arrival_over_link a x done delay passes).traffic then Some (arrival_over_link a x done delay passes) else None

-- The next step of frames to hop `h`, or `None` if their arrival there is unknown.
abbrev pub exit_to_hop : StreamHop → Option HopArrival → Option QueueExit
exit_to_hop h None = None
exit_to_hop h (Some a) = Some (stop.Next h a)

-- The next step of frames that leave a queue in the phases `done`. They continue to the optional next hop, or end their
-- route if there is no next hop.
abbrev pub exit_over_link : ℕ → HopArrival → Timing → Phases → Bool → Option NextHop → Option QueueExit
exit_over_link from a x done passes None = Some (stop.Last (latency_at_last_queue from a x done passes))
exit_over_link from a x done passes (Some o) = exit_to_hop o.hop (next_hop_arrival a x done o.delay passes)

-- The next step of frames that leave a queue; `None` if their phases are unknown.
abbrev pub exit_by_phases : ℕ → HopArrival → Timing → Option Phases → Bool → Option NextHop → Option QueueExit
exit_by_phases from a x None passes o = None
exit_by_phases from a x (Some done) passes o = exit_over_link from a x done passes o

-- The next step of frames with arrival `a` at queue `x`, by their optional delays there; `None` without delays.
abbrev pub exit_by_timing : {A : Type 0} → StreamModel A → HopQueue → HopArrival → Bool → Option Timing → Option QueueExit
exit_by_timing n x a passes None = None
exit_by_timing n x a passes (Some t) = exit_by_phases n.from a t t.phases passes (next_hop n.links n.hops x.hop.bridge x.port)

-- Holds if `s` is the next step of frames with arrival `a` at queue `x`. The optional plan is the plan of its bridge; without a plan there
-- is no step.
abbrev pub IsQueueExitOfPlan : {A : Type 0} → Option (Plan A) → StreamModel A → HopQueue → HopArrival → Bool → Option QueueExit → Type 0
IsQueueExitOfPlan None n x a passes s = s ≡ None
IsQueueExitOfPlan (Some p) n x a passes s =
    (t : Option Timing) × MatchOption t (HasNoBound p x.hop.filter x.port x.class) (IsTiming p x.hop.filter x.port x.class a.traffic)
    × (s ≡ exit_by_timing n x a passes t)

-- Holds if `s` is the next step of frames with arrival `a` at queue `x` of the stream.
abbrev pub IsQueueExit : {A : Type 0} → StreamModel A → HopQueue → HopArrival → Bool → Option QueueExit → Type 0
IsQueueExit n x a passes s = IsQueueExitOfPlan (slice_get n.plans x.hop.bridge) n x a passes s

-- ALL ROUTES

-- One of two statements: the first if the test is true, otherwise the second.
abbrev pub IfElse : Bool → Type 0 → Type 0 → Type 0
IfElse true A B = A
IfElse false A B = B

-- The least range of phases that includes the phases of two routes.
abbrev pub both_phases : Phases → Phases → Phases
both_phases a b = record { from = min a.from b.from; to = max a.to b.to }

-- Delays that hold for two routes `a` and `b`: the greater worst and the lesser best delay.
abbrev pub combine : StreamLatency → StreamLatency → StreamLatency
combine a b = record {
  passes = a.passes && b.passes;
  worst = max a.worst b.worst;
  best = min a.best b.best;
  phases = both_phases a.phases b.phases;
}

-- Holds if the delays and phases `x` lie within the delays and phases `y`.
pub record IsLatencyWithinOther (x y : StreamLatency) : Type 0 where
  pub worst : x.worst ≤ y.worst
  pub best : y.best ≤ x.best
  pub from : y.phases.from ≤ x.phases.from
  pub to : x.phases.to ≤ y.phases.to

-- The delays that hold for two routes, if both routes' delays are known.
abbrev pub combine_if_both : Option StreamLatency → Option StreamLatency → Option StreamLatency
combine_if_both None b = None
combine_if_both (Some a) None = None
combine_if_both (Some a) (Some b) = Some (combine a b)

-- The gathered delays of some queues, with the delays of one more queue.
abbrev pub add_latency : CombinedLatency → Option StreamLatency → CombinedLatency
add_latency gathered.NoQueue r = gathered.Latency r
add_latency (gathered.Latency x) r = gathered.Latency (combine_if_both x r)

-- The delays of all added queues, if there is a queue and all are known.
abbrev pub known_latency : CombinedLatency → Option StreamLatency
known_latency gathered.NoQueue = None
known_latency (gathered.Latency x) = x

-- The delays that hold for all queues, if there is a queue and all delays are known.
abbrev pub combine_all : List (Option StreamLatency) → Option StreamLatency
combine_all rs = known_latency (fold add_latency gathered.NoQueue rs)

-- Holds if two lists have equal length and their items are related, index by index.
abbrev pub Pairwise : {X Y : Type 0} → (X → Y → Type 0) → List X → List Y → Type 0
Pairwise R [] [] = Unit {0}
Pairwise R (x ∷ xs) (y ∷ ys) = R x y × Pairwise R xs ys
Pairwise R xs ys = ⊥

-- True if a queue belongs to hop `h`. Bridges are compared, because each hop of a tree has its own bridge.
abbrev pub is_queue_of_hop : StreamHop → HopQueue → Bool
is_queue_of_hop h x = nat_eq x.hop.bridge h.bridge

-- Holds if `r` has the delays of the routes that continue with an optional step. They are unknown without a step.
--
-- The step after the last queue has them; otherwise, `T` gives the delays from the next hop on.
abbrev pub IsLatencyAfterExit : (StreamHop → HopArrival → Option StreamLatency → Type 0) → Option QueueExit → Option StreamLatency → Type 0
IsLatencyAfterExit T None r = r ≡ None
IsLatencyAfterExit T (Some (stop.Last x)) r = r ≡ Some x
IsLatencyAfterExit T (Some (stop.Next h a)) r = T h a r

-- Holds if `r` has the delays of the routes from queue `x` on; `T` gives the delays from the next hop on.
abbrev pub IsQueueLatency : {A : Type 0} → (StreamHop → HopArrival → Option StreamLatency → Type 0) → StreamModel A → HopArrival → Bool → HopQueue → Option StreamLatency → Type 0
IsQueueLatency T n a passes x r = (s : Option QueueExit) × IsQueueExit n x a passes s × IsLatencyAfterExit T s r

-- Holds if `after` has the delays of `before` and, if queue `x` belongs to hop `h`, of this queue too.
abbrev pub AddsQueueLatency : {A : Type 0} → (StreamHop → HopArrival → Option StreamLatency → Type 0) → StreamModel A → StreamHop → HopArrival → Bool → HopQueue → CombinedLatency → CombinedLatency → Type 0
AddsQueueLatency T n h a passes x before after =
    IfElse (is_queue_of_hop h x) ((r : Option StreamLatency) × IsQueueLatency T n a passes x r × (after ≡ add_latency before r)) (after ≡ before)

-- Holds if `r` has the delays that hold for all queues of hop `h`; `T` gives the delays from the next hop on.
pub record IsHopLatencyByQueues {A : Type 0} (T : StreamHop → HopArrival → Option StreamLatency → Type 0) (n : StreamModel A) (h : StreamHop) (a : HopArrival) (r : Option StreamLatency) : Type 0 where
  pub passes : Bool
  pub is_passing : (passes ≡ true) ↔ HopPasses (slice_get n.plans h.bridge) h.filter a.traffic
  pub figures : List (Option StreamLatency)
  pub each : Pairwise (IsQueueLatency T n a passes) (filter (is_queue_of_hop h) n.queues) figures
  pub all : r ≡ combine_all figures

-- Holds if `r` has the delays of all routes from hop `h` on, through at most the given number of hops. They are unknown for the number 0.
abbrev pub IsHopLatency : {A : Type 0} → StreamModel A → ℕ → StreamHop → HopArrival → Option StreamLatency → Type 0
IsHopLatency n zero h a r = r ≡ None
IsHopLatency n (suc k) h a r = IsHopLatencyByQueues (IsHopLatency n k) n h a r

-- The arrival of a talker's frames at the first hop: no delay yet, and all frames passed.
abbrev pub first_hop_arrival : Traffic → HopArrival
first_hop_arrival t = record { traffic = t; later = 0; worst = 0; best = 0; passes = true }

-- Holds if `r` has the delays over all routes of a stream from the optional first hop. They are unknown without a first hop, or if the hops
-- are no tree.
abbrev pub IsStreamLatencyFromHop : {A : Type 0} → StreamModel A → Traffic → Option StreamHop → Option StreamLatency → Type 0
IsStreamLatencyFromHop n t None r = r ≡ None
IsStreamLatencyFromHop n t (Some first) r =
    IfElse (is_tree n.links n.hops n.queues first) (IsHopLatency n (length n.hops) first (first_hop_arrival t) r) (r ≡ None)

-- Holds if `r` has the delays over all routes of a stream with the periodic talker `t`.
abbrev pub IsStreamLatency : {A : Type 0} → List (Plan A) → List Link → List StreamHop → List HopQueue → Traffic → Option StreamLatency → Type 0
IsStreamLatency plans links hops queues t r =
    IsStreamLatencyFromHop (record { plans = plans; links = links; hops = hops; queues = queues; from = t.from }) t (slice_get hops 0) r

-- NUMBERS

-- Holds if the delays up to a hop can grow by `k` more hops without overflow of 128 bits.
pub record HasHeadroom (k : ℕ) (a : HopArrival) : Type 0 where
  pub later : a.later + k * 2 ^ 66 ≤ 2 ^ 127
  pub worst : a.worst + k * 2 ^ 66 ≤ 2 ^ 127
  pub best : a.best + k * 2 ^ 66 ≤ 2 ^ 127

-- Holds if, after a step, the sums can grow by `k` more hops without overflow.
abbrev pub KeepsHeadroom : ℕ → QueueExit → Type 0
KeepsHeadroom k (stop.Last x) = Unit {0}
KeepsHeadroom k (stop.Next h a) = HasHeadroom k a × IsTraffic a.traffic
