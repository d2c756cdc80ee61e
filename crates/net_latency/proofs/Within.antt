-- A hop's delays combine all of its queues, so each queue's delays lie within them.
use Rattle.std.proofs.Common.{◌≡◌, ℕ, Bool, true, List, [], ◌∷◌, Option, None, Some, arith, ap, refl, sym, subst, ◌∙◌, inl, inr}
use Rattle.std.proofs.lemmas.Cmp.{nat_eq_equiv}
use Rattle.std.proofs.lemmas.Option.{same_Some, none-some}
use Rattle.std.specs.Prelude.{MatchOption, filter, fold, slice_get}
use Rattle.bridge_limits.specs.Members.{IsMember}
use Rattle.bridge_limits.proofs.Cases.{by_bool}
use Rattle.bridge_limits.proofs.Options.{some_is_none}
use Rattle.bridge_config.specs.Model.{Plan}
use Rattle.bridge_bounds.specs.Bounds.{HasNoBound}
use Rattle.net_model.specs.declared.links.StreamHop.{StreamHop}
use Rattle.bridge_bounds.specs.declared.timing.Phases.{Phases}
use Rattle.bridge_bounds.specs.declared.timing.Timing.{Timing}
use Rattle.bridge_bounds.specs.Timings.{IsTiming}
use Rattle.net_latency.specs.declared.latency.StreamLatency.{StreamLatency}
use Rattle.net_latency.specs.declared.latency.CombinedLatency.{CombinedLatency}
use Rattle.net_latency.specs.declared.latency.CombinedLatency.TheVariants as gathered
use Rattle.net_latency.specs.declared.next_hop.NextHop.{NextHop}
use Rattle.net_latency.specs.declared.queue_exit.HopArrival.{HopArrival}
use Rattle.net_latency.specs.declared.queue_exit.QueueExit.{QueueExit}
use Rattle.net_latency.specs.declared.queue_exit.QueueExit.TheVariants as stop
use Rattle.net_latency.specs.declared.tree.HopQueue.{HopQueue}
use Rattle.net_latency.specs.StreamLatency.{IsLatencyAfterExit, Pairwise, IsQueueExit, IsQueueExitOfPlan, IsHopLatencyByQueues, IsQueueLatency, IsLatencyWithinOther, StreamModel, combine, combine_if_both, next_hop_arrival, latency_at_last_queue, known_latency, exit_over_link, is_queue_of_hop, is_in_one_period, arrival_over_link, exit_to_hop, exit_by_phases, exit_by_timing, add_latency}
use Rattle.net_latency.specs.NextHop.{next_hop}

pub in_filter : {X : Type 0} (p : X → Bool) (x : X) (xs : List X) → IsMember x xs → p x ≡ true → IsMember x (filter p xs)
in_filter p x [] i own = absurd i
in_filter {X} p x (y ∷ ys) (inl same) own =
    let k : p y ≡ true = subst (λ (z : X). p z ≡ true) same own in
    rw k (inl same)
in_filter p x (y ∷ ys) (inr i) own = by_bool (p y) (λ k. rw k (inr (in_filter p x ys i own))) (λ k. rw k (in_filter p x ys i own))

pub each_in : {X Y : Type 0} (R : X → Y → Type 0) (x : X) (xs : List X) (ys : List Y) → Pairwise R xs ys → IsMember x xs → (y : Y) × IsMember y ys × R x y
each_in R x [] ys each i = absurd i
each_in R x (z ∷ xs) [] each i = absurd each
each_in {X} R x (z ∷ xs) (w ∷ ys) (here, more) (inl same) = (w, inl refl, subst (λ (v : X). R v w) (sym same) here)
each_in R x (z ∷ xs) (w ∷ ys) (here, more) (inr i) = let (y, j, is) = each_in R x xs ys more i in (y, inr j, is)

-- ALL DELAYS TOGETHER

-- The delays are known, and lie within `r`.
Lies : Option StreamLatency → StreamLatency → Type 0
Lies None r = ⊥
Lies (Some x) r = IsLatencyWithinOther x r

-- The delays added up to now, if any, lie within `r`.
Holds : CombinedLatency → StreamLatency → Type 0
Holds gathered.NoQueue r = Unit {0}
Holds (gathered.Latency x) r = Lies x r

within_both : (a b r : StreamLatency) → IsLatencyWithinOther (combine a b) r → IsLatencyWithinOther a r × IsLatencyWithinOther b r
within_both a b r is =
    let worst = is.worst in
    let best = is.best in
    let from = is.from in
    let to = is.to in
    (record { worst = omega (arith, worst); best = omega (arith, best); from = omega (arith, from); to = omega (arith, to) }, record { worst = omega (arith, worst); best = omega (arith, best); from = omega (arith, from); to = omega (arith, to) })

lies_both : (x y : Option StreamLatency) (r : StreamLatency) → Lies (combine_if_both x y) r → Lies x r × Lies y r
unfolding Lies
lies_both None y r is = absurd is
lies_both (Some a) None r is = absurd is
lies_both (Some a) (Some b) r is = within_both a b r is

holds_one : (g : CombinedLatency) (y : Option StreamLatency) (r : StreamLatency) → Holds (add_latency g y) r → Holds g r × Lies y r
unfolding Holds
holds_one gathered.NoQueue y r is = (tt, is)
holds_one (gathered.Latency x) y r is = lies_both x y r is

holds_some : (g : CombinedLatency) (r : StreamLatency) → known_latency g ≡ Some r → Holds g r
unfolding Holds Lies
holds_some gathered.NoQueue r is = absurd (none-some r is)
holds_some (gathered.Latency None) r is = absurd (none-some r is)
holds_some (gathered.Latency (Some x)) r is =
    let same = same_Some x r is in
    let worst : x.worst ≡ r.worst = ap (λ (z : StreamLatency). z.worst) same in
    let best : x.best ≡ r.best = ap (λ (z : StreamLatency). z.best) same in
    let from : x.phases.from ≡ r.phases.from = ap (λ (z : StreamLatency). z.phases.from) same in
    let to : x.phases.to ≡ r.phases.to = ap (λ (z : StreamLatency). z.phases.to) same in
    record { worst = omega (arith, worst); best = omega (arith, best); from = omega (arith, from); to = omega (arith, to) }

-- The delays of each queue lie within the delays of all queues.
each_lies : (g : CombinedLatency) (ys : List (Option StreamLatency)) (r : StreamLatency) → known_latency (fold add_latency g ys) ≡ Some r → Holds g r × ((y : Option StreamLatency) → IsMember y ys → Lies y r)
each_lies g [] r is = (holds_some g r is, λ y i. absurd i)
each_lies g (y ∷ ys) r is =
    let (all, more) = each_lies (add_latency g y) ys r is in
    let (before, here) = holds_one g y r all in
    (before, λ z i. elim i [ inl same ↦ subst (λ (w : Option StreamLatency). Lies w r) (sym same) here | inr j ↦ more z j ])

pub within_more : (x y z : StreamLatency) → IsLatencyWithinOther x y → IsLatencyWithinOther y z → IsLatencyWithinOther x z
within_more x y z a b =
    let worst = a.worst in
    let more = b.worst in
    let best = a.best in
    let less = b.best in
    let from = a.from in
    let sooner = b.from in
    let to = a.to in
    let later = b.to in
    record { worst = omega (arith, worst, more); best = omega (arith, best, less); from = omega (arith, from, sooner); to = omega (arith, to, later) }

-- ONE QUEUE

-- The delays of one queue of a hop.
record HasOne {A : Type 0} (T : StreamHop → HopArrival → Option StreamLatency → Type 0) (n : StreamModel A) (a : HopArrival) (x : HopQueue) (r : StreamLatency) : Type 0 where
  passes : Bool
  figures : StreamLatency
  within : IsLatencyWithinOther figures r
  at : Option QueueExit
  is : IsQueueExit n x a passes at
  behind : IsLatencyAfterExit T at (Some figures)

one_of : {A : Type 0} (T : StreamHop → HopArrival → Option StreamLatency → Type 0) (n : StreamModel A) (a : HopArrival) (x : HopQueue) (passes : Bool) (r : StreamLatency) (o : Option StreamLatency) → Lies o r → IsQueueLatency T n a passes x o → HasOne T n a x r
unfolding Lies
one_of T n a x passes r None lies told = absurd lies
one_of T n a x passes r (Some figures) lies (s, is, behind) = record { passes = passes; figures = figures; within = lies; at = s; is = is; behind = behind }

one_told : {A : Type 0} (T : StreamHop → HopArrival → Option StreamLatency → Type 0) (n : StreamModel A) (a : HopArrival) (x : HopQueue) (r : StreamLatency) → IsHopLatencyByQueues T n x.hop a (Some r) → IsMember x n.queues → HasOne T n a x r
one_told T n a x r is among =
    let own : is_queue_of_hop x.hop x ≡ true = nat_eq_equiv.refl x.hop.bridge in
    let (o, i, told) = each_in (IsQueueLatency T n a is.passes) x (filter (is_queue_of_hop x.hop) n.queues) is.figures is.each (in_filter (is_queue_of_hop x.hop) x n.queues among own) in
    one_of T n a x is.passes r o ((each_lies gathered.NoQueue is.figures r (sym is.all)).1 o i) told

-- The next step of frames at a queue.
pub record HasStop {A : Type 0} (n : StreamModel A) (p : Plan A) (a : HopArrival) (x : HopQueue) (passes : Bool) (s : Option QueueExit) : Type 0 where
  pub timing : Timing
  pub done : Phases
  pub is : IsTiming p x.hop.filter x.port x.class a.traffic timing
  pub phases : timing.phases ≡ Some done
  pub stop : s ≡ exit_over_link n.from a timing done passes (next_hop n.links n.hops x.hop.bridge x.port)

stop_phases : {A : Type 0} (n : StreamModel A) (p : Plan A) (a : HopArrival) (x : HopQueue) (passes : Bool) (s : Option QueueExit) (t : Timing) (o : Option Phases) → IsTiming p x.hop.filter x.port x.class a.traffic t → t.phases ≡ o → s ≡ exit_by_phases n.from a t o passes (next_hop n.links n.hops x.hop.bridge x.port) → ¬ (s ≡ None) → HasStop n p a x passes s
stop_phases n p a x passes s t None is o e some = absurd (some e)
stop_phases n p a x passes s t (Some done) is o e some = record { timing = t; done = done; is = is; phases = o; stop = e }

stop_timing : {A : Type 0} (n : StreamModel A) (p : Plan A) (a : HopArrival) (x : HopQueue) (passes : Bool) (s : Option QueueExit) (t : Option Timing) → MatchOption t (HasNoBound p x.hop.filter x.port x.class) (IsTiming p x.hop.filter x.port x.class a.traffic) → s ≡ exit_by_timing n x a passes t → ¬ (s ≡ None) → HasStop n p a x passes s
stop_timing n p a x passes s None is e some = absurd (some e)
stop_timing n p a x passes s (Some t) is e some = stop_phases n p a x passes s t t.phases is refl e some

pub stop_of : {A : Type 0} (n : StreamModel A) (p : Plan A) (a : HopArrival) (x : HopQueue) (passes : Bool) (s : Option QueueExit) → slice_get n.plans x.hop.bridge ≡ Some p → IsQueueExit n x a passes s → ¬ (s ≡ None) → HasStop n p a x passes s
stop_of {A} n p a x passes s at is some =
    let (t, about, e) : (t : Option Timing) × MatchOption t (HasNoBound p x.hop.filter x.port x.class) (IsTiming p x.hop.filter x.port x.class a.traffic) × (s ≡ exit_by_timing n x a passes t) =
    subst (λ (z : Option (Plan A)). IsQueueExitOfPlan z n x a passes s) at is in
    stop_timing n p a x passes s t about e some

pub behind_some : (T : StreamHop → HopArrival → Option StreamLatency → Type 0) (s : Option QueueExit) (x : StreamLatency) → IsLatencyAfterExit T s (Some x) → ¬ (s ≡ None)
behind_some T None x is e = some_is_none x is
behind_some T (Some s) x is e = some_is_none s e

-- Frames leave the hops at a queue. Its delays lie within the delays of its hop.
pub record LeavesAt {A : Type 0} (n : StreamModel A) (p : Plan A) (a : HopArrival) (x : HopQueue) (r : StreamLatency) : Type 0 where
  pub timing : Timing
  pub done : Phases
  pub passes : Bool
  pub is : IsTiming p x.hop.filter x.port x.class a.traffic timing
  pub phases : timing.phases ≡ Some done
  pub within : IsLatencyWithinOther (latency_at_last_queue n.from a timing done passes) r

pub leaves_at : {A : Type 0} (T : StreamHop → HopArrival → Option StreamLatency → Type 0) (n : StreamModel A) (p : Plan A) (a : HopArrival) (x : HopQueue) (r : StreamLatency) → slice_get n.plans x.hop.bridge ≡ Some p → next_hop n.links n.hops x.hop.bridge x.port ≡ None → IsHopLatencyByQueues T n x.hop a (Some r) → IsMember x n.queues → LeavesAt n p a x r
leaves_at T n p a x r at nowhere told among =
    let one = one_told T n a x r told among in
    let is = stop_of n p a x one.passes one.at at one.is (behind_some T one.at one.figures one.behind) in
    let here = latency_at_last_queue n.from a is.timing is.done one.passes in
    let e : one.at ≡ Some (stop.Last here) = is.stop ∙ ap (λ (o : Option NextHop). exit_over_link n.from a is.timing is.done one.passes o) nowhere in
    let same : Some one.figures ≡ Some here = subst (λ (s : Option QueueExit). IsLatencyAfterExit T s (Some one.figures)) e one.behind in
    record { timing = is.timing; done = is.done; passes = one.passes; is = is.is; phases = is.phases; within = subst (λ (z : StreamLatency). IsLatencyWithinOther z r) (same_Some _ _ same) one.within }

-- Frames continue from a queue to another hop. Their phases there lie in one period, and the later delays lie within the delays of the queue's hop.
pub record GoesOnAt {A : Type 0} (T : StreamHop → HopArrival → Option StreamLatency → Type 0) (p : Plan A) (a : HopArrival) (x : HopQueue) (h : StreamHop) (delay : ℕ) (r : StreamLatency) : Type 0 where
  pub timing : Timing
  pub done : Phases
  pub passes : Bool
  pub figures : StreamLatency
  pub is : IsTiming p x.hop.filter x.port x.class a.traffic timing
  pub phases : timing.phases ≡ Some done
  pub one : is_in_one_period (arrival_over_link a timing done delay passes).traffic ≡ true
  pub told : T h (arrival_over_link a timing done delay passes) (Some figures)
  pub within : IsLatencyWithinOther figures r

pub goes_on_at : {A : Type 0} (T : StreamHop → HopArrival → Option StreamLatency → Type 0) (n : StreamModel A) (p : Plan A) (a : HopArrival) (x : HopQueue) (h : StreamHop) (delay : ℕ) (r : StreamLatency) → slice_get n.plans x.hop.bridge ≡ Some p → next_hop n.links n.hops x.hop.bridge x.port ≡ Some (record { hop = h; delay = delay }) → IsHopLatencyByQueues T n x.hop a (Some r) → IsMember x n.queues → GoesOnAt T p a x h delay r
goes_on_at T n p a x h delay r at leads told among =
    let one = one_told T n a x r told among in
    let is = stop_of n p a x one.passes one.at at one.is (behind_some T one.at one.figures one.behind) in
    let t = is.timing in
    let e : one.at ≡ exit_to_hop h (next_hop_arrival a t is.done delay one.passes) = is.stop ∙ ap (λ (o : Option NextHop). exit_over_link n.from a t is.done one.passes o) leads in
    let here : IsLatencyAfterExit T (exit_to_hop h (next_hop_arrival a t is.done delay one.passes)) (Some one.figures) = subst (λ (z : Option QueueExit). IsLatencyAfterExit T z (Some one.figures)) e one.behind in
    by_bool (is_in_one_period (arrival_over_link a t is.done delay one.passes).traffic)
    (λ k.
    let behind : T h (arrival_over_link a t is.done delay one.passes) (Some one.figures) = rw k at here in
    record { timing = t; done = is.done; passes = one.passes; figures = one.figures; is = is.is; phases = is.phases; one = k; told = behind; within = one.within })
    (λ k. let none : Some one.figures ≡ None = rw k at here in absurd (some_is_none one.figures none))
