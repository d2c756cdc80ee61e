-- If a stream's delays are marked as passing, each of its queues has delays that are marked so, and each of its hops passes all frames.
use Rattle.std.proofs.Common.{◌≡◌, ℕ, zero, suc, Bool, true, ◌&&◌, List, [], ◌∷◌, Option, Some, None, refl, sym, ap, ◌∙◌, subst, inl, inr}
use Rattle.std.specs.Prelude.{filter, fold, slice_get}
use Rattle.std.proofs.lemmas.Bool.{and_parts}
use Rattle.std.proofs.lemmas.Option.{none-some, same_Some}
use Rattle.bridge_limits.specs.Members.{IsMember}
use Rattle.bridge_limits.proofs.Cases.{by_bool}
use Rattle.bridge_limits.proofs.Options.{some_is_none}
use Rattle.bridge_config.specs.Model.{Plan}
use Rattle.bridge_bounds.specs.declared.timing.Phases.{Phases}
use Rattle.bridge_bounds.specs.declared.timing.Timing.{Timing}
use Rattle.bridge_bounds.specs.Timings.{IsTiming}
use Rattle.net_model.specs.declared.links.StreamHop.{StreamHop}
use Rattle.net_latency.specs.declared.latency.StreamLatency.{StreamLatency}
use Rattle.net_latency.specs.declared.latency.CombinedLatency.{CombinedLatency}
use Rattle.net_latency.specs.declared.latency.CombinedLatency.TheVariants as gathered
use Rattle.net_latency.specs.declared.next_hop.NextHop.{NextHop}
use Rattle.net_latency.specs.declared.queue_exit.HopArrival.{HopArrival}
use Rattle.net_latency.specs.declared.queue_exit.QueueExit.{QueueExit}
use Rattle.net_latency.specs.declared.tree.HopQueue.{HopQueue}
use Rattle.net_latency.specs.NextHop.{next_hop}
use Rattle.net_latency.specs.StreamLatency.{IsHopLatency, IsHopLatencyByQueues, IsLatencyAfterExit, IsQueueExit, IsQueueExitOfPlan, IsQueueLatency, Pairwise, StreamModel, add_latency, arrival_over_link, combine_if_both, exit_over_link, exit_to_hop, is_in_one_period, is_queue_of_hop, known_latency, next_hop_arrival}
use Rattle.net_latency.proofs.Within.{behind_some, each_in, in_filter, stop_of}

-- THE QUEUES OF A HOP

-- The delays are known and marked as passing.
abbrev pub IsPassing : Option StreamLatency → Type 0
IsPassing None = ⊥
IsPassing (Some x) = x.passes ≡ true

abbrev ArePassing : CombinedLatency → Type 0
ArePassing gathered.NoQueue = Unit {0}
ArePassing (gathered.Latency x) = IsPassing x

both_pass : (x y : Option StreamLatency) → IsPassing (combine_if_both x y) → IsPassing x × IsPassing y
both_pass None y is = absurd is
both_pass (Some a) None is = absurd is
both_pass (Some a) (Some b) is = and_parts a.passes b.passes is

one_passes : (g : CombinedLatency) (y : Option StreamLatency) → ArePassing (add_latency g y) → ArePassing g × IsPassing y
one_passes gathered.NoQueue y is = (tt, is)
one_passes (gathered.Latency x) y is = both_pass x y is

known_pass : (g : CombinedLatency) (r : StreamLatency) → known_latency g ≡ Some r → r.passes ≡ true → ArePassing g
known_pass gathered.NoQueue r is pass = absurd (none-some r is)
known_pass (gathered.Latency x) r is pass = subst IsPassing (sym is) pass

all_pass : (g : CombinedLatency) (ys : List (Option StreamLatency)) (r : StreamLatency) → known_latency (fold add_latency g ys) ≡ Some r → r.passes ≡ true → ArePassing g × ((y : Option StreamLatency) → IsMember y ys → IsPassing y)
all_pass g [] r is pass = (known_pass g r is pass, λ y i. absurd i)
all_pass g (y ∷ ys) r is pass =
    let (all, more) = all_pass (add_latency g y) ys r is pass in
    let (before, here) = one_passes g y all in
    (before, λ z i. elim i [ inl same ↦ subst IsPassing (sym same) here | inr j ↦ more z j ])

-- The delays of one queue of a hop, marked as passing.
record IsPassingQueue {A : Type 0} (T : StreamHop → HopArrival → Option StreamLatency → Type 0) (n : StreamModel A) (a : HopArrival) (passes : Bool) (x : HopQueue) : Type 0 where
  figures : StreamLatency
  pass : figures.passes ≡ true
  at : Option QueueExit
  is : IsQueueExit n x a passes at
  behind : IsLatencyAfterExit T at (Some figures)

queue_by : {A : Type 0} (T : StreamHop → HopArrival → Option StreamLatency → Type 0) (n : StreamModel A) (a : HopArrival) (passes : Bool) (x : HopQueue) (o : Option StreamLatency) → IsPassing o → IsQueueLatency T n a passes x o → IsPassingQueue T n a passes x
queue_by T n a passes x None pass told = absurd pass
queue_by T n a passes x (Some y) pass (s, is, behind) = record { figures = y; pass = pass; at = s; is = is; behind = behind }

passing_queue : {A : Type 0} (T : StreamHop → HopArrival → Option StreamLatency → Type 0) (n : StreamModel A) (h : StreamHop) (a : HopArrival) (x : HopQueue) (r : StreamLatency) (told : IsHopLatencyByQueues T n h a (Some r)) → r.passes ≡ true → IsMember x n.queues → is_queue_of_hop h x ≡ true → IsPassingQueue T n a told.passes x
passing_queue T n h a x r told pass among own =
    let (o, i, is) = each_in (IsQueueLatency T n a told.passes) x (filter (is_queue_of_hop h) n.queues) told.figures told.each (in_filter (is_queue_of_hop h) x n.queues among own) in
    queue_by T n a told.passes x o ((all_pass gathered.NoQueue told.figures r (sym told.all) pass).1 o i) is

-- THE FLAGS OF A HOP

-- If delays that follow from an arrival pass, the frames passed before.
abbrev FollowFlags : (StreamHop → HopArrival → Option StreamLatency → Type 0) → Type 0
FollowFlags T = (h : StreamHop) (a : HopArrival) (r : StreamLatency) → T h a (Some r) → r.passes ≡ true → a.passes ≡ true

flags_to_hop : (T : StreamHop → HopArrival → Option StreamLatency → Type 0) (h : StreamHop) (o : Option HopArrival) (a : HopArrival) (y : StreamLatency) → FollowFlags T → ((b : HopArrival) → o ≡ Some b → b ≡ a) → IsLatencyAfterExit T (exit_to_hop h o) (Some y) → y.passes ≡ true → a.passes ≡ true
flags_to_hop T h None a y follow same is pass = absurd (some_is_none y is)
flags_to_hop T h (Some b) a y follow same is pass = ap (λ (z : HopArrival). z.passes) (sym (same b refl)) ∙ follow h b y is pass

only_arrival : (a : HopArrival) (t : Timing) (done : Phases) (delay : ℕ) (passes : Bool) (b : HopArrival) → next_hop_arrival a t done delay passes ≡ Some b → b ≡ arrival_over_link a t done delay passes
only_arrival a t done delay passes b e = by_bool (is_in_one_period (arrival_over_link a t done delay passes).traffic)
    (λ k. let same : Some (arrival_over_link a t done delay passes) ≡ Some b = rw k at e in sym (same_Some _ _ same))
    (λ k. let none : None ≡ Some b = rw k at e in absurd (none-some b none))

flags_over : (T : StreamHop → HopArrival → Option StreamLatency → Type 0) (from : ℕ) (a : HopArrival) (t : Timing) (done : Phases) (passes : Bool) (o : Option NextHop) (y : StreamLatency) → FollowFlags T → IsLatencyAfterExit T (exit_over_link from a t done passes o) (Some y) → y.passes ≡ true → (a.passes && passes) ≡ true
flags_over T from a t done passes None y follow is pass = ap (λ (z : StreamLatency). z.passes) (sym (same_Some y _ is)) ∙ pass
flags_over T from a t done passes (Some o) y follow is pass = flags_to_hop T o.hop (next_hop_arrival a t done o.delay passes) (arrival_over_link a t done o.delay passes) y follow (only_arrival a t done o.delay passes) is pass

plan_some : {A : Type 0} (n : StreamModel A) (x : HopQueue) (a : HopArrival) (passes : Bool) (s : Option QueueExit) (o : Option (Plan A)) → slice_get n.plans x.hop.bridge ≡ o → IsQueueExit n x a passes s → ¬ (s ≡ None) → (p : Plan A) × (slice_get n.plans x.hop.bridge ≡ Some p)
plan_some {A} n x a passes s None e is some = let none : IsQueueExitOfPlan None n x a passes s = subst (λ (z : Option (Plan A)). IsQueueExitOfPlan z n x a passes s) e is in absurd (some none)
plan_some n x a passes s (Some p) e is some = (p, e)

-- The frames pass this hop and passed all hops before.
queue_flags : {A : Type 0} (T : StreamHop → HopArrival → Option StreamLatency → Type 0) (n : StreamModel A) (a : HopArrival) (passes : Bool) (x : HopQueue) → FollowFlags T → IsPassingQueue T n a passes x → (a.passes && passes) ≡ true
queue_flags T n a passes x follow q =
    let some = behind_some T q.at q.figures q.behind in
    let (p, at) = plan_some n x a passes q.at (slice_get n.plans x.hop.bridge) refl q.is some in
    let is = stop_of n p a x passes q.at at q.is some in
    flags_over T n.from a is.timing is.done passes (next_hop n.links n.hops x.hop.bridge x.port) q.figures follow (subst (λ (s : Option QueueExit). IsLatencyAfterExit T s (Some q.figures)) is.stop q.behind) q.pass

first_flags : {A : Type 0} (T : StreamHop → HopArrival → Option StreamLatency → Type 0) (n : StreamModel A) (a : HopArrival) (passes : Bool) (xs : List HopQueue) (ys : List (Option StreamLatency)) (r : StreamLatency) → FollowFlags T → Pairwise (IsQueueLatency T n a passes) xs ys → known_latency (fold add_latency gathered.NoQueue ys) ≡ Some r → r.passes ≡ true → (a.passes && passes) ≡ true
first_flags T n a passes xs [] r follow each is pass = absurd (none-some r is)
first_flags T n a passes [] (y ∷ ys) r follow each is pass = absurd each
first_flags T n a passes (x ∷ xs) (y ∷ ys) r follow (here, more) is pass =
    queue_flags T n a passes x follow (queue_by T n a passes x y ((all_pass gathered.NoQueue (y ∷ ys) r is pass).1 y (inl refl)) here)

pub hop_flags : {A : Type 0} (n : StreamModel A) (k : ℕ) (h : StreamHop) (a : HopArrival) (r : StreamLatency) → IsHopLatency n k h a (Some r) → r.passes ≡ true → a.passes ≡ true
hop_flags n zero h a r told pass = absurd (some_is_none r told)
hop_flags n (suc k) h a r told pass = (and_parts a.passes told.passes (first_flags (IsHopLatency n k) n a told.passes (filter (is_queue_of_hop h) n.queues) told.figures r (hop_flags n k) told.each (sym told.all) pass)).0

pub hop_passes : {A : Type 0} (n : StreamModel A) (k : ℕ) (h : StreamHop) (a : HopArrival) (r : StreamLatency) (told : IsHopLatencyByQueues (IsHopLatency n k) n h a (Some r)) → r.passes ≡ true → told.passes ≡ true
hop_passes n k h a r told pass = (and_parts a.passes told.passes (first_flags (IsHopLatency n k) n a told.passes (filter (is_queue_of_hop h) n.queues) told.figures r (hop_flags n k) told.each (sym told.all) pass)).1

-- ONE QUEUE

-- The delays of a queue have phases.
pub record HasPhases {A : Type 0} (p : Plan A) (a : HopArrival) (x : HopQueue) : Type 0 where
  pub timing : Timing
  pub done : Phases
  pub is : IsTiming p x.hop.filter x.port x.class a.traffic timing
  pub phases : timing.phases ≡ Some done

pub queue_phases : {A : Type 0} (T : StreamHop → HopArrival → Option StreamLatency → Type 0) (n : StreamModel A) (p : Plan A) (h : StreamHop) (a : HopArrival) (x : HopQueue) (r : StreamLatency) → IsHopLatencyByQueues T n h a (Some r) → r.passes ≡ true → IsMember x n.queues → is_queue_of_hop h x ≡ true → slice_get n.plans x.hop.bridge ≡ Some p → HasPhases p a x
queue_phases T n p h a x r told pass among own at =
    let q = passing_queue T n h a x r told pass among own in
    let is = stop_of n p a x told.passes q.at at q.is (behind_some T q.at q.figures q.behind) in
    record { timing = is.timing; done = is.done; is = is.is; phases = is.phases }

-- The delays of a queue that leads to another hop: its frames arrive there in one period, and the delays from there on pass.
pub record LeadsOn {A : Type 0} (T : StreamHop → HopArrival → Option StreamLatency → Type 0) (p : Plan A) (a : HopArrival) (x : HopQueue) (h : StreamHop) (delay : ℕ) (passes : Bool) : Type 0 where
  pub timing : Timing
  pub done : Phases
  pub figures : StreamLatency
  pub is : IsTiming p x.hop.filter x.port x.class a.traffic timing
  pub phases : timing.phases ≡ Some done
  pub one : is_in_one_period (arrival_over_link a timing done delay passes).traffic ≡ true
  pub told : T h (arrival_over_link a timing done delay passes) (Some figures)
  pub pass : figures.passes ≡ true

pub leads_on : {A : Type 0} (T : StreamHop → HopArrival → Option StreamLatency → Type 0) (n : StreamModel A) (p : Plan A) (g : StreamHop) (a : HopArrival) (x : HopQueue) (h : StreamHop) (delay : ℕ) (r : StreamLatency) (told : IsHopLatencyByQueues T n g a (Some r)) → r.passes ≡ true → IsMember x n.queues → is_queue_of_hop g x ≡ true → slice_get n.plans x.hop.bridge ≡ Some p → next_hop n.links n.hops x.hop.bridge x.port ≡ Some (record { hop = h; delay = delay }) → LeadsOn T p a x h delay told.passes
leads_on T n p g a x h delay r told pass among own at leads =
    let q = passing_queue T n g a x r told pass among own in
    let is = stop_of n p a x told.passes q.at at q.is (behind_some T q.at q.figures q.behind) in
    let t = is.timing in
    let e : q.at ≡ exit_to_hop h (next_hop_arrival a t is.done delay told.passes) = is.stop ∙ ap (λ (o : Option NextHop). exit_over_link n.from a t is.done told.passes o) leads in
    let here : IsLatencyAfterExit T (exit_to_hop h (next_hop_arrival a t is.done delay told.passes)) (Some q.figures) = subst (λ (z : Option QueueExit). IsLatencyAfterExit T z (Some q.figures)) e q.behind in
    by_bool (is_in_one_period (arrival_over_link a t is.done delay told.passes).traffic)
    (λ k.
    let behind : T h (arrival_over_link a t is.done delay told.passes) (Some q.figures) = rw k at here in
    record { timing = t; done = is.done; figures = q.figures; is = is.is; phases = is.phases; one = k; told = behind; pass = q.pass })
    (λ k. let none : Some q.figures ≡ None = rw k at here in absurd (some_is_none q.figures none))
