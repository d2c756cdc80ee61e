-- Limits for the time of a stream's frame through its hops in a network run: its route, and the records of its hops.
use Rattle.std.specs.Prelude.{◌≡◌, ◌≢◌, ℕ, ◌+◌, ◌<◌, ◌≤◌, true, Option, Some, List, [], ◌∷◌, map, nat_eq, slice_get}
use Rattle.std.specs.Map.{lookup}
use Rattle.bridge_limits.specs.Members.{IsMember, IsOrdered}
use Rattle.bridge_filter.specs.declared.FilterPlan.{FilterPlan}
use Rattle.bridge_config.specs.Model.{Plan}
use Rattle.bridge_check.specs.Reach.{reaches_queue}
use Rattle.bridge_semantics.specs.declared.outcome.Departure.{Departure}
use Rattle.bridge_semantics.specs.declared.outcome.Origin.{Origin}
use Rattle.bridge_semantics.specs.declared.outcome.Outcome.{Outcome}
use Rattle.bridge_semantics.specs.declared.outcome.View.{View}
use Rattle.bridge_bounds.specs.Bounds.{IsQueueBound}
use Rattle.net_file.specs.Model.{Stream}
use Rattle.net_run.specs.declared.rounds.BridgeResult.{BridgeResult}
use Rattle.net_model.specs.Networks.{Network}
use Rattle.net_model.specs.declared.links.Link.{Link}
use Rattle.net_report.specs.declared.copy_counting.HopRun.{HopRun}
use Rattle.net_report.specs.declared.sources.SourceFrame.{SourceFrame}
use Rattle.net_report.specs.SourceFrames.{ArrivedOverLink, IsCopyOfKnownFrame, IsFirstHopFrame}

-- THE ROUTE OF A FRAME

-- Holds if frame `k` (from 0) of hop `i` arrived over a link: as a copy of another hop's frame, for which `Known` holds. `leg` has the
-- index of that hop and the link's delay.
pub record IsCopyOverRouteHop {A : Type 0} (links : List Link) (hops : List (HopRun A)) (leg : ℕ × ℕ) (Known : ℕ → ℕ → Type 0) (i k : ℕ) : Type 0 where
  pub behind : IsCopyOfKnownFrame links hops Known i k
  pub place : behind.place ≡ leg.0
  pub delay : behind.over.from.delay ≡ leg.1

-- Holds if frame `k`, counted from 0, of the hop at index `i` comes from frame `r` of the first hop.
--
-- A leg has the index of an earlier hop and the delay of the link after it; the last leg comes first.
abbrev pub HasSourceOverRoute : {A : Type 0} → List Link → List (HopRun A) → SourceFrame → List (ℕ × ℕ) → ℕ → ℕ → Type 0
HasSourceOverRoute links hops r [] i k = IsFirstHopFrame hops i k r
HasSourceOverRoute links hops r (leg ∷ legs) i k = IsCopyOverRouteHop links hops leg (HasSourceOverRoute links hops r legs) i k

-- The indices of the hops on a route, in the order in which a frame passes them.
abbrev pub route_hops : ℕ → List (ℕ × ℕ) → List ℕ
route_hops i legs = i ∷ map (λ (leg : ℕ × ℕ). leg.0) legs

-- Holds if a route passes no hop twice: bounds of delays need this.
abbrev pub GoesOnce : ℕ → List (ℕ × ℕ) → Type 0
GoesOnce i legs = IsOrdered (λ a b. a ≢ b) (route_hops i legs)

-- Holds if each frame that arrives over a link comes from a hop of lower rank, for example from an earlier hop.
abbrev pub ComeFromLowerRank : {A : Type 0} → List Link → List (HopRun A) → (ℕ → ℕ) → Type 0
ComeFromLowerRank {A} links hops rank = (i j : ℕ) (h g : HopRun A) (o : Origin) (d : Departure) → slice_get hops i ≡ Some h → slice_get hops j ≡ Some g → IsMember o h.view.now.origins.items → ArrivedOverLink links h g o d → rank j < rank i

-- The sum in ns over a route: `most` for the index of each hop, and the delay of each link.
abbrev pub route_time : (ℕ → ℕ) → ℕ → List (ℕ × ℕ) → ℕ
route_time most i [] = most i
route_time most i (leg ∷ legs) = most i + (leg.1 + route_time most leg.0 legs)

-- Holds if no frame of hop `i` with a known source passed a hop twice.
abbrev pub GoOnce : {A : Type 0} → List Link → List (HopRun A) → ℕ → List (Option SourceFrame) → Type 0
GoOnce links hops i known = (k : ℕ) (r : SourceFrame) (legs : List (ℕ × ℕ)) → slice_get known k ≡ Some (Some r) → HasSourceOverRoute links hops r legs i k → GoesOnce i legs

-- HOPS OF A RUN

-- Holds if the run has a record of a hop, given by bridge index and filter number.
pub record HasView {A : Type 0} (settled : List (BridgeResult A)) (x : ℕ × ℕ) : Type 0 where
  pub told : BridgeResult A
  pub there : slice_get settled x.0 ≡ Some told
  pub view : View A
  pub view_is : lookup (nat_eq x.1) told.outcome.filters.items ≡ Some view

-- Holds if the run has a record of each hop in the list.
abbrev pub HaveViewsOf : {A : Type 0} → List (BridgeResult A) → List (ℕ × ℕ) → Type 0
HaveViewsOf settled hops = (x : ℕ × ℕ) → IsMember x hops → HasView settled x

-- Holds if the run has a record of each hop of these streams.
abbrev pub HaveViews : {A : Type 0} → List (BridgeResult A) → List Stream → Type 0
HaveViews settled streams = (s : Stream) → IsMember s streams → HaveViewsOf settled s.hops

-- Holds if `h` is the record of hop `x`: of the hop's filter, in the result of the hop's bridge.
pub record IsHopRun {A : Type 0} (o : ℕ → Outcome A) (x : ℕ × ℕ) (h : HopRun A) : Type 0 where
  pub bridge : h.bridge ≡ x.0
  pub view : lookup (nat_eq x.1) (o x.0).filters.items ≡ Some h.view.now

-- Holds if each item of `hops` is the record of the stream's hop with the same index.
abbrev pub AreHopRuns : {A : Type 0} → (ℕ → Outcome A) → List (ℕ × ℕ) → List (HopRun A) → Type 0
AreHopRuns {A} o stream hops = (i : ℕ) (h : HopRun A) → slice_get hops i ≡ Some h → (x : ℕ × ℕ) × (slice_get stream i ≡ Some x) × IsHopRun o x h

-- Holds if a hop has a protected filter, and each of its reachable queues has a bound of at most `most`.
pub record IsHopBounded {A : Type 0} (n : Network A) (x : ℕ × ℕ) (most : ℕ) : Type 0 where
  pub plan : Plan A
  pub filter : FilterPlan
  pub there : slice_get n.bridges x.0 ≡ Some plan
  pub listed : IsMember (x.1, filter) plan.filters
  pub protected : filter.protected ≡ true
  pub bounds : (q c : ℕ) → reaches_queue plan filter q c ≡ true → (b : ℕ) × IsQueueBound plan x.1 q c b × (b ≤ most)

-- Holds if the bounds of each hop of a stream are at most `most i`; `i` is the hop's index.
abbrev pub AreHopsBounded : {A : Type 0} → Network A → List (ℕ × ℕ) → (ℕ → ℕ) → Type 0
AreHopsBounded n stream most = (i : ℕ) (x : ℕ × ℕ) → slice_get stream i ≡ Some x → IsHopBounded n x (most i)
