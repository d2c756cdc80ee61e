-- Each copy that leaves a hop leaves in time.
use Rattle.std.proofs.Common.{◌≡◌, ◌≢◌, ◌<◌, ◌≤◌, ◌+◌, ◌-◌, ℕ, true, zero, suc, List, [], ◌∷◌, Some, length, map, refl, sym, ap, ◌∙◌, subst, inl, inr, arith}
use Rattle.std.specs.Prelude.{nat_eq, slice_get}
use Rattle.std.specs.Map.{lookup}
use Rattle.std.proofs.lemmas.Option.{same_Some}
use Rattle.bridge_limits.specs.Members.{RelatesToEach, IsMember}
use Rattle.bridge_limits.proofs.Members.{in_at}
use Rattle.bridge_capture.specs.Grammar.{CapturedFrame}
use Rattle.bridge_frame.specs.Link.{transmission_time}
use Rattle.bridge_filter.specs.declared.FilterPlan.{FilterPlan}
use Rattle.bridge_filter.proofs.Members.{member_found}
use Rattle.bridge_port.specs.Schedule.{Copy, Started}
use Rattle.bridge_config.specs.declared.ports.PortPlan.{PortPlan}
use Rattle.bridge_config.specs.Model.{Plan}
use Rattle.bridge_config.specs.Rules.{find_port}
use Rattle.bridge_check.specs.Reach.{reaches_queue}
use Rattle.bridge_semantics.specs.declared.outcome.Departure.{Departure}
use Rattle.bridge_semantics.specs.declared.outcome.Origin.{Origin}
use Rattle.bridge_semantics.specs.declared.outcome.Outcome.{Outcome}
use Rattle.bridge_semantics.specs.Events.{filter_origins}
use Rattle.bridge_semantics.specs.Merge.{Input, input_events}
use Rattle.bridge_semantics.specs.Offers.{CarriedFrame, port_offers}
use Rattle.bridge_semantics.specs.Runs.{IsPortCopy, IsFilterDeparture}
use Rattle.bridge_semantics.proofs.Facts.{own_queues}
use Rattle.bridge_semantics.proofs.Headline.{as_offer, in_offered}
use Rattle.bridge_bounds.specs.Bounds.{IsQueueBound}
use Rattle.bridge_bounds.proofs.Whole.{in_bound}
use Rattle.net_model.specs.Networks.{IsNetwork, IsNetworkRun, Network}
use Rattle.net_model.specs.declared.links.Link.{Link}
use Rattle.net_report.specs.declared.copy_counting.HopRun.{HopRun}
use Rattle.net_report.specs.declared.sources.SourceFrame.{SourceFrame}
use Rattle.net_report.specs.SourceFrames.{IsCopyOfKnownFrame, HasSource}
use Rattle.app_networks.specs.InTime.{AreHopRuns, AreHopsBounded, ComeFromLowerRank, GoesOnce, HasSourceOverRoute, IsHopRun, route_time}
use Rattle.app_networks.proofs.Origins.{came_as}

-- LEGS

-- Another fact about the frame before the copy.
behind_as : {A : Type 0} (links : List Link) (hops : List (HopRun A)) (P Q : ℕ → ℕ → Type 0) (i k : ℕ) (b : IsCopyOfKnownFrame links hops P i k) → Q b.place (b.copy.own - 1) → IsCopyOfKnownFrame links hops Q i k
behind_as links hops P Q i k b known = record {
  hop = b.hop;
  other = b.other;
  place = b.place;
  origin = b.origin;
  copy = b.copy;
  there = b.there;
  came = b.came;
  other_there = b.other_there;
  over = b.over;
  numbered = b.numbered;
  known = known;
}

pub over_legs : {A : Type 0} (links : List Link) (hops : List (HopRun A)) (r : SourceFrame) (n i k : ℕ) → HasSource links hops r n i k → (legs : List (ℕ × ℕ)) × (length legs ≡ n) × HasSourceOverRoute links hops r legs i k
unfolding behind_as
over_legs links hops r zero i k first = ([], refl, first)
over_legs links hops r (suc n) i k b =
    let (legs, many, known) = over_legs links hops r n b.place (b.copy.own - 1) b.known in (
      (b.place, b.over.from.delay) ∷ legs,
      ap suc many,
      record {
        behind = behind_as links hops (HasSource links hops r n) (HasSourceOverRoute links hops r legs) i k b known;
        place = refl;
        delay = refl;
      },
    )

pub over_links : {A : Type 0} (links : List Link) (hops : List (HopRun A)) (r : SourceFrame) (legs : List (ℕ × ℕ)) (i k : ℕ) → HasSourceOverRoute links hops r legs i k → HasSource links hops r (length legs) i k
over_links links hops r [] i k first = first
over_links links hops r (leg ∷ legs) i k is =
    let b = is.behind in
    behind_as links hops (HasSourceOverRoute links hops r legs) (HasSource links hops r (length legs)) i k b (over_links links hops r legs b.place (b.copy.own - 1) b.known)

-- No earlier hop on the route has the hop's own rank.
before_apart : (rank : ℕ → ℕ) (i : ℕ) (js : List ℕ) → ((j : ℕ) → IsMember j js → rank j < rank i) → RelatesToEach (λ a b. a ≢ b) i js
before_apart rank i [] less = tt
before_apart rank i (j ∷ js) less = ((λ same. let lt : rank i < rank i = subst (λ (z : ℕ). rank z < rank i) (sym same) (less j (inl refl)) in absurd (omega (arith, lt))), before_apart rank i js (λ z listed. less z (inr listed)))

module _ {A : Type 0} (links : List Link) (hops : List (HopRun A)) (rank : ℕ → ℕ) (onward : ComeFromLowerRank links hops rank) (r : SourceFrame) where
  -- The frame came from a hop of lower rank.
  from_lesser : (leg : ℕ × ℕ) (legs : List (ℕ × ℕ)) (i k : ℕ) → HasSourceOverRoute links hops r (leg ∷ legs) i k → rank leg.0 < rank i
  from_lesser leg legs i k over =
      let b = over.behind in
      subst (λ (place : ℕ). rank place < rank i) over.place (onward i b.place b.hop b.other b.origin b.copy b.there b.other_there (in_at b.hop.view.now.origins.items k b.origin b.came) b.over)

  known_before : (leg : ℕ × ℕ) (legs : List (ℕ × ℕ)) (i k : ℕ) (over : HasSourceOverRoute links hops r (leg ∷ legs) i k) → HasSourceOverRoute links hops r legs leg.0 (over.behind.copy.own - 1)
  known_before leg legs i k over = subst (λ (place : ℕ). HasSourceOverRoute links hops r legs place (over.behind.copy.own - 1)) over.place over.behind.known

  all_lesser : (legs : List (ℕ × ℕ)) (i k : ℕ) → HasSourceOverRoute links hops r legs i k → (j : ℕ) → IsMember j (map (λ (leg : ℕ × ℕ). leg.0) legs) → rank j < rank i
  all_lesser [] i k first j listed = absurd listed
  all_lesser (leg ∷ legs) i k over j (inl same) = subst (λ (z : ℕ). rank z < rank i) (sym same) (from_lesser leg legs i k over)
  all_lesser (leg ∷ legs) i k over j (inr listed) =
      let here = from_lesser leg legs i k over in
      let before = all_lesser legs leg.0 (over.behind.copy.own - 1) (known_before leg legs i k over) j listed in
      omega (arith, here, before)

  pub goes_once : (legs : List (ℕ × ℕ)) (i k : ℕ) → HasSourceOverRoute links hops r legs i k → GoesOnce i legs
  goes_once [] i k first = (tt, tt)
  goes_once (leg ∷ legs) i k over = (
    before_apart rank i (leg.0 ∷ map (λ (leg : ℕ × ℕ). leg.0) legs) (all_lesser (leg ∷ legs) i k over),
    goes_once legs leg.0 (over.behind.copy.own - 1) (known_before leg legs i k over),
  )

-- A HOP

-- A hop has a protected filter, and each of its reachable queues has a bound of this kind of at most `most`.
pub record IsBoundedBy {A : Type 0} (Bound : Plan A → ℕ → ℕ → ℕ → ℕ → Type 0) (n : Network A) (x : ℕ × ℕ) (most : ℕ) : Type 0 where
  pub plan : Plan A
  pub filter : FilterPlan
  pub there : slice_get n.bridges x.0 ≡ Some plan
  pub listed : IsMember (x.1, filter) plan.filters
  pub protected : filter.protected ≡ true
  pub bounds : (q c : ℕ) → reaches_queue plan filter q c ≡ true → (b : ℕ) × Bound plan x.1 q c b × (b ≤ most)

-- Each copy that leaves a bridge leaves within each bound of this kind.
abbrev pub LeaveInTime : {A : Type 0} → (Plan A → ℕ → ℕ → ℕ → ℕ → Type 0) → Network A → (ℕ → ℕ → List (Copy CarriedFrame)) → Type 0
LeaveInTime {A} Bound n lists =
    (b m q s most : ℕ) (p : Plan A) (out : PortPlan A) (y : Copy CarriedFrame) → slice_get n.bridges b ≡ Some p → find_port p.ports q ≡ Some out → IsMember y (lists b q) → y.item.flow ≡ Some m → y.fate ≡ Started s
    → Bound p m q y.class most → s + transmission_time y.item.len out.speed ≤ y.at + most

module _ {A : Type 0} (n : Network A) (commands : ℕ → List Input) (captures : ℕ → ℕ → List CapturedFrame) (o : ℕ → Outcome A)
    (network : IsNetwork n) (run : IsNetworkRun n commands captures o) (Bound : Plan A → ℕ → ℕ → ℕ → ℕ → Type 0) (leaves : LeaveInTime Bound n run.lists) where
  -- A copy leaves a hop within the bound of the hop's queues, counted from its frame's arrival there.
  hop_in_time : (x : ℕ × ℕ) (most : ℕ) (h : HopRun A) (d : Departure) (came : Origin) → IsBoundedBy Bound n x most → IsHopRun o x h → IsMember d h.view.now.departures.items
      → slice_get h.view.now.origins.items (d.own - 1) ≡ Some came → d.done ≤ came.at + most
  hop_in_time x most h d came within told listed there =
      let p = within.plan in
      let m = x.1 in
      let lists = run.lists x.0 in
      let es = input_events (run.inputs x.0) in
      let outcome = run.outcome x.0 p within.there in
      let plan = network.plan x.0 p within.there in
      let good = network.acceptable x.0 p within.there in
      let known : lookup (nat_eq m) p.filters ≡ Some within.filter = member_found p.filters m within.filter plan.filters.own within.listed in
      let view = outcome.views m within.filter h.view.now known told.view in
      let left : IsFilterDeparture p m (IsPortCopy lists) d = (view.told.departures_are d).0 listed in
      let reach = (own_queues p m within.filter es outcome.moments lists d.port left.out left.copy plan good within.listed within.protected outcome.run left.at left.lies).0 left.flow in
      let (bound, is_bound, upto) = within.bounds d.port left.copy.class reach in
      let done = leaves x.0 m d.port d.start bound p left.out left.copy within.there left.at left.lies left.flow left.started is_bound in
      let among : IsMember (as_offer left.copy) (port_offers p left.out es) = subst (IsMember (as_offer left.copy)) (outcome.run.offers d.port left.out left.at) (in_offered left.copy (lists d.port) left.lies) in
      let frame = came_as p left.out m es (as_offer left.copy) among left.flow in
      let same : Some frame.origin ≡ Some came = sym frame.there ∙ (ap (λ (k : ℕ). slice_get (filter_origins p m es) (k - 1)) left.own ∙ (ap (λ (os : List Origin). slice_get os (d.own - 1)) (sym view.origins) ∙ there)) in
      let moment : left.copy.at ≡ came.at = sym frame.moment ∙ ap (λ (z : Origin). z.at) (same_Some frame.origin came same) in
      let is = left.done in
      omega (arith, done, upto, moment, is)

  -- A copy has passed all hops of its route within the sum of their bounds and the links' delays.
  pub in_time : (stream : List (ℕ × ℕ)) (links : List Link) (hops : List (HopRun A)) (most : ℕ → ℕ) → AreHopRuns o stream hops → ((i : ℕ) (x : ℕ × ℕ) → slice_get stream i ≡ Some x → IsBoundedBy Bound n x (most i))
      → (r : SourceFrame) (legs : List (ℕ × ℕ)) (i : ℕ) (h : HopRun A) (d : Departure) → slice_get hops i ≡ Some h → IsMember d h.view.now.departures.items → HasSourceOverRoute links hops r legs i (d.own - 1)
      → d.done ≤ r.came + route_time most i legs
  in_time stream links hops most told within r [] i h d there listed first =
      let (x, at, is) = told i h there in
      let same : first.hop ≡ h = same_Some first.hop h (sym first.there ∙ there) in
      let came : slice_get h.view.now.origins.items (d.own - 1) ≡ Some first.origin = subst (λ (z : HopRun A). slice_get z.view.now.origins.items (d.own - 1) ≡ Some first.origin) same first.came in
      let done = hop_in_time x (most i) h d first.origin (within i x at) is listed came in
      let root : r.came ≡ first.origin.at = ap (λ (z : SourceFrame). z.came) first.root in
      omega (arith, done, root)
  in_time stream links hops most told within r (leg ∷ legs) i h d there listed over =
      let b = over.behind in
      let (x, at, is) = told i h there in
      let same : b.hop ≡ h = same_Some b.hop h (sym b.there ∙ there) in
      let came : slice_get h.view.now.origins.items (d.own - 1) ≡ Some b.origin = subst (λ (z : HopRun A). slice_get z.view.now.origins.items (d.own - 1) ≡ Some b.origin) same b.came in
      let done = hop_in_time x (most i) h d b.origin (within i x at) is listed came in
      let other : slice_get hops leg.0 ≡ Some b.other = ap (slice_get hops) (sym over.place) ∙ b.other_there in
      let known : HasSourceOverRoute links hops r legs leg.0 (b.copy.own - 1) = subst (λ (place : ℕ). HasSourceOverRoute links hops r legs place (b.copy.own - 1)) over.place b.known in
      let before = in_time stream links hops most told within r legs leg.0 b.other b.copy other b.over.listed known in
      let moment = b.over.moment in
      let delay = over.delay in
      omega (arith, done, before, moment, delay)

-- BOUNDS BY CAPACITY

-- Each copy leaves within the bound of its queue by capacity.
pub leaves_by_capacity : {A : Type 0} (n : Network A) (commands : ℕ → List Input) (captures : ℕ → ℕ → List CapturedFrame) (o : ℕ → Outcome A) → IsNetwork n → (run : IsNetworkRun n commands captures o)
    → LeaveInTime (λ (p : Plan A) (m q c b : ℕ). IsQueueBound p m q c b) n run.lists
leaves_by_capacity n commands captures o network run b m q s most p out y there at listed flow started is =
    let outcome = run.outcome b p there in
    in_bound p m most (input_events (run.inputs b)) outcome.moments (run.lists b) q s out y (network.plan b p there) (network.acceptable b p there) outcome.run outcome.whole at listed flow started is

-- A copy has passed all hops of its route within the sum of their bounds by capacity and the links' delays.
pub in_time_by_capacity : {A : Type 0} (n : Network A) (commands : ℕ → List Input) (captures : ℕ → ℕ → List CapturedFrame) (o : ℕ → Outcome A) → IsNetwork n → IsNetworkRun n commands captures o
    → (stream : List (ℕ × ℕ)) (links : List Link) (hops : List (HopRun A)) (most : ℕ → ℕ) → AreHopRuns o stream hops → AreHopsBounded n stream most
    → (r : SourceFrame) (legs : List (ℕ × ℕ)) (i : ℕ) (h : HopRun A) (d : Departure) → slice_get hops i ≡ Some h → IsMember d h.view.now.departures.items → HasSourceOverRoute links hops r legs i (d.own - 1)
    → d.done ≤ r.came + route_time most i legs
in_time_by_capacity {A} n commands captures o network run stream links hops most told within =
    in_time n commands captures o network run (λ (p : Plan A) (m q c b : ℕ). IsQueueBound p m q c b) (leaves_by_capacity n commands captures o network run) stream links hops most told
    (λ i x there. let h = within i x there in record { plan = h.plan; filter = h.filter; there = h.there; listed = h.listed; protected = h.protected; bounds = h.bounds })
