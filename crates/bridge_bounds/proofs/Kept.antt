-- Frames of a protected filter that keep their traffic, in the queues of a complete run.
use Rattle.std.proofs.Common.{◌≡◌, ℕ, true, ◌≤◌, ◌+◌, min, Option, None, Some, List, [], ◌∷◌, arith, ap, refl, sym, subst, ◌∙◌, inl, inr, max}
use Rattle.std.specs.Prelude.{nat_eq, MatchOption}
use Rattle.std.specs.Map.{lookup}
use Rattle.std.proofs.lemmas.Option.{same_Some}
use Rattle.bridge_limits.specs.Members.{IsMember, IsOrdered}
use Rattle.bridge_limits.proofs.Members.{in_either}
use Rattle.bridge_limits.proofs.Cases.{by_bool}
use Rattle.bridge_cycle.specs.Fits.{IsFirstFit, IsPeriodic}
use Rattle.bridge_frame.specs.Link.{transmission_time}
use Rattle.bridge_frame.proofs.Times.{occupied_some}
use Rattle.bridge_filter.specs.declared.FilterPlan.{FilterPlan}
use Rattle.bridge_filter.specs.declared.Verdict.{Verdict}
use Rattle.bridge_filter.specs.declared.Verdict.TheVariants as verdict
use Rattle.bridge_filter.specs.Verdicts as verdicts
use Rattle.bridge_filter.proofs.Members.{member_found}
use Rattle.bridge_forward.specs.Ports.{has_port}
use Rattle.bridge_port.specs.GateSchedule.{HasLawfulLists, lists_can_fit, gate_schedule, lists_open}
use Rattle.bridge_port.specs.Schedule.{Copy, PortRules, Started}
use Rattle.bridge_port.proofs.Members.{same_start}
use Rattle.bridge_config.specs.declared.ports.PortPlan.{PortPlan}
use Rattle.bridge_config.specs.Model.{Plan}
use Rattle.bridge_config.specs.Rules.{IsPlan, find_port}
use Rattle.bridge_config.proofs.PlanPorts.{at_own, port_is, room_within}
use Rattle.bridge_check.specs.Acceptable.{IsAcceptable}
use Rattle.bridge_check.specs.Reach.{reaches_queue}
use Rattle.bridge_check.specs.Windows.{longest_frame}
use Rattle.bridge_check.proofs.Isolated.{made, class_few}
use Rattle.bridge_semantics.specs.declared.destination.Destination.{Destination}
use Rattle.bridge_semantics.specs.declared.destination.Destination.TheVariants as way
use Rattle.bridge_semantics.specs.Events.{Arrival, Arrived, Cleared, Event, own_events, frame_destination}
use Rattle.bridge_semantics.specs.Merge.{Input, IsLater}
use Rattle.bridge_semantics.specs.Offers.{CarriedFrame, Offer, egress_rules, class_offers, verdict_offer, arrival_offer, step_offer, destination_offer, port_offers, frame_step}
use Rattle.bridge_semantics.specs.Runs.{AreOwnQueues, AreFinished, IsRun}
use Rattle.bridge_semantics.proofs.Headline.{as_offer, in_class_in, in_offered, own_alone, own_flow}
use Rattle.bridge_bounds.specs.Bounds.{IsQueueBound}
use Rattle.bridge_bounds.proofs.Reached.{longest_fits}
use Rattle.bridge_bounds.proofs.Sizes.{occupied_rises, within_size}
use Rattle.bridge_bounds.proofs.Whole.{in_bound}
use Rattle.bridge_bounds.specs.Latency.{OffersInPeriods, InputsInPeriods, IsMultiple, StartInPeriods, offer_time, link_time}
use Rattle.bridge_bounds.proofs.Hopping.{inputs_in_periods, offers_of, period_of}
use Rattle.bridge_bounds.proofs.Periods.{keeps_phase}
use Rattle.bridge_semantics.proofs.Views.{solo_after}
use Rattle.bridge_bounds.specs.declared.timing.Phases.{Phases}
use Rattle.bridge_bounds.specs.declared.timing.Timing.{Timing}
use Rattle.bridge_bounds.specs.declared.traffic.Traffic.{Traffic}
use Rattle.bridge_bounds.specs.Timings.{ArePhases, IsDoneIfAlone, IsDoneInPhases, IsTimingWithPhases, IsTiming, IsPortTiming, IsTimingWithoutPhases, IsDelayInBounds, longest_link_time, shortest_link_time}
use Rattle.bridge_bounds.specs.Traffic.{ComeInPeriods, IsTraffic, KeepsTraffic}
use Rattle.bridge_bounds.proofs.Phased.{IsTimely, ever_falls, no_later, no_sooner, repeats, some_first, waits_at_least, waits_at_most, within_both}

-- OFFERS OF TRAFFIC

same_arrival : (a b : Arrival) → Arrived a ≡ Arrived b → a ≡ b
same_arrival a b h = cc

-- The offers of the traffic's frames in a class of a port come in the same periods.
comes : {A : Type 0} (p : Plan A) (out : PortPlan A) (c : ℕ) (t : Traffic) (next : ℕ) (es : List Event) → ComeInPeriods t next es → OffersInPeriods t.period (offer_time out) t.period t.from t.to (transmission_time t.least out.speed) (transmission_time t.longest out.speed) next (class_offers c (port_offers p out es))
comes p out c t next [] h = tt
comes p out c t next (Cleared clear n ∷ es) h = comes p out c t next es h
comes p out c t next (Arrived a ∷ es) h =
    let (m, multiple, before, low, high, least, most, rest) = h in
    offers_of p out t.period c t.period t.from t.to (transmission_time t.least out.speed) (transmission_time t.longest out.speed) m next a.at (Arrived a) es refl
    (λ b same.
    let is = ap (λ (z : Arrival). z.len) (same_arrival a b same) in
    subst (λ (len : ℕ). (transmission_time t.least out.speed ≤ transmission_time len out.speed) × (transmission_time len out.speed ≤ transmission_time t.longest out.speed)) is (occupied_rises t.least a.len out.speed least, occupied_rises a.len t.longest out.speed most))
    multiple before low high (comes p out c t m es rest)

-- Properties of one offer of the traffic.
record IsOffered (occ : Offer → ℕ) (period from to short long : ℕ) (o : Offer) : Type 0 where
  p : ℕ
  multiple : IsMultiple period p
  low : from + p ≤ o.at
  high : o.at ≤ to + p
  least : short ≤ occ o
  most : occ o ≤ long

one_offered : (occ : Offer → ℕ) (period from to least most next : ℕ) (o : Offer) (os : List Offer) → OffersInPeriods period occ period from to least most next os → IsMember o os → IsOffered occ period from to least most o
one_offered occ period from to least most next o [] h i = absurd i
one_offered occ period from to least most next o (x ∷ os) h (inl same) =
    let (p, multiple, before, low, high, a, b, rest) = h in
    subst (IsOffered occ period from to least most) (sym same) (record { p = p; multiple = multiple; low = low; high = high; least = a; most = b })
one_offered occ period from to least most next o (x ∷ os) h (inr later) =
    let (p, multiple, before, low, high, a, b, rest) = h in
    one_offered occ period from to least most p o os rest later

-- The limits of transmission times can be narrowed.
closer : (occ : Offer → ℕ) (period from to least most short long next : ℕ) (os : List Offer) → ((o : Offer) → IsMember o os → (short ≤ occ o) × (occ o ≤ long)) → OffersInPeriods period occ period from to least most next os → OffersInPeriods period occ period from to short long next os
closer occ period from to least most short long next [] lengths h = tt
closer occ period from to least most short long next (o ∷ os) lengths h =
    let (p, multiple, before, low, high, a, b, rest) = h in
    let (c, d) = lengths o (inl refl) in
    (p, multiple, before, low, high, c, d, closer occ period from to least most short long p os (λ x i. lengths x (inr i)) rest)

-- THE LENGTHS

-- A length of the traffic.
pub record IsLong (t : Traffic) (len : ℕ) : Type 0 where
  pub least : t.least ≤ len
  pub longest : len ≤ t.longest

long_by : {A : Type 0} (out : PortPlan A) (a : Arrival) (priority n number : ℕ) (v : Verdict) (o : Offer) → IsMember o (verdict_offer out a priority n number v) → o.item.len ≡ a.len
long_by out a priority n number (verdict.Pass ipv e) o (inl same) = ap (λ (z : Offer). z.item.len) same
long_by out a priority n number (verdict.Pass ipv e) o (inr i) = absurd i
long_by out a priority n number verdict.Blocked o i = absurd i
long_by out a priority n number verdict.Oversize o i = absurd i
long_by out a priority n number verdict.GateClosed o i = absurd i
long_by out a priority n number verdict.ShutByRx o i = absurd i
long_by out a priority n number verdict.ShutByOctets o i = absurd i
long_by out a priority n number verdict.OctetsExceeded o i = absurd i
long_by out a priority n number verdict.Red o i = absurd i
long_by out a priority n number verdict.YellowDropped o i = absurd i

long_step : {A : Type 0} (p : Plan A) (out : PortPlan A) (a : Arrival) (es : List Event) (priority : ℕ) (s : verdicts.FilterStep) (o : Offer) → IsMember o (step_offer p out a es priority s) → o.item.len ≡ a.len
long_step p out a es priority (verdicts.Unfiltered c) o (inl same) = ap (λ (z : Offer). z.item.len) same
long_step p out a es priority (verdicts.Unfiltered c) o (inr i) = absurd i
long_step p out a es priority (verdicts.Judged c n f v) o i = long_by out a priority n _ v o i
long_step p out a es priority (verdicts.Commanded v m) o i = absurd i

long_on_way : {A : Type 0} (p : Plan A) (out : PortPlan A) (a : Arrival) (es : List Event) (o : Offer) (w : Destination) → IsMember o (destination_offer p out a es w) → o.item.len ≡ a.len
long_on_way p out a es o way.Malformed i = absurd i
long_on_way p out a es o way.Nowhere i = absurd i
long_on_way p out a es o (way.Forwarded set c) i = by_bool (has_port set out.number)
    (λ k.
    let j : IsMember o (step_offer p out a es c.priority (frame_step p es c)) = rw k at i in
    long_step p out a es c.priority _ o j)
    (λ k. let j : ⊥ = rw k at i in absurd j)

-- The offers of the traffic's frames have the traffic's lengths.
offered_long : {A : Type 0} (p : Plan A) (out : PortPlan A) (t : Traffic) (next : ℕ) (es : List Event) (o : Offer) → ComeInPeriods t next es → IsMember o (port_offers p out es) → IsLong t o.item.len
offered_long p out t next [] o h i = absurd i
offered_long p out t next (Cleared clear n ∷ es) o h i = offered_long p out t next es o h i
offered_long p out t next (Arrived a ∷ es) o h i =
    let (m, multiple, before, low, high, least, most, rest) = h in
    elim (in_either o (arrival_offer p out a es) (port_offers p out es) i) [
      | inl now ↦
          let len = long_on_way p out a es o (frame_destination p a) now in
          record { least = omega (arith, len, least); longest = omega (arith, len, most) }
      | inr later ↦ offered_long p out t m es o rest later
    ]

-- ONE QUEUE

-- Input `x` is a copy from a filter's queue, `delay` ns after its end of transmission.
pub record ComesOfQueue {A : Type 0} (lists : ℕ → List (Copy CarriedFrame)) (n q c : ℕ) (out : PortPlan A) (delay : ℕ) (x : Input) : Type 0 where
  pub copy : Copy CarriedFrame
  pub start : ℕ
  pub listed : IsMember copy (lists q)
  pub flow : copy.item.flow ≡ Some n
  pub class : copy.class ≡ c
  pub started : copy.fate ≡ Started start
  pub at : x.at ≡ start + link_time out copy.item + delay

-- Assumptions about a filter's reachable queue in a run, and about the filter's traffic.
record IsCase {A : Type 0} (p : Plan A) (n m q c bound : ℕ) (f : FilterPlan) (es : List Event) (moments : ℕ → ℕ) (lists : ℕ → List (Copy CarriedFrame)) (out : PortPlan A) (t : Traffic) : Type 0 where
  plan : IsPlan p
  good : IsAcceptable p
  listed : IsMember (n, f) p.filters
  protected : f.protected ≡ true
  size : f.max_sdu ≡ Some m
  run : IsRun p es moments lists
  whole : AreFinished lists
  at : find_port p.ports q ≡ Some out
  reach : reaches_queue p f q c ≡ true
  is_bound : IsQueueBound p n q c bound
  traffic : IsTraffic t
  keeps : KeepsTraffic t (own_events p n f es)

module _ {A : Type 0} (p : Plan A) (n m q c bound : ℕ) (f : FilterPlan) (es : List Event) (moments : ℕ → ℕ) (lists : ℕ → List (Copy CarriedFrame)) (out : PortPlan A) (t : Traffic) (k : IsCase p n m q c bound f es moments lists out t) where
  queues : AreOwnQueues p n f es lists
  queues = own_alone p n f es moments lists k.plan k.good k.listed k.protected k.run k.whole

  is_made : HasLawfulLists (gate_schedule out.list)
  is_made = made out.list (port_is p.ports q out k.plan.ports k.at).0.list

  -- The transmission times of the offers are between the shortest and the longest.
  lengths : (d : ℕ) (o : Offer) → IsMember o (class_offers d (port_offers p out (own_events p n f es))) → (shortest_link_time out m t ≤ offer_time out o) × (offer_time out o ≤ longest_link_time out m t)
  lengths d o i =
      let among = (in_class_in d o (port_offers p out (own_events p n f es)) i).0 in
      let flow = own_flow p n f out k.plan (at_own p.ports q out k.at) es o among in
      let few = within_size p n m f out (own_events p n f es) o k.plan k.listed k.size flow among in
      let one = one_offered (offer_time out) t.period t.from t.to (transmission_time t.least out.speed) (transmission_time t.longest out.speed) k.keeps.0 o (class_offers d (port_offers p out (own_events p n f es))) (comes p out d t k.keeps.0 (own_events p n f es) k.keeps.1) i in
      let least = one.least in
      let short = occupied_rises (min t.least (longest_frame m)) t.least out.speed (omega arith) in
      (omega (arith, short, least), within_both t.longest (longest_frame m) (offer_time out o) out.speed one.most (occupied_rises o.item.len (longest_frame m) out.speed few))

  -- The offers come in periods.
  offered_in : (d : ℕ) → OffersInPeriods t.period (offer_time out) t.period t.from t.to (shortest_link_time out m t) (longest_link_time out m t) k.keeps.0 (class_offers d (port_offers p out (own_events p n f es)))
  offered_in d = closer (offer_time out) t.period t.from t.to (transmission_time t.least out.speed) (transmission_time t.longest out.speed) (shortest_link_time out m t) (longest_link_time out m t) k.keeps.0 (class_offers d (port_offers p out (own_events p n f es))) (lengths d) (comes p out d t k.keeps.0 (own_events p n f es) k.keeps.1)

  -- A copy of the filter is a copy of its own queue.
  own_copy : (y : Copy CarriedFrame) → IsMember y (lists q) → y.item.flow ≡ Some n → (d : ℕ) × IsMember y (queues.own q d)
  unfolding queues
  own_copy y i flow = (queues.same q y).0 (i, flow)

  one_copy : (y : Copy CarriedFrame) (d : ℕ) → IsMember y (queues.own q d) → IsMember (as_offer y) (class_offers d (port_offers p out (own_events p n f es)))
  unfolding queues
  one_copy y d i = subst (IsMember (as_offer y)) (queues.solo.offers q d out k.at) (in_offered y (queues.own q d) i)

  own_class : (y : Copy CarriedFrame) (d : ℕ) → IsMember y (queues.own q d) → y.class ≡ d
  own_class y d i = (in_class_in d (as_offer y) (port_offers p out (own_events p n f es)) (one_copy y d i)).1

  -- A copy starts at its offer or later, and is no shorter than the shortest frame.
  no_less : (y : Copy CarriedFrame) (s : ℕ) → IsMember y (lists q) → y.item.flow ≡ Some n → y.fate ≡ Started s → (y.at ≤ s) × (shortest_link_time out m t ≤ link_time out y.item)
  no_less y s i flow started =
      let (d, there) = own_copy y i flow in
      (solo_after (egress_rules out) s y (queues.own q d) (queues.solo.solo q d out k.at) there started, (lengths d (as_offer y) (one_copy y d there)).0)

  -- The copies of a queue with phases start once a period.
  starts_all : (done : Phases) → (ph : ArePhases (gate_schedule out.list) c (shortest_link_time out m t) (longest_link_time out m t) t done) → StartInPeriods t.period (lists_open out.list c) (link_time out) t.period ph.first ph.last k.keeps.0 (queues.own q c)
  starts_all done ph =
      let r : IsPeriodic (lists_open out.list c) t.period = repeats (gate_schedule out.list) t.period c is_made ph.repeats in
      let ever : lists_can_fit out.list c (transmission_time (longest_frame m) out.speed) ≡ true = longest_fits p n q c m f out k.plan (k.good n f k.listed k.protected) k.at k.reach k.size in
      let few = class_few p f q c out k.plan k.at k.reach in
      let room = (room_within out c (port_is p.ports q out k.plan.ports k.at).0 (omega (arith, few))).0 in
      keeps_phase p out t.period c t.period t.from t.to (shortest_link_time out m t) (longest_link_time out m t) ph.first ph.last k.keeps.0 (own_events p n f es) (queues.own q c) (queues.solo.offers q c out k.at) (queues.solo.solo q c out k.at) r ph.is_first ph.is_last ph.through room
      (λ o j.
      let among = (in_class_in c o (port_offers p out (own_events p n f es)) j).0 in
      let own_of = own_flow p n f out k.plan (at_own p.ports q out k.at) es o among in
      let short = occupied_rises o.item.len (longest_frame m) out.speed (within_size p n m f out (own_events p n f es) o k.plan k.listed k.size own_of among) in
      ever_falls (gate_schedule out.list) c (transmission_time o.item.len out.speed) (transmission_time (longest_frame m) out.speed) is_made short ever)
      (offered_in c)

  -- A copy of a queue with phases starts at its first fit.
  starts_first : (y : Copy CarriedFrame) (x : Timing) (done : Phases) → IsMember y (lists q) → y.item.flow ≡ Some n → y.class ≡ c → ArePhases (gate_schedule out.list) c (shortest_link_time out m t) (longest_link_time out m t) t done
      → (s : ℕ) × (p : ℕ) × (y.fate ≡ Started s) × IsTimely (lists_open out.list c) (shortest_link_time out m t) (longest_link_time out m t) t.from t.to t.period p (link_time out y.item) y.at s
  starts_first y x done i flow class ph =
      let (d, there) = own_copy y i flow in
      let same : d ≡ c = sym (own_class y d there) ∙ class in
      let here : IsMember y (queues.own q c) = subst (λ (e : ℕ). IsMember y (queues.own q e)) same there in
      let r : IsPeriodic (lists_open out.list c) t.period = repeats (gate_schedule out.list) t.period c is_made ph.repeats in
      let one = period_of t.period (lists_open out.list c) (link_time out) t.period ph.first ph.last k.keeps.0 y (queues.own q c) (starts_all done ph) here in
      let (s, started, first, early, late) = one.start in
      let o = one_offered (offer_time out) t.period t.from t.to (shortest_link_time out m t) (longest_link_time out m t) k.keeps.0 (as_offer y) (class_offers c (port_offers p out (own_events p n f es))) (offered_in c) (one_copy y c here) in
      (s, o.p, started, record { repeats = r; multiple = o.multiple; low = o.low; high = o.high; least = o.least; most = o.most; first = first })

  -- Copies of a queue with phases arrive at the next bridge once a period, `delay` ns after their end of transmission.
  inputs_in : (done : Phases) (delay : ℕ) (xs : List Input) → ArePhases (gate_schedule out.list) c (shortest_link_time out m t) (longest_link_time out m t) t done → IsOrdered IsLater xs → ((x : Input) → IsMember x xs → ComesOfQueue lists n q c out delay x)
      → InputsInPeriods t.period t.period (done.from + delay) (done.to + delay) k.keeps.0 xs
  inputs_in done delay xs ph rises each =
      let from = ph.from in
      let to = ph.to in
      let after = ph.is_first.after in
      let through = ph.through in
      let all = inputs_in_periods t.period (lists_open out.list c) (link_time out) t.period ph.first ph.last (shortest_link_time out m t) (longest_link_time out m t) delay k.keeps.0 (queues.own q c) (starts_all done ph)
      (λ y i. (lengths c (as_offer y) (one_copy y c i)).0)
      (λ y i. (lengths c (as_offer y) (one_copy y c i)).1)
      (omega (arith, through, after)) (occupied_some (min t.least (longest_frame m)) out.speed) xs rises
      (λ x i.
      let z = each x i in
      let (d, there) = own_copy z.copy z.listed z.flow in
      let same : d ≡ c = sym (own_class z.copy d there) ∙ z.class in
      record { copy = z.copy; start = z.start; listed = subst (λ (e : ℕ). IsMember z.copy (queues.own q e)) same there; started = z.started; at = z.at }) in
      let early = subst (λ (i : ℕ). InputsInPeriods t.period t.period (i + delay) (ph.last + longest_link_time out m t + delay) k.keeps.0 xs) (sym from) all in
      subst (λ (i : ℕ). InputsInPeriods t.period t.period (done.from + delay) (i + delay) k.keeps.0 xs) (sym to) early

  -- Each copy of the filter has a length of the traffic.
  copy_long : (y : Copy CarriedFrame) → IsMember y (lists q) → y.item.flow ≡ Some n → IsLong t y.item.len
  copy_long y i flow =
      let (d, there) = own_copy y i flow in
      let among = (in_class_in d (as_offer y) (port_offers p out (own_events p n f es)) (one_copy y d there)).0 in
      offered_long p out t k.keeps.0 (own_events p n f es) (as_offer y) k.keeps.1 among

  -- Each copy of the filter ends between the phases.
  done_between : (y : Copy CarriedFrame) (x : Timing) (done : Phases) → IsMember y (lists q) → y.item.flow ≡ Some n → y.class ≡ c → ArePhases (gate_schedule out.list) c (shortest_link_time out m t) (longest_link_time out m t) t done → IsDoneInPhases out t done y
  done_between y x done i flow class ph =
      let (s, z, started, timely) = starts_first y x done i flow class ph in
      let sooner = no_sooner (lists_open out.list c) (shortest_link_time out m t) (longest_link_time out m t) t.from t.to t.period z (link_time out y.item) y.at s timely ph.first ph.is_first in
      let later = no_later (lists_open out.list c) (shortest_link_time out m t) (longest_link_time out m t) t.from t.to t.period z (link_time out y.item) y.at s timely ph.last ph.is_last in
      let least = timely.least in
      let most = timely.most in
      let from = ph.from in
      let to = ph.to in
      record {
        start = s;
        period_start = z;
        started = started;
        multiple = timely.multiple;
        first = timely.low;
        last = timely.high;
        from = omega (arith, sooner, least, from);
        to = omega (arith, later, most, to);
      }

  fits : lists_can_fit out.list c (longest_link_time out m t) ≡ true
  fits =
      let ever : lists_can_fit out.list c (transmission_time (longest_frame m) out.speed) ≡ true = longest_fits p n q c m f out k.plan (k.good n f k.listed k.protected) k.at k.reach k.size in
      ever_falls (gate_schedule out.list) c (longest_link_time out m t) (transmission_time (longest_frame m) out.speed) is_made (occupied_rises (min t.longest (longest_frame m)) (longest_frame m) out.speed (omega arith)) ever

  fits_short : lists_can_fit out.list c (shortest_link_time out m t) ≡ true
  fits_short =
      let lengths = k.traffic.lengths in
      ever_falls (gate_schedule out.list) c (shortest_link_time out m t) (longest_link_time out m t) is_made (occupied_rises (min t.least (longest_frame m)) (min t.longest (longest_frame m)) out.speed (omega (arith, lengths))) fits

  -- Each copy of the filter has a delay between best and worst.
  times_timed : (y : Copy CarriedFrame) (x : Timing) (done : Phases) (s : ℕ) → IsMember y (lists q) → y.item.flow ≡ Some n → y.class ≡ c → y.fate ≡ Started s → IsTimingWithPhases (gate_schedule out.list) c (shortest_link_time out m t) (longest_link_time out m t) bound t x done → IsDelayInBounds out x y s
  times_timed y x done s i flow class was is =
      let (z, v, started, first) = starts_first y x done i flow class is.phases in
      let same : z ≡ s = same_start z s (sym started ∙ was) in
      let timely = subst (IsTimely (lists_open out.list c) (shortest_link_time out m t) (longest_link_time out m t) t.from t.to t.period v (link_time out y.item) y.at) same first in
      let later = no_later (lists_open out.list c) (shortest_link_time out m t) (longest_link_time out m t) t.from t.to t.period v (link_time out y.item) y.at s timely is.phases.last is.phases.is_last in
      let most = waits_at_most (lists_open out.list c) (shortest_link_time out m t) (longest_link_time out m t) t.from t.to t.period v (link_time out y.item) y.at s timely is.longest is.is_longest (λ u. some_first (gate_schedule out.list) c (longest_link_time out m t) u is_made fits) in
      let least = waits_at_least (lists_open out.list c) (shortest_link_time out m t) (longest_link_time out m t) t.from t.to t.period v (link_time out y.item) y.at s timely is.shortest is.is_shortest (λ u. some_first (gate_schedule out.list) c (shortest_link_time out m t) u is_made fits_short) in
      let here : IsQueueBound p n q y.class bound = subst (λ (e : ℕ). IsQueueBound p n q e bound) (sym class) k.is_bound in
      let within = in_bound p n bound es moments lists q s out y k.plan k.good k.run k.whole k.at i flow was here in
      let short = timely.least in
      let long = timely.most in
      let low = timely.low in
      let to = is.phases.to in
      let best = is.best in
      let worst = is.worst in
      record {
        best = omega (arith, best, least, short);
        worst = omega (arith, worst, within, later, most, long, low, to);
      }

  times_untimed : (y : Copy CarriedFrame) (x : Timing) (s : ℕ) → IsMember y (lists q) → y.item.flow ≡ Some n → y.class ≡ c → y.fate ≡ Started s → IsTimingWithoutPhases (gate_schedule out.list) c (shortest_link_time out m t) (longest_link_time out m t) bound t x → IsDelayInBounds out x y s
  times_untimed y x s i flow class was is =
      let (after, short) = no_less y s i flow was in
      let here : IsQueueBound p n q y.class bound = subst (λ (e : ℕ). IsQueueBound p n q e bound) (sym class) k.is_bound in
      let within = in_bound p n bound es moments lists q s out y k.plan k.good k.run k.whole k.at i flow was here in
      let best = is.best in
      let worst = is.worst in
      record { best = omega (arith, best, after, short); worst = omega (arith, worst, within) }

-- THE LAWS

-- The case of a timing.
case_of : {A : Type 0} (p : Plan A) (n q c : ℕ) (f : FilterPlan) (es : List Event) (moments : ℕ → ℕ) (lists : ℕ → List (Copy CarriedFrame)) (out : PortPlan A) (t : Traffic) (x : Timing) → IsPlan p → IsAcceptable p → IsMember (n, f) p.filters → f.protected ≡ true → IsRun p es moments lists → AreFinished lists → find_port p.ports q ≡ Some out → IsTraffic t → KeepsTraffic t (own_events p n f es) → (is : IsTiming p n q c t x)
    → (m : ℕ) × IsCase p n m q c is.bound f es moments lists out t × IsPortTiming out c m is.bound t x
case_of {A} p n q c f es moments lists out t x plan good listed prot run whole at traffic keeps is =
    let b = is.is_bound in
    let known : lookup (nat_eq n) p.filters ≡ Some f = member_found p.filters n f plan.filters.own listed in
    let filter : b.filter ≡ f = same_Some b.filter f (sym b.found ∙ known) in
    let port : b.out ≡ out = same_Some b.out out (sym b.at ∙ at) in (
      b.max_sdu,
      record {
        plan = plan;
        good = good;
        listed = listed;
        protected = prot;
        size = subst (λ (g : FilterPlan). g.max_sdu ≡ Some b.max_sdu) filter b.size;
        run = run;
        whole = whole;
        at = at;
        reach = subst (λ (g : FilterPlan). reaches_queue p g q c ≡ true) filter b.reach;
        is_bound = b;
        traffic = traffic;
        keeps = keeps;
      },
      subst (λ (o : PortPlan A). IsPortTiming o c b.max_sdu is.bound t x) port is.is,
    )

pub phases : {A : Type 0} (p : Plan A) (n : ℕ) (f : FilterPlan) (es : List Event) (moments : ℕ → ℕ) (lists : ℕ → List (Copy CarriedFrame)) (q : ℕ) (out : PortPlan A) (y : Copy CarriedFrame) (t : Traffic) (x : Timing) (done : Phases) → IsPlan p → IsAcceptable p → IsMember (n, f) p.filters → f.protected ≡ true → IsRun p es moments lists → AreFinished lists → find_port p.ports q ≡ Some out → IsMember y (lists q) → y.item.flow ≡ Some n → IsTraffic t → KeepsTraffic t (own_events p n f es) → IsTiming p n q y.class t x → x.phases ≡ Some done → IsDoneInPhases out t done y
phases {A} p n f es moments lists q out y t x done plan good listed prot run whole at i flow traffic keeps is some =
    let (m, k, here) = case_of p n q y.class f es moments lists out t x plan good listed prot run whole at traffic keeps is in
    let timed : IsTimingWithPhases (gate_schedule out.list) y.class (shortest_link_time out m t) (longest_link_time out m t) is.bound t x done = subst (λ (o : Option Phases). MatchOption o (IsTimingWithoutPhases (gate_schedule out.list) y.class (shortest_link_time out m t) (longest_link_time out m t) is.bound t x) (IsTimingWithPhases (gate_schedule out.list) y.class (shortest_link_time out m t) (longest_link_time out m t) is.bound t x)) some here in
    done_between p n m q y.class is.bound f es moments lists out t k y x done i flow refl timed.phases

times_by : {A : Type 0} (p : Plan A) (n m q bound : ℕ) (f : FilterPlan) (es : List Event) (moments : ℕ → ℕ) (lists : ℕ → List (Copy CarriedFrame)) (out : PortPlan A) (t : Traffic) (y : Copy CarriedFrame) (x : Timing) (s : ℕ) (o : Option Phases) → IsCase p n m q y.class bound f es moments lists out t → IsMember y (lists q) → y.item.flow ≡ Some n → y.fate ≡ Started s → MatchOption o (IsTimingWithoutPhases (gate_schedule out.list) y.class (shortest_link_time out m t) (longest_link_time out m t) bound t x) (IsTimingWithPhases (gate_schedule out.list) y.class (shortest_link_time out m t) (longest_link_time out m t) bound t x) → IsDelayInBounds out x y s
times_by p n m q bound f es moments lists out t y x s None k i flow was is = times_untimed p n m q y.class bound f es moments lists out t k y x s i flow refl was is
times_by p n m q bound f es moments lists out t y x s (Some done) k i flow was is = times_timed p n m q y.class bound f es moments lists out t k y x done s i flow refl was is

pub times : {A : Type 0} (p : Plan A) (n : ℕ) (f : FilterPlan) (es : List Event) (moments : ℕ → ℕ) (lists : ℕ → List (Copy CarriedFrame)) (q start : ℕ) (out : PortPlan A) (y : Copy CarriedFrame) (t : Traffic) (x : Timing) → IsPlan p → IsAcceptable p → IsMember (n, f) p.filters → f.protected ≡ true → IsRun p es moments lists → AreFinished lists → find_port p.ports q ≡ Some out → IsMember y (lists q) → y.item.flow ≡ Some n → y.fate ≡ Started start → IsTraffic t → KeepsTraffic t (own_events p n f es) → IsTiming p n q y.class t x → IsDelayInBounds out x y start
times p n f es moments lists q start out y t x plan good listed prot run whole at i flow was traffic keeps is =
    let (m, k, here) = case_of p n q y.class f es moments lists out t x plan good listed prot run whole at traffic keeps is in
    times_by p n m q is.bound f es moments lists out t y x start x.phases k i flow was here

-- Copies of a queue with phases arrive over a link once a period, `delay` ns after the phases of their end of transmission.
pub comes_on : {A : Type 0} (p : Plan A) (n : ℕ) (f : FilterPlan) (es : List Event) (moments : ℕ → ℕ) (lists : ℕ → List (Copy CarriedFrame)) (q c delay : ℕ) (out : PortPlan A) (t : Traffic) (x : Timing) (done : Phases) (xs : List Input) → IsPlan p → IsAcceptable p → IsMember (n, f) p.filters → f.protected ≡ true → IsRun p es moments lists → AreFinished lists → find_port p.ports q ≡ Some out → IsTraffic t → KeepsTraffic t (own_events p n f es) → IsTiming p n q c t x → x.phases ≡ Some done
    → IsOrdered IsLater xs → ((z : Input) → IsMember z xs → ComesOfQueue lists n q c out delay z) → (next : ℕ) × InputsInPeriods t.period t.period (done.from + delay) (done.to + delay) next xs
comes_on {A} p n f es moments lists q c delay out t x done xs plan good listed prot run whole at traffic keeps is some rises each =
    let (m, k, here) = case_of p n q c f es moments lists out t x plan good listed prot run whole at traffic keeps is in
    let timed : IsTimingWithPhases (gate_schedule out.list) c (shortest_link_time out m t) (longest_link_time out m t) is.bound t x done = subst (λ (o : Option Phases). MatchOption o (IsTimingWithoutPhases (gate_schedule out.list) c (shortest_link_time out m t) (longest_link_time out m t) is.bound t x) (IsTimingWithPhases (gate_schedule out.list) c (shortest_link_time out m t) (longest_link_time out m t) is.bound t x)) some here in
    (k.keeps.0, inputs_in p n m q c is.bound f es moments lists out t k done delay xs timed.phases rises each)

-- Copies of the filter have lengths of the traffic.
pub long_copy : {A : Type 0} (p : Plan A) (n : ℕ) (f : FilterPlan) (es : List Event) (moments : ℕ → ℕ) (lists : ℕ → List (Copy CarriedFrame)) (q c : ℕ) (out : PortPlan A) (t : Traffic) (x : Timing) (y : Copy CarriedFrame) → IsPlan p → IsAcceptable p → IsMember (n, f) p.filters → f.protected ≡ true → IsRun p es moments lists → AreFinished lists → find_port p.ports q ≡ Some out → IsTraffic t → KeepsTraffic t (own_events p n f es) → IsTiming p n q c t x → IsMember y (lists q) → y.item.flow ≡ Some n → IsLong t y.item.len
long_copy {A} p n f es moments lists q c out t x y plan good listed prot run whole at traffic keeps is i flow =
    let (m, k, here) = case_of p n q c f es moments lists out t x plan good listed prot run whole at traffic keeps is in
    copy_long p n m q c is.bound f es moments lists out t k y i flow

-- A copy that arrives alone starts at its first fit.
pub done_alone : {X : Type 0} (r : PortRules X) (c at start : ℕ) (item : X) → r.ever c (r.occ item) ≡ true → 1 ≤ r.room c → IsFirstFit (r.opens c) (r.occ item) at start → IsDoneIfAlone r c item at (start + r.occ item)
done_alone r c at start item ever room first =
    let alone : max at 0 ≡ at = omega arith in
    record {
      copy = record { at = at; class = c; item = item; fate = Started start };
      start = start;
      class = refl;
      carries = refl;
      offered = refl;
      solo = ((ever, omega (arith, room), subst (λ (u : ℕ). IsFirstFit (r.opens c) (r.occ item) u start) (sym alone) first), tt);
      started = refl;
      is_done = refl;
    }
