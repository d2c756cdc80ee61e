-- Frames of a periodic talker keep their phases over the whole route.
use Rattle.std.proofs.Common.{◌≡◌, ◌≤◌, ◌<◌, ◌+◌, ◌-◌, ◌*◌, ◌%◌, ◌/◌, ℕ, Bool, true, false, min, List, [], ◌∷◌, map, Option, Some, arith, ap, refl, sym, subst, ◌∙◌, inl, inr}
use Rattle.std.proofs.lemmas.Bool.{cases_lt, eqb-true, false≢true}
use Rattle.std.proofs.lemmas.Bool.Decides.{nat_tests}
use Rattle.std.proofs.lemmas.Cmp.{nat_eq_equiv}
use Rattle.std.proofs.lemmas.Nat.{div-add-mod'}
use Rattle.std.proofs.Math.Nat.{mod-le, mul-le-mul_right}
use Rattle.std.specs.Prelude.{nat_eq, nat_le, nat_lt, ◌&&◌, slice_get}
use Rattle.bridge_limits.specs.Members.{IsMember, IsOrdered}
use Rattle.bridge_limits.proofs.Cases.{by_bool}
use Rattle.bridge_capture.specs.Grammar.{CapturedFrame}
use Rattle.bridge_frame.specs.Link.{transmission_time}
use Rattle.bridge_filter.specs.declared.Clear.{Clear}
use Rattle.bridge_filter.specs.declared.FilterPlan.{FilterPlan}
use Rattle.bridge_port.specs.Schedule.{Copy}
use Rattle.bridge_port.proofs.Members.{same_start}
use Rattle.bridge_config.specs.Model.{Plan}
use Rattle.bridge_semantics.specs.declared.outcome.Outcome.{Outcome}
use Rattle.bridge_semantics.specs.Events.{Arrival, Arrived, Cleared, Event}
use Rattle.bridge_semantics.specs.Merge.{Input, input_events, capture_inputs, inputs_by_rank, own_inputs, IsLater}
use Rattle.bridge_semantics.specs.Offers.{CarriedFrame}
use Rattle.bridge_semantics.proofs.Merging.{events_own, in_at, own_of_rank, rising_own}
use Rattle.bridge_bounds.proofs.Reached.{found_in}
use Rattle.net_model.specs.Networks.{IsNetwork, IsNetworkRun, Network, Sender, inputs_over_link, port_inputs, delayed_frame, external_inputs, sender}
use Rattle.bridge_bounds.specs.Latency.{InputsInPeriods, IsMultiple}
use Rattle.net_model.proofs.Members.{frames_apart, in_inputs, in_own, rank_in}
use Rattle.bridge_bounds.specs.declared.timing.Phases.{Phases}
use Rattle.bridge_bounds.specs.declared.timing.Timing.{Timing}
use Rattle.bridge_bounds.specs.declared.traffic.Traffic.{Traffic}
use Rattle.bridge_bounds.specs.Timings.{IsDoneInPhases, IsDelayInBounds}
use Rattle.bridge_bounds.specs.Traffic.{ComeInPeriods, IsTraffic}
use Rattle.bridge_bounds.proofs.Kept.{ComesOfQueue, IsLong, comes_on, long_copy, phases, times}
use Rattle.net_latency.specs.declared.latency.StreamLatency.{StreamLatency}
use Rattle.net_latency.specs.declared.queue_exit.HopArrival.{HopArrival}
use Rattle.net_latency.specs.StreamLatency.{first_hop_arrival, is_in_one_period, arrival_over_link, whole_periods}
use Rattle.net_latency.specs.Phased.{AreFedInTurn, IsCommand, IsRouteLatency, IsFedByHop, IsWithinRouteLatency, IsForwardedCopy, HasHopTiming, KeepsTrafficAtHop}
use Rattle.net_latency.specs.Ways.{IsNextHop, IsRouteHop, IsRoute, RouteHop, hop_end, last_hop}

-- WHOLE PERIODS

add_multiples : (T p w : ℕ) → IsMultiple T p → IsMultiple T w → IsMultiple T (p + w)
add_multiples T p w (k, e) (j, f) = (k + j, grind (arith, e, f))

whole_multiple : (T n : ℕ) → IsMultiple T (whole_periods T n)
whole_multiple T n =
    let e = div-add-mod' n T in
    (n / T, omega (arith, e))

-- Two multiples less than a period apart are equal.
less_is_apart : (T k j : ℕ) → k < j → k * T + T ≤ j * T
less_is_apart T k j l =
    let more : (k + 1) * T ≤ j * T = mul-le-mul_right T (omega (arith, l)) in
    let same : (k + 1) * T ≡ k * T + T = grind arith in
    omega (arith, more, same)

one_multiple : (T p q : ℕ) → IsMultiple T p → IsMultiple T q → p < q + T → q < p + T → p ≡ q
one_multiple T p q (k, e) (j, f) a b = elim (cases_lt k j) [
  | inl l ↦ let apart = less_is_apart T k j l in absurd (omega (arith, apart, e, f, b))
  | inr l ↦ elim (cases_lt j k) [
    | inl m ↦ let apart = less_is_apart T j k m in absurd (omega (arith, apart, e, f, a))
    | inr m ↦ let same : k ≡ j = omega (arith, l, m) in e ∙ (ap (λ (i : ℕ). i * T) same ∙ sym f)
  ]
]

-- Inputs that arrive once a period still do if phases are counted from whole periods before.
shifted : (T from to w next : ℕ) (xs : List Input) → IsMultiple T w → w ≤ from → InputsInPeriods T T from to next xs → InputsInPeriods T T (from - w) (to - w) (next + w) xs
shifted T from to w next [] multiple le h = tt
shifted T from to w next (x ∷ xs) multiple le h =
    let (p, m, before, low, high, rest) = h in
    (p + w, add_multiples T p w m multiple, omega (arith, before), omega (arith, low, le), omega (arith, high), shifted T from to w p xs multiple le rest)

-- TRAFFIC OVER A LINK

lies : (a b c d : ℕ) → (nat_le a b && nat_lt c d) ≡ true → (a ≤ b) × (c < d)
lies a b c d h = by_bool (nat_le a b)
    (λ k. by_bool (nat_lt c d) (λ m. (grind (arith, nat_tests), grind (arith, nat_tests))) (λ m. let z : false ≡ true = rw (k, m) at h in absurd (false≢true z)))
    (λ k. let z : false ≡ true = rw k at h in absurd (false≢true z))

pub moved_traffic : (a : HopArrival) (x : Timing) (done : Phases) (delay : ℕ) (passes : Bool) → IsTraffic a.traffic → is_in_one_period (arrival_over_link a x done delay passes).traffic ≡ true → IsTraffic (arrival_over_link a x done delay passes).traffic
moved_traffic a x done delay passes is h =
    let t = (arrival_over_link a x done delay passes).traffic in
    let (phases, within) = lies t.from t.to t.to t.period h in
    record { phases = phases; within = within; period = is.period; some = is.some; lengths = is.lengths; longest = is.longest }

-- EVENTS

-- An input is a frame of the traffic with this arrival time.
record IsFrameOf (t : Traffic) (x : Input) : Type 0 where
  arrival : Arrival
  event : x.event ≡ Arrived arrival
  at : arrival.at ≡ x.at
  least : t.least ≤ arrival.len
  longest : arrival.len ≤ t.longest

differs : (a b : ℕ) → nat_eq a b ≡ false → ¬ (a ≡ b)
differs a b k same = false≢true (sym k ∙ (ap (λ (i : ℕ). nat_eq i b) same ∙ nat_eq_equiv.refl b))

rank_of : (q : ℕ) (x : Input) (xs : List Input) → IsMember x (inputs_by_rank q xs) → x.rank ≡ q
rank_of q x [] i = absurd i
rank_of q x (y ∷ ys) i = by_bool (nat_eq y.rank q)
    (λ k.
    let j : IsMember x (y ∷ inputs_by_rank q ys) = rw k at i in
    elim j [
      | inl same ↦ ap (λ (z : Input). z.rank) same ∙ eqb-true y.rank q k
      | inr more ↦ rank_of q x ys more
    ])
    (λ k. let j : IsMember x (inputs_by_rank q ys) = rw k at i in rank_of q x ys j)

-- If all other inputs are commands, inputs of a port that arrive once a period keep the traffic.
fed : (t : Traffic) (q next : ℕ) (xs : List Input) → ((x : Input) → IsMember x xs → x.rank ≡ q → IsFrameOf t x) → ((x : Input) → IsMember x xs → ¬ (x.rank ≡ q) → IsCommand x)
    → InputsInPeriods t.period t.period t.from t.to next (inputs_by_rank q xs) → ComeInPeriods t next (input_events xs)
fed t q next [] frames commands h = tt
fed t q next (x ∷ xs) frames commands h = by_bool (nat_eq x.rank q)
    (λ k.
    let here : InputsInPeriods t.period t.period t.from t.to next (x ∷ inputs_by_rank q xs) = rw k at h in
    let (p, multiple, before, low, high, rest) = here in
    let is = frames x (inl refl) (eqb-true x.rank q k) in
    let at = is.at in
    let more = fed t q p xs (λ z i. frames z (inr i)) (λ z i. commands z (inr i)) rest in
    subst (λ (e : Event). ComeInPeriods t next (e ∷ input_events xs)) (sym is.event) (p, multiple, before, omega (arith, at, low), omega (arith, at, high), is.least, is.longest, more))
    (λ k.
    let here : InputsInPeriods t.period t.period t.from t.to next (inputs_by_rank q xs) = rw k at h in
    let (clear, m, is) = commands x (inl refl) (differs x.rank q k) in
    let more = fed t q next xs (λ z i. frames z (inr i)) (λ z i. commands z (inr i)) here in
    subst (λ (e : Event). ComeInPeriods t next (e ∷ input_events xs)) (sym is) more)

not_cleared : (a : Arrival) (clear : Clear) (m : ℕ) → ¬ (Arrived a ≡ Cleared clear m)
not_cleared a clear m h = cc

-- THE ROUTE

pub first_leg : {A : Type 0} (n : Network A) (lists : ℕ → ℕ → List (Copy CarriedFrame)) (leg : RouteHop A) (more : List (ℕ × RouteHop A)) → IsRoute n lists leg more → IsRouteHop n lists leg
first_leg n lists leg [] way = way
first_leg n lists leg (x ∷ more) way = way.0

-- The frame at a hop of its route: the traffic that arrives there, and the period that follows from the frame's start.
record IsAt {A : Type 0} (inputs : ℕ → List Input) (from first at : ℕ) (a : HopArrival) (leg : RouteHop A) : Type 0 where
  traffic : IsTraffic a.traffic
  keeps : KeepsTrafficAtHop inputs a.traffic leg
  multiple : IsMultiple a.traffic.period (first + a.later)
  low : a.traffic.from + (first + a.later) ≤ leg.copy.at
  high : leg.copy.at ≤ a.traffic.to + (first + a.later)
  sent : from + first ≤ at
  best : at + a.best ≤ leg.copy.at
  worst : leg.copy.at ≤ at + a.worst

module _ {A : Type 0} (n : Network A) (commands : ℕ → List Input) (captures : ℕ → ℕ → List CapturedFrame) (o : ℕ → Outcome A)
    (network : IsNetwork n) (run : IsNetworkRun n commands captures o) where
  -- The frame of a hop leaves between the phases of its period.
  done_at : (a : HopArrival) (leg : RouteHop A) (x : Timing) (done : Phases) → IsRouteHop n run.lists leg → IsTraffic a.traffic → KeepsTrafficAtHop run.inputs a.traffic leg → HasHopTiming leg a x done → IsDoneInPhases leg.out a.traffic done leg.copy
  done_at a leg x done is traffic keeps timed =
      let outcome = run.outcome leg.bridge leg.plan is.plan in
      let b = is.bound in
      phases leg.plan leg.filter b.filter (input_events (run.inputs leg.bridge)) outcome.moments (run.lists leg.bridge) leg.port leg.out leg.copy a.traffic x done
      (network.plan leg.bridge leg.plan is.plan) (network.acceptable leg.bridge leg.plan is.plan) (found_in leg.plan.filters leg.filter b.filter b.found) b.protected
      outcome.run outcome.whole is.port is.listed is.flow traffic (keeps b.filter b.found) timed.timing timed.phases

  takes_at : (a : HopArrival) (leg : RouteHop A) (x : Timing) (done : Phases) → IsRouteHop n run.lists leg → IsTraffic a.traffic → KeepsTrafficAtHop run.inputs a.traffic leg → HasHopTiming leg a x done → IsDelayInBounds leg.out x leg.copy leg.start
  takes_at a leg x done is traffic keeps timed =
      let outcome = run.outcome leg.bridge leg.plan is.plan in
      let b = is.bound in
      times leg.plan leg.filter b.filter (input_events (run.inputs leg.bridge)) outcome.moments (run.lists leg.bridge) leg.port leg.start leg.out leg.copy a.traffic x
      (network.plan leg.bridge leg.plan is.plan) (network.acceptable leg.bridge leg.plan is.plan) (found_in leg.plan.filters leg.filter b.filter b.found) b.protected
      outcome.run outcome.whole is.port is.listed is.flow is.started traffic (keeps b.filter b.found) timed.timing

  -- Inputs of a filter over a link are frames that were sent over the link.
  over_link : (b q : ℕ) (p : Plan A) (m : ℕ) (f : FilterPlan) (s : Sender) → slice_get n.bridges b ≡ Some p → sender n.links b q ≡ Some s
      → inputs_by_rank q (own_inputs p m f (run.inputs b)) ≡ own_inputs p m f (capture_inputs q (map (delayed_frame s.delay) (run.left s.from.bridge s.from.port)))
  over_link b q p m f s at linked =
      let frames = capture_inputs q (map (delayed_frame s.delay) (run.left s.from.bridge s.from.port)) in
      let over : port_inputs n.links commands captures run.left b q ≡ frames = ap (λ (z : Option Sender). inputs_over_link z (external_inputs commands captures b q) run.left q) linked in
      own_of_rank p m f q (run.inputs b) ∙ (ap (own_inputs p m f) ((run.merged b p at).each q) ∙ ap (own_inputs p m f) over)

  -- Inputs over a link arrive one after another.
  linked_apart : (b q : ℕ) (p : Plan A) (m : ℕ) (f : FilterPlan) (s : Sender) → slice_get n.bridges b ≡ Some p → sender n.links b q ≡ Some s → IsOrdered IsLater (inputs_by_rank q (own_inputs p m f (run.inputs b)))
  linked_apart b q p m f s at linked =
      let (sp, there) = network.bridge b q s linked in
      let (out, port) = network.port b q s sp linked there in
      let output = run.output s.from.bridge s.from.port sp out there port in
      let frames = capture_inputs q (map (delayed_frame s.delay) (run.left s.from.bridge s.from.port)) in
      subst (IsOrdered IsLater) (sym (over_link b q p m f s at linked)) (rising_own p m f IsLater frames (frames_apart q s.delay (run.left s.from.bridge s.from.port) output.rises))

  -- No input over a link is a command.
  no_command : (b q : ℕ) (p : Plan A) (m : ℕ) (f : FilterPlan) (s : Sender) (x : Input) → slice_get n.bridges b ≡ Some p → sender n.links b q ≡ Some s → IsMember x (inputs_by_rank q (own_inputs p m f (run.inputs b))) → ¬ IsCommand x
  no_command b q p m f s x at linked i (clear, k, is) =
      let frames = map (delayed_frame s.delay) (run.left s.from.bridge s.from.port) in
      let mine = in_own p m f x (capture_inputs q frames) (subst (IsMember x) (over_link b q p m f s at linked) i) in
      let (c, there, same) = in_inputs q x frames mine.0 in
      not_cleared _ clear k (sym (ap (λ (z : Input). z.event) same) ∙ is)

  -- The arrivals at the next hop are the traffic of this hop, delayed.
  pub keeps_next : (a : HopArrival) (leg next : RouteHop A) (x : Timing) (done : Phases) (delay : ℕ) (passes : Bool) → IsRouteHop n run.lists leg → slice_get n.bridges next.bridge ≡ Some next.plan → IsTraffic a.traffic → KeepsTrafficAtHop run.inputs a.traffic leg → HasHopTiming leg a x done → IsNextHop n leg next delay → IsFedByHop n run.inputs run.lists leg next delay
      → KeepsTrafficAtHop run.inputs (arrival_over_link a x done delay passes).traffic next
  keeps_next a leg next x done delay passes is at traffic keeps timed joined fed_by f found =
      let outcome = run.outcome leg.bridge leg.plan is.plan in
      let b = is.bound in
      let t = (arrival_over_link a x done delay passes).traffic in
      let mine = own_inputs next.plan next.filter f (run.inputs next.bridge) in
      let linked = joined.linked in
      let xs = inputs_by_rank joined.port mine in
      let plan = network.plan leg.bridge leg.plan is.plan in
      let good = network.acceptable leg.bridge leg.plan is.plan in
      let listed = found_in leg.plan.filters leg.filter b.filter b.found in
      let sent : (z : Input) → IsMember z mine → z.rank ≡ joined.port → IsForwardedCopy run.lists leg joined.port delay z =
      λ z i k. elim (fed_by joined.port z linked (f, found, i)) [
        | inl s ↦ s
        | inr command ↦ absurd (no_command next.bridge joined.port next.plan next.filter f _ z at linked (rank_in joined.port z mine i k) command)
      ] in
      let elsewhere : (z : Input) → IsMember z mine → ¬ (z.rank ≡ joined.port) → IsCommand z =
      λ z i k. elim (fed_by joined.port z linked (f, found, i)) [
        | inl s ↦ absurd (k (ap (λ (v : Input). v.rank) s.is))
        | inr command ↦ command
      ] in
      let each : (z : Input) → IsMember z xs → ComesOfQueue (run.lists leg.bridge) leg.filter leg.port leg.copy.class leg.out delay z =
      λ z i.
      let s = sent z (in_at joined.port z mine i) (rank_of joined.port z mine i) in
      record { copy = s.copy; start = s.start; listed = s.listed; flow = s.flow; class = s.class; started = s.started; at = ap (λ (w : Input). w.at) s.is } in
      let (top, came) = comes_on leg.plan leg.filter b.filter (input_events (run.inputs leg.bridge)) outcome.moments (run.lists leg.bridge) leg.port leg.copy.class delay leg.out a.traffic x done xs
      plan good listed b.protected outcome.run outcome.whole is.port traffic (keeps b.filter b.found) timed.timing timed.phases (linked_apart next.bridge joined.port next.plan next.filter f _ at linked) each in
      let T = a.traffic.period in
      let phase = done.from + delay in
      let w = whole_periods T phase in
      let below = mod-le phase T in
      let moved_on = shifted T phase (done.to + delay) w top xs (whole_multiple T phase) (omega arith) came in
      let same : phase - w ≡ phase % T = omega (arith, below) in
      let here : InputsInPeriods T T t.from t.to (top + w) xs = subst (λ (i : ℕ). InputsInPeriods T T i (done.to + delay - w) (top + w) xs) same moved_on in
      let all : ComeInPeriods t (top + w) (input_events mine) = fed t joined.port (top + w) mine
      (λ z i k.
      let s = sent z i k in
      let long : IsLong a.traffic s.copy.item.len = long_copy leg.plan leg.filter b.filter (input_events (run.inputs leg.bridge)) outcome.moments (run.lists leg.bridge) leg.port leg.copy.class leg.out a.traffic x s.copy
      plan good listed b.protected outcome.run outcome.whole is.port traffic (keeps b.filter b.found) timed.timing s.listed s.flow in
      record { arrival = _; event = ap (λ (v : Input). v.event) s.is; at = sym (ap (λ (v : Input). v.at) s.is); least = long.least; longest = long.longest })
      elsewhere
      here in
      (top + w, subst (ComeInPeriods t (top + w)) (sym (events_own next.plan next.filter f (run.inputs next.bridge))) all)

  -- The period of the frame's arrival at a hop follows from the period of its start.
  same_period : (from first at : ℕ) (a : HopArrival) (leg : RouteHop A) (x : Timing) (done : Phases) → IsAt run.inputs from first at a leg → (b : IsDoneInPhases leg.out a.traffic done leg.copy) → b.period_start ≡ first + a.later
  same_period from first at a leg x done is b =
      let within = is.traffic.within in
      let low = is.low in
      let high = is.high in
      let early = b.first in
      let late = b.last in
      one_multiple a.traffic.period b.period_start (first + a.later) b.multiple is.multiple (omega (arith, within, high, early, low, late)) (omega (arith, within, high, early, low, late))

  step : (from first at : ℕ) (a : HopArrival) (leg next : RouteHop A) (x : Timing) (done : Phases) (delay : ℕ) (passes : Bool) → IsAt run.inputs from first at a leg → IsRouteHop n run.lists leg → IsRouteHop n run.lists next → IsNextHop n leg next delay → IsFedByHop n run.inputs run.lists leg next delay → HasHopTiming leg a x done → is_in_one_period (arrival_over_link a x done delay passes).traffic ≡ true
      → IsAt run.inputs from first at (arrival_over_link a x done delay passes) next
  step from first at a leg next x done delay passes here is then joined fed_by timed one =
      let b = done_at a leg x done is here.traffic here.keeps timed in
      let took = takes_at a leg x done is here.traffic here.keeps timed in
      let when = same_period from first at a leg x done here b in
      let start = same_start b.start leg.start (sym b.started ∙ is.started) in
      let T = a.traffic.period in
      let phase = done.from + delay in
      let below = mod-le phase T in
      let port_inputs : next.copy.at ≡ leg.start + transmission_time leg.copy.item.len leg.out.speed + delay = joined.comes in
      let early : done.from + b.period_start ≤ b.start + transmission_time leg.copy.item.len leg.out.speed = b.from in
      let late : b.start + transmission_time leg.copy.item.len leg.out.speed ≤ done.to + b.period_start = b.to in
      let least : leg.copy.at + x.best ≤ leg.start + transmission_time leg.copy.item.len leg.out.speed = took.best in
      let most : leg.start + transmission_time leg.copy.item.len leg.out.speed ≤ leg.copy.at + x.worst = took.worst in
      let best = here.best in
      let worst = here.worst in
      let sum : first + a.later + whole_periods T phase ≡ first + (a.later + whole_periods T phase) = omega arith in
      record {
        traffic = moved_traffic a x done delay passes here.traffic one;
        keeps = keeps_next a leg next x done delay passes is then.plan here.traffic here.keeps timed joined fed_by;
        multiple = subst (IsMultiple T) sum (add_multiples T (first + a.later) (whole_periods T phase) here.multiple (whole_multiple T phase));
        low = omega (arith, port_inputs, early, when, start, below);
        high = omega (arith, port_inputs, late, when, start, below);
        sent = here.sent;
        best = omega (arith, port_inputs, least, best);
        worst = omega (arith, port_inputs, most, worst);
      }

  along : (from first at : ℕ) (a : HopArrival) (leg : RouteHop A) (more : List (ℕ × RouteHop A)) (r : StreamLatency) (done : Phases) → IsAt run.inputs from first at a leg → IsRoute n run.lists leg more → AreFedInTurn n run.inputs run.lists leg more → IsRouteLatency from a leg more r done
      → IsWithinRouteLatency a.traffic.period at (hop_end (last_hop leg more)) r done
  along from first at a leg [] r done here is alone (x, passes, timed, same) =
      let b = done_at a leg x done is here.traffic here.keeps timed in
      let took = takes_at a leg x done is here.traffic here.keeps timed in
      let when = same_period from first at a leg x done here b in
      let start = same_start b.start leg.start (sym b.started ∙ is.started) in
      let early : done.from + b.period_start ≤ b.start + transmission_time leg.copy.item.len leg.out.speed = b.from in
      let late : b.start + transmission_time leg.copy.item.len leg.out.speed ≤ done.to + b.period_start = b.to in
      let least : leg.copy.at + x.best ≤ leg.start + transmission_time leg.copy.item.len leg.out.speed = took.best in
      let most : leg.start + transmission_time leg.copy.item.len leg.out.speed ≤ leg.copy.at + x.worst = took.worst in
      let best = here.best in
      let worst = here.worst in
      let sent = here.sent in
      let r_best : r.best ≡ a.best + x.best = ap (λ (z : StreamLatency). z.best) same in
      let r_worst : r.worst ≡ min (a.later + done.to - from) (a.worst + x.worst) = ap (λ (z : StreamLatency). z.worst) same in
      record {
        period_start = b.period_start;
        multiple = b.multiple;
        from = omega (arith, early, start);
        to = omega (arith, late, start);
        phases = ap (λ (z : StreamLatency). z.phases) same;
        best = omega (arith, least, best, r_best);
        worst = omega (arith, most, worst, late, when, start, sent, r_worst);
      }
  along from first at a leg (y ∷ more) r done here (is, joined, way) (fed_by, others) (x, d, passes, timed, one, rest) =
      along from first at (arrival_over_link a x d y.0 passes) y.1 more r done (step from first at a leg y.1 x d y.0 passes here is (first_leg n run.lists y.1 more way) joined fed_by timed one) way others rest

  first_at : (t : Traffic) (leg : RouteHop A) (x : Timing) (done : Phases) → IsRouteHop n run.lists leg → IsTraffic t → KeepsTrafficAtHop run.inputs t leg → HasHopTiming leg (first_hop_arrival t) x done → (first : ℕ) × IsAt run.inputs t.from first leg.copy.at (first_hop_arrival t) leg
  first_at t leg x done is traffic keeps timed =
      let b = done_at (first_hop_arrival t) leg x done is traffic keeps timed in
      let same : b.period_start ≡ b.period_start + 0 = omega arith in
      let low = b.first in
      let high = b.last in (
        b.period_start,
        record {
          traffic = traffic;
          keeps = keeps;
          multiple = subst (IsMultiple t.period) same b.multiple;
          low = omega (arith, low);
          high = omega (arith, high);
          sent = low;
          best = omega arith;
          worst = omega arith;
        },
      )

  timed_first : (from : ℕ) (a : HopArrival) (leg : RouteHop A) (more : List (ℕ × RouteHop A)) (r : StreamLatency) (done : Phases) → IsRouteLatency from a leg more r done → (x : Timing) × (d : Phases) × HasHopTiming leg a x d
  timed_first from a leg [] r done (x, passes, timed, same) = (x, done, timed)
  timed_first from a leg (y ∷ more) r done (x, d, passes, timed, one, rest) = (x, d, timed)

  pub way_in_phases : (leg : RouteHop A) (more : List (ℕ × RouteHop A)) (t : Traffic) (r : StreamLatency) (done : Phases) → IsRoute n run.lists leg more → AreFedInTurn n run.inputs run.lists leg more → IsTraffic t → KeepsTrafficAtHop run.inputs t leg → IsRouteLatency t.from (first_hop_arrival t) leg more r done
      → IsWithinRouteLatency t.period leg.copy.at (hop_end (last_hop leg more)) r done
  way_in_phases leg more t r done way alone traffic keeps course =
      let (x, d, timed) = timed_first t.from (first_hop_arrival t) leg more r done course in
      let (first, here) = first_at t leg x d (first_leg n run.lists leg more way) traffic keeps timed in
      along t.from first leg.copy.at (first_hop_arrival t) leg more r done here way alone course
