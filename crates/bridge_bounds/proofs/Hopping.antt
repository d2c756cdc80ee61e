-- From the starts at one hop in periods to the arrivals and the offers at the next hop.
use Rattle.std.proofs.Common.{◌≡◌, ◌<◌, ◌≤◌, ◌+◌, ℕ, Bool, true, false, List, [], ◌∷◌, ◌++◌, arith, refl, ap, sym, ◌∙◌, subst, ◌⊎◌, inl, inr}
use Rattle.std.specs.Prelude.{nat_eq, if◌then◌else◌}
use Rattle.bridge_limits.specs.Members.{IsMember, IsOrdered}
use Rattle.bridge_limits.proofs.Cases.{by_bool}
use Rattle.bridge_frame.specs.Link.{transmission_time}
use Rattle.bridge_filter.specs.declared.Verdict.{Verdict}
use Rattle.bridge_filter.specs.declared.Verdict.TheVariants as verdict
use Rattle.bridge_filter.specs.Verdicts as verdicts
use Rattle.bridge_forward.specs.Ports.{has_port}
use Rattle.bridge_port.specs.Schedule.{Copy, Started}
use Rattle.bridge_port.proofs.Members.{same_start}
use Rattle.bridge_config.specs.declared.ports.PortPlan.{PortPlan}
use Rattle.bridge_config.specs.Model.{Plan}
use Rattle.bridge_semantics.specs.declared.destination.Destination.{Destination}
use Rattle.bridge_semantics.specs.declared.destination.Destination.TheVariants as way
use Rattle.bridge_semantics.specs.Events.{Arrival, Event, Arrived, Cleared, frame_destination}
use Rattle.bridge_semantics.specs.Offers.{CarriedFrame, Offer, verdict_offer, step_offer, frame_step, destination_offer, arrival_offer, port_offers, class_offers}
use Rattle.bridge_semantics.specs.Merge.{Input, input_events, IsTimed, AreTimed, IsLater}
use Rattle.bridge_semantics.proofs.Offering.{in_class_join}
use Rattle.bridge_semantics.proofs.Views.{after_all}
use Rattle.bridge_bounds.specs.Latency.{IsMultiple, OffersInPeriods, StartsInPeriod, StartInPeriods, InputsInPeriods, IsDelayedCopy}

-- COPIES AND THEIR PERIODS

pub record HasPeriod (base : ℕ) (opens : ℕ → Bool) (occ : CarriedFrame → ℕ) (period first last next : ℕ) (y : Copy CarriedFrame) : Type 0 where
  pub p : ℕ
  pub multiple : IsMultiple base p
  pub before : p + period ≤ next
  pub start : StartsInPeriod opens (occ y.item) y.at first last p y.fate

pub period_of : (base : ℕ) (opens : ℕ → Bool) (occ : CarriedFrame → ℕ) (period first last next : ℕ) (y : Copy CarriedFrame) (ys : List (Copy CarriedFrame)) → StartInPeriods base opens occ period first last next ys → IsMember y ys → HasPeriod base opens occ period first last next y
period_of base opens occ period first last next y [] h i = absurd i
period_of base opens occ period first last next y (z ∷ zs) h (inl e) =
    let (p, multiple, before, start, rest) = h in
    record { p = p; multiple = multiple; before = before; start = subst (λ (w : Copy CarriedFrame). StartsInPeriod opens (occ w.item) w.at first last p w.fate) (sym e) start }
period_of base opens occ period first last next y (z ∷ zs) h (inr i) =
    let (p, multiple, before, start, rest) = h in
    let m = period_of base opens occ period first last p y zs rest i in
    let sooner = m.before in
    record { p = m.p; multiple = m.multiple; before = omega (arith, sooner, before); start = m.start }

-- Two copies are equal, or their periods are apart.
periods_apart : (base : ℕ) (opens : ℕ → Bool) (occ : CarriedFrame → ℕ) (period first last next : ℕ) (y z : Copy CarriedFrame) (ys : List (Copy CarriedFrame)) (h : StartInPeriods base opens occ period first last next ys) (i : IsMember y ys) (j : IsMember z ys)
    → (y ≡ z) ⊎ (((period_of base opens occ period first last next y ys h i).p + period ≤ (period_of base opens occ period first last next z ys h j).p) ⊎ ((period_of base opens occ period first last next z ys h j).p + period ≤ (period_of base opens occ period first last next y ys h i).p))
unfolding period_of
periods_apart base opens occ period first last next y z [] h i j = absurd i
periods_apart base opens occ period first last next y z (w ∷ ws) h (inl e) (inl f) = inl (e ∙ sym f)
periods_apart base opens occ period first last next y z (w ∷ ws) h (inl e) (inr j) = inr (inr ((period_of base opens occ period first last h.0 z ws h.4 j).before))
periods_apart base opens occ period first last next y z (w ∷ ws) h (inr i) (inl f) = inr (inl ((period_of base opens occ period first last h.0 y ws h.4 i).before))
periods_apart base opens occ period first last next y z (w ∷ ws) h (inr i) (inr j) = periods_apart base opens occ period first last h.0 y z ws h.4 i j

-- INPUTS AND THEIR PERIODS

record Comes (base period from upto : ℕ) (x : Input) : Type 0 where
  p : ℕ
  multiple : IsMultiple base p
  low : from + p ≤ x.at
  high : x.at ≤ upto + p

in_turn : (base period from upto next : ℕ) (xs : List Input) → IsOrdered IsLater xs → (f : (x : Input) → IsMember x xs → Comes base period from upto x) → ((x z : Input) (i : IsMember x xs) (j : IsMember z xs) → z.at < x.at → (f z j).p + period ≤ (f x i).p) → ((x : Input) (i : IsMember x xs) → (f x i).p + period ≤ next) → InputsInPeriods base period from upto next xs
in_turn base period from upto next [] r f pair top = tt
in_turn base period from upto next (x ∷ xs) r f pair top =
    let m = f x (inl refl) in (
      m.p,
      m.multiple,
      top x (inl refl),
      m.low,
      m.high,
      in_turn base period from upto m.p xs r.1 (λ z i. f z (inr i)) (λ y z i j l. pair y z (inr i) (inr j) l) (λ z i. pair x z (inl refl) (inr i) (let l : z.at < x.at = after_all IsLater x z xs r.0 i in l)),
    )

module _ (base : ℕ) (opens : ℕ → Bool) (occ : CarriedFrame → ℕ) (period first last least most delay next : ℕ) (ys : List (Copy CarriedFrame)) (h : StartInPeriods base opens occ period first last next ys) (short : (y : Copy CarriedFrame) → IsMember y ys → least ≤ occ y.item) (long : (y : Copy CarriedFrame) → IsMember y ys → occ y.item ≤ most) (gap : last + most ≤ first + period) (some : 0 < least) where
  its_period : (x : Input) → (c : IsDelayedCopy occ delay ys x) → HasPeriod base opens occ period first last next c.copy
  its_period x c = period_of base opens occ period first last next c.copy ys h c.listed

  comes_of : (x : Input) → IsDelayedCopy occ delay ys x → Comes base period (first + least + delay) (last + most + delay) x
  comes_of x c =
      let m = its_period x c in
      let (s, is, fit, low, high) = m.start in
      let same : c.start ≡ s = same_start c.start s (sym c.started ∙ is) in
      let at = c.at in
      let a = short c.copy c.listed in
      let b = long c.copy c.listed in
      record { p = m.p; multiple = m.multiple; low = omega (arith, same, at, a, low); high = omega (arith, same, at, b, high) }

  comes_apart : (x z : Input) (c : IsDelayedCopy occ delay ys x) (d : IsDelayedCopy occ delay ys z) → z.at < x.at → (comes_of z d).p + period ≤ (comes_of x c).p
  unfolding comes_of period_of its_period
  comes_apart x z c d l = elim (periods_apart base opens occ period first last next c.copy d.copy ys h c.listed d.listed) [
    | inl e ↦
        let fate : Started c.start ≡ Started d.start = sym c.started ∙ (ap (λ (w : Copy CarriedFrame). w.fate) e ∙ d.started) in
        let same = same_start c.start d.start fate in
        let size : occ c.copy.item ≡ occ d.copy.item = ap (λ (w : Copy CarriedFrame). occ w.item) e in
        let a = c.at in
        let b = d.at in
        absurd (omega (arith, same, size, a, b, l))
    | inr more ↦ elim more [
      | inl k ↦
          let a = (comes_of x c).high in
          let b = (comes_of z d).low in
          let k2 : (comes_of x c).p + period ≤ (comes_of z d).p = k in
          absurd (omega (arith, a, b, k2, l, gap, some))
      | inr k ↦ k
    ]
  ]

  -- If the copies start once a period, they arrive over the link once a period.
  pub inputs_in_periods : (xs : List Input) → IsOrdered IsLater xs → ((x : Input) → IsMember x xs → IsDelayedCopy occ delay ys x) → InputsInPeriods base period (first + least + delay) (last + most + delay) next xs
  unfolding comes_of its_period
  inputs_in_periods xs rises of_copy = in_turn base period (first + least + delay) (last + most + delay) next xs rises (λ x i. comes_of x (of_copy x i)) (λ x z i j l. comes_apart x z (of_copy x i) (of_copy z j) l) (λ x i. (its_period x (of_copy x i)).before)

-- OFFERS OF THE INPUTS

-- The list is empty, or has one offer of time `t` and length `len`.
data IsOne (t : ℕ) (len : ℕ) : List Offer → Type 0 where
  nothing : IsOne t len []
  one : (o : Offer) → o.at ≡ t → o.item.len ≡ len → IsOne t len (o ∷ [])

one_by : {A : Type 0} (out : PortPlan A) (a : Arrival) (priority n number : ℕ) (v : Verdict) → IsOne a.at a.len (verdict_offer out a priority n number v)
one_by out a priority n number (verdict.Pass ipv e) = one _ refl refl
one_by out a priority n number verdict.Blocked = nothing
one_by out a priority n number verdict.Oversize = nothing
one_by out a priority n number verdict.GateClosed = nothing
one_by out a priority n number verdict.ShutByRx = nothing
one_by out a priority n number verdict.ShutByOctets = nothing
one_by out a priority n number verdict.OctetsExceeded = nothing
one_by out a priority n number verdict.Red = nothing
one_by out a priority n number verdict.YellowDropped = nothing

one_step : {A : Type 0} (p : Plan A) (out : PortPlan A) (a : Arrival) (es : List Event) (priority : ℕ) (s : verdicts.FilterStep) → IsOne a.at a.len (step_offer p out a es priority s)
one_step p out a es priority (verdicts.Unfiltered c) = one _ refl refl
one_step p out a es priority (verdicts.Judged c n f v) = one_by out a priority n _ v
one_step p out a es priority (verdicts.Commanded v m) = nothing

one_if : (b : Bool) (t len : ℕ) (os : List Offer) → IsOne t len os → IsOne t len (if b then os else [])
one_if true t len os i = i
one_if false t len os i = nothing

one_on : {A : Type 0} (p : Plan A) (out : PortPlan A) (a : Arrival) (es : List Event) (w : Destination) → IsOne a.at a.len (destination_offer p out a es w)
one_on p out a es way.Malformed = nothing
one_on p out a es way.Nowhere = nothing
one_on p out a es (way.Forwarded set c) = one_if (has_port set out.number) a.at a.len _ (one_step p out a es c.priority (frame_step p es c))

one_class : (c t len : ℕ) (os : List Offer) → IsOne t len os → IsOne t len (class_offers c os)
one_class c t len os nothing = nothing
one_class c t len os (one o e f) = by_bool (nat_eq o.class c) (λ k. rw k (one o e f)) (λ k. rw k nothing)

weaker : (base : ℕ) (occ : Offer → ℕ) (period from upto least most p next : ℕ) (os : List Offer) → p ≤ next → OffersInPeriods base occ period from upto least most p os → OffersInPeriods base occ period from upto least most next os
weaker base occ period from upto least most p next [] l h = tt
weaker base occ period from upto least most p next (o ∷ os) l h =
    let (q, multiple, before, low, high, short, long, rest) = h in
    (q, multiple, omega (arith, before, l), low, high, short, long, rest)

one_more : (base : ℕ) (speed_occ : ℕ → ℕ) (period from upto least most p next t len : ℕ) (os rest : List Offer) → IsOne t len os → IsMultiple base p → p + period ≤ next → from + p ≤ t → t ≤ upto + p → least ≤ speed_occ len → speed_occ len ≤ most → OffersInPeriods base (λ (o : Offer). speed_occ o.item.len) period from upto least most p rest → OffersInPeriods base (λ (o : Offer). speed_occ o.item.len) period from upto least most next (os ++ rest)
one_more base speed_occ period from upto least most p next t len os rest nothing multiple before low high short long more = weaker base (λ (o : Offer). speed_occ o.item.len) period from upto least most p next rest (omega (arith, before)) more
one_more base speed_occ period from upto least most p next t len os rest (one o e f) multiple before low high short long more =
    let size : speed_occ o.item.len ≡ speed_occ len = ap speed_occ f in
    (p, multiple, before, omega (arith, e, low), omega (arith, e, high), omega (arith, size, short), omega (arith, size, long), more)

pub offers_of : {A : Type 0} (p : Plan A) (out : PortPlan A) (base c period from upto least most m next t : ℕ) (e : Event) (es : List Event) → IsTimed t e → ((a : Arrival) → e ≡ Arrived a → (least ≤ transmission_time a.len out.speed) × (transmission_time a.len out.speed ≤ most)) → IsMultiple base m → m + period ≤ next → from + m ≤ t → t ≤ upto + m → OffersInPeriods base (λ (o : Offer). transmission_time o.item.len out.speed) period from upto least most m (class_offers c (port_offers p out es)) → OffersInPeriods base (λ (o : Offer). transmission_time o.item.len out.speed) period from upto least most next (class_offers c (port_offers p out (e ∷ es)))
offers_of p out base c period from upto least most m next t (Cleared v k) es timed size multiple before low high more = weaker base (λ (o : Offer). transmission_time o.item.len out.speed) period from upto least most m next (class_offers c (port_offers p out es)) (omega (arith, before)) more
offers_of p out base c period from upto least most m next t (Arrived a) es timed size multiple before low high more =
    let at : a.at ≡ t = timed in
    let (short, long) = size a refl in
    let single = one_class c a.at a.len (arrival_offer p out a es) (one_on p out a es (frame_destination p a)) in
    let both = one_more base (λ (len : ℕ). transmission_time len out.speed) period from upto least most m next a.at a.len (class_offers c (arrival_offer p out a es)) (class_offers c (port_offers p out es)) single multiple before (omega (arith, at, low)) (omega (arith, at, high)) short long more in
    subst (OffersInPeriods base (λ (o : Offer). transmission_time o.item.len out.speed) period from upto least most next) (sym (in_class_join c (arrival_offer p out a es) (port_offers p out es))) both

-- If inputs arrive once a period, their offers arrive once a period.
pub offers_in_periods : {A : Type 0} (p : Plan A) (out : PortPlan A) (base c period from upto least most next : ℕ) (xs : List Input) → AreTimed xs → ((x : Input) (a : Arrival) → IsMember x xs → x.event ≡ Arrived a → (least ≤ transmission_time a.len out.speed) × (transmission_time a.len out.speed ≤ most)) → InputsInPeriods base period from upto next xs → OffersInPeriods base (λ (o : Offer). transmission_time o.item.len out.speed) period from upto least most next (class_offers c (port_offers p out (input_events xs)))
offers_in_periods p out base c period from upto least most next [] timed size h = tt
offers_in_periods p out base c period from upto least most next (x ∷ xs) timed size h =
    let (m, multiple, before, low, high, rest) = h in
    offers_of p out base c period from upto least most m next x.at x.event (input_events xs) (timed x (inl refl)) (λ a e. size x a (inl refl) e) multiple before low high
    (offers_in_periods p out base c period from upto least most m xs (λ y i. timed y (inr i)) (λ y a i e. size y a (inr i) e) rest)
