-- If a protected filter's frames arrive once a period, they leave once a period, between two phases that follow from the gate control lists.
use Rattle.std.proofs.Common.{◌≡◌, ◌<◌, ◌≤◌, ◌+◌, ◌-◌, ◌*◌, ℕ, zero, suc, suc-mul, Bool, true, false, max, List, [], ◌∷◌, arith, refl, ap, sym, ◌∙◌, subst, inl, inr}
use Rattle.std.proofs.Math.Bool.{and-false}
use Rattle.std.proofs.lemmas.Bool.{cases_lt, both_ways}
use Rattle.std.proofs.lemmas.Bool.Decides.{nat_tests}
use Rattle.std.specs.Prelude.{nat_lt}
use Rattle.bridge_limits.specs.Members.{IsMember}
use Rattle.bridge_cycle.specs.Fits.{Fits, IsFirstFit, IsPeriodic}
use Rattle.bridge_cycle.proofs.Runs.{fits_less}
use Rattle.bridge_frame.specs.Link.{transmission_time}
use Rattle.bridge_frame.proofs.Times.{occupied_some}
use Rattle.bridge_port.specs.GateSchedule.{lists_open, lists_can_fit}
use Rattle.bridge_port.specs.Schedule.{Copy, Fate, Never, Full, Queued, Started, PortRules, count_waiting, is_waiting}
use Rattle.bridge_port.specs.Solo.{IsSolo, IsSoloFate, last_done_time}
use Rattle.bridge_config.specs.declared.ports.PortPlan.{PortPlan}
use Rattle.bridge_config.specs.Model.{Plan}
use Rattle.bridge_semantics.specs.Events.{Event}
use Rattle.bridge_semantics.specs.Offers.{CarriedFrame, Offer, egress_rules, port_offers, copy_offers, class_offers}
use Rattle.bridge_semantics.proofs.Headline.{as_offer, in_offered, in_class_in}
use Rattle.bridge_bounds.specs.Latency.{OffersInPeriods, IsMultiple, StartsInPeriod, StartInPeriods}

-- A frame fits at a time if and only if it fits one period later.
fits_later : (opens : ℕ → Bool) (p n t : ℕ) → IsPeriodic opens p → Fits opens n t → Fits opens n (t + p)
fits_later opens p n t repeats fits u a b =
    let v = u - p in
    let same : v + p ≡ u = omega (arith, a) in
    subst (λ (w : ℕ). opens w ≡ true) same (repeats v ∙ fits v (omega (arith, a)) (omega (arith, a, b)))

fits_sooner : (opens : ℕ → Bool) (p n t : ℕ) → IsPeriodic opens p → Fits opens n (t + p) → Fits opens n t
fits_sooner opens p n t repeats fits u a b = sym (repeats u) ∙ fits (u + p) (omega (arith, a)) (omega (arith, b))

-- If lists repeat with the base, they repeat with each multiple of the base.
repeats_times : (opens : ℕ → Bool) (base k : ℕ) → IsPeriodic opens base → IsPeriodic opens (k * base)
repeats_times opens base zero repeats u = let same : u + zero * base ≡ u = omega arith in ap opens same
repeats_times opens base (suc k) repeats u =
    let same : u + suc k * base ≡ u + k * base + base = ap (λ n. u + n) (suc-mul k base) ∙ omega arith in
    ap opens same ∙ (repeats (u + k * base) ∙ repeats_times opens base k repeats u)

repeats_at : (opens : ℕ → Bool) (base p : ℕ) → IsPeriodic opens base → IsMultiple base p → IsPeriodic opens p
repeats_at opens base p repeats m = subst (IsPeriodic opens) (sym m.1) (repeats_times opens base m.0 repeats)

record Suits (r : PortRules CarriedFrame) (c : ℕ) (x : Copy CarriedFrame) : Type 0 where
  class : x.class ≡ c
  some : 0 < r.occ x.item
  fits : r.ever c (r.occ x.item) ≡ true

-- All copies have left before time `t`, and none waits. The proof keeps this for the next period's first phase.
record AreDone (r : PortRules CarriedFrame) (c t : ℕ) (xs : List (Copy CarriedFrame)) : Type 0 where
  done : last_done_time r xs ≤ t
  none : count_waiting c t xs ≡ 0

fate_in_period : (r : PortRules CarriedFrame) (c from upto least most first last p : ℕ) (x : Copy CarriedFrame) (xs : List (Copy CarriedFrame)) (f : Fate)
    → IsPeriodic (r.opens c) p
    → IsFirstFit (r.opens c) least from first
    → IsFirstFit (r.opens c) most upto last
    → 1 ≤ r.room c
    → Suits r c x
    → from + p ≤ x.at
    → x.at ≤ upto + p
    → least ≤ r.occ x.item
    → r.occ x.item ≤ most
    → AreDone r c x.at xs
    → IsSoloFate r x xs f
    → StartsInPeriod (r.opens c) (r.occ x.item) x.at first last p f
fate_in_period r c from upto least most first last p x xs Never repeats low high room suits a b short long done h =
    let can : r.ever x.class (r.occ x.item) ≡ true = subst (λ (k : ℕ). r.ever k (r.occ x.item) ≡ true) (sym suits.class) suits.fits in
    absurd (both_ways (r.ever x.class (r.occ x.item)) h can)
fate_in_period r c from upto least most first last p x xs Full repeats low high room suits a b short long done h =
    let full : r.room c ≤ count_waiting c x.at xs = subst (λ (k : ℕ). r.room k ≤ count_waiting k x.at xs) suits.class h.1 in
    let none = done.none in
    absurd (omega (arith, full, none, room))
fate_in_period r c from upto least most first last p x xs Queued repeats low high room suits a b short long done h = absurd h
fate_in_period r c from upto least most first last p x xs (Started s) repeats low high room suits a b short long done h =
    let is : IsFirstFit (r.opens c) (r.occ x.item) (max x.at (last_done_time r xs)) s = subst (λ (k : ℕ). IsFirstFit (r.opens k) (r.occ x.item) (max x.at (last_done_time r xs)) s) suits.class h.2 in
    let free = done.done in
    let after = is.after in
    let high_after = high.after in
    let fits_there : Fits (r.opens c) (r.occ x.item) (last + p) = fits_less (r.opens c) most (r.occ x.item) (last + p) long (fits_later (r.opens c) p most last repeats high.fits) in
    let not_late : s ≤ last + p = elim (cases_lt (last + p) s) [ inl l ↦ absurd (is.least (last + p) (omega (arith, free, b, high_after)) l fits_there) | inr l ↦ l ] in
    let back = s - p in
    let same : back + p ≡ s = omega (arith, after, a) in
    let fits_here : Fits (r.opens c) least back = fits_sooner (r.opens c) p least back repeats (subst (Fits (r.opens c) least) (sym same) (fits_less (r.opens c) (r.occ x.item) least s short is.fits)) in
    let not_early : first + p ≤ s = elim (cases_lt s (first + p)) [ inl l ↦ absurd (low.least back (omega (arith, same, after, a)) (omega (arith, same, l)) fits_here) | inr l ↦ l ] in
    let alone : max x.at (last_done_time r xs) ≡ x.at = omega (arith, free) in
    (s, refl, subst (λ (k : ℕ). IsFirstFit (r.opens c) (r.occ x.item) k s) alone is, not_early, not_late)

-- All copies have left by the first phase of the next period.
all_done : (r : PortRules CarriedFrame) (base c period from most first last t next : ℕ) (xs : List (Copy CarriedFrame)) → last + most ≤ from + period → ((x : Copy CarriedFrame) → IsMember x xs → 0 < r.occ x.item) → ((x : Copy CarriedFrame) → IsMember x xs → r.occ x.item ≤ most) → StartInPeriods base (r.opens c) r.occ period first last next xs → from + next ≤ t → AreDone r c t xs
all_done r base c period from most first last t next [] gap some long h le = record { done = omega arith; none = refl }
all_done r base c period from most first last t next (x ∷ xs) gap some long h le =
    let (p, multiple, before, start, rest) = h in
    let (s, is, at, low, high) = start in
    let long_x = long x (inl refl) in
    let some_x = some x (inl refl) in
    let more = all_done r base c period from most first last t p xs gap (λ y i. some y (inr i)) (λ y i. long y (inr i)) rest (omega (arith, le, before)) in
    let none = more.none in
    let early : s < t = omega (arith, high, gap, before, le, some_x, long_x) in
    let k : nat_lt s t ≡ true = grind (arith, nat_tests) in
    let gone : is_waiting t (Started s) ≡ false = rw k refl in
    record {
      done = rw is (omega (arith, high, gap, before, le, long_x));
      none = rw (is, gone, and-false) (omega (arith, none));
    }

-- Copies that arrive once a period start once a period.
in_periods : (r : PortRules CarriedFrame) (occ : Offer → ℕ) (base c period from upto least most first last next : ℕ) (xs : List (Copy CarriedFrame))
    → IsPeriodic (r.opens c) base
    → ((x : Copy CarriedFrame) → occ (as_offer x) ≡ r.occ x.item)
    → IsFirstFit (r.opens c) least from first
    → IsFirstFit (r.opens c) most upto last
    → last + most ≤ from + period
    → 1 ≤ r.room c
    → ((x : Copy CarriedFrame) → IsMember x xs → Suits r c x)
    → IsSolo r xs
    → OffersInPeriods base occ period from upto least most next (copy_offers xs)
    → StartInPeriods base (r.opens c) r.occ period first last next xs × ((x : Copy CarriedFrame) → IsMember x xs → r.occ x.item ≤ most)
in_periods r occ base c period from upto least most first last next [] repeats size low high gap room suits solo h = (tt, λ x i. absurd i)
in_periods r occ base c period from upto least most first last next (x ∷ xs) repeats size low high gap room suits solo h =
    let (p, multiple, before, a, b, short, long, rest) = h in
    let more = in_periods r occ base c period from upto least most first last p xs repeats size low high gap room (λ y i. suits y (inr i)) solo.1 rest in
    let e = size x in
    let own_short : least ≤ r.occ x.item = omega (arith, short, e) in
    let own_long : r.occ x.item ≤ most = omega (arith, long, e) in
    let done = all_done r base c period from most first last x.at p xs gap (λ y i. (suits y (inr i)).some) more.1 more.0 a in
    let start = fate_in_period r c from upto least most first last p x xs x.fate (repeats_at (r.opens c) base p repeats multiple) low high room (suits x (inl refl)) a b own_short own_long done solo.0 in
    ((p, multiple, before, start, more.0), λ y i. elim i [ inl same ↦ subst (λ (z : Copy CarriedFrame). r.occ z.item ≤ most) (sym same) own_long | inr j ↦ more.1 y j ])

pub keeps_phase : {A : Type 0} (p : Plan A) (out : PortPlan A) (base c period from upto least most first last next : ℕ) (es : List Event) (xs : List (Copy CarriedFrame))
    → copy_offers xs ≡ class_offers c (port_offers p out es)
    → IsSolo (egress_rules out) xs
    → IsPeriodic (lists_open out.list c) base
    → IsFirstFit (lists_open out.list c) least from first
    → IsFirstFit (lists_open out.list c) most upto last
    → last + most ≤ from + period
    → 1 ≤ (egress_rules out).room c
    → ((o : Offer) → IsMember o (class_offers c (port_offers p out es)) → lists_can_fit out.list c (transmission_time o.item.len out.speed) ≡ true)
    → OffersInPeriods base (λ (o : Offer). transmission_time o.item.len out.speed) period from upto least most next (class_offers c (port_offers p out es))
    → StartInPeriods base (lists_open out.list c) (λ (y : CarriedFrame). transmission_time y.len out.speed) period first last next xs
keeps_phase p out base c period from upto least most first last next es xs same solo repeats low high gap room can h =
    let comes : OffersInPeriods base (λ (o : Offer). transmission_time o.item.len out.speed) period from upto least most next (copy_offers xs) = subst (OffersInPeriods base (λ (o : Offer). transmission_time o.item.len out.speed) period from upto least most next) (sym same) h in
    (in_periods (egress_rules out) (λ (o : Offer). transmission_time o.item.len out.speed) base c period from upto least most first last next xs repeats (λ x. refl) low high gap room
    (λ x i.
    let among : IsMember (as_offer x) (class_offers c (port_offers p out es)) = subst (IsMember (as_offer x)) same (in_offered x xs i) in
    record {
      class = (in_class_in c (as_offer x) (port_offers p out es) among).1;
      some = occupied_some x.item.len out.speed;
      fits = can (as_offer x) among;
    }) solo comes).0
