-- First fits among the spans of a class.
use Rattle.std.proofs.Common.{◌≡◌, ◌<◌, ◌≤◌, ◌+◌, ◌-◌, ◌*◌, ◌/◌, ◌%◌, ◌||◌, ℕ, zero, suc, Bool, true, false, nat_le, min, max, List, [], ◌∷◌, ◌++◌, length, drop, Option, Some, None, arith, refl, sym, ap, ◌∙◌, inl, inr, subst}
use Rattle.std.specs.Prelude.{Vec, IfSome, slice_index_or}
use Rattle.std.proofs.lemmas.Bool.{cases_Bool, cases_lt, both_ways, leb-true, leb-false, lt-leb, le-leb, or_from, or_left, or_right}
use Rattle.std.proofs.lemmas.Option.{same_Some}
use Rattle.std.proofs.lemmas.Int.{ints}
use lib.Signed.{◌≤ℤ◌}
use lib.IntN.{pos}
use lib.Arith.{digits_mod}
use Rattle.bridge_cycle.specs.Cyclic.{Cyclic, IsLawful, turn_by_time}
use Rattle.bridge_cycle.specs.CyclicLaws.{cyclic_turn_is_exact}
use Rattle.bridge_cycle.specs.Fits.{Fits, IsFirstFit, is_open, IsPeriodic}
use Rattle.bridge_cycle.specs.Opens.{turn_opens}
use Rattle.bridge_cycle.specs.declared.timeline.Turn.{Turn}
use Rattle.bridge_cycle.proofs.Repeats.{turns}
use Rattle.bridge_cycle.specs.ChangingList.{Joined}
use Rattle.bridge_cycle.proofs.Changes.{opens_after, opens_before}
use Rattle.bridge_cycle.proofs.Lists.{list_repeats}
use Rattle.bridge_port.specs.GateSchedule.{Changing, list_opens, list_can_fit, opens}
use Rattle.bridge_port.specs.Spans.{AreSpans, HasSpans, IsSpan, IsOpenThroughout, IsShutThroughout, span_end, fit_in_spans, class_spans, open_or_stopped}
use Rattle.bridge_port.specs.declared.spans.OpenSpan.{OpenSpan}
use Rattle.bridge_port.proofs.Opening.{list_always, same_bool}

-- Search for the spans of a class, interval by interval.

shut_on : (opens : ℕ → Bool) (m n k : ℕ) → IsShutThroughout opens m n → IsShutThroughout opens n k → IsShutThroughout opens m k
shut_on opens m n k a b u p q = elim (cases_lt u n) [ inl l ↦ a u p l | inr l ↦ b u l q ]

-- Extends the closed time after the last span.
pub spans_more : (opens : ℕ → Bool) (m : ℕ) (xs : List OpenSpan) (n k : ℕ) → AreSpans opens m xs n → IsShutThroughout opens n k → AreSpans opens m xs k
spans_more opens m [] n k are b = shut_on opens m n k are b
spans_more opens m (x ∷ xs) n k are b = (are.0, spans_more opens x.end xs n k are.1 b)

-- Appends a span.
pub spans_push : (opens : ℕ → Bool) (m : ℕ) (xs : List OpenSpan) (n e k : ℕ) → AreSpans opens m xs n → IsOpenThroughout opens n e → e < k → IsShutThroughout opens e k → AreSpans opens m (xs ++ record { start = n; end = e } ∷ []) k
spans_push opens m [] n e k are o l b = (record { shut = are; opened = o; ends = b e (omega arith) l }, b)
spans_push opens m (x ∷ xs) n e k are o l b = (are.0, spans_push opens x.end xs n e k are.1 o l b)

-- The spans after span `k` are spans from its end on.
spans_behind : (opens : ℕ → Bool) (m : ℕ) (xs : List OpenSpan) (n k : ℕ) → k < length xs → AreSpans opens m xs n → AreSpans opens (span_end xs k) (drop (suc k) xs) n
spans_behind opens m [] n k l are = absurd (omega (arith, l))
spans_behind opens m (x ∷ xs) n zero l are = are.1
spans_behind opens m (x ∷ xs) n (suc k) l are = spans_behind opens x.end xs n k (omega (arith, l)) are.1

-- First fit among spans.

until_open : (opens : ℕ → Bool) (stop u : ℕ) → opens u ≡ true → open_or_stopped opens stop u ≡ true
until_open opens stop u h = or_left (opens u) (nat_le stop u) h

until_stop : (opens : ℕ → Bool) (stop u : ℕ) → stop ≤ u → open_or_stopped opens stop u ≡ true
until_stop opens stop u h = or_right (opens u) (nat_le stop u) (le-leb stop u h)

until_shut : (opens : ℕ → Bool) (stop u : ℕ) → opens u ≡ false → u < stop → open_or_stopped opens stop u ≡ false
until_shut opens stop u h l = or_from (opens u) (nat_le stop u) h (lt-leb stop u l)

until_is : (opens : ℕ → Bool) (stop u : ℕ) → u < stop → open_or_stopped opens stop u ≡ true → opens u ≡ true
until_is opens stop u l h = elim (cases_Bool (opens u)) [ inl e ↦ e | inr e ↦ absurd (both_ways (open_or_stopped opens stop u) (until_shut opens stop u e l) h) ]

abbrev NoneBefore : (ℕ → Bool) → ℕ → ℕ → ℕ → Type 0
NoneBefore opens occ from m = (v : ℕ) → from ≤ v → v < m → Fits opens occ v → ⊥

-- Nothing fits between two spans.
none_between : (opens : ℕ → Bool) (m : ℕ) (x : OpenSpan) (occ stop from : ℕ) → 0 < occ → IsSpan opens m x → NoneBefore (open_or_stopped opens stop) occ from m → NoneBefore (open_or_stopped opens stop) occ from (min x.start stop)
none_between opens m x occ stop from some is none v p q f = elim (cases_lt v m) [
  | inl a ↦ none v p a f
  | inr b ↦ both_ways (open_or_stopped opens stop v) (until_shut opens stop v (is.shut v b (omega (arith, q))) (omega (arith, q))) (f v (omega arith) (omega (arith, some)))
]

-- A span that is long enough has the first fit.
first_in_span : (opens : ℕ → Bool) (m : ℕ) (x : OpenSpan) (occ stop from start : ℕ) → 0 < occ → IsSpan opens m x → NoneBefore (open_or_stopped opens stop) occ from m → start ≡ max from (min x.start stop) → min (start + occ) stop ≤ x.end → IsFirstFit (open_or_stopped opens stop) occ from start
first_in_span opens m x occ stop from start some is none e l = record {
  after = omega (arith, e);
  fits = λ u p q. elim (cases_lt u stop) [
    | inl a ↦ until_open opens stop u (is.opened u (omega (arith, e, p, a)) (omega (arith, l, q, a)))
    | inr b ↦ until_stop opens stop u b
  ];
  least = λ v p q f. none_between opens m x occ stop from some is none v p (omega (arith, e, p, q)) f;
}

-- A span that is too short has no fit.
none_in_span : (opens : ℕ → Bool) (m : ℕ) (x : OpenSpan) (occ stop from start : ℕ) → 0 < occ → IsSpan opens m x → NoneBefore (open_or_stopped opens stop) occ from m → start ≡ max from (min x.start stop) → x.end < min (start + occ) stop → NoneBefore (open_or_stopped opens stop) occ from x.end
none_in_span opens m x occ stop from start some is none e l v p q f = elim (cases_lt v (min x.start stop)) [
  | inl a ↦ none_between opens m x occ stop from some is none v p a f
  | inr b ↦ both_ways (open_or_stopped opens stop x.end) (until_shut opens stop x.end is.ends (omega (arith, l))) (f x.end (omega (arith, q)) (omega (arith, e, l, p, q, b)))
]

first_among : (opens : ℕ → Bool) (m : ℕ) (xs : List OpenSpan) (n from occ stop t : ℕ) → 0 < occ → AreSpans opens m xs n → NoneBefore (open_or_stopped opens stop) occ from m → fit_in_spans xs from occ stop ≡ Some t → IsFirstFit (open_or_stopped opens stop) occ from t
first_among opens m [] n from occ stop t some are none h = absurd (cc)
first_among opens m (x ∷ xs) n from occ stop t some are none h =
    let start : ℕ = max from (min x.start stop) in
    elim (cases_Bool (nat_le (min (start + occ) stop) x.end)) [
      | inl k ↦
          let found : Some start ≡ Some t = rw k at h in
          first_in_span opens m x occ stop from t some are.0 none (sym (same_Some start t found)) (subst (λ (s : ℕ). min (s + occ) stop ≤ x.end) (same_Some start t found) (leb-true (min (start + occ) stop) x.end k))
      | inr k ↦
          let rest : fit_in_spans xs from occ stop ≡ Some t = rw k at h in
          first_among opens x.end xs n from occ stop t some are.1 (none_in_span opens m x occ stop from start some are.0 none refl (leb-false (min (start + occ) stop) x.end k)) rest
    ]

-- Finds the first fit if the skipped spans end at `from` or earlier.
first_behind_place : (opens : ℕ → Bool) (xs : List OpenSpan) (n place from occ stop t : ℕ) → 0 < occ → AreSpans opens 0 xs n → place ≤ length xs → (0 < place → span_end xs (place - 1) ≤ from) → fit_in_spans (drop place xs) from occ stop ≡ Some t → IsFirstFit (open_or_stopped opens stop) occ from t
first_behind_place opens xs n zero from occ stop t some are within behind h = first_among opens 0 xs n from occ stop t some are (λ v p q f. absurd (omega (arith, p, q))) h
first_behind_place opens xs n (suc k) from occ stop t some are within behind h =
    let same : suc k - 1 ≡ k = omega arith in
    let ends : span_end xs k ≤ from = subst (λ (n : ℕ). span_end xs n ≤ from) same (behind (omega arith)) in
    first_among opens (span_end xs k) (drop (suc k) xs) n from occ stop t some (spans_behind opens 0 xs n k (omega (arith, within)) are) (λ v p q f. absurd (omega (arith, p, q, ends))) h

-- A fit moves by whole cycles.

first_later : (f g : ℕ → Bool) (lap occ from t : ℕ) → ((u : ℕ) → g (u + lap) ≡ f u) → IsFirstFit f occ from t → IsFirstFit g occ (from + lap) (t + lap)
first_later f g lap occ from t same is = record {
  after = let a = is.after in omega (arith, a);
  fits = λ u p q. let w = u - lap in let e : w + lap ≡ u = omega (arith, p) in ap g (sym e) ∙ (same w ∙ is.fits w (omega (arith, p)) (omega (arith, p, q)));
  least = λ v p q k. is.least (v - lap) (omega (arith, p)) (omega (arith, p, q)) (λ u a b. sym (same u) ∙ k (u + lap) (omega (arith, p, a)) (omega (arith, p, b)));
}

until_later : (opens : ℕ → Bool) (stop lap u : ℕ) → lap ≤ stop → opens (u + lap) ≡ opens u → open_or_stopped opens stop (u + lap) ≡ open_or_stopped opens (stop - lap) u
until_later opens stop lap u l same =
    let tests : nat_le stop (u + lap) ≡ nat_le (stop - lap) u = same_bool (nat_le stop (u + lap)) (nat_le (stop - lap) u)
    (λ h. let k = leb-true stop (u + lap) h in le-leb (stop - lap) u (omega (arith, k)))
    (λ h. let k = leb-true (stop - lap) u h in le-leb stop (u + lap) (omega (arith, k, l)))
    in
    ap (λ (b : Bool). b || nat_le stop (u + lap)) same ∙ ap (λ (b : Bool). opens u || b) tests

-- Finds the first fit of a class up to time `stop` by its spans.
pub first_of_spans : (l : Cyclic ℕ) (c : ℕ) (xs : List OpenSpan) (place from occ stop t : ℕ) → IsLawful l → HasSpans (list_opens l c) xs → 0 < occ → from ≤ stop → place ≤ length xs → (0 < place → span_end xs (place - 1) ≤ from % l.cycle) → fit_in_spans (drop place xs) (from % l.cycle) occ (stop - (from - from % l.cycle)) ≡ Some t → IsFirstFit (open_or_stopped (list_opens l c) stop) occ from (t + (from - from % l.cycle))
first_of_spans l c xs place from occ stop t lawful has some before within behind h =
    let opens : ℕ → Bool = list_opens l c in
    let into : ℕ = from % l.cycle in
    let lap : ℕ = from - into in
    let q : ℕ = from / l.cycle in
    let whole : from ≡ into + q * l.cycle = grind arith in
    let is_lap : lap ≡ q * l.cycle = omega (arith, whole) in
    let r : IsPeriodic opens l.cycle = list_repeats l c lawful in
    let same : (u : ℕ) → opens (u + lap) ≡ opens u = λ u. ap (λ (n : ℕ). opens (u + n)) is_lap ∙ turns opens l.cycle q u r in
    let is = first_behind_place opens xs has.upto place into occ (stop - lap) t some has.are within behind h in
    let there = first_later (open_or_stopped opens (stop - lap)) (open_or_stopped opens stop) lap occ into t (λ u. until_later opens stop lap u (omega (arith, before)) (same u)) is in
    let e : into + lap ≡ from = omega (arith, whole) in
    subst (λ (n : ℕ). IsFirstFit (open_or_stopped opens stop) occ n (t + lap)) e there

-- Finds the first fit of a class up to time `stop` by its spans and an equal cycle time.
pub first_of_cycle : (l : Cyclic ℕ) (c : ℕ) (xs : List OpenSpan) (cycle place from occ stop t : ℕ) → cycle ≡ l.cycle → IsLawful l → HasSpans (list_opens l c) xs → 0 < occ → from ≤ stop → place ≤ length xs → (0 < place → span_end xs (place - 1) ≤ from % cycle) → fit_in_spans (drop place xs) (from % cycle) occ (stop - (from - from % cycle)) ≡ Some t → IsFirstFit (open_or_stopped (list_opens l c) stop) occ from (t + (from - from % cycle))
first_of_cycle l c xs cycle place from occ stop t e lawful has some before within behind h = rw e (first_of_spans l c xs place from occ stop t lawful has some before within (rw e at behind) (rw e at h))

-- Offset of time `t` in its cycle, from the number of earlier cycles.
pub into_is : (laps cycle t : ℕ) → laps * cycle ≤ t → t - laps * cycle < cycle → t - laps * cycle ≡ t % cycle
into_is laps cycle t before within =
    let whole : t ≡ laps * cycle + (t - laps * cycle) = omega (arith, before) in
    sym (ap (λ (n : ℕ). n % cycle) whole ∙ digits_mod laps within)

-- A transmission of 0 ns fits at once.
pub first_of_none : (opens : ℕ → Bool) (from : ℕ) → IsFirstFit opens 0 from from
first_of_none opens from = record { after = omega arith; fits = λ u p q. absurd (omega (arith, p, q)); least = λ v p q f. absurd (omega (arith, p, q)) }

-- In a class that is always open, a transmission fits at once.
pub first_of_always : (l : Cyclic ℕ) (c occ from stop : ℕ) → IsLawful l → ((n : ℕ) → list_can_fit l c n ≡ true) → IsFirstFit (open_or_stopped (list_opens l c) stop) occ from from
first_of_always l c occ from stop lawful all = record {
  after = omega arith;
  fits = λ u p q. until_open (list_opens l c) stop u (list_always l c u lawful all);
  least = λ v p q f. absurd (omega (arith, p, q));
}

-- A fit that ends by time `stop` is a first fit of the class.
pub first_of_until : (opens : ℕ → Bool) (occ from stop t : ℕ) → IsFirstFit (open_or_stopped opens stop) occ from t → t + occ ≤ stop → IsFirstFit opens occ from t
first_of_until opens occ from stop t is l = record {
  after = is.after;
  fits = λ u p q. until_is opens stop u (omega (arith, q, l)) (is.fits u p q);
  least = λ v p q f. is.least v p q (λ u a b. until_open opens stop u (f u a b));
}

-- Schedule changes.

-- Holds if `h` equals `f` before time `at`, and equals `g` from `at` on.
pub record IsOver (f g h : ℕ → Bool) (at : ℕ) : Type 0 where
  pub before : (u : ℕ) → u < at → h u ≡ f u
  pub after : (u : ℕ) → at ≤ u → h u ≡ g u

fits_until : (f g h : ℕ → Bool) (at occ v : ℕ) → IsOver f g h at → Fits h occ v → Fits (open_or_stopped f at) occ v
fits_until f g h at occ v over k u p q = elim (cases_lt u at) [
  | inl a ↦ until_open f at u (sym (over.before u a) ∙ k u p q)
  | inr b ↦ until_stop f at u b
]

-- The first fit ends by the schedule change.
pub first_before : (f g h : ℕ → Bool) (at occ from t : ℕ) → IsOver f g h at → IsFirstFit (open_or_stopped f at) occ from t → t + occ ≤ at → IsFirstFit h occ from t
first_before f g h at occ from t over is l = record {
  after = is.after;
  fits = λ u p q. over.before u (omega (arith, q, l)) ∙ until_is f at u (omega (arith, q, l)) (is.fits u p q);
  least = λ v p q k. is.least v p q (fits_until f g h at occ v over k);
}

-- The first fit starts before the schedule change and ends after it.
pub first_across : (f g h : ℕ → Bool) (at occ need from t : ℕ) → IsOver f g h at → IsFirstFit (open_or_stopped f at) occ from t → t + occ ≡ at + need → Fits g need at → IsFirstFit h occ from t
first_across f g h at occ need from t over is e behind = record {
  after = is.after;
  fits = λ u p q. elim (cases_lt u at) [
    | inl a ↦ over.before u a ∙ until_is f at u a (is.fits u p q)
    | inr b ↦ over.after u b ∙ behind u b (omega (arith, q, e))
  ];
  least = λ v p q k. is.least v p q (fits_until f g h at occ v over k);
}

-- If no fit across the schedule change exists, the first fit is in the new list.
pub first_after : (f g h : ℕ → Bool) (at occ need from t first : ℕ) → IsOver f g h at → IsFirstFit (open_or_stopped f at) occ from t → t + occ ≡ at + need → from ≤ at → (Fits g need at → ⊥) → IsFirstFit g occ at first → IsFirstFit h occ from first
first_after f g h at occ need from t first over is e before short later = record {
  after = let a = later.after in omega (arith, a, before);
  fits = λ u p q. let a = later.after in over.after u (omega (arith, a, p)) ∙ later.fits u p q;
  least = λ v p q k. elim (cases_lt v at) [
    | inl a ↦ elim (cases_lt v t) [
      | inl b ↦ is.least v p b (fits_until f g h at occ v over k)
      | inr b ↦ short (λ u x y. sym (over.after u x) ∙ k u (omega (arith, a, x)) (omega (arith, b, e, y)))
    ]
    | inr a ↦ later.least v a q (λ u x y. sym (over.after u (omega (arith, a, x))) ∙ k u x y)
  ];
}

-- After the schedule change, the first fit is in the new list.
pub first_behind : (f g h : ℕ → Bool) (at occ from t : ℕ) → IsOver f g h at → IsFirstFit g occ from t → at ≤ from → IsFirstFit h occ from t
first_behind f g h at occ from t over is l = record {
  after = is.after;
  fits = λ u p q. let a = is.after in over.after u (omega (arith, a, l, p)) ∙ is.fits u p q;
  least = λ v p q k. is.least v p q (λ u a b. sym (over.after u (omega (arith, l, p, a))) ∙ k u a b);
}

-- Spans of all classes.

pub spans_is : {A : Type 0} (vs : List (Vec OpenSpan A)) (c : ℕ) (d : Vec OpenSpan A) → c < length vs → class_spans vs c ≡ (slice_index_or vs c d).items
spans_is [] c d l = absurd (omega (arith, l))
spans_is (v ∷ vs) zero d l = refl
spans_is (v ∷ vs) (suc c) d l = spans_is vs c d (omega (arith, l))

pub spans_kept : {A : Type 0} (vs : List (Vec OpenSpan A)) (v : Vec OpenSpan A) (c : ℕ) → c < length vs → class_spans (vs ++ v ∷ []) c ≡ class_spans vs c
spans_kept [] v c l = absurd (omega (arith, l))
spans_kept (w ∷ vs) v zero l = refl
spans_kept (w ∷ vs) v (suc c) l = spans_kept vs v c (omega (arith, l))

pub spans_last : {A : Type 0} (vs : List (Vec OpenSpan A)) (v : Vec OpenSpan A) → class_spans (vs ++ v ∷ []) (length vs) ≡ v.items
spans_last [] v = refl
spans_last (w ∷ vs) v = spans_last vs v

pub end_is : (xs : List OpenSpan) (k : ℕ) (d : OpenSpan) → k < length xs → span_end xs k ≡ (slice_index_or xs k d).end
end_is [] k d l = absurd (omega (arith, l))
end_is (x ∷ xs) zero d l = refl
end_is (x ∷ xs) (suc k) d l = end_is xs k d (omega (arith, l))

-- Interval of a list from one of its times on.

pub turn_ends : (l : Cyclic ℕ) (t : ℕ) (x : Turn ℕ) → IsLawful l → turn_by_time l t ≡ Some x → t < x.end
turn_ends l t x lawful h = (cyclic_turn_is_exact l t x lawful h).ends

in_list_turn : (l : Cyclic ℕ) (c t u : ℕ) (x : Turn ℕ) → IsLawful l → turn_by_time l t ≡ Some x → t ≤ u → u < x.end → list_opens l c u ≡ is_open x.state c
in_list_turn l c t u x lawful h p q =
    let is = cyclic_turn_is_exact l t x lawful h in
    let begins : x.start ≤ℤ pos t = is.begins in
    ap (λ o. turn_opens o c) (is.same u (omega (arith, ints)) q)

pub turn_shut : (l : Cyclic ℕ) (c t : ℕ) (x : Turn ℕ) (b : Bool) → IsLawful l → turn_by_time l t ≡ Some x → b ≡ is_open x.state c → b ≡ false → IsShutThroughout (list_opens l c) t x.end
turn_shut l c t x b lawful h is k u p q = in_list_turn l c t u x lawful h p q ∙ (sym is ∙ k)

pub turn_opened : (l : Cyclic ℕ) (c start t : ℕ) (x : Turn ℕ) (b : Bool) → IsLawful l → turn_by_time l t ≡ Some x → b ≡ is_open x.state c → b ≡ true → IsOpenThroughout (list_opens l c) start t → IsOpenThroughout (list_opens l c) start x.end
turn_opened l c start t x b lawful h is k before u p q = elim (cases_lt u t) [ inl a ↦ before u p a | inr a ↦ in_list_turn l c t u x lawful h a q ∙ (sym is ∙ k) ]

-- The lists of a schedule change obey `IsOver`.
pub lists_over : (j : Joined ℕ) (c : ℕ) → IsOver (list_opens j.old c) (list_opens j.new c) (opens (Changing j) c) j.at
lists_over j c = record { before = λ u l. opens_before j c u l; after = λ u l. opens_after j c u l }

-- Maps a property of an optional time to a weaker one.
pub some_so : {P Q : ℕ → Type 0} (o : Option ℕ) → IfSome o P → ((t : ℕ) → P t → Q t) → IfSome o Q
some_so None p f = tt
some_so (Some t) p f = f t p

pub some_both : {P N Q : ℕ → Type 0} (o : Option ℕ) → IfSome o P → IfSome o N → ((t : ℕ) → P t → N t → Q t) → IfSome o Q
some_both None p n f = tt
some_both (Some t) p n f = f t p n
