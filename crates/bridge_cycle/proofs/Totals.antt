use Rattle.std.proofs.Common.{◌-◌, ◌++◌, inl, inr, ◌≡◌, ℕ, ◌+◌, ◌<◌, ◌≤◌, List, [], ◌∷◌, length, get_or, take, zero, suc, arith, refl, ap, ◌∙◌, sym, Some, add-one, slice_index}
use Rattle.std.proofs.lemmas.Bool.{cases_lt}
use Rattle.std.proofs.lemmas.List.{get_or_push, get_or_append_left}
use Rattle.bridge_cycle.specs.Cyclic.{interval_sum, entry_interval}
use Rattle.bridge_cycle.specs.CyclicLaws.{place_here, place_next}
use Rattle.bridge_cycle.specs.IntervalEnds.{AreIntervalEnds, IsEntryIndex}

-- The sum of the first intervals is at most the sum of all intervals.
pub total-take-le : {S : Type 0} (es : List (S × ℕ)) (n : ℕ) → interval_sum (take n es) ≤ interval_sum es
total-take-le [] zero = omega arith
total-take-le [] (suc n) = omega arith
total-take-le (e ∷ es) zero = omega arith
total-take-le (e ∷ es) (suc n) = let h = total-take-le es n in omega arith

take_more : {S : Type 0} (es : List (S × ℕ)) (n : ℕ) (d : S × ℕ) → n < length es → interval_sum (take (suc n) es) ≡ interval_sum (take n es) + (get_or es n d).1
take_more [] n d h = absurd (omega arith)
take_more (e ∷ es) zero d h = omega arith
take_more (e ∷ es) (suc n) d h = let t : interval_sum (take (suc n) es) ≡ interval_sum (take n es) + (get_or es n d).1 = take_more es n d (omega arith) in omega arith

-- Adds the next interval to the sum of the first intervals.
pub total-take-more : {S : Type 0} (es : List (S × ℕ)) (n : ℕ) (d : S × ℕ) → n < length es → interval_sum (take (n + 1) es) ≡ interval_sum (take n es) + (get_or es n d).1
total-take-more es n d h = rw add-one (take_more es n d h)

-- Finds the entry of an offset from the sums of the intervals before the entry.
pub place_at : {S : Type 0} (es : List (S × ℕ)) (start cycle p i low high : ℕ) (d : S × ℕ) → i < length es → low ≡ start + interval_sum (take i es) → low ≤ p → (suc i < length es → high ≡ start + interval_sum (take (suc i) es)) → (suc i < length es → p < high) → (suc i ≡ length es → high ≡ cycle) → entry_interval es start cycle p ≡ Some (record { state = (get_or es i d).0; start = low; end = high })
place_at [] start cycle p i low high d within begins before ends below last = absurd (omega arith)
place_at (e ∷ []) start cycle p zero low high d within begins before ends below last =
    let b : low ≡ start = omega arith in
    let l : high ≡ cycle = last refl in
    rw (b, l) refl
place_at (e ∷ []) start cycle p (suc i) low high d within begins before ends below last = absurd (omega arith)
place_at (e ∷ f ∷ es) start cycle p zero low high d within begins before ends below last =
    let more : suc zero < length (e ∷ f ∷ es) = omega arith in
    let b : low ≡ start = omega arith in
    let at_end = ends more in
    let l : high ≡ start + e.1 = omega arith in
    let under = below more in
    rw (b, l) (place_here e f es start cycle p (omega arith))
place_at (e ∷ f ∷ es) start cycle p (suc i) low high d within begins before ends below last =
    place_next e f es start cycle p (omega arith)
    ∙ place_at (f ∷ es) (start + e.1) cycle p i low high d (omega arith) (omega arith) before (λ more. let k = ends (omega arith) in omega arith) (λ more. below (omega arith)) (λ only. last (omega arith))

-- Appends the next sum to the list of sums.
pub sums_push : {S : Type 0} (es : List (S × ℕ)) (xs : List ℕ) (i end : ℕ) → length xs ≡ i → ((k : ℕ) → k < i → slice_index xs k ≡ interval_sum (take (k + 1) es)) → end ≡ interval_sum (take (i + 1) es) → (k : ℕ) → k < i + 1 → slice_index (xs ++ end ∷ []) k ≡ interval_sum (take (k + 1) es)
sums_push es xs i end len so_far here k below = elim (cases_lt k i) [
  | inl a ↦ get_or_append_left xs (end ∷ []) 0 k (omega arith) ∙ so_far k a
  | inr b ↦ let e : k ≡ i = omega arith in let l : length xs ≡ k = omega arith in get_or_push xs end 0 k l ∙ (here ∙ ap (λ n. interval_sum (take (n + 1) es)) (sym e))
]

low_is : {S : Type 0} (es : List (S × ℕ)) (ends : List ℕ) (i low : ℕ) → AreIntervalEnds es ends → i < length es → (i ≡ 0 → low ≡ 0) → (0 < i → low ≡ slice_index ends (i - 1)) → low ≡ 0 + interval_sum (take i es)
low_is es ends zero low a within first later = let e = first refl in rw e (omega arith)
low_is es ends (suc j) low a within first later =
    let e : low ≡ slice_index ends j = later (omega arith) ∙ ap (slice_index ends) (omega arith) in
    let s : slice_index ends j ≡ interval_sum (take (suc j) es) = rw add-one at (a.sums j (omega arith)) in
    omega arith

-- Finds the entry of an offset from the ends of the intervals.
pub place_found : {S : Type 0} (es : List (S × ℕ)) (ends : List ℕ) (cycle p i low high : ℕ) (d : S × ℕ) → AreIntervalEnds es ends → IsEntryIndex ends p i → (i ≡ 0 → low ≡ 0) → (0 < i → low ≡ slice_index ends (i - 1)) → (i + 1 ≡ length ends → high ≡ cycle) → (i + 1 < length ends → high ≡ slice_index ends i) → entry_interval es 0 cycle p ≡ Some (record { state = (get_or es i d).0; start = low; end = high })
place_found es ends cycle p i low high d a here first later last inner =
    let many = a.as_many in
    let within = here.within in
    let begins : low ≡ 0 + interval_sum (take i es) = low_is es ends i low a (omega arith) first later in
    let before : low ≤ p = elim (cases_lt 0 i) [
      | inl some ↦ let b = here.begun some in let l = later some in omega arith
      | inr none ↦ let l = first (omega arith) in omega arith
    ] in
    place_at es 0 cycle p i low high d (omega arith) begins before
    (λ more. let h = inner (omega arith) in let s : slice_index ends i ≡ interval_sum (take (suc i) es) = rw add-one at (a.sums i (omega arith)) in omega arith)
    (λ more. let h = inner (omega arith) in let s = here.goes_on (omega arith) in omega arith)
    (λ only. last (omega arith))
