-- The least time of a row, one port more at a time.
use Rattle.std.proofs.Common.{◌≡◌, ℕ, true, ◌+◌, ◌-◌, ◌<◌, ◌≤◌, arith, refl, sym, subst, inl, inr, Option, Some, None, List, [], ◌∷◌, length, zero, suc}
use Rattle.std.specs.Prelude.{◌⊎◌, nat_le, nat_lt, if◌then◌else◌, slice_index_or}
use Rattle.std.proofs.lemmas.Bool.Decides.{nat_tests}
use Rattle.bridge_limits.proofs.Cases.{by_bool}
use Rattle.bridge_limits.proofs.Options.{none_of}
use Rattle.bridge_events.specs.Least.{IsLeast, entry, earlier_entry, row_time}

-- Times of the ports up to `n`.
abbrev pub up_to : ℕ → (ℕ → Option ℕ) → ℕ → Option ℕ
up_to n held p = if nat_le p n then held p else None

pub none_some : (o : Option ℕ) (u : ℕ) → o ≡ None → o ≡ Some u → ⊥
none_some o u h k = cc

pub some_is : (o : Option ℕ) (t u : ℕ) → o ≡ Some t → o ≡ Some u → t ≡ u
some_is o t u h k = cc

within : (n : ℕ) (held : ℕ → Option ℕ) (p u : ℕ) → up_to n held p ≡ Some u → (p ≤ n) × (held p ≡ Some u)
within n held p u h = by_bool (nat_le p n)
    (λ y. (grind (arith, nat_tests), rw y at h))
    (λ y. let z : None ≡ Some u = rw y at h in cc)

inside : (n : ℕ) (held : ℕ → Option ℕ) (p u : ℕ) → p ≤ n → held p ≡ Some u → up_to n held p ≡ Some u
inside n held p u l h = let y : nat_le p n ≡ true = grind (arith, nat_tests) in rw y h

below : (n : ℕ) (held : ℕ → Option ℕ) (p u : ℕ) → up_to (n + 1) held p ≡ Some u → (up_to n held p ≡ Some u) ⊎ ((p ≡ n + 1) × (held (n + 1) ≡ Some u))
below n held p u h =
    let w = within (n + 1) held p u h in
    let l = w.0 in
    by_bool (nat_le p n)
    (λ y. inl (rw y w.1))
    (λ y. let e : p ≡ n + 1 = grind (arith, nat_tests) in inr (e, subst (λ (m : ℕ). held m ≡ Some u) e w.1))

pub least_none : (held : ℕ → Option ℕ) → held 0 ≡ None → IsLeast (up_to 0 held) None
least_none held none p = none_of (up_to 0 held p) (λ u h. let w = within 0 held p u h in let l = w.0 in let e : p ≡ 0 = omega arith in none_some (held p) u (subst (λ (m : ℕ). held m ≡ None) (sym e) none) w.1)

least_by : (n : ℕ) (held : ℕ → Option ℕ) (best o : Option (ℕ × ℕ)) (moment : Option ℕ) → held (n + 1) ≡ moment → o ≡ entry (n + 1) moment → IsLeast (up_to n held) best → IsLeast (up_to (n + 1) held) (earlier_entry best (entry (n + 1) moment))
least_by n held None o None h e l = λ p. none_of (up_to (n + 1) held p) (λ u k. elim (below n held p u k) [ inl a ↦ none_some _ u (l p) a | inr a ↦ none_some _ u h a.1 ])
least_by n held None o (Some t) h e l = (
  inside (n + 1) held (n + 1) t (omega arith) h,
  λ p u k. elim (below n held p u k) [ inl a ↦ absurd (none_some _ u (l p) a) | inr a ↦ (let z = a.0 in inr (some_is _ t u h a.1, omega arith)) ],
)
least_by n held (Some b) o None h e l = (
  (let w = within n held b.0 b.1 l.0 in let z = w.0 in inside (n + 1) held b.0 b.1 (omega arith) w.1),
  λ p u k. elim (below n held p u k) [ inl a ↦ l.1 p u a | inr a ↦ absurd (none_some _ u h a.1) ],
)
least_by n held (Some b) o (Some t) h e l =
    let w = within n held b.0 b.1 l.0 in
    let z = w.0 in
    by_bool (nat_lt t b.1)
    (λ y.
    let s : t < b.1 = grind (arith, nat_tests) in
    rw y (
      inside (n + 1) held (n + 1) t (omega arith) h,
      λ p u k. elim (below n held p u k) [ inl a ↦ elim (l.1 p u a) [ inl c ↦ inl (omega arith) | inr c ↦ (let d = c.0 in inl (omega arith)) ] | inr a ↦ (let q = a.0 in inr (some_is _ t u h a.1, omega arith)) ],
    ))
    (λ y.
    let s : b.1 ≤ t = grind (arith, nat_tests) in
    rw y (
      inside (n + 1) held b.0 b.1 (omega arith) w.1,
      λ p u k. elim (below n held p u k) [ inl a ↦ l.1 p u a | inr a ↦ (let q = a.0 in let r = some_is _ t u h a.1 in by_bool (nat_lt b.1 t) (λ v. inl (grind (arith, nat_tests))) (λ v. inr (grind (arith, nat_tests), omega arith))) ],
    ))

pub least_more : (n : ℕ) (held : ℕ → Option ℕ) (best : Option (ℕ × ℕ)) (moment : Option ℕ) → held (n + 1) ≡ moment → IsLeast (up_to n held) best → IsLeast (up_to (n + 1) held) (earlier_entry best (entry (n + 1) moment))
least_more n held best moment h l = least_by n held best (entry (n + 1) moment) moment h refl l

-- If no port above `n` has a time, the least time up to `n` is the least of all.
pub least_all : (n : ℕ) (held : ℕ → Option ℕ) (best : Option (ℕ × ℕ)) → ((p : ℕ) → n < p → held p ≡ None) → IsLeast (up_to n held) best → IsLeast held best
least_all n held None h l = λ p. none_of (held p) (λ u k. by_bool (nat_le p n)
    (λ y. none_some _ u (l p) (inside n held p u (grind (arith, nat_tests)) k))
    (λ y. none_some _ u (h p (grind (arith, nat_tests))) k))
least_all n held (Some b) h l = (
  (within n held b.0 b.1 l.0).1,
  λ p u k. by_bool (nat_le p n)
      (λ y. l.1 p u (inside n held p u (grind (arith, nat_tests)) k))
      (λ y. absurd (none_some _ u (h p (grind (arith, nat_tests))) k)),
)

pub in_row_next : (row : List (Option ℕ)) (n : ℕ) → row_time row (n + 1) ≡ slice_index_or row n None
in_row_next row n = let y : nat_le 1 (n + 1) ≡ true = grind (arith, nat_tests) in let z : n + 1 - 1 ≡ n = omega arith in rw (y, z) refl

past : (row : List (Option ℕ)) (n : ℕ) → length row ≤ n → slice_index_or row n None ≡ None
past [] n h = refl
past (x ∷ row) zero h = absurd (let e : length (x ∷ row) ≡ length row + 1 = grind arith in omega arith)
past (x ∷ row) (suc n) h = past row n (let e : length (x ∷ row) ≡ length row + 1 = grind arith in omega arith)

pub in_row_past : (row : List (Option ℕ)) (p : ℕ) → length row < p → row_time row p ≡ None
in_row_past row p h = let y : nat_le 1 p ≡ true = grind (arith, nat_tests) in rw y (past row (p - 1) (omega arith))
