-- Sums over different indices.
use Rattle.std.proofs.Common.{◌≡◌, ◌≢◌, ◌≤◌, ◌+◌, ℕ, zero, suc, List, [], ◌∷◌, Some, map, refl, sym, ap, ◌∙◌, subst, inl, inr, arith}
use Rattle.std.specs.Prelude.{sum_by, drop, slice_get, fold}
use Rattle.std.proofs.lemmas.List.Sums.{sum_by-cons}
use Rattle.bridge_limits.specs.Members.{RelatesToEach, IsMember, IsOrdered}

-- The number at an index; 0 if the index is after the list.
abbrev pub value : List ℕ → ℕ → ℕ
value [] k = 0
value (x ∷ xs) zero = x
value (x ∷ xs) (suc k) = value xs k

-- The sum of all numbers in a list.
abbrev pub total : List ℕ → ℕ
total [] = 0
total (x ∷ xs) = x + total xs

-- The list with 0 at an index.
abbrev cleared : List ℕ → ℕ → List ℕ
cleared [] k = []
cleared (x ∷ xs) zero = 0 ∷ xs
cleared (x ∷ xs) (suc k) = x ∷ cleared xs k

total_cleared : (xs : List ℕ) (k : ℕ) → value xs k + total (cleared xs k) ≡ total xs
total_cleared [] k = refl
total_cleared (x ∷ xs) zero = omega arith
total_cleared (x ∷ xs) (suc k) = let e = total_cleared xs k in omega (arith, e)

value_cleared : (xs : List ℕ) (k j : ℕ) → k ≢ j → value (cleared xs k) j ≡ value xs j
value_cleared [] k j d = refl
value_cleared (x ∷ xs) zero zero d = absurd (d refl)
value_cleared (x ∷ xs) zero (suc j) d = refl
value_cleared (x ∷ xs) (suc k) zero d = refl
value_cleared (x ∷ xs) (suc k) (suc j) d = value_cleared xs k j (λ e. d (ap suc e))

-- The sum of the values at some indices.
abbrev pub total_at : (ℕ → ℕ) → List ℕ → ℕ
total_at v [] = 0
total_at v (k ∷ ks) = v k + total_at v ks

same_values : (xs : List ℕ) (k : ℕ) (ks : List ℕ) → RelatesToEach (λ a b. a ≢ b) k ks → total_at (value (cleared xs k)) ks ≡ total_at (value xs) ks
same_values xs k [] d = refl
same_values xs k (j ∷ ks) d = let here = value_cleared xs k j d.0 in let more = same_values xs k ks d.1 in omega (arith, here, more)

-- The sum of the values at different indices is at most the sum of all numbers.
pub within_total : (ks : List ℕ) (xs : List ℕ) → IsOrdered (λ a b. a ≢ b) ks → total_at (value xs) ks ≤ total xs
within_total [] xs d = omega arith
within_total (k ∷ ks) xs d =
    let more = within_total ks (cleared xs k) d.1 in
    let same = same_values xs k ks d.0 in
    let all = total_cleared xs k in
    omega (arith, more, same, all)

pub total_map : {X : Type 0} (f : X → ℕ) (xs : List X) → total (map f xs) ≡ sum_by f xs
total_map f [] = refl
total_map f (x ∷ xs) = ap (λ (n : ℕ). f x + n) (total_map f xs) ∙ sym (sum_by-cons f x xs)

pub value_map : {X : Type 0} (f : X → ℕ) (xs : List X) (i : ℕ) (x : X) → slice_get xs i ≡ Some x → value (map f xs) i ≡ f x
value_map f [] i x e = absurd (cc)
value_map f (y ∷ xs) zero x e = ap f (let s : y ≡ x = cc in s)
value_map f (y ∷ xs) (suc i) x e = value_map f xs i x e

-- The value at an index other than 0, in a list whose first number is replaced by 0.
pub value_behind : {X : Type 0} (f : X → ℕ) (xs : List X) (i : ℕ) (x : X) → slice_get xs i ≡ Some x → i ≢ 0 → value (0 ∷ map f (drop 1 xs)) i ≡ f x
value_behind f [] i x e d = absurd (cc)
value_behind f (y ∷ xs) zero x e d = absurd (d refl)
value_behind f (y ∷ xs) (suc i) x e d = value_map f xs i x e

-- A fold whose steps never decrease never decreases.
pub grows : {X : Type 0} (g : ℕ → X → ℕ) → ((m : ℕ) (x : X) → m ≤ g m x) → (xs : List X) (a : ℕ) → a ≤ fold g a xs
grows g up [] a = omega arith
grows g up (x ∷ xs) a = let here = up a x in let more = grows g up xs (g a x) in omega (arith, here, more)

pub reaches : {X : Type 0} (g : ℕ → X → ℕ) → ((m : ℕ) (x : X) → m ≤ g m x) → (k : ℕ) (x : X) → ((m : ℕ) → k ≤ g m x) → (xs : List X) (a : ℕ) → IsMember x xs → k ≤ fold g a xs
reaches g up k x is [] a i = absurd i
reaches {X} g up k x is (y ∷ xs) a (inl same) =
    let here : k ≤ g a y = subst (λ (z : X). k ≤ g a z) same (is a) in
    let more = grows g up xs (g a y) in
    omega (arith, here, more)
reaches g up k x is (y ∷ xs) a (inr i) = reaches g up k x is xs (g a y) i
