use Rattle.std.proofs.Common.{◌≡◌, ℕ, Bool, List, [], ◌∷◌, arith, refl, ap, sym, subst, inl, inr}
use Rattle.std.proofs.lemmas.Bool.{cases_order, both_ways}
use Rattle.bridge_cycle.specs.Fits.{IsFirstFit}
use Rattle.bridge_port.specs.Schedule.{Fate, Never, Full, Queued, Started, Copy, PortRules}
use Rattle.bridge_port.specs.Solo.{IsSoloFate, IsSolo, HaveSameOffers}

pub first_one : (opens : ℕ → Bool) (occ from s t : ℕ) → IsFirstFit opens occ from s → IsFirstFit opens occ from t → s ≡ t
first_one opens occ from s t a b = elim (cases_order s t) [
  | inl e ↦ e
  | inr q ↦ elim q [ inl l ↦ absurd (b.least s a.after l a.fits) | inr l ↦ absurd (a.least t b.after l b.fits) ]
]

one_fate : {X : Type 0} (r : PortRules X) (x : Copy X) (xs : List (Copy X)) (f g : Fate) → IsSoloFate r x xs f → IsSoloFate r x xs g → f ≡ g
one_fate r x xs Never Never a b = refl
one_fate r x xs Never Full a b = absurd (both_ways _ a b.0)
one_fate r x xs Never Queued a b = absurd b
one_fate r x xs Never (Started t) a b = absurd (both_ways _ a b.0)
one_fate r x xs Full Never a b = absurd (both_ways _ b a.0)
one_fate r x xs Full Full a b = refl
one_fate r x xs Full Queued a b = absurd b
one_fate r x xs Full (Started t) a b = absurd (let p = a.1 in let q = b.1 in omega arith)
one_fate r x xs Queued g a b = absurd a
one_fate r x xs (Started s) Never a b = absurd (both_ways _ b a.0)
one_fate r x xs (Started s) Full a b = absurd (let p = a.1 in let q = b.1 in omega arith)
one_fate r x xs (Started s) Queued a b = absurd b
one_fate r x xs (Started s) (Started t) a b = ap Started (first_one _ _ _ s t a.2 b.2)

-- The fates of a queue that has the link alone follow from its offers.
pub one_outcome : {X : Type 0} (r : PortRules X) (xs ys : List (Copy X)) → HaveSameOffers xs ys → IsSolo r xs → IsSolo r ys → xs ≡ ys
one_outcome r [] [] s a b = refl
one_outcome r [] (y ∷ ys) s a b = absurd s
one_outcome r (x ∷ xs) [] s a b = absurd s
one_outcome {X} r (x ∷ xs) (y ∷ ys) s a b =
    let rest : xs ≡ ys = one_outcome r xs ys s.3 a.1 b.1 in
    let z : Copy X = record { at = x.at; class = x.class; item = x.item; fate = y.fate } in
    let same : z ≡ y = rw (s.0, s.1, s.2) refl in
    let moved : IsSoloFate r z xs y.fate = subst (λ (w : Copy X). IsSoloFate r w xs y.fate) (sym same) (subst (λ (ws : List (Copy X)). IsSoloFate r y ws y.fate) (sym rest) b.0) in
    let fate : x.fate ≡ y.fate = one_fate r x xs x.fate y.fate a.0 moved in
    let eq : x ≡ y = rw (s.0, s.1, s.2, fate) refl in
    rw (eq, rest) refl
