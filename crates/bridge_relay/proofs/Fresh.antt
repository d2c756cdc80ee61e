-- An empty recorder for each filter, in a loop.
use Rattle.std.proofs.Common.{◌≡◌, ℕ, true, List, [], ◌∷◌, ◌++◌, ◌+◌, ◌<◌, refl, sym, length, take, get_or, Some, None}
use Rattle.std.specs.Prelude.{nat_eq}
use Rattle.std.specs.Map.{lookup}
use Rattle.std.proofs.lemmas.List.{take_more, map-append}
use Rattle.bridge_limits.proofs.Cases.{by_bool}
use Rattle.bridge_filter.specs.declared.FilterPlan.{FilterPlan}
use Rattle.bridge_filter.specs.Plans.{are_numbers_distinct}
use Rattle.bridge_filter.proofs.Made.{distinct_at}
use Rattle.bridge_relay.specs.Records.{empty_recorder, empty_recorders}

pub fresh-more : (fs : List (ℕ × FilterPlan)) (i : ℕ) (d : ℕ × FilterPlan) → i < length fs → empty_recorders (take i fs) ++ ((get_or fs i d).0, empty_recorder) ∷ [] ≡ empty_recorders (take (i + 1) fs)
fresh-more fs i d h = rw (take_more fs i d h) (sym (map-append (λ (f : ℕ × FilterPlan). (f.0, empty_recorder)) (take i fs) (get_or fs i d ∷ [])))

absent_by : (n : ℕ) (fs : List (ℕ × FilterPlan)) → lookup (nat_eq n) fs ≡ None → lookup (nat_eq n) (empty_recorders fs) ≡ None
absent_by n [] h = refl
absent_by n (f ∷ fs) h = by_bool (nat_eq n f.0)
    (λ e. absurd (let z : Some f.1 ≡ None = rw e at h in cc))
    (λ e. let k : lookup (nat_eq n) fs ≡ None = rw e at h in rw e (absent_by n fs k))

pub fresh_absent : (fs : List (ℕ × FilterPlan)) (i : ℕ) (d : ℕ × FilterPlan) → i < length fs → are_numbers_distinct fs ≡ true → lookup (nat_eq (get_or fs i d).0) (empty_recorders (take i fs)) ≡ None
fresh_absent fs i d h distinct = absent_by (get_or fs i d).0 (take i fs) (distinct_at fs i d h distinct)
