-- Members of lists with numbers.
use Rattle.std.proofs.Common.{◌≡◌, ℕ, true, List, [], ◌∷◌, Some, refl, ap, sym, ◌∙◌, subst, inl, inr}
use Rattle.std.specs.Prelude.{nat_eq, not}
use Rattle.std.specs.Option.{is_some}
use Rattle.std.specs.Map.{lookup}
use Rattle.std.proofs.lemmas.Option.{same_Some}
use Rattle.std.proofs.lemmas.Bool.{eqb-true, false≢true, and_parts, not-true}
use Rattle.bridge_limits.specs.Members.{IsMember}
use Rattle.bridge_limits.proofs.Cases.{by_bool}
use Rattle.bridge_limits.proofs.Orders.{same_eq}
use Rattle.bridge_filter.specs.Plans.{is_listed, are_numbers_distinct}

number_there : {X : Type 0} (n : ℕ) (xs : List (ℕ × X)) (x : X) → lookup (nat_eq n) xs ≡ Some x → is_listed n xs ≡ true
number_there n xs x h = ap is_some h

-- If numbers are distinct, looking up the number of a member gives this member.
pub member_found : {X : Type 0} (xs : List (ℕ × X)) (n : ℕ) (x : X) → are_numbers_distinct xs ≡ true → IsMember (n, x) xs → lookup (nat_eq n) xs ≡ Some x
member_found [] n x d i = absurd i
member_found {X} (y ∷ ys) n x d (inl e) =
    let here : lookup (nat_eq y.0) (y ∷ ys) ≡ Some y.1 = rw (same_eq y.0) refl in
    subst (λ (z : ℕ × X). lookup (nat_eq z.0) (y ∷ ys) ≡ Some z.1) (sym e) here
member_found (y ∷ ys) n x d (inr i) =
    let (apart, rest) = and_parts (not (is_listed y.0 ys)) (are_numbers_distinct ys) d in
    let later = member_found ys n x rest i in
    by_bool (nat_eq n y.0)
    (λ e.
    let there : is_listed y.0 ys ≡ true = subst (λ (m : ℕ). is_listed m ys ≡ true) (eqb-true n y.0 e) (number_there n ys x later) in
    absurd (false≢true (sym (not-true (is_listed y.0 ys) apart) ∙ there)))
    (λ e. rw e later)

-- If numbers are distinct, each number has one value.
pub one_number : {X : Type 0} (xs : List (ℕ × X)) (n : ℕ) (x y : X) → are_numbers_distinct xs ≡ true → IsMember (n, x) xs → IsMember (n, y) xs → x ≡ y
one_number xs n x y d i j = same_Some x y (sym (member_found xs n x d i) ∙ member_found xs n y d j)
