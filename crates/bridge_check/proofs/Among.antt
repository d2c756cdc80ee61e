-- The fault that `check` reports is in the list of all faults.
use Rattle.std.proofs.Common.{◌≡◌, ℕ, Bool, true, false, List, [], ◌∷◌, Option, Some, None, nat_lt, refl, sym, ap, ◌∙◌, subst, inl, inr, cond, ◌⊎◌}
use Rattle.std.specs.Prelude.{flat_map, option_map}
use Rattle.bridge_limits.specs.Members.{IsMember}
use Rattle.bridge_limits.proofs.Members.{in_left, in_right}
use Rattle.bridge_limits.proofs.Cases.{by_bool}
use Rattle.bridge_filter.specs.declared.FilterPlan.{FilterPlan}
use Rattle.bridge_config.specs.Model.{Plan}
use Rattle.bridge_check.specs.declared.check_fault.CheckFault.{CheckFault}
use Rattle.bridge_check.specs.Faults.{all_faults, failed_tests, filter_failures, first_fault, first_test_fault, is_tested, kind_tests, least_fault, lesser_fault, numbered_fault}
use Rattle.bridge_check.proofs.Least.{neither, no_fault, no_first, Numbered}

-- THE TESTS OF A FILTER

first_fails : (es : List (Option CheckFault)) (e : CheckFault) → first_test_fault es ≡ Some e → IsMember e (failed_tests es)
first_fails [] e h = absurd (cc)
first_fails (None ∷ es) e h = first_fails es e h
first_fails (Some x ∷ es) e h = inl (let same : e ≡ x = cc in same)

none_fails : (es : List (Option CheckFault)) → first_test_fault es ≡ None → failed_tests es ≡ []
none_fails [] h = refl
none_fails (None ∷ es) h = none_fails es h
none_fails (Some x ∷ es) h = absurd (cc)

fails_as : (n : ℕ) (es : List (Option CheckFault)) (x : Numbered) → option_map {U = Numbered} (λ e. (n, e)) (first_test_fault es) ≡ Some x → (o : Option CheckFault) → first_test_fault es ≡ o → IsMember x.1 (failed_tests es)
fails_as n es x h None is = absurd (let no : None ≡ Some x = sym (ap (option_map (λ e. (n, e))) is) ∙ h in cc)
fails_as n es x h (Some e) is =
    let made : Some (n, e) ≡ Some x = sym (ap (option_map (λ e. (n, e))) is) ∙ h in
    let same : (n, e) ≡ x = cc in
    subst (λ y. IsMember y (failed_tests es)) (ap (λ (y : Numbered). y.1) same) (first_fails es e is)

here_by : {A : Type 0} (p : Plan A) (f : ℕ × FilterPlan) (x : Numbered) → numbered_fault p f ≡ Some x → IsMember x.1 (filter_failures p f)
here_by p f x h = by_bool (is_tested f.1)
    (λ is. rw is (fails_as f.0 (kind_tests p f.0 f.1) x (rw is at h) (first_test_fault (kind_tests p f.0 f.1)) refl))
    (λ is. absurd (let no : None ≡ Some x = rw is at h in cc))

none_here : {A : Type 0} (p : Plan A) (f : ℕ × FilterPlan) → numbered_fault p f ≡ None → filter_failures p f ≡ []
none_here p f h = by_bool (is_tested f.1)
    (λ is. rw is (none_fails (kind_tests p f.0 f.1) (no_fault f.0 (first_test_fault (kind_tests p f.0 f.1)) (rw is at h))))
    (λ is. rw is refl)

-- THE FAULTS OF A LIST OF FILTERS

one_by : (b : Bool) (x y z : Numbered) → cond b (Some y) (Some x) ≡ Some z → (Some x ≡ Some z) ⊎ (Some y ≡ Some z)
one_by true x y z h = inr h
one_by false x y z h = inl h

one_of : (a b : Option Numbered) (x : Numbered) → lesser_fault a b ≡ Some x → (a ≡ Some x) ⊎ (b ≡ Some x)
one_of None b x h = inr h
one_of (Some a) None x h = inl h
one_of (Some a) (Some b) x h = one_by (nat_lt b.0 a.0) a b x h

least_fails : {A : Type 0} (p : Plan A) (fs : List (ℕ × FilterPlan)) (x : Numbered) → least_fault p fs ≡ Some x → IsMember x.1 (flat_map (filter_failures p) fs)
least_fails p [] x h = absurd (cc)
least_fails p (f ∷ fs) x h = elim (one_of (numbered_fault p f) (least_fault p fs) x h) [
  | inl own ↦ in_left x.1 (filter_failures p f) (flat_map (filter_failures p) fs) (here_by p f x own)
  | inr later ↦ in_right x.1 (filter_failures p f) (flat_map (filter_failures p) fs) (least_fails p fs x later)
]

none_of_all : {A : Type 0} (p : Plan A) (fs : List (ℕ × FilterPlan)) → least_fault p fs ≡ None → flat_map (filter_failures p) fs ≡ []
none_of_all p [] h = refl
none_of_all p (f ∷ fs) h =
    let (here, rest) = neither (numbered_fault p f) (least_fault p fs) h in
    rw (none_here p f here) (none_of_all p fs rest)

-- THE FAULTS OF A PLAN

is_one : {A : Type 0} (p : Plan A) (e : CheckFault) (o : Option Numbered) → least_fault p p.filters ≡ o → option_map (λ x. x.1) o ≡ Some e → IsMember e (all_faults p)
is_one p e None is h = absurd (cc)
is_one p e (Some x) is h =
    let same : x.1 ≡ e = cc in
    subst (λ y. IsMember y (all_faults p)) same (least_fails p p.filters x is)

pub one : {A : Type 0} (p : Plan A) (e : CheckFault) → first_fault p ≡ Some e → IsMember e (all_faults p)
one p e h = is_one p e (least_fault p p.filters) refl h

pub none : {A : Type 0} (p : Plan A) → first_fault p ≡ None → all_faults p ≡ []
none p h = none_of_all p p.filters (no_first (least_fault p p.filters) h)
