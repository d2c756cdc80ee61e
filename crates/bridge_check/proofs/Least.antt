-- The fault of the lowest-numbered filter, by induction over the filters.
use Rattle.std.proofs.Common.{◌≡◌, ℕ, Bool, true, false, List, [], ◌∷◌, Option, Some, None, nat_lt, refl, sym, ap, ◌∙◌, arith, inl, inr, cond}
use Rattle.std.specs.Prelude.{option_map}
use Rattle.std.proofs.lemmas.Bool.{ltb-true, lt-ltb, ltb-false, le-ltb}
use Rattle.bridge_limits.specs.Members.{IsMember}
use Rattle.bridge_limits.proofs.Cases.{by_bool}
use Rattle.bridge_filter.specs.declared.FilterPlan.{FilterPlan}
use Rattle.bridge_config.specs.Model.{Plan}
use Rattle.bridge_config.specs.Rules.{IsPlan}
use Rattle.bridge_check.specs.declared.check_fault.CheckFault.{CheckFault}
use Rattle.bridge_check.specs.Faults.{lesser_fault, filter_fault, member_fault, numbered_fault, least_fault, first_fault}
use Rattle.bridge_check.specs.Acceptable.{HasAcceptableGroups, IsAcceptable}
use Rattle.bridge_check.proofs.Grouped.{alone_in_group}

abbrev pub Numbered : Type 0
Numbered = ℕ × CheckFault

three : (a b c : Numbered) → lesser_fault (lesser_fault (Some a) (Some b)) (Some c) ≡ lesser_fault (Some a) (lesser_fault (Some b) (Some c))
three a b c = by_bool (nat_lt b.0 a.0)
    (λ ba. by_bool (nat_lt c.0 b.0)
    (λ cb. let ca : nat_lt c.0 a.0 ≡ true = lt-ltb c.0 a.0 (let h = ltb-true b.0 a.0 ba in let k = ltb-true c.0 b.0 cb in omega (arith, h, k)) in rw (ba, cb, ca) refl)
    (λ cb. rw (ba, cb) (sym (rw ba refl))))
    (λ ba. by_bool (nat_lt c.0 b.0)
    (λ cb. rw (ba, cb) refl)
    (λ cb. let ca : nat_lt c.0 a.0 ≡ false = le-ltb c.0 a.0 (let h = ltb-false b.0 a.0 ba in let k = ltb-false c.0 b.0 cb in omega (arith, h, k)) in rw (ba, cb) (rw (ba, ca) refl)))

pub lesser_none : (a : Option Numbered) → lesser_fault a None ≡ a
lesser_none None = refl
lesser_none (Some a) = refl

pub lesser_assoc : (a b c : Option Numbered) → lesser_fault (lesser_fault a b) c ≡ lesser_fault a (lesser_fault b c)
lesser_assoc None b c = refl
lesser_assoc (Some a) None c = refl
lesser_assoc (Some a) (Some b) None = lesser_none (lesser_fault (Some a) (Some b))
lesser_assoc (Some a) (Some b) (Some c) = three a b c

neither_by : (x : Bool) (a b : Numbered) → cond x (Some b) (Some a) ≡ None → ⊥
neither_by true a b h = absurd (cc)
neither_by false a b h = absurd (cc)

pub neither : (a b : Option Numbered) → lesser_fault a b ≡ None → (a ≡ None) × (b ≡ None)
neither None b h = (refl, h)
neither (Some a) None h = absurd (cc)
neither (Some a) (Some b) h = absurd (neither_by (nat_lt b.0 a.0) a b h)

pub no_fault : (n : ℕ) (o : Option CheckFault) → option_map {U = Numbered} (λ e. (n, e)) o ≡ None → o ≡ None
no_fault n None h = refl
no_fault n (Some e) h = absurd (cc)

-- If no filter of a list has a fault, a given one has none.
none_of : {A : Type 0} (p : Plan A) (fs : List (ℕ × FilterPlan)) → least_fault p fs ≡ None → (n : ℕ) (f : FilterPlan) → IsMember (n, f) fs → numbered_fault p (n, f) ≡ None
none_of p [] h n f i = absurd i
none_of p (g ∷ gs) h n f (inl e) = let (here, rest) = neither (numbered_fault p g) (least_fault p gs) h in ap (numbered_fault p) e ∙ here
none_of p (g ∷ gs) h n f (inr i) = let (here, rest) = neither (numbered_fault p g) (least_fault p gs) h in none_of p gs rest n f i

pub no_first : (o : Option Numbered) → option_map (λ x. x.1) o ≡ None → o ≡ None
no_first None h = refl
no_first (Some x) h = absurd (cc)

none_of_plan : {A : Type 0} (p : Plan A) → first_fault p ≡ None → (n : ℕ) (f : FilterPlan) → IsMember (n, f) p.filters → numbered_fault p (n, f) ≡ None
none_of_plan p h = none_of p p.filters (no_first (least_fault p p.filters) h)

pub acceptable : {A : Type 0} (p : Plan A) → first_fault p ≡ None → IsAcceptable p
acceptable p h n f i is =
    let own : numbered_fault p (n, f) ≡ None = none_of_plan p h n f i in
    no_fault n (filter_fault p n f) (rw is at own)

-- A protected filter that passes its tests also passes those of a group, so it makes no exception.
pub acceptable_groups : {A : Type 0} (p : Plan A) → IsPlan p → first_fault p ≡ None → HasAcceptableGroups p
acceptable_groups p plan h k n f i grouped = by_bool f.protected
    (λ is. alone_in_group p k n f plan i grouped (acceptable p h n f i is))
    (λ is.
    let own : numbered_fault p (n, f) ≡ None = none_of_plan p h n f i in
    no_fault n (member_fault p k n f) (rw (is, grouped) at own))
