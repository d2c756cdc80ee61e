-- The groups that plans name: each group is named and stands once.
use Rattle.std.proofs.Common.{◌≡◌, ◌<◌, ℕ, zero, suc, true, List, [], ◌∷◌, take, length, get_or, Option, None, Some, refl, sym, subst, inl, inr, fold, arith, eq-eqb}
use Rattle.std.proofs.lemmas.Slice.Eq.{bytes_eq-Decides}
use Rattle.bridge_limits.specs.Members.{IsMember, RelatesToEach, IsOrdered}
use Rattle.bridge_limits.proofs.Cases.{by_bool}
use Rattle.bridge_limits.proofs.Members.{in_push, passes_any, rising_push}
use Rattle.bridge_forward.specs.declared.StaticEntry.{StaticEntry}
use Rattle.bridge_forward.specs.declared.Vlan.{Vlan}
use Rattle.bridge_config.specs.Model.{Plan}
use Rattle.net_model.specs.declared.frame_groups.FrameGroup.{FrameGroup}
use Rattle.net_model.specs.FrameGroups.{Differ, all_groups, group_by, has_group, is_same_destination, is_same_group, is_same_vlan, with_group, with_static_entry, with_plan, with_vlan}
use Rattle.net_model.specs.ForwardingLoops.{IsNamedGroup, HasStaticEntry, HasVlan}

-- A GROUP EQUALS ITSELF

one_vlan : (v : Option ℕ) → is_same_vlan v v ≡ true
one_vlan None = refl
one_vlan (Some a) = eq-eqb a a refl

one_destination : (d : Option (List ℕ)) → is_same_destination d d ≡ true
one_destination None = refl
one_destination (Some a) = (bytes_eq-Decides a a).1 refl

one_group : (g : FrameGroup) → is_same_group g g ≡ true
one_group g = rw (one_vlan g.vlan, one_destination g.destination) refl

has_listed : (groups : List FrameGroup) (h g : FrameGroup) → IsMember h groups → h ≡ g → has_group groups g ≡ true
has_listed groups h g i e = passes_any (λ (x : FrameGroup). is_same_group x g) groups h i (subst (λ x. is_same_group h x ≡ true) e (one_group h))

-- NAMED GROUPS, EACH ONCE

pub record AreNamedOnce {A : Type 0} (plans : List (Plan A)) (groups : List FrameGroup) : Type 0 where
  pub named : (g : FrameGroup) → IsMember g groups → IsNamedGroup plans g
  pub once : IsOrdered Differ groups

with_one : {A : Type 0} (plans : List (Plan A)) (groups : List FrameGroup) (g : FrameGroup) → IsNamedGroup plans g → AreNamedOnce plans groups → AreNamedOnce plans (with_group groups g)
with_one plans groups g is are = by_bool (has_group groups g)
    (λ t. rw t are)
    (λ f. rw f (record {
      named = λ h i. elim (in_push h g groups i) [
        | inl old ↦ are.named h old
        | inr e ↦ subst (λ x. IsNamedGroup plans x) (sym e) is
      ];
      once = rising_push Differ groups g are.once (λ h i e. let t = has_listed groups h g i e in absurd (cc));
    }))

fold_keeps : {A Y : Type 0} (plans : List (Plan A)) (add : List FrameGroup → Y → List FrameGroup) (ys : List Y) → ((groups : List FrameGroup) (y : Y) → IsMember y ys → AreNamedOnce plans groups → AreNamedOnce plans (add groups y))
    → (groups : List FrameGroup) → AreNamedOnce plans groups → AreNamedOnce plans (fold add groups ys)
fold_keeps plans add [] keeps groups are = are
fold_keeps plans add (y ∷ ys) keeps groups are = fold_keeps plans add ys (λ more z i. keeps more z (inr i)) (add groups y) (keeps groups y (inl refl) are)

known_keeps : {A : Type 0} (plans : List (Plan A)) (p : Plan A) → IsMember p plans → (groups : List FrameGroup) (e : StaticEntry) → IsMember e p.database.statics → AreNamedOnce plans groups → AreNamedOnce plans (with_static_entry groups e)
known_keeps plans p listed groups e i are =
    let names : HasStaticEntry plans e.vid e.address = record { plan = p; listed = listed; entry = e; is = i; vid_is = refl; address_is = refl } in
    with_one plans (with_group groups (group_by (Some e.vid) (Some e.address))) (group_by None (Some e.address)) (e.vid, names)
    (with_one plans groups (group_by (Some e.vid) (Some e.address)) names are)

vlan_keeps : {A : Type 0} (plans : List (Plan A)) (p : Plan A) → IsMember p plans → (groups : List FrameGroup) (v : Vlan) → IsMember v p.database.vlans → AreNamedOnce plans groups → AreNamedOnce plans (with_vlan groups v)
vlan_keeps plans p listed groups v i are =
    let names : HasVlan plans v.vid = record { plan = p; listed = listed; vlan = v; is = i; vid_is = refl } in
    with_one plans groups (group_by (Some v.vid) None) names are

plan_keeps : {A : Type 0} (plans : List (Plan A)) (groups : List FrameGroup) (p : Plan A) → IsMember p plans → AreNamedOnce plans groups → AreNamedOnce plans (with_plan groups p)
plan_keeps plans groups p listed are =
    fold_keeps plans with_vlan p.database.vlans (vlan_keeps plans p listed) (fold with_static_entry groups p.database.statics)
    (fold_keeps plans with_static_entry p.database.statics (known_keeps plans p listed) groups are)

-- All groups are named, each once.
pub all_named_once : {A : Type 0} (plans : List (Plan A)) → AreNamedOnce plans (all_groups plans)
all_named_once {A} plans =
    let none : AreNamedOnce plans [] = record { named = λ g i. absurd i; once = tt } in
    with_one plans (fold with_plan [] plans) (group_by None None) tt (fold_keeps plans with_plan plans (plan_keeps plans) [] none)

-- ITEMS OF AN ORDERED LIST

later_at : {X : Type 0} (R : X → X → Type 0) (x : X) (ys : List X) (i : ℕ) (d : X) → i < length ys → RelatesToEach R x ys → R x (get_or ys i d)
later_at R x [] i d less all = absurd (omega (arith, less))
later_at R x (y ∷ ys) zero d less all = all.0
later_at R x (y ∷ ys) (suc i) d less all = later_at R x ys i d (omega (arith, less)) all.1

-- Each of the first items is related to the next item.
pub earlier_at : {X : Type 0} (R : X → X → Type 0) (xs : List X) (i : ℕ) (d x : X) → i < length xs → IsOrdered R xs → IsMember x (take i xs) → R x (get_or xs i d)
earlier_at R [] i d x less rises j = absurd (omega (arith, less))
earlier_at R (y ∷ ys) zero d x less rises j = absurd j
earlier_at R (y ∷ ys) (suc i) d x less rises (inl e) = subst (λ z. R z (get_or ys i d)) (sym e) (later_at R y ys i d (omega (arith, less)) rises.0)
earlier_at R (y ∷ ys) (suc i) d x less rises (inr j) = earlier_at R ys i d x (omega (arith, less)) rises.1 j
