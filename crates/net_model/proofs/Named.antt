-- Each group that the plans name is one of all groups.
use Rattle.std.proofs.Common.{◌≡◌, ℕ, true, List, [], ◌∷◌, Option, None, Some, refl, ap, ap₂, subst, inl, inr, fold}
use Rattle.std.proofs.lemmas.Bool.{and_parts, eqb-true}
use Rattle.bridge_limits.specs.Members.{IsMember}
use Rattle.bridge_limits.proofs.Cases.{by_bool}
use Rattle.bridge_limits.proofs.Members.{in_end, in_left}
use Rattle.bridge_limits.proofs.Octets.{same_bytes}
use Rattle.bridge_forward.specs.declared.StaticEntry.{StaticEntry}
use Rattle.bridge_forward.specs.declared.Vlan.{Vlan}
use Rattle.bridge_config.specs.Model.{Plan}
use Rattle.net_model.proofs.Filtered.{found}
use Rattle.net_model.specs.declared.frame_groups.FrameGroup.{FrameGroup}
use Rattle.net_model.specs.FrameGroups.{all_groups, group_by, has_group, is_same_destination, is_same_group, is_same_vlan, with_group, with_static_entry, with_plan, with_vlan}
use Rattle.net_model.specs.ForwardingLoops.{IsNamedGroup, IsGroupNamed}

same_vlan : (a b : Option ℕ) → is_same_vlan a b ≡ true → a ≡ b
same_vlan None None t = refl
same_vlan None (Some b) t = absurd (cc)
same_vlan (Some a) None t = absurd (cc)
same_vlan (Some a) (Some b) t = ap Some (eqb-true a b t)

same_destination : (a b : Option (List ℕ)) → is_same_destination a b ≡ true → a ≡ b
same_destination None None t = refl
same_destination None (Some b) t = absurd (cc)
same_destination (Some a) None t = absurd (cc)
same_destination (Some a) (Some b) t = ap Some (same_bytes a b t)

same_group : (a b : FrameGroup) → is_same_group a b ≡ true → a ≡ b
same_group a b t =
    let parts = and_parts (is_same_vlan a.vlan b.vlan) (is_same_destination a.destination b.destination) t in
    ap₂ group_by (same_vlan a.vlan b.vlan parts.0) (same_destination a.destination b.destination parts.1)

-- ONE GROUP MORE

in_with : (groups : List FrameGroup) (g x : FrameGroup) → IsMember x groups → IsMember x (with_group groups g)
in_with groups g x i = by_bool (has_group groups g) (λ t. rw t i) (λ f. rw f (in_left x groups (g ∷ []) i))

has_with : (groups : List FrameGroup) (g : FrameGroup) → IsMember g (with_group groups g)
has_with groups g = by_bool (has_group groups g)
    (λ t. let f = found (λ (h : FrameGroup). is_same_group h g) groups t in rw t (subst (λ h. IsMember h groups) (same_group f.item g f.passes) f.listed))
    (λ f. rw f (in_end g groups))

-- MANY GROUPS MORE

-- Adding groups removes none.
Keeps : {Y : Type 0} → (List FrameGroup → Y → List FrameGroup) → Type 0
Keeps {Y} add = (groups : List FrameGroup) (y : Y) (x : FrameGroup) → IsMember x groups → IsMember x (add groups y)

in_fold : {Y : Type 0} (add : List FrameGroup → Y → List FrameGroup) → ((groups : List FrameGroup) (y : Y) (x : FrameGroup) → IsMember x groups → IsMember x (add groups y)) → (groups : List FrameGroup) (ys : List Y) (x : FrameGroup) → IsMember x groups → IsMember x (fold add groups ys)
in_fold add keeps groups [] x i = i
in_fold add keeps groups (y ∷ ys) x i = in_fold add keeps (add groups y) ys x (keeps groups y x i)

has_fold : {Y : Type 0} (add : List FrameGroup → Y → List FrameGroup) → ((groups : List FrameGroup) (y : Y) (x : FrameGroup) → IsMember x groups → IsMember x (add groups y)) → (groups : List FrameGroup) (ys : List Y) (y : Y) (g : FrameGroup) → ((groups : List FrameGroup) → IsMember g (add groups y)) → IsMember y ys → IsMember g (fold add groups ys)
has_fold add keeps groups [] y g adds i = absurd i
has_fold add keeps groups (z ∷ zs) y g adds (inl e) = in_fold add keeps (add groups z) zs g (subst (λ w. IsMember g (add groups w)) e (adds groups))
has_fold add keeps groups (z ∷ zs) y g adds (inr i) = has_fold add keeps (add groups z) zs y g adds i

known_keeps : (groups : List FrameGroup) (e : StaticEntry) (x : FrameGroup) → IsMember x groups → IsMember x (with_static_entry groups e)
known_keeps groups e x i = in_with (with_group groups (group_by (Some e.vid) (Some e.address))) (group_by None (Some e.address)) x (in_with groups (group_by (Some e.vid) (Some e.address)) x i)

vlan_keeps : (groups : List FrameGroup) (v : Vlan) (x : FrameGroup) → IsMember x groups → IsMember x (with_vlan groups v)
vlan_keeps groups v x i = in_with groups (group_by (Some v.vid) None) x i

plan_keeps : {A : Type 0} (groups : List FrameGroup) (p : Plan A) (x : FrameGroup) → IsMember x groups → IsMember x (with_plan groups p)
plan_keeps groups p x i = in_fold with_vlan vlan_keeps (fold with_static_entry groups p.database.statics) p.database.vlans x (in_fold with_static_entry known_keeps groups p.database.statics x i)

-- A NAMED GROUP

by_entry : {A : Type 0} (groups : List FrameGroup) (p : Plan A) (e : StaticEntry) (g : FrameGroup) → IsMember e p.database.statics → ((groups : List FrameGroup) → IsMember g (with_static_entry groups e)) → IsMember g (with_plan groups p)
by_entry groups p e g i adds = in_fold with_vlan vlan_keeps (fold with_static_entry groups p.database.statics) p.database.vlans g (has_fold with_static_entry known_keeps groups p.database.statics e g adds i)

entry_vlan : (e : StaticEntry) (groups : List FrameGroup) → IsMember (group_by (Some e.vid) (Some e.address)) (with_static_entry groups e)
entry_vlan e groups = in_with (with_group groups (group_by (Some e.vid) (Some e.address))) (group_by None (Some e.address)) (group_by (Some e.vid) (Some e.address)) (has_with groups (group_by (Some e.vid) (Some e.address)))

entry_none : (e : StaticEntry) (groups : List FrameGroup) → IsMember (group_by None (Some e.address)) (with_static_entry groups e)
entry_none e groups = has_with (with_group groups (group_by (Some e.vid) (Some e.address))) (group_by None (Some e.address))

by_vlan : {A : Type 0} (groups : List FrameGroup) (p : Plan A) (v : Vlan) → IsMember v p.database.vlans → IsMember (group_by (Some v.vid) None) (with_plan groups p)
by_vlan groups p v i = has_fold with_vlan vlan_keeps (fold with_static_entry groups p.database.statics) p.database.vlans v (group_by (Some v.vid) None) (λ gs. has_with gs (group_by (Some v.vid) None)) i

in_all : {A : Type 0} (plans : List (Plan A)) (p : Plan A) (g : FrameGroup) → IsMember p plans → ((groups : List FrameGroup) → IsMember g (with_plan groups p)) → IsMember g (all_groups plans)
in_all plans p g i adds = in_with (fold with_plan [] plans) (group_by None None) g (has_fold with_plan plan_keeps [] plans p g adds i)

named : {A : Type 0} (plans : List (Plan A)) (vlan : Option ℕ) (destination : Option (List ℕ)) → IsGroupNamed plans vlan destination → IsMember (group_by vlan destination) (all_groups plans)
named plans (Some vid) (Some address) is =
    let here : IsMember (group_by (Some is.entry.vid) (Some is.entry.address)) (all_groups plans) = in_all plans is.plan (group_by (Some is.entry.vid) (Some is.entry.address)) is.listed (λ gs. by_entry gs is.plan is.entry (group_by (Some is.entry.vid) (Some is.entry.address)) is.is (entry_vlan is.entry)) in
    subst (λ v. IsMember (group_by (Some v) (Some address)) (all_groups plans)) is.vid_is (subst (λ a. IsMember (group_by (Some is.entry.vid) (Some a)) (all_groups plans)) is.address_is here)
named plans None (Some address) (vid, is) =
    let here : IsMember (group_by None (Some is.entry.address)) (all_groups plans) = in_all plans is.plan (group_by None (Some is.entry.address)) is.listed (λ gs. by_entry gs is.plan is.entry (group_by None (Some is.entry.address)) is.is (entry_none is.entry)) in
    subst (λ a. IsMember (group_by None (Some a)) (all_groups plans)) is.address_is here
named plans (Some vid) None is =
    let here : IsMember (group_by (Some is.vlan.vid) None) (all_groups plans) = in_all plans is.plan (group_by (Some is.vlan.vid) None) is.listed (λ gs. by_vlan gs is.plan is.vlan is.is) in
    subst (λ v. IsMember (group_by (Some v) None) (all_groups plans)) is.vid_is here
named plans None None is = has_with (fold with_plan [] plans) (group_by None None)

-- A group that the plans name is one of all groups.
pub is_among_all : {A : Type 0} (plans : List (Plan A)) (g : FrameGroup) → IsNamedGroup plans g → IsMember g (all_groups plans)
is_among_all plans g is = named plans g.vlan g.destination is
