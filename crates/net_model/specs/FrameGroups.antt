-- Groups of frames that bridges forward alike: by the VLAN of their tag or none, and by a destination or all others.
use Rattle.std.specs.Prelude.{◌≢◌, ℕ, Bool, true, false, ◌&&◌, nat_eq, List, [], ◌∷◌, ◌++◌, Option, None, Some, fold, if◌then◌else◌}
use Rattle.std.specs.List.{list_any}
use Rattle.std.specs.Str.{bytes_eq}
use Rattle.bridge_forward.specs.declared.StaticEntry.{StaticEntry}
use Rattle.bridge_forward.specs.declared.Vlan.{Vlan}
use Rattle.bridge_config.specs.Model.{Plan}
use Rattle.net_model.specs.declared.frame_groups.FrameGroup.{FrameGroup}

-- The frames with this optional VLAN and this optional destination.
abbrev pub group_by : Option ℕ → Option (List ℕ) → FrameGroup
group_by vlan destination = record { vlan = vlan; destination = destination }

-- True if two optional VLANs are equal; `None` equals only `None`.
abbrev pub is_same_vlan : Option ℕ → Option ℕ → Bool
is_same_vlan None None = true
is_same_vlan (Some a) (Some b) = nat_eq a b
is_same_vlan a b = false

-- True if two optional destinations are equal; `None` equals only `None`.
abbrev pub is_same_destination : Option (List ℕ) → Option (List ℕ) → Bool
is_same_destination None None = true
is_same_destination (Some a) (Some b) = bytes_eq a b
is_same_destination a b = false

-- True if two groups of frames have the same VLAN and the same destination.
abbrev pub is_same_group : FrameGroup → FrameGroup → Bool
is_same_group a b = is_same_vlan a.vlan b.vlan && is_same_destination a.destination b.destination

-- Holds if groups `g` and `h` differ in their VLAN or in their destination.
abbrev pub Differ : FrameGroup → FrameGroup → Type 0
Differ g h = g ≢ h

-- True if group `g` is already in the list `groups`, so that it isn't searched twice.
abbrev pub has_group : List FrameGroup → FrameGroup → Bool
has_group groups g = list_any (λ (h : FrameGroup). is_same_group h g) groups

-- The groups, with group `g` added if it is missing.
abbrev pub with_group : List FrameGroup → FrameGroup → List FrameGroup
with_group groups g = if has_group groups g then groups else groups ++ g ∷ []

-- The groups, with the two groups of a static entry's destination: in the entry's VLAN, and without VLAN.
abbrev pub with_static_entry : List FrameGroup → StaticEntry → List FrameGroup
with_static_entry groups e = with_group (with_group groups (group_by (Some e.vid) (Some e.address))) (group_by None (Some e.address))

-- The groups, with the group of all destinations without a static entry in a VLAN.
abbrev pub with_vlan : List FrameGroup → Vlan → List FrameGroup
with_vlan groups v = with_group groups (group_by (Some v.vid) None)

-- The groups, with the groups that a plan names by its static entries and VLANs.
abbrev pub with_plan : {A : Type 0} → List FrameGroup → Plan A → List FrameGroup
with_plan groups p = fold with_vlan (fold with_static_entry groups p.database.statics) p.database.vlans

-- The groups that the plans name and the group without VLAN and destination, each once.
abbrev pub all_groups : {A : Type 0} → List (Plan A) → List FrameGroup
all_groups plans = with_group (fold with_plan [] plans) (group_by None None)
