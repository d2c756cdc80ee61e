-- Frames that bridges may forward in a loop.
use Rattle.std.specs.Prelude.{◌≡◌, ◌⊎◌, ℕ, List, [], ◌∷◌, ◌++◌, Option, None, Some}
use Rattle.bridge_limits.specs.Members.{IsMember, IsOrdered}
use Rattle.bridge_forward.specs.declared.StaticEntry.{StaticEntry}
use Rattle.bridge_forward.specs.declared.Vlan.{Vlan}
use Rattle.bridge_config.specs.Model.{Plan}
use Rattle.net_model.specs.declared.links.Link.{Link}
use Rattle.net_model.specs.declared.links.BridgePort.{BridgePort}
use Rattle.net_model.specs.Walks.{IsOnLoop}
use Rattle.net_model.specs.declared.frame_groups.FrameGroup.{FrameGroup}
use Rattle.net_model.specs.declared.forwarding_loop.ForwardingLoop.{ForwardingLoop}
use Rattle.net_model.specs.FrameGroups.{Differ}
use Rattle.net_model.specs.LoopSteps.{group_steps}

-- Holds if frames of group `g` can arrive at port `x` again and again, in a network of these plans and links.
abbrev pub MayLoop : {A : Type 0} → List (Plan A) → List Link → FrameGroup → BridgePort → Type 0
MayLoop plans links g x = IsOnLoop (group_steps links g 0 plans) x

-- Holds if a plan has a static entry for this destination in this VLAN.
pub record HasStaticEntry {A : Type 0} (plans : List (Plan A)) (vid : ℕ) (address : List ℕ) : Type 0 where
  pub plan : Plan A
  pub listed : IsMember plan plans
  pub entry : StaticEntry
  pub is : IsMember entry plan.database.statics
  pub vid_is : entry.vid ≡ vid
  pub address_is : entry.address ≡ address

-- Holds if one of these plans has this VLAN.
pub record HasVlan {A : Type 0} (plans : List (Plan A)) (vid : ℕ) : Type 0 where
  pub plan : Plan A
  pub listed : IsMember plan plans
  pub vlan : Vlan
  pub is : IsMember vlan plan.database.vlans
  pub vid_is : vlan.vid ≡ vid

-- Holds if the plans name the group with this VLAN and destination, by a static entry or a VLAN. They always name the group without both.
abbrev pub IsGroupNamed : {A : Type 0} → List (Plan A) → Option ℕ → Option (List ℕ) → Type 0
IsGroupNamed plans (Some vid) (Some address) = HasStaticEntry plans vid address
IsGroupNamed plans None (Some address) = (vid : ℕ) × HasStaticEntry plans vid address
IsGroupNamed plans (Some vid) None = HasVlan plans vid
IsGroupNamed plans None None = Unit {0}

-- Holds if the plans name the group's VLAN and destination (`IsGroupNamed`).
abbrev pub IsNamedGroup : {A : Type 0} → List (Plan A) → FrameGroup → Type 0
IsNamedGroup plans g = IsGroupNamed plans g.vlan g.destination

-- Holds if one of the rows is for group `g`.
pub record HasLoopRow (rows : List ForwardingLoop) (g : FrameGroup) : Type 0 where
  pub row : ForwardingLoop
  pub listed : IsMember row rows
  pub is : row.group ≡ g

-- Holds if `more` is `rows` with one row more, of group `g` on a loop. If the group's frames can't loop, both are equal.
abbrev pub AddsGroupLoop : {A : Type 0} → List (Plan A) → List Link → FrameGroup → List ForwardingLoop → List ForwardingLoop → Type 0
AddsGroupLoop plans links g rows more =
    ((x : BridgePort) × MayLoop plans links g x × (more ≡ rows ++ record { group = g; at = x } ∷ []))
    ⊎ (((x : BridgePort) → ¬ MayLoop plans links g x) × (more ≡ rows))

-- Holds if the loops `c` and `d` are of different groups.
abbrev pub DifferInGroup : ForwardingLoop → ForwardingLoop → Type 0
DifferInGroup c d = Differ c.group d.group

-- Holds if `rows` has one row for each group in `groups` whose frames can arrive at some port again and again. The row
-- has one port of the loop.
pub record AreGroupLoops {A : Type 0} (plans : List (Plan A)) (links : List Link) (groups : List FrameGroup) (rows : List ForwardingLoop) : Type 0 where
  pub sound : (c : ForwardingLoop) → IsMember c rows → MayLoop plans links c.group c.at
  pub listed : (c : ForwardingLoop) → IsMember c rows → IsMember c.group groups
  pub once : IsOrdered DifferInGroup rows
  pub told : (g : FrameGroup) (x : BridgePort) → IsMember g groups → MayLoop plans links g x → HasLoopRow rows g

-- Holds if `rows` has one row for each group named by the plans whose frames can arrive at some port again and again.
-- The row has one port of the loop.
pub record AreForwardingLoops {A : Type 0} (plans : List (Plan A)) (links : List Link) (rows : List ForwardingLoop) : Type 0 where
  pub sound : (c : ForwardingLoop) → IsMember c rows → MayLoop plans links c.group c.at
  pub named : (c : ForwardingLoop) → IsMember c rows → IsNamedGroup plans c.group
  pub once : IsOrdered DifferInGroup rows
  pub told : (g : FrameGroup) (x : BridgePort) → IsNamedGroup plans g → MayLoop plans links g x → HasLoopRow rows g
