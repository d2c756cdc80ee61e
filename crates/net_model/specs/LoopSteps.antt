-- Steps of frames in a network. A step crosses one link, from a port of arrival to the next one.
use Rattle.std.specs.Prelude.{◌≡◌, ℕ, zero, suc, ◌+◌, List, [], ◌∷◌, ◌++◌, Option, None, Some, if◌then◌else◌}
use Rattle.bridge_limits.specs.Members.{IsMember}
use Rattle.bridge_forward.specs.Ports.{has_port}
use Rattle.bridge_forward.specs.Database.{Database, static_ports, vlan_members}
use Rattle.bridge_forward.specs.Forward.{forward, output_ports}
use Rattle.bridge_config.specs.declared.ports.PortPlan.{PortPlan}
use Rattle.bridge_config.specs.Model.{Plan}
use Rattle.bridge_config.specs.Rules.{find_port}
use Rattle.net_model.specs.declared.links.Link.{Link}
use Rattle.net_model.specs.Networks.{End}
use Rattle.net_model.specs.NetworkParts.{peer_port}
use Rattle.net_model.specs.declared.links.BridgePort.{BridgePort}
use Rattle.net_model.specs.declared.step.Step.{Step}
use Rattle.net_model.specs.Walks.{step}
use Rattle.net_model.specs.declared.frame_groups.FrameGroup.{FrameGroup}
use Rattle.net_model.specs.FrameGroups as groups

-- The frames with this optional VLAN and this optional destination.
abbrev pub group_by : Option ℕ → Option (List ℕ) → FrameGroup
group_by vlan destination = groups.group_by vlan destination

-- The VLAN in which port `on` classifies frames: the VLAN of their tag, otherwise the port's own.
abbrev pub vlan_or_default : {A : Type 0} → Option ℕ → PortPlan A → ℕ
vlan_or_default None on = on.vid
vlan_or_default (Some vid) on = vid

-- The VLAN in which port `on` classifies the group's frames.
abbrev pub classified_vlan : {A : Type 0} → FrameGroup → PortPlan A → ℕ
classified_vlan g on = vlan_or_default g.vlan on

-- Egress ports of frames that arrive on port `q` and are classified in VLAN `vid`. Without destination, these are the VLAN's other members.
abbrev pub egress_ports : Database → Option (List ℕ) → ℕ → ℕ → ℕ
egress_ports db (Some address) vid q = forward db q vid address
egress_ports db None vid q = output_ports (vlan_members db.vlans vid) None q

-- The lists `tell 0`, `tell 1` and so on, for all numbers below a bound, joined in this order.
abbrev pub collect_below : {X : Type 0} → ℕ → (ℕ → List X) → List X
collect_below zero tell = []
collect_below (suc n) tell = collect_below n tell ++ tell n

-- Port `q` of bridge `b` as the program's `BridgePort`.
abbrev pub bridge_port : ℕ → ℕ → BridgePort
bridge_port b q = record { bridge = b; port = q }

-- The step from ingress port `from` to the port at the other end of a link, or an empty list without a link.
abbrev pub step_to_peer : BridgePort → Option End → List Step
step_to_peer from None = []
step_to_peer from (Some e) = step from (bridge_port e.bridge e.port) ∷ []

-- The step from ingress port `from` over the link of port `r`; no step if `outs` lacks the port or the port has no link.
abbrev pub steps_over_link : List Link → BridgePort → ℕ → ℕ → List Step
steps_over_link links from outs r = if has_port outs r then step_to_peer from (peer_port links from.bridge r) else []

-- The steps from ingress port `from` over the links of the ports in `outs`.
abbrev pub steps_over_links : List Link → BridgePort → ℕ → List Step
steps_over_links links from outs = collect_below 16 (λ i. steps_over_link links from outs (i + 1))

-- The steps of group `g`'s frames that arrive on port `q` of bridge `b`; no step if the port is missing.
abbrev pub steps_of_port : {A : Type 0} → List Link → FrameGroup → ℕ → Plan A → ℕ → Option (PortPlan A) → List Step
steps_of_port links g b p q None = []
steps_of_port links g b p q (Some on) = steps_over_links links (bridge_port b q) (egress_ports p.database g.destination (classified_vlan g on) q)

-- The steps of group `g`'s frames that arrive at bridge `b`, on any port.
abbrev pub steps_of_bridge : {A : Type 0} → List Link → FrameGroup → ℕ → Plan A → List Step
steps_of_bridge links g b p = collect_below 16 (λ i. steps_of_port links g b p (i + 1) (find_port p.ports (i + 1)))

-- The steps of the group's frames in a network of these plans. The first plan has bridge index `b`.
abbrev pub group_steps : {A : Type 0} → List Link → FrameGroup → ℕ → List (Plan A) → List Step
group_steps links g b [] = []
group_steps links g b (p ∷ ps) = steps_of_bridge links g b p ++ group_steps links g (suc b) ps

-- Holds if no plan has a static entry for the address, in any VLAN.
abbrev pub HasNoStaticEntry : {A : Type 0} → List ℕ → List (Plan A) → Type 0
HasNoStaticEntry {A} address plans = (p : Plan A) → IsMember p plans → (vid : ℕ) → static_ports p.database.statics vid address ≡ None
