-- Frames to all destinations without a static entry take equal steps.
use Rattle.std.proofs.Common.{◌≡◌, ◌+◌, ℕ, zero, suc, false, List, [], ◌∷◌, ◌++◌, Option, None, Some, refl, ap, ap₂, inl, inr}
use Rattle.bridge_forward.specs.Database.{static_ports}
use Rattle.bridge_forward.specs.Forward.{is_reserved}
use Rattle.bridge_config.specs.declared.ports.PortPlan.{PortPlan}
use Rattle.bridge_config.specs.Model.{Plan}
use Rattle.bridge_config.specs.Rules.{find_port}
use Rattle.net_model.specs.declared.links.Link.{Link}
use Rattle.net_model.specs.FrameGroups.{group_by}
use Rattle.net_model.specs.LoopSteps.{HasNoStaticEntry, collect_below, egress_ports, bridge_port, group_steps, steps_of_port, steps_over_links, classified_vlan}

same_outs : {A : Type 0} (p : Plan A) (address : List ℕ) (vid q : ℕ) → static_ports p.database.statics vid address ≡ None → is_reserved address ≡ false → egress_ports p.database (Some address) vid q ≡ egress_ports p.database None vid q
same_outs p address vid q none relayed = rw (relayed, none) refl

same_if : {A : Type 0} (links : List Link) (vlan : Option ℕ) (address : List ℕ) (b q : ℕ) (p : Plan A) (on : Option (PortPlan A)) → ((vid : ℕ) → static_ports p.database.statics vid address ≡ None) → is_reserved address ≡ false
    → steps_of_port links (group_by vlan (Some address)) b p q on ≡ steps_of_port links (group_by vlan None) b p q on
same_if links vlan address b q p None none relayed = refl
same_if links vlan address b q p (Some on) none relayed =
    let vid = classified_vlan (group_by vlan None) on in
    ap (steps_over_links links (bridge_port b q)) (same_outs p address vid q (none vid) relayed)

same_below : {X : Type 0} (n : ℕ) (f g : ℕ → List X) → ((i : ℕ) → f i ≡ g i) → collect_below n f ≡ collect_below n g
same_below zero f g same = refl
same_below (suc n) f g same = ap₂ (λ xs ys. xs ++ ys) (same_below n f g same) (same n)

pub others_alike : {A : Type 0} (plans : List (Plan A)) (links : List Link) (vlan : Option ℕ) (address : List ℕ) (b : ℕ) → HasNoStaticEntry address plans → is_reserved address ≡ false
    → group_steps links (group_by vlan (Some address)) b plans ≡ group_steps links (group_by vlan None) b plans
others_alike [] links vlan address b none relayed = refl
others_alike (p ∷ ps) links vlan address b none relayed =
    ap₂ (λ xs ys. xs ++ ys)
    (same_below 16 (λ i. steps_of_port links (group_by vlan (Some address)) b p (i + 1) (find_port p.ports (i + 1))) (λ i. steps_of_port links (group_by vlan None) b p (i + 1) (find_port p.ports (i + 1)))
    (λ i. same_if links vlan address b (i + 1) p (find_port p.ports (i + 1)) (none p (inl refl)) relayed))
    (others_alike ps links vlan address (suc b) (λ q i. none q (inr i)) relayed)
