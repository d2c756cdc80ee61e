-- The link from a queue to the next hop, and the test whether the next hop gets the queue's frames.
use Rattle.std.proofs.Common.{◌≡◌, ℕ, true, List, Option, Some, map, ap, ◌∙◌, subst}
use Rattle.std.specs.Prelude.{option_map, slice_get}
use Rattle.bridge_config.specs.declared.ports.PortPlan.{PortPlan}
use Rattle.bridge_config.specs.Model.{Plan}
use Rattle.bridge_config.specs.Rules.{find_port}
use Rattle.net_model.specs.declared.links.Link.{Link}
use Rattle.net_model.specs.declared.links.StreamHop.{StreamHop}
use Rattle.net_model.specs.Handing.{hands_all, hands_between, hands_over, hands_to_port}
use Rattle.net_model.specs.NetworkParts.{link_value}
use Rattle.net_model.specs.Networks.{Sender, sender}
use Rattle.net_latency.specs.declared.next_hop.NextHop.{NextHop}
use Rattle.net_latency.specs.declared.tree.HopQueue.{HopQueue}
use Rattle.net_latency.specs.Entering.{hands_to_end, hands_to_hop, is_handed}
use Rattle.net_latency.specs.NextHop.{hop_at_bridge, next_hop, next_hop_over_link}

-- A link to a hop, as the next hop of a port.
pub leads_to : (links : List Link) (hops : List StreamHop) (b q : ℕ) (s : Sender) (h : StreamHop) → sender (map link_value links) b q ≡ Some s → hop_at_bridge hops s.from.bridge ≡ Some h → next_hop links hops b q ≡ Some (record { hop = h; delay = s.delay })
leads_to links hops b q s h linked found = ap (next_hop_over_link hops) linked ∙ ap (λ (o : Option StreamHop). option_map {U = NextHop} (λ (g : StreamHop). record { hop = g; delay = s.delay }) o) found

-- If the test of handed frames holds for a queue, it holds between the plans at the link's ends.
pub handed_at : {A : Type 0} (plans : List (Plan A)) (links : List Link) (hops : List StreamHop) (x : HopQueue) (s : Sender) (h : StreamHop) (p next : Plan A) (on : PortPlan A)
    → sender (map link_value links) x.hop.bridge x.port ≡ Some s → hop_at_bridge hops s.from.bridge ≡ Some h → slice_get plans x.hop.bridge ≡ Some p → slice_get plans s.from.bridge ≡ Some next → find_port next.ports s.from.port ≡ Some on
    → is_handed plans links hops x ≡ true → hands_all p x.hop.filter x.port next on h.filter ≡ true
handed_at {A} plans links hops x s h p next on linked found at there port is =
    let one : hands_to_hop plans x s.from (hop_at_bridge hops s.from.bridge) ≡ true = subst (λ (o : Option Sender). hands_to_end plans hops x o ≡ true) linked is in
    let two : hands_over plans x.hop.bridge x.hop.filter x.port s.from h.filter ≡ true = subst (λ (o : Option StreamHop). hands_to_hop plans x s.from o ≡ true) found one in
    let three : hands_between (Some p) x.hop.filter x.port (slice_get plans s.from.bridge) s.from.port h.filter ≡ true = subst (λ (o : Option (Plan A)). hands_between o x.hop.filter x.port (slice_get plans s.from.bridge) s.from.port h.filter ≡ true) at two in
    let four : hands_between (Some p) x.hop.filter x.port (Some next) s.from.port h.filter ≡ true = subst (λ (o : Option (Plan A)). hands_between (Some p) x.hop.filter x.port o s.from.port h.filter ≡ true) there three in
    subst (λ (o : Option (PortPlan A)). hands_to_port p x.hop.filter x.port next o h.filter ≡ true) port four
