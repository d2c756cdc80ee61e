-- Links and streams in the form of the program, and their conversion to the form of these definitions.
use Rattle.std.specs.Prelude.{◌≡◌, ℕ, Option, List, map, option_map, Vec}
use Rattle.bridge_config.specs.Model.{Plan}
use Rattle.net_model.specs.declared.links.BridgePort.{BridgePort}
use Rattle.net_model.specs.declared.links.Link.{Link}
use Rattle.net_model.specs.declared.links.StreamHop.{StreamHop}
use Rattle.net_model.specs.declared.sender.Sender.{Sender}
use Rattle.net_model.specs.Networks as networks

-- Converts a link end of the program, with its bridge index and port number, to the form of these definitions.
abbrev pub end_value : BridgePort → networks.End
end_value e = record { bridge = e.bridge; port = e.port }

-- Converts a link of the program, with its two ends and its delay in ns, to the form of these definitions.
abbrev pub link_value : Link → networks.Link
link_value l = record { one = end_value l.one; other = end_value l.other; delay = l.delay }

-- The hop `h` as a pair of bridge index and filter number.
abbrev pub hop_value : StreamHop → ℕ × ℕ
hop_value h = (h.bridge, h.filter)

-- The hops of a stream, in order, as pairs of bridge index and filter number.
abbrev pub stream_value : List StreamHop → List (ℕ × ℕ)
stream_value hops = map hop_value hops

-- Parts of a network: the bridges' plans by bridge index from 0, the links between their ports, and the streams as
-- lists of hops.
pub record NetworkParts (A : Type 0) : Type 0 where
  pub plans : List (Plan A)
  pub links : List Link
  pub streams : List (Vec StreamHop A)

-- Builds the parts of a network from three vectors of the program: plans, links, and streams.
abbrev pub network_parts : {A : Type 0} → Vec (Plan A) A → Vec Link A → Vec (Vec StreamHop A) A → NetworkParts A
network_parts plans links streams = record { plans = plans.items; links = links.items; streams = streams.items }

-- Holds if the program returns the plans, links and streams unchanged: `p`, `l` and `s` equal its arguments.
pub record AreHandedBack {A : Type 0} (plans : Vec (Plan A) A) (links : Vec Link A) (streams : Vec (Vec StreamHop A) A)
    (p : Vec (Plan A) A) (l : Vec Link A) (s : Vec (Vec StreamHop A) A) : Type 0 where
  pub same_plans : p ≡ plans
  pub same_links : l ≡ links
  pub same_streams : s ≡ streams

-- Builds the network from the parts `n`: the plans and the converted links, without the streams.
abbrev pub network_value : {A : Type 0} → NetworkParts A → networks.Network A
network_value n = record { bridges = n.plans; links = map link_value n.links }

-- The bridge port at the other end of the first link of port `q` of bridge `b`; `None` without a link.
abbrev pub peer_port : List Link → ℕ → ℕ → Option networks.End
peer_port links b q = option_map (λ (s : networks.Sender). s.from) (networks.sender (map link_value links) b q)

-- Converts a sender of the program, with its port and the link's delay in ns, to the form of these definitions.
abbrev pub sender_value : Sender → networks.Sender
sender_value s = record { from = end_value s.from; delay = s.delay }
