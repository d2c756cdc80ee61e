-- The hop of a stream to which a port of a bridge leads over its link.
use Rattle.std.specs.Prelude.{ℕ, List, [], ◌∷◌, Option, Some, None, map, nat_eq, option_map, if◌then◌else◌}
use Rattle.net_model.specs.declared.links.Link.{Link}
use Rattle.net_model.specs.declared.links.StreamHop.{StreamHop}
use Rattle.net_model.specs.Networks.{Sender, sender}
use Rattle.net_model.specs.NetworkParts.{end_value, link_value}
use Rattle.net_latency.specs.declared.next_hop.FarEnd.{FarEnd}
use Rattle.net_latency.specs.declared.next_hop.NextHop.{NextHop}

-- The other end of a port's link, with the link's delay in ns, as a sender of `net_model`.
abbrev pub sender_of_far_end : FarEnd → Sender
sender_of_far_end x = record { from = end_value x.end; delay = x.delay }

-- The first of these hops at bridge `b`. `None` if no hop is at this bridge.
abbrev pub hop_at_bridge : List StreamHop → ℕ → Option StreamHop
hop_at_bridge [] b = None
hop_at_bridge (h ∷ hs) b = if nat_eq h.bridge b then Some h else hop_at_bridge hs b

-- The hop at the other end of an optional link, with the link's delay in ns. `None` without a link or without a hop there.
abbrev pub next_hop_over_link : List StreamHop → Option Sender → Option NextHop
next_hop_over_link hops None = None
next_hop_over_link hops (Some s) = option_map (λ (h : StreamHop). record { hop = h; delay = s.delay }) (hop_at_bridge hops s.from.bridge)

-- The hop to which port `q` of bridge `b` leads over its link, with the link's delay in ns. `None` if the port leads to no hop.
abbrev pub next_hop : List Link → List StreamHop → ℕ → ℕ → Option NextHop
next_hop links hops b q = next_hop_over_link hops (sender (map link_value links) b q)
