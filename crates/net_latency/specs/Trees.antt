-- The test whether the hops of a stream are a tree.
use Rattle.std.specs.Prelude.{ℕ, Bool, false, ◌&&◌, List, Option, Some, None, filter, length, map, nat_eq, nat_le}
use Rattle.std.specs.List.{list_all}
use Rattle.net_model.specs.declared.links.Link.{Link}
use Rattle.net_model.specs.declared.links.StreamHop.{StreamHop}
use Rattle.net_model.specs.Networks.{Sender, sender}
use Rattle.net_model.specs.NetworkParts.{link_value}
use Rattle.net_latency.specs.declared.tree.HopQueue.{HopQueue}
use Rattle.net_latency.specs.NextHop.{hop_at_bridge}

-- True if the other end of a port's link is at bridge `b`. False without a link (`None`).
abbrev pub is_linked_to : ℕ → Option Sender → Bool
is_linked_to b None = false
is_linked_to b (Some s) = nat_eq s.from.bridge b

-- True if the port of a queue has a link to bridge `b`.
abbrev pub is_feeder : List Link → ℕ → HopQueue → Bool
is_feeder links b x = is_linked_to b (sender (map link_value links) x.hop.bridge x.port)

-- Number of these queues whose port has a link to bridge `b`.
abbrev pub count_feeders : List Link → List HopQueue → ℕ → ℕ
count_feeders links queues b = length (filter (is_feeder links b) queues)

-- True if the optional hop is present and has the filter of hop `h`.
abbrev pub has_filter : StreamHop → Option StreamHop → Bool
has_filter h None = false
has_filter h (Some g) = nat_eq g.filter h.filter

-- True if the first of `hops` at the bridge of hop `h` has the filter of `h`.
abbrev pub is_first_at_bridge : List StreamHop → StreamHop → Bool
is_first_at_bridge hops h = has_filter h (hop_at_bridge hops h.bridge)

-- True if each hop is the first at its bridge, so that no bridge has two hops.
abbrev pub have_distinct_bridges : List StreamHop → Bool
have_distinct_bridges hops = list_all (is_first_at_bridge hops) hops

-- True if at most one of the queues leads to the bridge of each hop.
abbrev pub have_single_feeders : List Link → List StreamHop → List HopQueue → Bool
have_single_feeders links hops queues = list_all (λ (h : StreamHop). nat_le (count_feeders links queues h.bridge) 1) hops

-- True if the hops are a tree with root `first`. They have different bridges, at most one queue leads to each, and none
-- to the root.
abbrev pub is_tree : List Link → List StreamHop → List HopQueue → StreamHop → Bool
is_tree links hops queues first = have_distinct_bridges hops && have_single_feeders links hops queues && nat_eq (count_feeders links queues first.bridge) 0
