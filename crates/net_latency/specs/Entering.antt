-- Two tests of a stream: only frames from the talker's port get its hops' handles, and each hop's frames get the next
-- hop's filter.
use Rattle.std.specs.Prelude.{◌≡◌, ℕ, Bool, true, false, not, ◌&&◌, List, [], ◌∷◌, Option, Some, None, nat_eq, map, slice_get, if◌then◌else◌}
use Rattle.std.specs.List.{list_all}
use Rattle.bridge_config.specs.declared.ports.PortPlan.{PortPlan}
use Rattle.bridge_config.specs.Model.{Plan}
use Rattle.net_model.specs.declared.links.Link.{Link}
use Rattle.net_model.specs.declared.links.StreamHop.{StreamHop}
use Rattle.net_model.specs.Handing.{hands_over}
use Rattle.net_model.specs.Networks.{End, Sender, sender}
use Rattle.net_model.specs.Faults.{is_entry_port, protected_handle}
use Rattle.net_model.specs.NetworkParts.{link_value}
use Rattle.bridge_bounds.specs.declared.traffic.Traffic.{Traffic}
use Rattle.net_latency.specs.declared.latency.StreamLatency.{StreamLatency}
use Rattle.net_latency.specs.declared.tree.HopQueue.{HopQueue}
use Rattle.net_latency.specs.StreamLatency.{IsStreamLatency}
use Rattle.net_latency.specs.NextHop.{hop_at_bridge}

-- ENTRY OF FRAMES

-- True if `r` is the talker's port of bridge `b`: the first open one of the ports that has an entry with the handle.
abbrev pub is_talker_port : {A : Type 0} → List Link → ℕ → Plan A → ℕ → List (PortPlan A) → ℕ → Bool
is_talker_port links b p handle [] r = false
is_talker_port links b p handle (on ∷ more) r =
    if is_entry_port links b p handle on then nat_eq on.number r else is_talker_port links b p handle more r

-- True if frames of other devices can get the handle at port `on`. It is open, has an entry, and isn't the talker's port, which only the
-- first hop (`true`) has.
abbrev pub also_enters : {A : Type 0} → List Link → Bool → ℕ → Plan A → ℕ → PortPlan A → Bool
also_enters links true b p handle on = is_entry_port links b p handle on && not (is_talker_port links b p handle p.ports on.number)
also_enters links false b p handle on = is_entry_port links b p handle on

-- True if `also_enters` holds at bridge `b` for the optional handle of the hop's filter; false without a handle. `is_first` is true for the
-- stream's first hop.
abbrev pub also_enters_by : {A : Type 0} → List Link → Bool → ℕ → Plan A → Option ℕ → PortPlan A → Bool
also_enters_by links is_first b p None on = false
also_enters_by links is_first b p (Some handle) on = also_enters links is_first b p handle on

-- True if frames of other devices may get the handle of the hop at port `on` of its bridge. `is_first` is true for the stream's first hop.
abbrev pub may_come_in : {A : Type 0} → List Link → Bool → StreamHop → Plan A → PortPlan A → Bool
may_come_in links is_first h p on = also_enters_by links is_first h.bridge p (protected_handle p.filters h.filter) on

-- True if none of these ports lets frames of other devices get the handle of the hop (`may_come_in`). `is_first` is true for the stream's
-- first hop.
abbrev pub comes_in_at : {A : Type 0} → List Link → Bool → StreamHop → Plan A → List (PortPlan A) → Bool
comes_in_at links is_first h p [] = true
comes_in_at links is_first h p (on ∷ more) =
    if may_come_in links is_first h p on then false else comes_in_at links is_first h p more

-- True if no port of the hop's bridge lets frames of other devices get the hop's handle. True without a plan. `is_first` is true for the
-- stream's first hop.
abbrev pub comes_in_once : {A : Type 0} → List Link → Bool → StreamHop → Option (Plan A) → Bool
comes_in_once links is_first h None = true
comes_in_once links is_first h (Some p) = comes_in_at links is_first h p p.ports

-- True if `comes_in_once` holds for each hop in the list. `is_first` is true if the list begins with the stream's first
-- hop.
abbrev pub come_in_once : {A : Type 0} → List (Plan A) → List Link → Bool → List StreamHop → Bool
come_in_once plans links is_first [] = true
come_in_once plans links is_first (h ∷ hs) =
    comes_in_once links is_first h (slice_get plans h.bridge) && come_in_once plans links false hs

-- FRAMES FOR THE NEXT HOP

-- True if each frame that leaves queue `x` gets the filter of the optional hop at the link's end `e`. True without a hop.
abbrev pub hands_to_hop : {A : Type 0} → List (Plan A) → HopQueue → End → Option StreamHop → Bool
hands_to_hop plans x e None = true
hands_to_hop plans x e (Some h) = hands_over plans x.hop.bridge x.hop.filter x.port e h.filter

-- True if `hands_to_hop` holds for the other end of the link of queue `x`'s port; true if the port is open.
abbrev pub hands_to_end : {A : Type 0} → List (Plan A) → List StreamHop → HopQueue → Option Sender → Bool
hands_to_end plans hops x None = true
hands_to_end plans hops x (Some s) = hands_to_hop plans x s.from (hop_at_bridge hops s.from.bridge)

-- True if each frame that leaves queue `x` gets the filter of the stream's next hop. True if the queue leads to no hop.
abbrev pub is_handed : {A : Type 0} → List (Plan A) → List Link → List StreamHop → HopQueue → Bool
is_handed plans links hops x = hands_to_end plans hops x (sender (map link_value links) x.hop.bridge x.port)

-- True if each frame that leaves a queue of the stream gets the filter of the next hop. A queue whose port leads to no hop counts as true.
abbrev pub are_received_by_next_hops : {A : Type 0} → List (Plan A) → List Link → List StreamHop → List HopQueue → Bool
are_received_by_next_hops plans links hops queues = list_all (is_handed plans links hops) queues

-- THE DELAYS OF A STREAM

-- The delays `x`, with the flag `passes` cleared if `handed` is false.
abbrev pub handed_course : Bool → StreamLatency → StreamLatency
handed_course handed x = record { passes = x.passes && handed; worst = x.worst; best = x.best; phases = x.phases }

-- The delays of a stream, with the flag `passes` cleared if `handed` is false. `None` if they are unknown, or if other
-- frames can get the stream's handles (`once` is false).
abbrev pub tested_course : Bool → Bool → Option StreamLatency → Option StreamLatency
tested_course once handed None = None
tested_course true handed (Some x) = Some (handed_course handed x)
tested_course false handed (Some x) = None

-- Holds if `r` has the delays of a periodic talker's stream. They are unknown if other frames can get its handles. The flag `passes` needs
-- that each hop's frames get the next hop's filter.
abbrev pub IsStreamCourse : {A : Type 0} → List (Plan A) → List Link → List StreamHop → List HopQueue → Traffic → Option StreamLatency → Type 0
IsStreamCourse plans links hops queues t r =
    (c : Option StreamLatency) × IsStreamLatency plans links hops queues t c
    × (r ≡ tested_course (come_in_once plans links true hops) (are_received_by_next_hops plans links hops queues) c)
