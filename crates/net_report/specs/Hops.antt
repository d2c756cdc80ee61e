-- Hops of a stream in a network run, and the ports that lead to a next hop.
use Rattle.std.specs.Prelude.{◌≡◌, ℕ, ◌+◌, ◌-◌, Bool, false, nat_eq, Option, Some, None, List, length, map, slice_get, if◌then◌else◌}
use Rattle.std.specs.List.{list_any}
use Rattle.net_model.specs.Networks.{Sender, sender}
use Rattle.net_model.specs.NetworkParts.{link_value}
use Rattle.net_model.specs.declared.links.Link.{Link}
use Rattle.net_report.specs.declared.copy_counting.HopRun.{HopRun}

-- True if one of these hops is at bridge `b`.
abbrev pub has_hop_at_bridge : {A : Type 0} → List (HopRun A) → ℕ → Bool
has_hop_at_bridge {A} hops b = list_any (λ (h : HopRun A). nat_eq h.bridge b) hops

-- True if the other end of an optional link is a port of a bridge with a hop.
abbrev pub is_bridge_with_hop : {A : Type 0} → List (HopRun A) → Option Sender → Bool
is_bridge_with_hop hops None = false
is_bridge_with_hop hops (Some s) = has_hop_at_bridge hops s.from.bridge

-- True if port `q` of bridge `b` is linked to a bridge with a hop.
abbrev pub has_next_hop : {A : Type 0} → List Link → List (HopRun A) → ℕ → ℕ → Bool
has_next_hop links hops b q = is_bridge_with_hop hops (sender (map link_value links) b q)

-- Holds if each item of `ways` answers whether a port of bridge `b` is linked to a bridge with a hop. Item `i`, from 0,
-- is for port `i` + 1.
abbrev pub AreOnwardAnswers : {A : Type 0} → List Link → List (HopRun A) → ℕ → List Bool → Type 0
AreOnwardAnswers links hops b ways = (i : ℕ) (on : Bool) → slice_get ways i ≡ Some on → on ≡ has_next_hop links hops b (i + 1)

-- Holds if `ways` has 16 items, one for each port of bridge `b`. The item of a port is true if the port is linked to a
-- bridge with a hop.
pub record AreOnwardPorts {A : Type 0} (links : List Link) (hops : List (HopRun A)) (b : ℕ) (ways : List Bool) : Type 0 where
  pub many : length ways ≡ 16
  pub each : AreOnwardAnswers links hops b ways

-- The truth value of an optional item; false if the item is missing.
abbrev pub or_false : Option Bool → Bool
or_false None = false
or_false (Some b) = b

-- True if port `q` leads to a hop: `ways` has the truth values of ports 1 to 16 (`AreOnwardPorts`). False for other
-- port numbers.
abbrev pub is_onward : List Bool → ℕ → Bool
is_onward ways q = if nat_eq q 0 then false else or_false (slice_get ways (q - 1))
