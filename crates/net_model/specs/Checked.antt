-- Properties of an accepted network, which its tests ensure.
use Rattle.std.specs.Prelude.{Vec}
use Rattle.bridge_limits.specs.Members.{IsMember}
use Rattle.bridge_config.specs.Model.{Plan}
use Rattle.bridge_config.specs.Rules.{IsPlan}
use Rattle.bridge_check.specs.Acceptable.{IsAcceptable}
use Rattle.net_model.specs.declared.links.StreamHop.{StreamHop}
use Rattle.net_model.specs.Networks.{IsNetwork, IsClosed}
use Rattle.net_model.specs.NetworkParts.{NetworkParts, network_value, stream_value}

-- Holds if plan `p` obeys the rules of plans, and `check` accepts it: the plan isolates each of its protected filters.
pub record IsAccepted {A : Type 0} (p : Plan A) : Type 0 where
  pub rules : IsPlan p
  pub acceptable : IsAcceptable p

-- Holds if every stream of the network is closed: over links, its hops accept only frames of the stream's hops.
pub record AreClosed {A : Type 0} (n : NetworkParts A) : Type 0 where
  pub each : (s : Vec StreamHop A) → IsMember s n.streams → IsClosed (network_value n) (stream_value s.items)

-- Holds if the parts form a network of accepted plans and existing ports, and every stream is closed.
pub record IsChecked {A : Type 0} (n : NetworkParts A) : Type 0 where
  pub network : IsNetwork (network_value n)
  pub closed : AreClosed n
