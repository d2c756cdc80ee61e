-- Transmission times.
use Rattle.std.proofs.Common.{ℕ, ◌<◌, arith}
use Rattle.bridge_frame.specs.declared.Speed.{Speed}
use Rattle.bridge_frame.specs.declared.Speed.TheVariants.{Mbps10, Mbps100, Mbps1000, Mbps2500, Mbps10000}
use Rattle.bridge_frame.specs.Link.{transmission_time}

-- A transmission time is positive.
pub occupied_some : (len : ℕ) (speed : Speed) → 0 < transmission_time len speed
unfolding transmission_time
occupied_some len Mbps10 = omega arith
occupied_some len Mbps100 = omega arith
occupied_some len Mbps1000 = omega arith
occupied_some len Mbps2500 = omega arith
occupied_some len Mbps10000 = omega arith
