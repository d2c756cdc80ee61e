-- Transmission times have 24 bits.
use Rattle.std.proofs.Common.{◌≡◌, ℕ, ◌+◌, ◌<◌, ◌≤◌, arith}
use Rattle.bridge_frame.specs.declared.Speed.{Speed}
use Rattle.bridge_frame.specs.declared.Speed.TheVariants.{Mbps10, Mbps100, Mbps1000, Mbps2500, Mbps10000}
use Rattle.bridge_frame.specs.Link.{transmission_time}

-- The longest frame takes less than 2^24 ns at each speed.
pub short_time : (len : ℕ) (speed : Speed) → len ≤ 9216 → transmission_time len speed < 16777216
unfolding transmission_time
short_time len Mbps10 short = omega arith
short_time len Mbps100 short = omega arith
short_time len Mbps1000 short = omega arith
short_time len Mbps2500 short = omega arith
short_time len Mbps10000 short = omega arith
