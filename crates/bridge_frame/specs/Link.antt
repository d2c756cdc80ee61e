-- Speeds of links, and transmission times of frames.
use Rattle.std.specs.Prelude.{◌≡◌, ℕ, ◌+◌, ◌-◌, ◌*◌, ◌/◌, ◌^◌, max, Option, Some, None, nat_eq, if◌then◌else◌, refl}
use Rattle.bridge_frame.specs.declared.Speed.{Speed}
use Rattle.bridge_frame.specs.declared.Speed.TheVariants.{Mbps10, Mbps100, Mbps1000, Mbps2500, Mbps10000}

-- Number of bits per second at a link speed: `Mbps10` is 10 million bit/s, and `Mbps10000` is 10 billion bit/s.
abbrev pub bits_per_second : Speed → ℕ
bits_per_second Mbps10 = 10 * 10 ^ 6
bits_per_second Mbps100 = 100 * 10 ^ 6
bits_per_second Mbps1000 = 1000 * 10 ^ 6
bits_per_second Mbps2500 = 2500 * 10 ^ 6
bits_per_second Mbps10000 = 10000 * 10 ^ 6

-- Link speed of `mbps` Mb/s; `None` for any number other than 10, 100, 1000, 2500 and 10000.
abbrev pub speed_by_mbps : ℕ → Option Speed
speed_by_mbps mbps =
    if nat_eq mbps 10 then Some Mbps10
    else if nat_eq mbps 100 then Some Mbps100
    else if nat_eq mbps 1000 then Some Mbps1000
    else if nat_eq mbps 2500 then Some Mbps2500
    else if nat_eq mbps 10000 then Some Mbps10000
    else None

-- Octets that a frame occupies on the link: its length `len`, at least 60, plus check sequence (4), preamble with
-- delimiter (8) and gap (12).
abbrev pub wire_octets : ℕ → ℕ
wire_octets len = max len 60 + 24

-- Time in ns, rounded up, that a frame of `len` octets occupies a link of speed `speed`, with preamble and gap.
unfoldable pub transmission_time : ℕ → Speed → ℕ
transmission_time len speed = (wire_octets len * 8 * 10 ^ 9 + (bits_per_second speed - 1)) / bits_per_second speed

-- Examples: transmission times of 60 octets at each speed and of 1,514 octets at 1,000 Mb/s, and octets on the link.
pub shortest_at_10 : transmission_time 60 Mbps10 ≡ 67200
unfolding transmission_time
shortest_at_10 = refl

pub shortest_at_100 : transmission_time 60 Mbps100 ≡ 6720
unfolding transmission_time
shortest_at_100 = refl

pub shortest_at_1000 : transmission_time 60 Mbps1000 ≡ 672
unfolding transmission_time
shortest_at_1000 = refl

pub shortest_at_2500 : transmission_time 60 Mbps2500 ≡ 269
unfolding transmission_time
shortest_at_2500 = refl

pub shortest_at_10000 : transmission_time 60 Mbps10000 ≡ 68
unfolding transmission_time
shortest_at_10000 = refl

pub longest_untagged_at_1000 : transmission_time 1514 Mbps1000 ≡ 12304
unfolding transmission_time
longest_untagged_at_1000 = refl

pub padded_on_the_link : wire_octets 14 ≡ 84
padded_on_the_link = refl

pub longest_untagged_on_the_link : wire_octets 1514 ≡ 1538
longest_untagged_on_the_link = refl
