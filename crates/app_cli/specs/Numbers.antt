-- Numbers in arguments: one or more decimal digits, without a sign.
use Rattle.std.specs.Prelude.{◌≡◌, ℕ, ◌<◌, ◌≤◌, List, Some}
use Rattle.std.specs.Str.Parse.{IsNumeral, digits_value}
use Rattle.bridge_limits.specs.declared.TheConstants.{END_OF_TIME}
use Rattle.bridge_frame.specs.declared.Speed.{Speed}
use Rattle.bridge_frame.specs.Link.{speed_by_mbps}
use Rattle.bridge_port.specs.declared.queues.TheConstants.{LARGEST_ROOM}

-- Holds if the argument is a queue capacity, 1 to 4,096 frames.
abbrev pub IsRoom : List ℕ → Type 0
IsRoom word = IsNumeral 10 word × (1 ≤ digits_value 10 word) × (digits_value 10 word ≤ LARGEST_ROOM)

-- Holds if the argument is this speed, as a number of Mb/s.
abbrev pub IsSpeed : List ℕ → Speed → Type 0
IsSpeed word speed = IsNumeral 10 word × (speed_by_mbps (digits_value 10 word) ≡ Some speed)

-- Holds if the argument is a time in ns, below END_OF_TIME.
abbrev pub IsMoment : List ℕ → Type 0
IsMoment word = IsNumeral 10 word × (digits_value 10 word < END_OF_TIME)
