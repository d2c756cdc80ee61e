-- Frames of a filter that leave a queue, and their burst and rate.
use Rattle.std.specs.Prelude.{◌≡◌, ℕ, ◌+◌, ◌*◌, ◌≤◌, List, [], ◌∷◌, ◌++◌, if◌then◌else◌}
use Rattle.bridge_frame.specs.declared.Speed.{Speed}
use Rattle.bridge_frame.specs.Link.{transmission_time}
use Rattle.bridge_meter.specs.Colours.{octet_units}
use Rattle.bridge_port.specs.Schedule.{Copy, Fate, Full, Never, Queued, Started}
use Rattle.bridge_semantics.specs.Events.{metered_octets}
use Rattle.bridge_semantics.specs.Offers.{CarriedFrame}
use Rattle.bridge_groups.specs.Hops.{Passage, recent_departed_octets}
use Rattle.bridge_groups.specs.Curves.{has_filter_number}

-- A list with the passage of copy `x` if the copy started; otherwise the empty list.
abbrev pub copy_passage : Speed → Copy CarriedFrame → Fate → List Passage
copy_passage speed x (Started s) = record { arrival = x.at; departure = s + transmission_time x.item.len speed; octets = metered_octets x.item.len } ∷ []
copy_passage speed x Never = []
copy_passage speed x Full = []
copy_passage speed x Queued = []

-- The passages of the copies of filter `n` that started, in list order.
abbrev pub filter_passages : ℕ → Speed → List (Copy CarriedFrame) → List Passage
filter_passages n speed [] = []
filter_passages n speed (x ∷ xs) = (if has_filter_number x.item.flow n then copy_passage speed x x.fate else []) ++ filter_passages n speed xs

-- Holds if the frames that leave in any `w` ns have a limited number of octets. It is `burst` plus the octets that
-- `rate` bit/s give in `w` + `slack` ns. Passages are newest first.
abbrev pub HaveConformingDepartures : ℕ → ℕ → ℕ → List Passage → Type 0
HaveConformingDepartures burst rate slack [] = Unit {0}
HaveConformingDepartures burst rate slack (x ∷ xs) = ((u w : ℕ) → x.departure ≡ u + w → recent_departed_octets u (x ∷ xs) * octet_units ≤ burst * octet_units + rate * (w + slack)) × HaveConformingDepartures burst rate slack xs
