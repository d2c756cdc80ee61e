-- Frames of a talker that pass through a hop of a network.
use Rattle.std.specs.Prelude.{ℕ, ◌+◌, ◌≤◌, nat_le, List, [], ◌∷◌, if◌then◌else◌}

-- A frame that passed through a hop: its arrival time and its end of transmission in ns, and its octets.
pub record Passage : Type 0 where
  pub arrival : ℕ
  pub departure : ℕ
  pub octets : ℕ

-- The octets of the frames that arrived at time `u` or later.
abbrev pub recent_arrived_octets : ℕ → List Passage → ℕ
recent_arrived_octets u [] = 0
recent_arrived_octets u (x ∷ xs) = (if nat_le u x.arrival then x.octets else 0) + recent_arrived_octets u xs

-- The octets of the frames that left at time `u` or later.
abbrev pub recent_departed_octets : ℕ → List Passage → ℕ
recent_departed_octets u [] = 0
recent_departed_octets u (x ∷ xs) = (if nat_le u x.departure then x.octets else 0) + recent_departed_octets u xs

-- Holds if each frame left at least `best` and at most `worst` ns after its arrival.
abbrev pub HaveHopDelays : ℕ → ℕ → List Passage → Type 0
HaveHopDelays best worst [] = Unit {0}
HaveHopDelays best worst (x ∷ xs) = ((x.arrival + best ≤ x.departure) × (x.departure ≤ x.arrival + worst)) × HaveHopDelays best worst xs
