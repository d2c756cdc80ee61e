-- Classes that the interval of a gate control list opens.
use Rattle.std.specs.Prelude.{ℕ, Bool, false, Option, Some, None}
use Rattle.bridge_cycle.specs.declared.timeline.Turn.{Turn}
use Rattle.bridge_cycle.specs.Fits.{is_open}

-- True if class `c` is open in this interval of a gate control list; false if there is no interval (`None`).
abbrev pub turn_opens : Option (Turn ℕ) → ℕ → Bool
turn_opens None c = false
turn_opens (Some turn) c = is_open turn.state c
