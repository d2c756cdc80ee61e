-- Sources and sinks in the order of the ports.
use Rattle.std.specs.Prelude.{◌≡◌, ℕ, Bool, true, Some, List, slice_get}
use Rattle.bridge_limits.specs.Members.{IsMember}

-- Holds if the source or sink of the port `port` has failed. The lists `ports` and `devices` are in the same order.
abbrev pub HasFailed : {W : Type 0} → (W → Bool) → List ℕ → ℕ → List W → Type 0
HasFailed {W} has_failed ports port devices = (i : ℕ) (w : W) → slice_get ports i ≡ Some port → slice_get devices i ≡ Some w → has_failed w ≡ true

-- Holds if none of the sources or sinks in the list can fail.
abbrev pub AreUnfailing : {W : Type 0} → (W → Bool) → List W → Type 0
AreUnfailing {W} never_fails devices = (w : W) → IsMember w devices → never_fails w ≡ true
