use Rattle.std.proofs.Common.{◌≡◌, ℕ, Bool, true, false, ◌<◌, ◌≤◌, arith, Option, Some, ◌∙◌, sym}
use Rattle.std.proofs.lemmas.Int.{ints}
use lib.IntN.{ℤ, pos}
use lib.Signed.{◌≤ℤ◌}
use Rattle.bridge_cycle.specs.declared.timeline.Turn.{Turn}
use Rattle.bridge_cycle.specs.Fits.{is_open}
use Rattle.bridge_cycle.specs.Opens.{turn_opens}

later : (z : ℤ) (t u : ℕ) → z ≤ℤ pos t → t ≤ u → z ≤ℤ pos u
later z t u h k = omega (arith, ints)

-- From a time within an interval to its end, the interval stays the same.
pub same_to_end : {S : Type 0} (turn_at : ℕ → Option (Turn S)) → ((t : ℕ) (x : Turn S) → turn_at t ≡ Some x → x.start ≤ℤ pos t) → ((t u : ℕ) (x : Turn S) → turn_at t ≡ Some x → x.start ≤ℤ pos u → u < x.end → turn_at u ≡ Some x) → (t : ℕ) (x : Turn S) → turn_at t ≡ Some x → (u : ℕ) → t ≤ u → u < x.end → turn_at u ≡ Some x
same_to_end turn_at begins same t x h u p q = same t u x h (later x.start t u (begins t x h) p) q

pub shut_there : (turn_at : ℕ → Option (Turn ℕ)) (c u : ℕ) (x : Turn ℕ) (b : Bool) → turn_at u ≡ Some x → b ≡ is_open x.state c → b ≡ false → turn_opens (turn_at u) c ≡ false
shut_there turn_at c u x b h is k = rw h (sym is ∙ k)

pub open_there : (turn_at : ℕ → Option (Turn ℕ)) (c u : ℕ) (x : Turn ℕ) (b : Bool) → turn_at u ≡ Some x → b ≡ is_open x.state c → b ≡ true → turn_opens (turn_at u) c ≡ true
open_there turn_at c u x b h is k = rw h (sym is ∙ k)
