-- Pieces that are appended one after the other.
use Rattle.std.proofs.Common.{◌≡◌, ℕ, List, [], ◌++◌, Option, Some, None, append_assoc, subst}
use Rattle.std.proofs.KnownBytes.{Appends-nil, Appends-trans}
use Rattle.bridge_report.specs.Growth.{Grows, HasGrown}

grows_none : (o : Option (Option (List ℕ))) → Grows o [] o
grows_none None = tt
grows_none (Some x) = Appends-nil x

grows_two : (o p q : Option (Option (List ℕ))) (a b : List ℕ) → Grows o a p → Grows p b q → Grows o (a ++ b) q
grows_two o p None a b first second = tt
grows_two o None (Some z) a b first second = absurd second
grows_two None (Some y) (Some z) a b first second = absurd first
grows_two (Some x) (Some y) (Some z) a b first second = Appends-trans x y z a b first second

module _ {T : Type 0} (contents : T → Option (Option (List ℕ))) where
  pub put_none : (o : T) → HasGrown contents o [] o
  put_none o = record { grows = grows_none (contents o) }

  -- A piece, followed by a second piece.
  pub put_piece : (o p q : T) (a b : List ℕ) → HasGrown contents o a p → HasGrown contents p b q → HasGrown contents o (a ++ b) q
  put_piece o p q a b first second = record { grows = grows_two (contents o) (contents p) (contents q) a b first.grows second.grows }

  -- Two pieces appended at once, followed by a third piece.
  pub put_pair : (o p q : T) (a b c : List ℕ) → HasGrown contents o (a ++ b) p → HasGrown contents p c q → HasGrown contents o (a ++ (b ++ c)) q
  put_pair o p q a b c first second = record { grows = subst (λ l. Grows (contents o) l (contents q)) (append_assoc a b c) (grows_two (contents o) (contents p) (contents q) (a ++ b) c first.grows second.grows) }

  pub put_two : (o p q : T) (a b all : List ℕ) → HasGrown contents o a p → HasGrown contents p b q → a ++ b ≡ all → HasGrown contents o all q
  put_two o p q a b all first second is = record { grows = subst (λ l. Grows (contents o) l (contents q)) is (grows_two (contents o) (contents p) (contents q) a b first.grows second.grows) }

  -- An equal list of octets may replace the appended octets.
  pub put_as : (o p : T) (a b : List ℕ) → HasGrown contents o a p → a ≡ b → HasGrown contents o b p
  put_as o p a b first is = record { grows = subst (λ l. Grows (contents o) l (contents p)) is first.grows }

-- Rules for the pieces of a line.
pub ruleset puts = (put_piece, put_pair)

-- Rules for one piece more in a loop.
pub ruleset goes_on = (put_none, put_two)
