-- Adds a command that isn't earlier than the last command.
use Rattle.std.proofs.Common.{◌≡◌, ℕ, ◌-◌, ◌<◌, ◌≤◌, true, List, [], ◌∷◌, ◌++◌, length, Some, None, refl, sym, subst, inl, inr, arith, All, slice_get}
use Rattle.std.specs.Prelude.{◌⊎◌}
use Rattle.bridge_limits.specs.Members.{IsMember, RelatesToEach, IsOrdered}
use Rattle.bridge_limits.specs.declared.TheConstants.{END_OF_TIME}
use Rattle.bridge_limits.proofs.Members.{in_push, rising_push}
use Rattle.bridge_limits.proofs.Lists.{each_push}
use Rattle.bridge_config.specs.declared.command.Command.{Command}
use Rattle.bridge_config.specs.Model.{Plan}
use Rattle.bridge_config.specs.Commands.{has_instance, AreCommands, last_time}

one_less : (d : Command) (cs : List Command) → length (d ∷ cs) - 1 ≡ length cs
one_less d cs = omega arith

last_at : (d : Command) (cs : List Command) (c : Command) → Some c ≡ slice_get (d ∷ cs) (length cs) → c.at ≡ last_time d.at cs
last_at d [] c e = cc
last_at d (f ∷ cs) c e = last_at f cs c e

some_at : (d : Command) (cs : List Command) → None ≡ slice_get (d ∷ cs) (length cs) → ⊥
some_at d [] e = cc
some_at d (f ∷ cs) e = some_at f cs e

-- The last item has the time `last_time`.
pub last_some : (cs : List Command) (t : ℕ) (c : Command) → Some c ≡ slice_get cs (length cs - 1) → c.at ≡ last_time t cs
last_some [] t c e = absurd cc
last_some (d ∷ cs) t c e = last_at d cs c (subst (λ (n : ℕ). Some c ≡ slice_get (d ∷ cs) n) (one_less d cs) e)

-- Without items, `last_time` is the given time.
pub last_none : (cs : List Command) (t : ℕ) → None ≡ slice_get cs (length cs - 1) → t ≡ last_time t cs
last_none [] t e = refl
last_none (d ∷ cs) t e = absurd (some_at d cs (subst (λ (n : ℕ). None ≡ slice_get (d ∷ cs) n) (one_less d cs) e))

-- A command that precedes all commands of a list precedes the last one.
before_last : (x : Command) (t : ℕ) (cs : List Command) → x.at ≤ t → RelatesToEach (λ a b. a.at ≤ b.at) x cs → x.at ≤ last_time t cs
before_last x t [] h a = h
before_last x t (c ∷ cs) h a = before_last x c.at cs a.0 a.1

-- No command of a list is later than the last one.
pub not_after_last : (cs : List Command) (t : ℕ) (x : Command) → IsOrdered (λ a b. a.at ≤ b.at) cs → IsMember x cs → x.at ≤ last_time t cs
not_after_last [] t x r i = absurd i
not_after_last (c ∷ cs) t x r (inl e) = before_last x c.at cs (subst (λ (y : Command). x.at ≤ y.at) e (omega arith)) (subst (λ (y : Command). RelatesToEach (λ a b. a.at ≤ b.at) y cs) (sym e) r.0)
not_after_last (c ∷ cs) t x r (inr i) = not_after_last cs c.at x r.1 i

instance_push : {A : Type 0} (p : Plan A) (cs : List Command) (c : Command) → AreCommands p cs → has_instance p c.clear c.number ≡ true → (x : Command) → IsMember x cs ⊎ (x ≡ c) → has_instance p x.clear x.number ≡ true
instance_push p cs c are h x (inl i) = are.instances x i
instance_push p cs c are h x (inr e) = subst (λ (y : Command). has_instance p y.clear y.number ≡ true) (sym e) h

pub commands_push : {A : Type 0} (p : Plan A) (cs : List Command) (c : Command) → AreCommands p cs → All (λ d. d.at < END_OF_TIME) cs → last_time 0 cs ≤ c.at → c.at < END_OF_TIME → has_instance p c.clear c.number ≡ true → AreCommands p (cs ++ c ∷ []) × All (λ d. d.at < END_OF_TIME) (cs ++ c ∷ [])
commands_push p cs c are times late soon there = (
  record {
    rise = rising_push (λ a b. a.at ≤ b.at) cs c are.rise (λ x i. let last : x.at ≤ last_time 0 cs = not_after_last cs 0 x are.rise i in omega (arith, last, late));
    instances = λ x i. instance_push p cs c are there x (in_push x c cs i);
  },
  each_push (λ d. d.at < END_OF_TIME) cs c times soon,
)
