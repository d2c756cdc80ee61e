-- The words of a plan's fault line after `plan refused: `.
use Rattle.std.proofs.Common.{◌≡◌, ◌∙◌, ◌++◌, ◌⊎◌, ℕ, List, ap, inl, inr, codes, drop, length, refl, sym}
use Rattle.std.specs.Str.Pattern.{LacksTextAt}
use Rattle.bridge_cycle.specs.declared.cyclic_list.ListFault.TheVariants as list
use Rattle.bridge_schema.specs.declared.plan_fault.PlanFault.{PlanFault}
use Rattle.bridge_schema.specs.declared.plan_fault.PlanFault.TheVariants as plan
use Rattle.app_failure.specs.PlanLines.{plan_fault_line}
use Rattle.app_failure.specs.RefusedCommands.{commands_fault_line, plan_fault_words}

-- Holds if the fault lines of the plan and of the commands have the words `words`.
abbrev HasWords : PlanFault → List ℕ → Type 0
HasWords f words = (plan_fault_line f ≡ codes "plan refused: " ++ words) × (commands_fault_line f ≡ codes "commands refused: " ++ words)

abbrev HasNone : PlanFault → Type 0
HasNone f = (plan_fault_line f ≡ codes "no memory") × (commands_fault_line f ≡ codes "no memory")

worded : (f : PlanFault) → HasNone f ⊎ HasWords f (plan_fault_words f)
worded plan.Syntax = inr (refl, refl)
worded plan.TooLong = inr (refl, refl)
worded (plan.UnknownKey section index) = inr (refl, refl)
worded (plan.NotAList section) = inr (refl, refl)
worded (plan.Missing place) = inr (refl, refl)
worded (plan.WrongKind place) = inr (refl, refl)
worded (plan.OutOfRange place) = inr (refl, refl)
worded (plan.Duplicate section index) = inr (refl, refl)
worded (plan.Unresolved place) = inr (refl, refl)
worded (plan.TooMany section) = inr (refl, refl)
worded (plan.BadList section index list.Empty) = inr (refl, refl)
worded (plan.BadList section index list.ZeroInterval) = inr (refl, refl)
worded (plan.BadList section index list.OverCycle) = inr (refl, refl)
worded (plan.BadList section index list.CycleOutOfRange) = inr (refl, refl)
worded (plan.BadList section index list.TooManyEntries) = inr (refl, refl)
worded (plan.BadList section index list.NoMemory) = inl (refl, refl)
worded plan.NoPorts = inr (refl, refl)
worded plan.NoMemory = inl (refl, refl)

-- A fault line that doesn't begin with `plan refused: ` is the fault line of commands too.
pub kept : (f : PlanFault) (line : List ℕ) → line ≡ plan_fault_line f → LacksTextAt (codes "plan refused: ") line 0 → line ≡ commands_fault_line f
kept f line told lacks = elim (worded f) [
  | inl none ↦ told ∙ none.0 ∙ sym none.1
  | inr has ↦ absurd (lacks (plan_fault_words f) (told ∙ has.0))
]

-- The words after the beginning are equal for plans and commands.
pub said : (f : PlanFault) (line words : List ℕ) → line ≡ plan_fault_line f → line ≡ codes "plan refused: " ++ words → codes "commands refused: " ++ words ≡ commands_fault_line f
said f line words told is = elim (worded f) [
  | inl none ↦ absurd (let both = sym is ∙ (told ∙ none.0) in cc)
  | inr has ↦ ap (λ l. codes "commands refused: " ++ drop (length (codes "plan refused: ")) l) (sym is ∙ told) ∙ sym has.1
]
