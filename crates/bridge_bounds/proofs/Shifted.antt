-- If the intervals of one cycle of a list pass each frame, the intervals of all cycles do.
use Rattle.std.proofs.Common.{◌≡◌, ℕ, Option, true, ◌<◌, ◌≤◌, ◌+◌, ◌*◌, min, Some, arith, sym, subst, ◌∙◌, inl, inr}
use Rattle.std.proofs.lemmas.Bool.{cases_lt}
use Rattle.std.proofs.lemmas.Option.{same_Some}
use Rattle.bridge_cycle.specs.Cyclic.{Cyclic, IsLawful, turn_by_time}
use Rattle.bridge_cycle.specs.CyclicLaws.{cyclic_turn_exists, cyclic_turn_is_exact}
use Rattle.bridge_cycle.proofs.Turns.{same_to_end}
use Rattle.bridge_cycle.specs.declared.timeline.Turn.{Turn}
use Rattle.bridge_gate.specs.declared.schedule.GateEntry.{GateEntry}
use Rattle.bridge_bounds.proofs.Cycles.{turn_later}
use Rattle.bridge_bounds.specs.Passing.{CanPassTurns, can_pass_entry}
use Rattle.bridge_bounds.proofs.Waiting.{in_cycle}

-- The intervals that begin before time `seen` pass a frame of `sdu` octets.
abbrev pub AreLetBelow : (ℕ → Option (Turn GateEntry)) → ℕ → ℕ → ℕ → ℕ → Type 0
AreLetBelow turn_by_time from to seen sdu = (u : ℕ) (x : Turn GateEntry) → from ≤ u → u ≤ to → u < seen → turn_by_time u ≡ Some x → can_pass_entry x.state sdu ≡ true

-- One interval more passes the frame.
pub let_more : (l : Cyclic GateEntry) (from to seen sdu : ℕ) (x : Turn GateEntry) → IsLawful l → turn_by_time l seen ≡ Some x → can_pass_entry x.state sdu ≡ true → AreLetBelow (turn_by_time l) from to seen sdu → AreLetBelow (turn_by_time l) from to x.end sdu
let_more l from to seen sdu x lawful h lets below u y p q r i = elim (cases_lt u seen) [
  | inl m ↦ below u y p q m i
  | inr m ↦
      let same : turn_by_time l u ≡ Some x = same_to_end (turn_by_time l) (λ t z k. (cyclic_turn_is_exact l t z lawful k).begins) (λ t v z k. (cyclic_turn_is_exact l t z lawful k).same v) seen x h u m r in
      let is : x ≡ y = same_Some x y (sym same ∙ i) in
      subst (λ (z : Turn GateEntry). can_pass_entry z.state sdu ≡ true) is lets
]

-- The search has covered one cycle, or all times up to `to`.
pub let_all : (l : Cyclic GateEntry) (from to seen sdu : ℕ) → IsLawful l → AreLetBelow (turn_by_time l) from to seen sdu → min to (from + l.cycle) < seen → CanPassTurns (turn_by_time l) from to sdu
let_all l from to seen sdu lawful below all u x p q i = elim (cases_lt u seen) [
  | inl m ↦ below u x p q m i
  | inr m ↦
      let c = in_cycle l.cycle from u lawful.cycle_some p in
      let same = c.same in
      let before = c.before in
      let (y, at) = cyclic_turn_exists l c.at lawful in
      let own = below c.at y c.first (omega (arith, same, q)) (omega (arith, before, all, m, q)) at in
      let there : turn_by_time l (c.at + c.cycles * l.cycle) ≡ Some x = subst (λ (v : ℕ). turn_by_time l v ≡ Some x) same i in
      let later = turn_later l c.at c.cycles y x lawful at there in
      subst (λ (e : GateEntry). can_pass_entry e sdu ≡ true) (sym later.state) own
]
