-- Intervals of a gate control list, and the times at which a class is open.
use Rattle.std.proofs.Common.{◌≡◌, ℕ, Bool, true, false, ◌<◌, ◌≤◌, ◌+◌, ◌*◌, ◌/◌, ◌%◌, not, arith, refl, ap, sym, subst, ◌∙◌, Some, inl, inr}
use Rattle.std.proofs.Math.Nat.{mod-lt}
use Rattle.std.proofs.lemmas.Bool.{cases_lt, false≢true}
use Rattle.std.proofs.lemmas.Nat.{div-add-mod'}
use Rattle.bridge_cycle.specs.Cyclic.{Cyclic, IsLawful, turn_by_time}
use Rattle.bridge_cycle.specs.CyclicLaws.{cyclic_turn_is_exact}
use Rattle.bridge_cycle.specs.Fits.{IsPeriodic}
use Rattle.bridge_cycle.specs.Opens.{turn_opens}
use Rattle.bridge_cycle.specs.declared.timeline.Turn.{Turn}
use Rattle.bridge_cycle.proofs.Repeats.{fits_near, turns}
use Rattle.bridge_cycle.proofs.Turns.{same_to_end}
use Rattle.bridge_port.specs.GateSchedule.{list_can_fit, list_opens}
use Rattle.bridge_port.proofs.Opening.{list_soon}
use Rattle.bridge_groups.proofs.FirstFits.{first_some}
use Rattle.bridge_groups.proofs.NthFits.{HasFits}

-- The class stays as it is at time `seen` up to the end of the interval.
pub record LastsUntil (opens : ℕ → Bool) (seen end cycle : ℕ) : Type 0 where
  pub ends : seen < end
  pub soon : end ≤ seen + cycle
  pub same : (u : ℕ) → seen ≤ u → u < end → opens u ≡ opens seen

pub turn_lasts : (l : Cyclic ℕ) (class seen : ℕ) (x : Turn ℕ) → IsLawful l → turn_by_time l seen ≡ Some x → LastsUntil (list_opens l class) seen x.end l.cycle
turn_lasts l class seen x lawful h =
    let is = cyclic_turn_is_exact l seen x lawful h in
    record {
      ends = is.ends;
      soon = is.soon;
      same = λ u p q. ap (λ o. turn_opens o class) (same_to_end (turn_by_time l) (λ t y k. (cyclic_turn_is_exact l t y lawful k).begins) (λ t v y k. (cyclic_turn_is_exact l t y lawful k).same v) seen x h u p q ∙ sym h);
    }

-- If the interval is open, a later closed time is at its end or later.
pub closed_after : (opens : ℕ → Bool) (seen end cycle u : ℕ) → LastsUntil opens seen end cycle → opens seen ≡ true → seen ≤ u → opens u ≡ false → end ≤ u
closed_after opens seen end cycle u turn is_open after closed = elim (cases_lt u end) [
  | inl l ↦ absurd (false≢true (sym closed ∙ (turn.same u after l ∙ is_open)))
  | inr l ↦ l
]

-- Open times before the interval and an open interval are open times up to its end.
pub open_until : (opens : ℕ → Bool) (from seen end cycle : ℕ) → LastsUntil opens seen end cycle → opens seen ≡ true → ((u : ℕ) → from ≤ u → u < seen → opens u ≡ true) → (u : ℕ) → from ≤ u → u < end → opens u ≡ true
open_until opens from seen end cycle turn is_open before u p q = elim (cases_lt u seen) [
  | inl l ↦ before u p l
  | inr l ↦ turn.same u l q ∙ is_open
]

-- A class with a periodic gate that is closed at some time is closed within a cycle of each time.
pub closed_near : (opens : ℕ → Bool) (cycle t from : ℕ) → 0 < cycle → IsPeriodic opens cycle → opens t ≡ false → (u : ℕ) × (from ≤ u) × (u < from + cycle) × (opens u ≡ false)
closed_near opens cycle t from some repeats closed =
    let shuts : ℕ → Bool = λ v. not (opens v) in
    let (u, after, before, fit) = fits_near shuts cycle 1 t from some (λ v. ap not (repeats v)) (λ v p q. let same : t ≡ v = omega (arith, p, q) in subst (λ (i : ℕ). not (opens i) ≡ true) same (ap not closed)) in
    (u, after, before, not_true (opens u) (fit u (omega arith) (omega arith)))
  where
    not_true : (b : Bool) → not b ≡ true → b ≡ false
    not_true true h = sym h
    not_true false h = refl

-- If a transmission can fit under a list, each time has a first fit.
pub list_has_fits : (l : Cyclic ℕ) (class occ : ℕ) → IsLawful l → list_can_fit l class occ ≡ true → HasFits (list_opens l class) occ
list_has_fits l class occ lawful can u =
    let (v, after, near, fit) = list_soon l class occ u lawful can in
    first_some (list_opens l class) occ u v after fit

-- A class with a periodic gate that is open for a whole cycle is always open.
pub open_always : (opens : ℕ → Bool) (cycle seen : ℕ) → 0 < cycle → IsPeriodic opens cycle → cycle ≤ seen → ((u : ℕ) → 0 ≤ u → u < seen → opens u ≡ true) → (u : ℕ) → opens u ≡ true
open_always opens cycle seen some repeats all within u =
    let parts = div-add-mod' u cycle in
    let less = mod-lt u {m = cycle} some in
    let same : (u % cycle) + (u / cycle) * cycle ≡ u = omega (arith, parts) in
    subst (λ (i : ℕ). opens i ≡ true) same (turns opens cycle (u / cycle) (u % cycle) repeats ∙ within (u % cycle) (omega arith) (omega (arith, less, all)))
