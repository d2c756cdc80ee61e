-- Tests of stream gates over one common cycle show that the gates are apart at all times.
use Rattle.std.proofs.Common.{◌≡◌, ◌≢◌, ◌≤◌, ◌<◌, ◌+◌, ◌-◌, ◌*◌, ◌/◌, ◌%◌, ℕ, length, true, Some, List, arith, ap, sym, subst, ◌∙◌, inl, inr}
use Rattle.std.specs.Prelude.{nat_eq, slice_get}
use Rattle.std.specs.List.{list_all}
use Rattle.std.proofs.Math.Nat.{mod-lt}
use Rattle.std.proofs.lemmas.Bool.{cases_lt, false≢true}
use Rattle.std.proofs.lemmas.Nat.{div-add-mod'}
use Rattle.std.proofs.lemmas.Option.{same_Some, slice_get_within}
use Rattle.bridge_limits.specs.Members.{IsMember}
use Rattle.bridge_limits.proofs.Members.{in_at}
use Rattle.bridge_cycle.specs.Cyclic.{Cyclic, IsLawful, turn_by_time}
use Rattle.bridge_cycle.specs.declared.timeline.Turn.{Turn}
use Rattle.bridge_gate.specs.declared.schedule.GateEntry.{GateEntry}
use Rattle.bridge_groups.specs.ApartGates.{AreListsApart, AreOthersClosed, IsClosedUntil, LeavesGap}
use Rattle.bridge_groups.specs.GateIntervals.{gate_opens, is_open_turn}
use Rattle.bridge_groups.proofs.GateOpenings.{turn_stays}
use Rattle.bridge_groups.proofs.MergedGates.{moved_by_common}

-- Holds if each list before index `count`, except for the one with index `i`, is closed from `from` to `until` - 1.
abbrev pub AreOthersClosedBefore : List (Cyclic GateEntry) → ℕ → ℕ → ℕ → ℕ → Type 0
AreOthersClosedBefore ls i from until count = (j : ℕ) (y : Cyclic GateEntry) → j < count → slice_get ls j ≡ Some y → i ≢ j → IsClosedUntil y from until

-- After one more interval, the gap is left behind all times before the end of this interval.
pub gap_more : (ls : List (Cyclic GateEntry)) (gap seen i : ℕ) (x : Cyclic GateEntry) (turn : Turn GateEntry) → IsLawful x → slice_get ls i ≡ Some x → turn_by_time x seen ≡ Some turn → (turn.state.lets ≡ true → AreOthersClosed ls i seen (turn.end - 1 + gap)) → LeavesGap ls gap seen i → LeavesGap ls gap turn.end i
gap_more ls gap seen i x turn lawful at here closed before j s t own y at_own at_y other less opened also after = elim (cases_lt s seen) [
  | inl early ↦ before j s t own y at_own at_y other early opened also after
  | inr late ↦
      let same : own ≡ x = same_Some own x (sym at_own ∙ at) in
      let stays = turn_stays x lawful seen s turn here late less in
      let open_here : gate_opens x s ≡ true = subst (λ (l : Cyclic GateEntry). gate_opens l s ≡ true) same opened in
      let lets : turn.state.lets ≡ true = sym (ap is_open_turn stays) ∙ open_here in
      elim (cases_lt t (s + gap)) [
        | inl soon ↦
            let shut = closed lets j y at_y other t (omega (arith, late, after)) (omega (arith, soon, less)) in
            absurd (false≢true (sym shut ∙ also))
        | inr enough ↦ enough
      ]
]

-- What holds over one common cycle holds at all times.
pub apart_always : (ls : List (Cyclic GateEntry)) (laws : (l : Cyclic GateEntry) → IsMember l ls → IsLawful l) (cycle gap : ℕ) → 1 ≤ cycle → list_all (λ (l : Cyclic GateEntry). nat_eq (cycle % l.cycle) 0) ls ≡ true → ((i : ℕ) → i < length ls → LeavesGap ls gap cycle i) → AreListsApart ls gap
apart_always ls laws cycle gap some common each i j s t x y at_x at_y other opened also after =
    let q : ℕ = s / cycle in
    let r : ℕ = s % cycle in
    let u : ℕ = t - q * cycle in
    let parts = div-add-mod' s cycle in
    let below : r < cycle = mod-lt s (omega (arith, some)) in
    let first : r + q * cycle ≡ s = omega (arith, parts) in
    let second : u + q * cycle ≡ t = omega (arith, parts, after) in
    let one = (moved_by_common ls laws cycle common x (in_at ls i x at_x) q r).lets in
    let two = (moved_by_common ls laws cycle common y (in_at ls j y at_y) q u).lets in
    let open_x : gate_opens x r ≡ true = sym one ∙ (ap (gate_opens x) first ∙ opened) in
    let open_y : gate_opens y u ≡ true = sym two ∙ (ap (gate_opens y) second ∙ also) in
    let near = each i (slice_get_within ls i x at_x) j r u x y at_x at_y other below open_x open_y (omega (arith, parts, after)) in
    omega (arith, near, first, second)

-- LOOPS

-- One more list is closed.
pub one_more_closed : (ls : List (Cyclic GateEntry)) (own from until i : ℕ) (x : Cyclic GateEntry) → slice_get ls i ≡ Some x → IsClosedUntil x from until → AreOthersClosedBefore ls own from until i → AreOthersClosedBefore ls own from until (i + 1)
one_more_closed ls own from until i x at closed before j y less at_y other = elim (cases_lt j i) [
  | inl early ↦ before j y early at_y other
  | inr late ↦
      let same : j ≡ i = omega (arith, less, late) in
      let equal : y ≡ x = same_Some y x (sym at_y ∙ (ap (slice_get ls) same ∙ at)) in
      subst (λ (l : Cyclic GateEntry). IsClosedUntil l from until) (sym equal) closed
]

-- The list that is left out adds nothing.
pub own_left_out : (ls : List (Cyclic GateEntry)) (own from until i : ℕ) → i ≡ own → AreOthersClosedBefore ls own from until i → AreOthersClosedBefore ls own from until (i + 1)
own_left_out ls own from until i same before j y less at_y other = elim (cases_lt j i) [
  | inl early ↦ before j y early at_y other
  | inr late ↦ absurd (other (omega (arith, less, late, same)))
]

-- Behind the last list, all others are closed.
pub all_others : (ls : List (Cyclic GateEntry)) (own from until i : ℕ) → length ls ≤ i → AreOthersClosedBefore ls own from until i → AreOthersClosed ls own from until
all_others ls own from until i past before j y at_y other = let inside = slice_get_within ls j y at_y in before j y (omega (arith, inside, past)) at_y other
