-- The intervals of a list recur with each cycle.
use Rattle.std.proofs.Common.{◌≡◌, ℕ, ◌<◌, ◌+◌, ◌-◌, ◌*◌, ◌/◌, ◌%◌, Some, arith, ap, sym, ◌∙◌}
use Rattle.std.proofs.Math.Nat.{mod-lt}
use Rattle.std.proofs.lemmas.Nat.{mod-mul-add}
use Rattle.std.proofs.lemmas.Option.{same_Some}
use Rattle.bridge_cycle.specs.Cyclic.{Cyclic, IsLawful, EntryInterval, phase, entry_interval, turn_by_time, interval_turn}
use Rattle.bridge_cycle.specs.CyclicLaws.{turn_back}
use Rattle.bridge_cycle.specs.declared.timeline.Turn.{Turn}

-- An interval equals another one, `by` ns later.
pub record IsLater {S : Type 0} (x y : Turn S) (by : ℕ) : Type 0 where
  pub state : y.state ≡ x.state
  pub end : y.end ≡ x.end + by

later_of : {S : Type 0} (t p by : ℕ) (z : EntryInterval S) (x y : Turn S) → interval_turn t p (Some z) ≡ Some x → interval_turn (t + by) p (Some z) ≡ Some y → IsLater x y by
later_of t p by z x y h k =
    let a = same_Some _ x h in
    let b = same_Some _ y k in
    let end : t + (z.end - p) ≡ x.end = ap (λ w. w.end) a in
    let other : t + by + (z.end - p) ≡ y.end = ap (λ w. w.end) b in
    record {
      state = sym (ap (λ w. w.state) b) ∙ ap (λ w. w.state) a;
      end = omega (arith, end, other);
    }

-- After `k` cycles the interval recurs, `k` cycles later.
pub turn_later : {S : Type 0} (l : Cyclic S) (t k : ℕ) (x y : Turn S) → IsLawful l → turn_by_time l t ≡ Some x → turn_by_time l (t + k * l.cycle) ≡ Some y → IsLater x y (k * l.cycle)
turn_later {S} l t k x y lawful h i =
    let p = phase l.base l.cycle t in
    let same : phase l.base l.cycle (t + k * l.cycle) ≡ p = cycle_phase l.base l.cycle t k lawful.cycle_some in
    let (z, at, is) = turn_back t p (entry_interval l.entries 0 l.cycle p) x h in
    let there : interval_turn (t + k * l.cycle) p (Some z) ≡ Some y = rw (same, at) at i in
    later_of t p (k * l.cycle) z x y is there
  where
    cycle_phase : (base cycle t k : ℕ) → 0 < cycle → phase base cycle (t + k * cycle) ≡ phase base cycle t
    cycle_phase base cycle t k some =
        let d = cycle - base % cycle in
        let below : (t + d) % cycle < cycle = mod-lt (t + d) some in
        let e : t + k * cycle + d ≡ ((t + d) / cycle + k) * cycle + (t + d) % cycle = grind arith in
        ap (λ n. n % cycle) e ∙ mod-mul-add ((t + d) / cycle + k) cycle ((t + d) % cycle) below
