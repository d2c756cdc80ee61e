-- Statements of the laws about two gate control lists with a schedule change.
use Rattle.std.proofs.Common.{◌≡◌, ℕ, true, false, ◌<◌, ◌≤◌, ◌+◌, min, Option, Some, None, arith, subst, sym, ap, ◌∙◌, inl, inr, refl}
use Rattle.std.specs.Prelude.{nat_lt}
use Rattle.std.specs.Int.{int_max}
use Rattle.std.proofs.lemmas.Int.{ints, clamps}
use Rattle.std.proofs.lemmas.Bool.{cases_lt}
use Rattle.std.proofs.lemmas.Bool.Decides.{nat_tests}
use Rattle.std.proofs.lemmas.Option.{same_Some}
use lib.IntN.{pos}
use lib.Signed.{◌≤ℤ◌}
use Rattle.bridge_cycle.specs.declared.timeline.Turn.{Turn}
use Rattle.bridge_cycle.specs.Cyclic as cyclic
use Rattle.bridge_cycle.specs.CyclicLaws.{cyclic_turn_is_exact, cyclic_turn_exists}
use Rattle.bridge_cycle.specs.CyclicLaws as laws
use Rattle.bridge_cycle.specs.ChangingList.{Joined, clip_end, clip_start, turn_by_time, cycle_length, IsLawful}

-- Holds if interval `x` contains time `t`, ends within `cycle` ns of `t`, and is the interval of each time within it.
pub record IsTimelineTurn {S : Type 0} (turns : ℕ → Option (Turn S)) (cycle t : ℕ) (x : Turn S) : Type 0 where
  pub begins : x.start ≤ℤ pos t
  pub ends : t < x.end
  pub soon : x.end ≤ t + cycle
  pub same : (u : ℕ) → x.start ≤ℤ pos u → u < x.end → turns u ≡ Some x

pub list_turn_is_exact : {S : Type 0} (l : cyclic.Cyclic S) (t : ℕ) (x : Turn S) → cyclic.IsLawful l → cyclic.turn_by_time l t ≡ Some x → IsTimelineTurn (cyclic.turn_by_time l) l.cycle t x
list_turn_is_exact l t x lawful h =
    let s : laws.IsTurn l t x = cyclic_turn_is_exact l t x lawful h in
    record { begins = s.begins; ends = s.ends; soon = s.soon; same = s.same }

early : (t m : ℕ) → t < m → nat_lt t m ≡ true
early t m h = grind (arith, nat_tests)

late : (t m : ℕ) → m ≤ t → nat_lt t m ≡ false
late t m h = grind (arith, nat_tests)

-- The interval of a time before the schedule change comes from the old list.
pub turn_is_old : {S : Type 0} (j : Joined S) (t : ℕ) → t < j.at → turn_by_time j t ≡ clip_end j.at (cyclic.turn_by_time j.old t)
turn_is_old j t h = rw (early t j.at h) refl

-- The interval of a time from the schedule change on comes from the new list.
pub turn_is_new : {S : Type 0} (j : Joined S) (t : ℕ) → j.at ≤ t → turn_by_time j t ≡ clip_start j.at (cyclic.turn_by_time j.new t)
turn_is_new j t h = rw (late t j.at h) refl

cut_back : {S : Type 0} (m : ℕ) (o : Option (Turn S)) (x : Turn S) → clip_end m o ≡ Some x → (y : Turn S) × (o ≡ Some y) × (clip_end m (Some y) ≡ Some x)
cut_back m None x h = absurd (cc)
cut_back m (Some y) x h = (y, refl, h)

raised_back : {S : Type 0} (m : ℕ) (o : Option (Turn S)) (x : Turn S) → clip_start m o ≡ Some x → (y : Turn S) × (o ≡ Some y) × (clip_start m (Some y) ≡ Some x)
raised_back m None x h = absurd (cc)
raised_back m (Some y) x h = (y, refl, h)

cut_turned : {S : Type 0} (j : Joined S) (t : ℕ) (x : Turn S) → IsLawful j → t < j.at → turn_by_time j t ≡ Some x → IsTimelineTurn (turn_by_time j) (cycle_length j) t x
cut_turned {S} j t x lawful l h =
    let b = cut_back j.at (cyclic.turn_by_time j.old t) x (sym (turn_is_old j t l) ∙ h) in
    let y : Turn S = b.0 in
    let s : laws.IsTurn j.old t y = cyclic_turn_is_exact j.old t y lawful.old b.1 in
    let ends : t < y.end = s.ends in
    let soon : y.end ≤ t + j.old.cycle = s.soon in
    subst (IsTimelineTurn (turn_by_time j) (cycle_length j) t) (same_Some (record { state = y.state; start = y.start; end = min y.end j.at }) x b.2) (record {
      begins = s.begins;
      ends = omega arith;
      soon = omega arith;
      same = λ u p q. turn_is_old j u (omega arith) ∙ ap (clip_end j.at) (s.same u p (omega arith));
    })

raised_turned : {S : Type 0} (j : Joined S) (t : ℕ) (x : Turn S) → IsLawful j → j.at ≤ t → turn_by_time j t ≡ Some x → IsTimelineTurn (turn_by_time j) (cycle_length j) t x
raised_turned {S} j t x lawful l h =
    let b = raised_back j.at (cyclic.turn_by_time j.new t) x (sym (turn_is_new j t l) ∙ h) in
    let y : Turn S = b.0 in
    let s : laws.IsTurn j.new t y = cyclic_turn_is_exact j.new t y lawful.new b.1 in
    let begins : y.start ≤ℤ pos t = s.begins in
    let ends : t < y.end = s.ends in
    let soon : y.end ≤ t + j.new.cycle = s.soon in
    subst (IsTimelineTurn (turn_by_time j) (cycle_length j) t) (same_Some (record { state = y.state; start = int_max y.start (pos j.at); end = y.end }) x b.2) (record {
      begins = omega (arith, ints, clamps);
      ends = ends;
      soon = omega arith;
      same = λ u p q.
          let past : j.at ≤ u = omega (arith, ints, clamps) in
          let begun : y.start ≤ℤ pos u = omega (arith, ints, clamps) in
          turn_is_new j u past ∙ ap (clip_start j.at) (s.same u begun q);
    })

-- Each interval of two lists with a schedule change has the properties of `IsTimelineTurn`.
pub changing_turn_is_exact : {S : Type 0} (j : Joined S) (t : ℕ) (x : Turn S) → IsLawful j → turn_by_time j t ≡ Some x → IsTimelineTurn (turn_by_time j) (cycle_length j) t x
changing_turn_is_exact j t x lawful h = elim (cases_lt t j.at) [
  | inl l ↦ cut_turned j t x lawful l h
  | inr r ↦ raised_turned j t x lawful r h
]

-- Two lists with a schedule change have an interval at each time.
pub changing_turn_exists : {S : Type 0} (j : Joined S) (t : ℕ) → IsLawful j → (x : Turn S) × (turn_by_time j t ≡ Some x)
changing_turn_exists {S} j t lawful = elim (cases_lt t j.at) [
  | inl l ↦
      let b : (y : Turn S) × (cyclic.turn_by_time j.old t ≡ Some y) = cyclic_turn_exists j.old t lawful.old in
      (record { state = b.0.state; start = b.0.start; end = min b.0.end j.at }, turn_is_old j t l ∙ ap (clip_end j.at) b.1)
  | inr r ↦
      let b : (y : Turn S) × (cyclic.turn_by_time j.new t ≡ Some y) = cyclic_turn_exists j.new t lawful.new in
      (record { state = b.0.state; start = int_max b.0.start (pos j.at); end = b.0.end }, turn_is_new j t r ∙ ap (clip_start j.at) b.1)
]
