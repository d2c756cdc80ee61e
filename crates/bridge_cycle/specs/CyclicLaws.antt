-- Statements of the laws about gate control lists that repeat in cycles.
use Rattle.std.proofs.Common.{◌≡◌, ℕ, ◌<◌, ◌≤◌, ◌+◌, ◌-◌, ◌*◌, ◌/◌, ◌%◌, Option, Some, None, List, [], ◌∷◌, length, arith, subst, sym, ◌∙◌, ap, inl, inr, refl}
use Rattle.std.proofs.lemmas.Int.{ints}
use Rattle.std.proofs.lemmas.Bool.{cases_lt}
use Rattle.std.proofs.lemmas.Bool.Decides.{nat_tests}
use Rattle.std.proofs.lemmas.Nat.{mod-mul-add}
use Rattle.std.proofs.Math.Nat.{mod-lt}
use Rattle.std.proofs.lemmas.Option.{same_Some}
use lib.IntN.{ℤ, pos, ◌-ℤ◌}
use lib.Signed.{◌≤ℤ◌}
use Rattle.bridge_cycle.specs.declared.timeline.Turn.{Turn}
use Rattle.bridge_cycle.specs.Cyclic.{Cyclic, EntryInterval, phase, entry_interval, interval_turn, turn_by_time, interval_sum, IsLawful}

-- Before the end of the first entry, this entry is in force.
pub place_here : {S : Type 0} (e f : S × ℕ) (es : List (S × ℕ)) (start cycle p : ℕ) → p < start + e.1 → entry_interval (e ∷ f ∷ es) start cycle p ≡ Some (record { state = e.0; start = start; end = start + e.1 })
place_here e f es start cycle p h = grind (arith, nat_tests)

-- From the end of the first entry on, the entry in force is one of the others.
pub place_next : {S : Type 0} (e f : S × ℕ) (es : List (S × ℕ)) (start cycle p : ℕ) → start + e.1 ≤ p → entry_interval (e ∷ f ∷ es) start cycle p ≡ entry_interval (f ∷ es) (start + e.1) cycle p
place_next e f es start cycle p h = grind (arith, nat_tests)

-- Holds if the interval of the entry in force at offset `p` contains `p` and lies within the cycle. It is the interval of each offset
-- within it.
pub record IsEntryInterval {S : Type 0} (es : List (S × ℕ)) (start cycle p : ℕ) (x : EntryInterval S) : Type 0 where
  pub begins : x.start ≤ p
  pub ends : p < x.end
  pub after : start ≤ x.start
  pub within : x.end ≤ cycle
  pub same : (q : ℕ) → x.start ≤ q → q < x.end → entry_interval es start cycle q ≡ Some x

pub interval_is_exact : {S : Type 0} (es : List (S × ℕ)) (start cycle p : ℕ) (x : EntryInterval S) → start + interval_sum es ≤ cycle → start ≤ p → p < cycle → entry_interval es start cycle p ≡ Some x → IsEntryInterval es start cycle p x
interval_is_exact [] start cycle p x w a b h = absurd (cc)
interval_is_exact {S} (e ∷ []) start cycle p x w a b h =
    let y : EntryInterval S = record { state = e.0; start = start; end = cycle } in
    subst (IsEntryInterval (e ∷ []) start cycle p) (same_Some y x h) (record { begins = a; ends = b; after = omega arith; within = omega arith; same = λ q k l. refl })
interval_is_exact {S} (e ∷ f ∷ es) start cycle p x w a b h = elim (cases_lt p (start + e.1)) [
  | inl l ↦
      let y : EntryInterval S = record { state = e.0; start = start; end = start + e.1 } in
      subst (IsEntryInterval (e ∷ f ∷ es) start cycle p) (same_Some y x (sym (place_here e f es start cycle p l) ∙ h)) (record { begins = a; ends = l; after = omega arith; within = omega arith; same = λ q k m. place_here e f es start cycle q m })
  | inr r ↦
      let t : IsEntryInterval (f ∷ es) (start + e.1) cycle p x = interval_is_exact (f ∷ es) (start + e.1) cycle p x (omega arith) r b (sym (place_next e f es start cycle p r) ∙ h) in
      record { begins = t.begins; ends = t.ends; after = let k = t.after in omega arith; within = t.within; same = λ q k m. place_next e f es start cycle q (let n = t.after in omega arith) ∙ t.same q k m }
]

-- An interval in time comes from an entry's offsets in the cycle.
pub turn_back : {S : Type 0} (t p : ℕ) (o : Option (EntryInterval S)) (x : Turn S) → interval_turn t p o ≡ Some x → (y : EntryInterval S) × (o ≡ Some y) × (interval_turn t p (Some y) ≡ Some x)
turn_back t p None x h = absurd (cc)
turn_back t p (Some y) x h = (y, refl, h)

-- Time `u` has offset `q` if `u` and `t` differ by the difference of their offsets.
phase_moves : (base cycle t u q : ℕ) → 0 < cycle → q < cycle → u + phase base cycle t ≡ t + q → phase base cycle u ≡ q
phase_moves base cycle t u q c l h =
    let k = cycle - base % cycle in
    let e : u + k ≡ (t + k) / cycle * cycle + q = grind arith in
    ap (λ n. n % cycle) e ∙ mod-mul-add ((t + k) / cycle) cycle q l

-- Holds if interval `x` contains time `t`, ends within a cycle of `t`, and is the interval of each time within it.
pub record IsTurn {S : Type 0} (l : Cyclic S) (t : ℕ) (x : Turn S) : Type 0 where
  pub begins : x.start ≤ℤ pos t
  pub ends : t < x.end
  pub soon : x.end ≤ t + l.cycle
  pub same : (u : ℕ) → x.start ≤ℤ pos u → u < x.end → turn_by_time l u ≡ Some x

pub cyclic_turn_is_exact : {S : Type 0} (l : Cyclic S) (t : ℕ) (x : Turn S) → IsLawful l → turn_by_time l t ≡ Some x → IsTurn l t x
cyclic_turn_is_exact {S} l t x lawful h =
    let p = phase l.base l.cycle t in
    let b = turn_back t p (entry_interval l.entries 0 l.cycle p) x h in
    let y : EntryInterval S = b.0 in
    let below : p < l.cycle = mod-lt (t + (l.cycle - l.base % l.cycle)) lawful.cycle_some in
    let s : IsEntryInterval l.entries 0 l.cycle p y = interval_is_exact l.entries 0 l.cycle p y (let k = lawful.within in omega arith) (omega arith) below b.1 in
    let s_begins : y.start ≤ p = s.begins in
    let s_ends : p < y.end = s.ends in
    let s_within : y.end ≤ l.cycle = s.within in
    subst (IsTurn l t) (same_Some (record { state = y.state; start = pos t -ℤ pos (p - y.start); end = t + (y.end - p) }) x b.2) (record {
      begins = omega (arith, ints);
      ends = omega arith;
      soon = omega arith;
      same = λ u k m.
          let q : ℕ = u + p - t in
          let e : u + p ≡ t + q = omega (arith, ints) in
          let q_low : y.start ≤ q = omega (arith, ints) in
          let q_high : q < y.end = omega arith in
          let moved : phase l.base l.cycle u ≡ q = phase_moves l.base l.cycle t u q lawful.cycle_some (omega arith) e in
          let z : ℤ = pos t -ℤ pos (p - y.start) in
          let starts : pos u -ℤ pos (q - y.start) ≡ z = omega (arith, ints) in
          let ended : u + (y.end - q) ≡ t + (y.end - p) = omega arith in
          rw (moved, s.same q q_low q_high) (rw (starts, ended) refl);
    })

-- A list with an entry has an entry in force at each offset.
some_place : {S : Type 0} (es : List (S × ℕ)) (start cycle p : ℕ) → 0 < length es → (x : EntryInterval S) × (entry_interval es start cycle p ≡ Some x)
some_place [] start cycle p h = absurd (omega arith)
some_place (e ∷ []) start cycle p h = (record { state = e.0; start = start; end = cycle }, refl)
some_place {S} (e ∷ f ∷ es) start cycle p h = elim (cases_lt p (start + e.1)) [
  | inl l ↦ (let y : EntryInterval S = record { state = e.0; start = start; end = start + e.1 } in y, place_here e f es start cycle p l)
  | inr r ↦ let t : (x : EntryInterval S) × (entry_interval (f ∷ es) (start + e.1) cycle p ≡ Some x) = some_place (f ∷ es) (start + e.1) cycle p (omega arith) in (t.0, place_next e f es start cycle p r ∙ t.1)
]

-- A list has an interval at each time.
pub cyclic_turn_exists : {S : Type 0} (l : Cyclic S) (t : ℕ) → IsLawful l → (x : Turn S) × (turn_by_time l t ≡ Some x)
cyclic_turn_exists {S} l t lawful =
    let p = phase l.base l.cycle t in
    let b : (x : EntryInterval S) × (entry_interval l.entries 0 l.cycle p ≡ Some x) = some_place l.entries 0 l.cycle p lawful.some in
    (record { state = b.0.state; start = pos t -ℤ pos (p - b.0.start); end = t + (b.0.end - p) }, rw b.1 refl)
