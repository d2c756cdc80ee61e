-- The longest wait between two times begins at the first time, or 1 ns after the last fit of a window.
use Rattle.std.proofs.Common.{◌≡◌, ℕ, zero, suc, Bool, true, ◌<◌, ◌≤◌, ◌+◌, ◌-◌, ◌*◌, ◌/◌, ◌%◌, max, min, arith, sym, subst, ◌∙◌, inl, inr}
use Rattle.std.proofs.Math.Nat.{mod-lt}
use Rattle.std.proofs.lemmas.Bool.{cases_lt}
use Rattle.bridge_cycle.specs.Cyclic.{Cyclic, IsLawful}
use Rattle.bridge_cycle.specs.Fits.{Fits, IsFirstFit, IsPeriodic}
use Rattle.bridge_cycle.specs.declared.cyclic_list.TheConstants.{LONGEST_CYCLE}
use Rattle.bridge_cycle.proofs.Lists.{list_repeats}
use Rattle.bridge_port.specs.GateSchedule.{list_can_fit, list_opens}
use Rattle.bridge_port.proofs.Opening.{list_ever_is}
use Rattle.bridge_port.proofs.Alone.{first_one}
use Rattle.bridge_bounds.proofs.Edges.{first_up, firsts, fits_or}
use Rattle.bridge_bounds.specs.Waits.{IsLongestWait}

-- A frame that fits at a time starts then.
pub at_once : (opens : ℕ → Bool) (occ u s : ℕ) → Fits opens occ u → IsFirstFit opens occ u s → s ≤ u
at_once opens occ u s here first = elim (cases_lt u s) [ inl l ↦ absurd (first.least u (omega arith) l here) | inr l ↦ l ]

-- The longest wait is known for arrivals up to the last interval that the search has covered.
pub record IsWaited (opens : ℕ → Bool) (occ from to seen wait : ℕ) : Type 0 where
  pub begun : from + (occ - 1) ≤ seen
  pub near : seen ≤ to + (occ - 1) + LONGEST_CYCLE
  pub longest : (u s : ℕ) → from ≤ u → u ≤ to → u + occ ≤ seen + 1 → IsFirstFit opens occ u s → s ≤ u + wait
  pub attained : (u : ℕ) × (from ≤ u) × (u ≤ to) × IsFirstFit opens occ u (u + wait)
  pub bounded : wait ≤ LONGEST_CYCLE

pub waited_begin : (opens : ℕ → Bool) (occ from to s : ℕ) → 1 ≤ occ → from ≤ to → IsFirstFit opens occ from s → s ≤ from + LONGEST_CYCLE → IsWaited opens occ from to (from + (occ - 1)) (s - from)
waited_begin opens occ from to s some within first soon =
    let after = first.after in
    let e : s ≡ from + (s - from) = omega (arith, after) in
    record {
      begun = omega arith;
      near = omega (arith, within);
      longest = λ u v p q r other.
          let same : u ≡ from = omega (arith, p, r, some) in
          let is = first_one opens occ from v s (subst (λ (i : ℕ). IsFirstFit opens occ i v) same other) first in
          omega (arith, is, same, after);
      attained = (from, omega arith, within, subst (IsFirstFit opens occ from) e first);
      bounded = omega (arith, soon);
    }

-- If the window doesn't change, a frame that fits at a time also fits at the next time.
grown : (opens : ℕ → Bool) (occ seen end u : ℕ) → 1 ≤ occ → ((v : ℕ) → seen ≤ v → v < end → opens v ≡ opens seen) → seen + 2 ≤ u + occ → u + occ ≤ end → 1 ≤ u → Fits opens occ (u - 1) → Fits opens occ u
grown opens occ seen end u some same a b c f v p q = elim (cases_lt v (u - 1 + occ)) [
  | inl l ↦ f v (omega (arith, p)) l
  | inr l ↦
      let last : opens (u + occ - 2) ≡ true = f (u + occ - 2) (omega (arith, some, a)) (omega (arith, some, c)) in
      let before : opens (u + occ - 2) ≡ opens seen = same (u + occ - 2) (omega (arith, a)) (omega (arith, b, a)) in
      let here : opens v ≡ opens seen = same v (omega (arith, l, a, c)) (omega (arith, q, b)) in
      here ∙ (sym before ∙ last)
]

-- Inside an interval no wait is longer than the waits before.
inside : (opens : ℕ → Bool) (occ from to seen end wait n u s : ℕ) → 1 ≤ occ → from + (occ - 1) ≤ seen → ((v : ℕ) → seen ≤ v → v < end → opens v ≡ opens seen) → ((x y : ℕ) → from ≤ x → x ≤ to → x + occ ≤ seen + 1 → IsFirstFit opens occ x y → y ≤ x + wait) → u + occ ≡ seen + 1 + n → u ≤ to → u + occ ≤ end → IsFirstFit opens occ u s → s ≤ u + wait
inside opens occ from to seen end wait zero u s some begun same before e within below first = before u s (omega (arith, begun, e)) within (omega (arith, e)) first
inside opens occ from to seen end wait (suc n) u s some begun same before e within below first = elim (fits_or opens occ u) [
  | inl here ↦ let soon = at_once opens occ u s here first in omega (arith, soon)
  | inr none ↦
      let after = first.after in
      let back : IsFirstFit opens occ (u - 1) s = record {
        after = omega (arith, after);
        fits = first.fits;
        least = λ v p q. elim (cases_lt v u) [
          | inl l ↦
              let is : v ≡ u - 1 = omega (arith, l, p) in
              λ f. none (grown opens occ seen end u some same (omega (arith, e)) below (omega (arith, e, begun, some)) (subst (Fits opens occ) is f))
          | inr l ↦ first.least v l q
        ];
      } in
      let sooner = inside opens occ from to seen end wait n (u - 1) s some begun same before (omega (arith, e, begun, some)) (omega (arith, within)) (omega (arith, below)) back in
      omega (arith, sooner)
]

longer_attained : (opens : ℕ → Bool) (occ from to wait u s : ℕ) → ((v : ℕ) × (from ≤ v) × (v ≤ to) × IsFirstFit opens occ v (v + wait)) → from ≤ u → u ≤ to → IsFirstFit opens occ u s → (v : ℕ) × (from ≤ v) × (v ≤ to) × IsFirstFit opens occ v (v + max wait (s - u))
longer_attained opens occ from to wait u s (v, a, b, first) p q other =
    let after = other.after in
    elim (cases_lt wait (s - u)) [
      | inl l ↦ let is : s ≡ u + max wait (s - u) = omega (arith, l, after) in (u, p, q, subst (IsFirstFit opens occ u) is other)
      | inr l ↦ let is : v + wait ≡ v + max wait (s - u) = omega (arith, l) in (v, a, b, subst (IsFirstFit opens occ v) is first)
    ]

-- One interval more.
pub waited_more : (opens : ℕ → Bool) (occ from to seen end wait s : ℕ) → IsWaited opens occ from to seen wait → 1 ≤ occ → from ≤ to → seen < end → end ≤ to + (occ - 1) + LONGEST_CYCLE → ((v : ℕ) → seen ≤ v → v < end → opens v ≡ opens seen) → IsFirstFit opens occ (min (end - (occ - 1)) to) s → s ≤ min (end - (occ - 1)) to + LONGEST_CYCLE → IsWaited opens occ from to end (max wait (s - min (end - (occ - 1)) to))
waited_more opens occ from to seen end wait s w some within on near same first soon =
    let begun = w.begun in
    let bounded = w.bounded in
    let after = first.after in
    let behind : ℕ = min (end - (occ - 1)) to in
    record {
      begun = omega (arith, begun, on);
      near = near;
      longest = λ u v p q r other. elim (cases_lt end (u + occ)) [
        | inl l ↦
            let is : u ≡ behind = omega (arith, l, r, q, some) in
            let one = first_one opens occ behind v s (subst (λ (i : ℕ). IsFirstFit opens occ i v) is other) first in
            omega (arith, one, is, after)
        | inr l ↦ elim (cases_lt (seen + 1) (u + occ)) [
          | inl m ↦
              let before = inside opens occ from to seen end wait (u + occ - (seen + 1)) u v some begun same w.longest (omega (arith, m)) q l other in
              omega (arith, before)
          | inr m ↦ let before = w.longest u v p q m other in omega (arith, before)
        ]
      ];
      attained = longer_attained opens occ from to wait behind s w.attained (omega (arith, begun, on, within, some)) (omega arith) first;
      bounded = omega (arith, soon, bounded);
    }

-- A time is some cycles after a time of the first cycle.
pub record IsInCycle (cycle from u : ℕ) : Type 0 where
  pub at : ℕ
  pub cycles : ℕ
  pub first : from ≤ at
  pub before : at < from + cycle
  pub same : u ≡ at + cycles * cycle

pub in_cycle : (cycle from u : ℕ) → 0 < cycle → from ≤ u → IsInCycle cycle from u
in_cycle cycle from u some h =
    let below : (u - from) % cycle < cycle = mod-lt (u - from) some in
    let e : u ≡ from + (u - from) % cycle + (u - from) / cycle * cycle = grind arith in
    record { at = from + (u - from) % cycle; cycles = (u - from) / cycle; first = omega arith; before = omega (arith, below); same = e }

-- The search has covered one cycle, or all times up to `to`.
pub waited_all : (l : Cyclic ℕ) (class occ from to seen wait : ℕ) → IsLawful l → list_can_fit l class occ ≡ true → IsWaited (list_opens l class) occ from to seen wait → 1 ≤ occ → min to (from + l.cycle) + (occ - 1) ≤ seen → IsLongestWait (list_opens l class) occ from to wait
waited_all l class occ from to seen wait lawful can w some all = record {
  longest = λ u s p q first. elim (cases_lt (seen + 1) (u + occ)) [
    | inr m ↦ w.longest u s p q m first
    | inl m ↦
        let opens : ℕ → Bool = list_opens l class in
        let repeats : IsPeriodic opens l.cycle = list_repeats l class lawful in
        let (fit, fits) = (list_ever_is l class occ lawful).0 can in
        let c = in_cycle l.cycle from u lawful.cycle_some p in
        let same = c.same in
        let before = c.before in
        let (v, other) = firsts opens l.cycle occ fit c.at lawful.cycle_some repeats fits in
        let again : IsFirstFit opens occ u (v + c.cycles * l.cycle) = subst (λ (i : ℕ). IsFirstFit opens occ i (v + c.cycles * l.cycle)) (sym same) (first_up opens l.cycle occ c.cycles c.at v repeats other) in
        let is = first_one opens occ u s (v + c.cycles * l.cycle) first again in
        let sooner = w.longest c.at v c.first (omega (arith, same, q)) (omega (arith, same, q, before, all, m, some)) other in
        omega (arith, is, same, sooner)
  ];
  attained = w.attained;
}
