-- The end of a window, and the latest start before a time.
use Rattle.std.proofs.Common.{◌≡◌, ℕ, Bool, true, false, ◌<◌, ◌≤◌, ◌+◌, ◌-◌, ◌*◌, ◌/◌, ◌%◌, max, arith, sym, subst, ap, ◌∙◌, inl, inr}
use Rattle.std.proofs.Math.Nat.{mod-lt}
use Rattle.std.proofs.lemmas.Bool.{cases_lt, false≢true}
use Rattle.bridge_cycle.specs.Cyclic.{Cyclic, IsLawful}
use Rattle.bridge_cycle.specs.Fits.{Fits}
use Rattle.bridge_cycle.specs.declared.cyclic_list.TheConstants.{LONGEST_CYCLE}
use Rattle.bridge_cycle.proofs.Lists.{list_repeats}
use Rattle.bridge_cycle.proofs.Repeats.{turns}
use Rattle.bridge_port.specs.GateSchedule.{list_can_fit, list_opens}
use Rattle.bridge_bounds.specs.Bounds.{FramesEnd, IsLongestTimeBetween}
use Rattle.bridge_bounds.specs.Intervals.{IsLatestStart, IsLongestAfterEdges, IsWindowEnd}
use Rattle.bridge_bounds.proofs.Steps.{ends_fitting, ends_some}
use Rattle.bridge_bounds.proofs.Lists.{TakeAtMost, attained_by, list_firsts}
use Rattle.bridge_bounds.proofs.Between.{IsBetweenCovered, between_no_longer}

-- A class that is open from `at` until `seen`.
pub record IsOpenUntil (opens : ℕ → Bool) (occ at seen end : ℕ) : Type 0 where
  pub begun : at + occ ≤ seen
  pub near : seen ≤ end + LONGEST_CYCLE
  pub all : (v : ℕ) → at ≤ v → v < seen → opens v ≡ true

pub open_begin : (opens : ℕ → Bool) (occ at end : ℕ) → Fits opens occ at → at + occ ≤ end → IsOpenUntil opens occ at (at + occ) end
open_begin opens occ at end fits h = record { begun = omega arith; near = omega (arith, h); all = fits }

pub open_more : (opens : ℕ → Bool) (occ at seen later end : ℕ) → IsOpenUntil opens occ at seen end → seen < end → seen < later → later ≤ seen + LONGEST_CYCLE → opens seen ≡ true → ((u : ℕ) → seen ≤ u → u < later → opens u ≡ opens seen) → IsOpenUntil opens occ at later end
open_more opens occ at seen later end o before on soon here same =
    let begun = o.begun in
    record {
      begun = omega (arith, begun, on);
      near = omega (arith, soon, before);
      all = λ v p q. elim (cases_lt v seen) [
        | inl l ↦ o.all v p l
        | inr l ↦ same v l q ∙ here
      ];
    }

-- The window ends at the first closed time.
pub open_end : (opens : ℕ → Bool) (occ at seen end : ℕ) → 1 ≤ occ → IsOpenUntil opens occ at seen end → opens seen ≡ false → IsWindowEnd opens occ at (seen - occ)
open_end opens occ at seen end some o shut =
    let begun = o.begun in
    record {
      after = omega (arith, begun);
      all = λ v p q w a b. o.all w (omega (arith, p, a)) (omega (arith, b, q, begun));
      edge = record {
        fits = λ w a b. o.all w (omega (arith, begun, a)) (omega (arith, b, begun));
        last = λ f. false≢true (sym shut ∙ f seen (omega (arith, some, begun)) (omega (arith, some, begun)));
      };
    }

-- If the class is open for a whole cycle, it stays open.
pub open_always : (l : Cyclic ℕ) (class occ at seen end : ℕ) → IsLawful l → IsOpenUntil (list_opens l class) occ at seen end → at + occ + l.cycle ≤ seen → (v : ℕ) → at ≤ v → Fits (list_opens l class) occ v
open_always l class occ at seen end lawful o far v after u p q =
    let opens : ℕ → Bool = list_opens l class in
    let some = lawful.cycle_some in
    let below : (u - at) % l.cycle < l.cycle = mod-lt (u - at) some in
    let moved : u ≡ at + (u - at) % l.cycle + (u - at) / l.cycle * l.cycle = grind arith in
    let first : opens (at + (u - at) % l.cycle) ≡ true = o.all (at + (u - at) % l.cycle) (omega arith) (omega (arith, below, far)) in
    ap opens moved ∙ (turns opens l.cycle ((u - at) / l.cycle) (at + (u - at) % l.cycle) (list_repeats l class lawful) ∙ first)

product_grows : (a b n : ℕ) → a ≤ b → a * n ≤ b * n
product_grows a b n h =
    let same : b * n ≡ a * n + (b - a) * n = grind (arith, h) in
    omega (arith, same)

-- Frames that leave one after another in one window.
pub window_ends : (opens : ℕ → Bool) (occ at c k : ℕ) → 1 ≤ occ → IsWindowEnd opens occ at c → k ≤ (c - at) / occ + 1 → FramesEnd opens occ k at (at + k * occ)
window_ends opens occ at c k some w few =
    let after = w.after in
    let divided : occ * ((c - at) / occ) + (c - at) % occ ≡ c - at = omega (arith, some) in
    ends_fitting opens occ k at (λ i h.
    let below : i * occ ≤ (c - at) / occ * occ = product_grows i ((c - at) / occ) occ (omega (arith, h, few)) in
    w.all (at + i * occ) (omega arith) (omega (arith, after, divided, below)))

-- The longest time between two times, if the latest start is the first of them.
pub between_longest_from : (l : Cyclic ℕ) (class occ room from to latest d : ℕ) → IsLawful l → list_can_fit l class occ ≡ true → 1 ≤ occ → latest ≡ from → IsLatestStart (list_opens l class) occ from to latest → IsLongestAfterEdges (list_opens l class) occ room from to d → IsLongestTimeBetween (list_opens l class) occ room from to d
between_longest_from l class occ room from to latest d lawful can some same is edges =
    let opens : ℕ → Bool = list_opens l class in
    let firsts = λ (w : ℕ). list_firsts l class occ w lawful can in
    let covered : IsBetweenCovered opens occ from to (TakeAtMost opens occ room d) = record {
      start = λ z f. edges.start z f;
      edges = λ c p q edge z f. edges.edges c z p q edge f;
      latest = latest;
      serves = λ z f. let upto = edges.start z (subst (λ (i : ℕ). FramesEnd opens occ room i z) same f) in omega (arith, upto, same);
      is_latest = is;
    } in
    record {
      longest = λ u v p q f.
          let (x, serves, shorter) = between_no_longer opens occ from to to u room (TakeAtMost opens occ room d) some firsts covered p q (omega arith) in
          let (z, g) = ends_some opens occ room x firsts in
          let less = shorter v z f g in
          let upto = serves z g in
          omega (arith, less, upto);
      attained = edges.attained;
    }

-- The longest time between two times.
pub between_longest : (l : Cyclic ℕ) (class occ room from to latest d e : ℕ) → IsLawful l → list_can_fit l class occ ≡ true → 1 ≤ occ → from ≤ to → from ≤ latest → latest ≤ to → IsLatestStart (list_opens l class) occ from to latest → IsLongestAfterEdges (list_opens l class) occ room from to d → FramesEnd (list_opens l class) occ room latest (latest + e) → ((z : ℕ) → FramesEnd (list_opens l class) occ room latest z → z ≤ latest + e) → IsLongestTimeBetween (list_opens l class) occ room from to (max d e)
between_longest l class occ room from to latest d e lawful can some times after before is edges ends most =
    let opens : ℕ → Bool = list_opens l class in
    let firsts = λ (w : ℕ). list_firsts l class occ w lawful can in
    let covered : IsBetweenCovered opens occ from to (TakeAtMost opens occ room (max d e)) = record {
      start = λ z f. let upto = edges.start z f in omega (arith, upto);
      edges = λ c p q edge z f. let upto = edges.edges c z p q edge f in omega (arith, upto);
      latest = latest;
      serves = λ z f. let upto = most z f in omega (arith, upto);
      is_latest = is;
    } in
    record {
      longest = λ u v p q f.
          let (x, serves, shorter) = between_no_longer opens occ from to to u room (TakeAtMost opens occ room (max d e)) some firsts covered p q (omega arith) in
          let (z, g) = ends_some opens occ room x firsts in
          let less = shorter v z f g in
          let upto = serves z g in
          omega (arith, less, upto);
      attained = let (u, p, q, f) = edges.attained in attained_by opens occ room from to e d u (latest, after, before, ends) p q f;
    }
