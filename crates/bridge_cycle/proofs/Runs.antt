use Rattle.std.proofs.Common.{◌≡◌, ℕ, Bool, true, false, ◌+◌, ◌-◌, ◌*◌, ◌/◌, ◌%◌, ◌<◌, ◌≤◌, max, arith, inl, inr, ap, ◌∙◌, sym}
use Rattle.std.proofs.lemmas.Bool.{cases_lt, both_ways}
use Rattle.std.proofs.Math.Nat.{mod-lt}
use Rattle.std.specs.Prelude.{◌↔◌}
use Rattle.bridge_limits.proofs.Cases.{by_bool}
use Rattle.bridge_cycle.specs.Fits.{Fits, IsPeriodic}
use Rattle.bridge_cycle.specs.Runs.{IsLongestFit}
use Rattle.bridge_cycle.proofs.Repeats.{turns, fits_near}

-- Holds if up to time `seen`, the class was open without a break for at most `longest` ns, and for the last `run` ns.
pub record Ran (opens : ℕ → Bool) (longest run seen : ℕ) : Type 0 where
  pub fits : (t : ℕ) × Fits opens longest t
  pub most : (occ t : ℕ) → t + occ ≤ seen → Fits opens occ t → occ ≤ longest
  pub within : run ≤ seen
  pub open_there : (u : ℕ) → seen ≤ u + run → u < seen → opens u ≡ true
  pub tail : (t : ℕ) → t ≤ seen → ((u : ℕ) → t ≤ u → u < seen → opens u ≡ true) → seen ≤ t + run
  pub below : run ≤ longest

pub ran_begin : (opens : ℕ → Bool) → Ran opens 0 0 0
ran_begin opens =
    record {
      fits = (0, λ u h k. absurd (omega arith));
      most = λ occ t h f. omega arith;
      within = omega arith;
      open_there = λ u h k. absurd (omega arith);
      tail = λ t h f. omega arith;
      below = omega arith;
    }

longer : (opens : ℕ → Bool) (longest run seen end : ℕ) → Ran opens longest run seen → seen < end → ((u : ℕ) → seen ≤ u → u < end → opens u ≡ true) → Fits opens (run + (end - seen)) (seen - run)
longer opens longest run seen end r h o u p q = elim (cases_lt u seen) [ inl a ↦ r.open_there u (omega arith) a | inr b ↦ o u b (let k = r.within in omega arith) ]

pub ran_open : (opens : ℕ → Bool) (longest run seen end : ℕ) → Ran opens longest run seen → seen < end → ((u : ℕ) → seen ≤ u → u < end → opens u ≡ true) → Ran opens (max (run + (end - seen)) longest) (run + (end - seen)) end
ran_open opens longest run seen end r h o =
    let inside = r.within in
    record {
      fits = elim (cases_lt longest (run + (end - seen))) [
        | inl a ↦ (let e : max (run + (end - seen)) longest ≡ run + (end - seen) = omega arith in (seen - run, rw e (longer opens longest run seen end r h o)))
        | inr b ↦ (let e : max (run + (end - seen)) longest ≡ longest = omega arith in (r.fits.0, rw e r.fits.1))
      ];
      most = λ occ t k f. elim (cases_lt seen (t + occ)) [
        | inl a ↦ elim (cases_lt t seen) [
          | inl b ↦ let s : seen ≤ t + run = r.tail t (omega arith) (λ u p q. f u p (omega arith)) in omega arith
          | inr b ↦ omega arith
        ]
        | inr a ↦ let s = r.most occ t a f in omega arith
      ];
      within = omega arith;
      open_there = λ u p q. elim (cases_lt u seen) [ inl a ↦ r.open_there u (omega arith) a | inr b ↦ o u b q ];
      tail = λ t k f. elim (cases_lt t seen) [
        | inl b ↦ let s : seen ≤ t + run = r.tail t (omega arith) (λ u p q. f u p (omega arith)) in omega arith
        | inr b ↦ omega arith
      ];
      below = omega arith;
    }

pub ran_closed : (opens : ℕ → Bool) (longest run seen end : ℕ) → Ran opens longest run seen → seen < end → ((u : ℕ) → seen ≤ u → u < end → opens u ≡ false) → Ran opens longest 0 end
ran_closed opens longest run seen end r h o =
    record {
      fits = r.fits;
      most = λ occ t k f. elim (cases_lt seen (t + occ)) [
        | inl a ↦ elim (cases_lt t seen) [
          | inl b ↦ absurd (both_ways (opens seen) (o seen (omega arith) h) (f seen (omega arith) a))
          | inr b ↦ elim (cases_lt 0 occ) [
            | inl c ↦ absurd (both_ways (opens t) (o t b (omega arith)) (f t (omega arith) (omega arith)))
            | inr c ↦ omega arith
          ]
        ]
        | inr a ↦ r.most occ t a f
      ];
      within = omega arith;
      open_there = λ u p q. absurd (omega arith);
      tail = λ t k f. elim (cases_lt t end) [
        | inl b ↦ absurd (both_ways (opens (end - 1)) (o (end - 1) (omega arith) (omega arith)) (f (end - 1) (omega arith) (omega arith)))
        | inr b ↦ omega arith
      ];
      below = omega arith;
    }

pub ran_done : (opens : ℕ → Bool) (longest run seen n : ℕ) → Ran opens longest run seen → n ≤ seen → IsLongestFit opens n longest
ran_done opens longest run seen n r h = record { fits = r.fits; most = λ occ t k f. r.most occ t (omega arith) f }

-- A shorter transmission fits wherever a longer one does.
pub fits_less : (opens : ℕ → Bool) (occ less t : ℕ) → less ≤ occ → Fits opens occ t → Fits opens less t
fits_less opens occ less t h f u p q = f u p (omega arith)

-- A transmission that fits somewhere is at most as long as the longest fit in two cycles.
most_of_all : (opens : ℕ → Bool) (c longest occ t : ℕ) → 0 < c → IsPeriodic opens c → IsLongestFit opens (2 * c) longest → longest < c → Fits opens occ t → occ ≤ longest
most_of_all opens c longest occ t some r l less f =
    let near : (u : ℕ) × (0 ≤ u) × (u < 0 + c) × Fits opens occ u = fits_near opens c occ t 0 some r f in
    elim (cases_lt c occ) [
      | inl a ↦ let k : c ≤ longest = l.most c near.0 (let m = near.2 in omega arith) (fits_less opens occ c near.0 (omega arith) near.3) in omega arith
      | inr b ↦ l.most occ near.0 (let m = near.2 in omega arith) near.3
    ]

one_fits : (opens : ℕ → Bool) (t : ℕ) → opens t ≡ true → Fits opens 1 t
one_fits opens t h u p q = let e : u ≡ t = omega arith in ap opens e ∙ h

pub run_never : (opens : ℕ → Bool) (c longest : ℕ) → 0 < c → IsPeriodic opens c → IsLongestFit opens (2 * c) longest → longest ≡ 0 → (t : ℕ) → opens t ≡ false
run_never opens c longest some r l none t = by_bool (opens t)
    (λ e. let k = most_of_all opens c longest 1 t some r l (omega arith) (one_fits opens t e) in absurd (omega arith))
    (λ e. e)

pub run_for : (opens : ℕ → Bool) (c longest : ℕ) → 0 < c → IsPeriodic opens c → IsLongestFit opens (2 * c) longest → longest < c → (occ : ℕ) → ((t : ℕ) × Fits opens occ t) ↔ (occ ≤ longest)
run_for opens c longest some r l less occ =
    (λ f. most_of_all opens c longest occ f.0 some r l less f.1, λ h. (l.fits.0, fits_less opens longest occ l.fits.0 h l.fits.1))

pub run_always : (opens : ℕ → Bool) (c longest : ℕ) → 0 < c → IsPeriodic opens c → IsLongestFit opens (2 * c) longest → c ≤ longest → (t : ℕ) → opens t ≡ true
run_always opens c longest some r l all t =
    let from = l.fits.0 in
    let far = t + from * c in
    let ahead : from ≤ far = grind arith in
    let p = (far - from) % c in
    let q = (far - from) / c in
    let below : p < c = mod-lt (far - from) some in
    let e : far ≡ from + p + q * c = grind arith in
    sym (turns opens c from t r) ∙ (ap opens e ∙ (turns opens c q (from + p) r ∙ l.fits.1 (from + p) (omega arith) (omega arith)))
