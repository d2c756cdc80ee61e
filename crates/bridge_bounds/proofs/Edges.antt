-- The longest time is attained 1 ns after the last fit of a window.
use Rattle.std.proofs.Common.{◌≡◌, ℕ, zero, suc, Bool, ◌<◌, ◌≤◌, ◌+◌, ◌-◌, ◌*◌, ◌/◌, ◌%◌, ◌⊎◌, arith, sym, subst, ap, ◌∙◌, inl, inr}
use Rattle.std.proofs.Math.Nat.{mod-lt}
use Rattle.std.proofs.lemmas.Bool.{cases_lt, cases_Bool, false≢true}
use Rattle.bridge_cycle.specs.Fits.{Fits, IsFirstFit, IsPeriodic}
use Rattle.bridge_cycle.specs.Fitting.{all_open}
use Rattle.bridge_cycle.proofs.Fitting.{all_open_gives, all_open_from}
use Rattle.bridge_cycle.proofs.Repeats.{fits_near, fits_up, fits_down}
use Rattle.bridge_bounds.specs.Bounds.{FramesEnd, IsEdge}
use Rattle.bridge_bounds.proofs.Steps.{ends_some, ends_once, ends_more, ends_alike, ends_behind}
use Rattle.bridge_port.proofs.Alone.{first_one}

-- FITS

-- A transmission time fits at a time, or it doesn't.
pub fits_or : (opens : ℕ → Bool) (occ t : ℕ) → Fits opens occ t ⊎ (¬ Fits opens occ t)
fits_or opens occ t = elim (cases_Bool (all_open opens t occ)) [
  | inl h ↦ inl (all_open_gives opens t occ h)
  | inr h ↦ inr (λ f. false≢true (sym h ∙ all_open_from opens t occ f))
]

-- If it fits `n` ns later, there is a first fit.
first_before : (opens : ℕ → Bool) (occ n from : ℕ) → Fits opens occ (from + n) → (s : ℕ) × IsFirstFit opens occ from s
first_before opens occ zero from f = (from, record { after = omega arith; fits = subst (Fits opens occ) (omega arith) f; least = λ v p q. absurd (omega (arith, p, q)) })
first_before opens occ (suc n) from f = elim (fits_or opens occ from) [
  | inl here ↦ (from, record { after = omega arith; fits = here; least = λ v p q. absurd (omega (arith, p, q)) })
  | inr none ↦
      let next : from + suc n ≡ (from + 1) + n = omega arith in
      let (s, first) = first_before opens occ n (from + 1) (subst (Fits opens occ) next f) in
      let after = first.after in (
        s,
        record {
          after = omega (arith, after);
          fits = first.fits;
          least = λ v p q. elim (cases_lt from v) [
            | inl l ↦ first.least v (omega (arith, l)) q
            | inr l ↦ let same : v ≡ from = omega (arith, l, p) in λ g. none (subst (Fits opens occ) same g)
          ];
        },
      )
]

-- If it fits at a later time, there is a first fit.
pub first_some : (opens : ℕ → Bool) (occ from t : ℕ) → from ≤ t → Fits opens occ t → (s : ℕ) × IsFirstFit opens occ from s
first_some opens occ from t h f = let e : t ≡ from + (t - from) = omega (arith, h) in first_before opens occ (t - from) from (subst (Fits opens occ) e f)

-- The last fit before a time at which it doesn't fit.
record IsLastFit (opens : ℕ → Bool) (occ u c : ℕ) : Type 0 where
  fits : Fits opens occ c
  before : c < u
  none : (v : ℕ) → c < v → v ≤ u → ¬ Fits opens occ v

last_from : (opens : ℕ → Bool) (occ n w : ℕ) → Fits opens occ w → (¬ Fits opens occ (w + n)) → (c : ℕ) × IsLastFit opens occ (w + n) c
last_from opens occ zero w f none = let e : w ≡ w + zero = omega arith in absurd (none (subst (Fits opens occ) e f))
last_from opens occ (suc n) w f none = elim (fits_or opens occ (w + n)) [
  | inl here ↦ (
    w + n,
    record {
      fits = here;
      before = omega arith;
      none = λ v p q. let same : w + suc n ≡ v = omega (arith, p, q) in subst (λ (i : ℕ). ¬ Fits opens occ i) same none;
    },
  )
  | inr there ↦
      let (c, last) = last_from opens occ n w f there in
      let before = last.before in (
        c,
        record {
          fits = last.fits;
          before = omega (arith, before);
          none = λ v p q. elim (cases_lt (w + n) v) [
            | inl l ↦ let same : w + suc n ≡ v = omega (arith, l, q) in subst (λ (i : ℕ). ¬ Fits opens occ i) same none
            | inr l ↦ last.none v p l
          ];
        },
      )
]

last_fit : (opens : ℕ → Bool) (occ w u : ℕ) → w ≤ u → Fits opens occ w → (¬ Fits opens occ u) → (c : ℕ) × IsLastFit opens occ u c
last_fit opens occ w u h f none =
    let e : w + (u - w) ≡ u = omega (arith, h) in
    let (c, last) = last_from opens occ (u - w) w f (λ g. none (subst (Fits opens occ) e g)) in
    (c, subst (λ (i : ℕ). IsLastFit opens occ i c) e last)

-- CYCLES

-- A first fit recurs `n` cycles later.
pub first_up : (opens : ℕ → Bool) (cycle occ n from s : ℕ) → IsPeriodic opens cycle → IsFirstFit opens occ from s → IsFirstFit opens occ (from + n * cycle) (s + n * cycle)
first_up opens cycle occ n from s r first =
    let after = first.after in
    record {
      after = omega (arith, after);
      fits = fits_up opens cycle occ n s r first.fits;
      least = λ v p q f.
          let w = v - n * cycle in
          let e : v ≡ w + n * cycle = omega (arith, p) in
          first.least w (omega (arith, p)) (omega (arith, p, q)) (fits_down opens cycle occ n w r (subst (Fits opens occ) e f));
    }

-- Ends recur `n` cycles later.
pub ends_up : (opens : ℕ → Bool) (cycle occ n k u v : ℕ) → IsPeriodic opens cycle → FramesEnd opens occ k u v → FramesEnd opens occ k (u + n * cycle) (v + n * cycle)
ends_up opens cycle occ n zero u v r e = ap (λ (i : ℕ). i + n * cycle) e
ends_up opens cycle occ n (suc k) u v r (w, s, e, first, is) = (w + n * cycle, s + n * cycle, ends_up opens cycle occ n k u w r e, first_up opens cycle occ n w s r first, omega (arith, is))

-- EDGES

-- A class with a periodic gate: the set `S` has a time after each edge of one cycle.
pub record IsCovered (opens : ℕ → Bool) (cycle occ : ℕ) (S : ℕ → Type 0) : Type 0 where
  pub cycle_some : 0 < cycle
  pub repeats : IsPeriodic opens cycle
  pub fit : ℕ
  pub fits : Fits opens occ fit
  pub start : ℕ
  pub serves : S start
  pub edges : (c : ℕ) → 1 ≤ c → c ≤ cycle → IsEdge opens occ c → S (c + 1)

-- Each time has a first fit.
pub firsts : (opens : ℕ → Bool) (cycle occ t u : ℕ) → 0 < cycle → IsPeriodic opens cycle → Fits opens occ t → (s : ℕ) × IsFirstFit opens occ u s
firsts opens cycle occ t u some r f =
    let near = fits_near opens cycle occ t u some r f in
    first_some opens occ u near.0 near.1 near.3

-- Frames that wait from `u` take no longer than frames that wait from `v`.
abbrev pub NoLonger : (ℕ → Bool) → ℕ → ℕ → ℕ → ℕ → Type 0
NoLonger opens occ k u v = (y z : ℕ) → FramesEnd opens occ k u y → FramesEnd opens occ k v z → y + v ≤ z + u

-- The edge before a time without fit, moved to the first cycle.
edge_of : (opens : ℕ → Bool) (cycle occ t u : ℕ) → 0 < cycle → IsPeriodic opens cycle → Fits opens occ t → (¬ Fits opens occ u) → (c : ℕ) × (1 ≤ c) × (c ≤ cycle) × IsEdge opens occ c × ((k y z : ℕ) → FramesEnd opens occ (suc k) u y → FramesEnd opens occ (suc k) (c + 1) z → y + (c + 1) ≤ z + u)
edge_of opens cycle occ t u some r f none =
    let (w, after, soon, fit) = fits_near opens cycle occ t u some r f in
    let far : ¬ Fits opens occ (u + 1 * cycle) = λ g. none (fits_down opens cycle occ 1 u r g) in
    let (b, last) = last_fit opens occ w (u + 1 * cycle) (omega (arith, soon)) fit far in
    let q = (b + cycle - 1) / cycle in
    let p = (b + cycle - 1) % cycle in
    let below : p < cycle = mod-lt (b + cycle - 1) some in
    let e : b + 1 * cycle ≡ (p + 1) + q * cycle = grind arith in
    let next : (b + 1) + 1 * cycle ≡ ((p + 1) + 1) + q * cycle = omega (arith, e) in
    let before = last.before in
    let edge : IsEdge opens occ (p + 1) = record {
      fits = fits_down opens cycle occ q (p + 1) r (subst (Fits opens occ) e (fits_up opens cycle occ 1 b r last.fits));
      last = λ g. last.none (b + 1) (omega arith) (omega (arith, before)) (fits_down opens cycle occ 1 (b + 1) r (subst (Fits opens occ) (sym next) (fits_up opens cycle occ q ((p + 1) + 1) r g)));
    } in (
      p + 1,
      omega arith,
      omega (arith, below),
      edge,
      λ k y z a d.
          let moved : FramesEnd opens occ (suc k) (u + 1 * cycle) (y + 1 * cycle) = ends_up opens cycle occ 1 (suc k) u y r a in
          let same : FramesEnd opens occ (suc k) (b + 1) (y + 1 * cycle) = ends_alike opens occ k (u + 1 * cycle) (b + 1) (y + 1 * cycle) (λ s first. back opens cycle occ u b s last first) moved in
          let again : FramesEnd opens occ (suc k) ((b + 1) + 1 * cycle) ((y + 1 * cycle) + 1 * cycle) = ends_up opens cycle occ 1 (suc k) (b + 1) (y + 1 * cycle) r same in
          let there : FramesEnd opens occ (suc k) (((p + 1) + 1) + q * cycle) (z + q * cycle) = ends_up opens cycle occ q (suc k) ((p + 1) + 1) z r d in
          let one : (y + 1 * cycle) + 1 * cycle ≡ z + q * cycle = ends_once opens occ (suc k) (((p + 1) + 1) + q * cycle) ((y + 1 * cycle) + 1 * cycle) (z + q * cycle) (subst (λ (i : ℕ). FramesEnd opens occ (suc k) i ((y + 1 * cycle) + 1 * cycle)) next again) there in
          omega (arith, one, next, before),
    )
  where
    back : (opens : ℕ → Bool) (cycle occ u b s : ℕ) → IsLastFit opens occ (u + 1 * cycle) b → IsFirstFit opens occ (u + 1 * cycle) s → IsFirstFit opens occ (b + 1) s
    back opens cycle occ u b s last first =
        let after = first.after in
        let before = last.before in
        record {
          after = omega (arith, after, before);
          fits = first.fits;
          least = λ v p q. elim (cases_lt (u + 1 * cycle) v) [
            | inl l ↦ first.least v (omega (arith, l)) q
            | inr l ↦ last.none v (omega (arith, p)) l
          ];
        }

-- Frames that wait from any time take no longer than from some time in `S`.
pub no_longer : (opens : ℕ → Bool) (cycle occ : ℕ) (S : ℕ → Type 0) (k u : ℕ) → IsCovered opens cycle occ S → (v : ℕ) × S v × NoLonger opens occ k u v
no_longer opens cycle occ S zero u h = (h.start, h.serves, λ y z a b. omega (arith, a, b))
no_longer opens cycle occ S (suc k) u h = elim (fits_or opens occ u) [
  | inl here ↦
      let (v, serves, shorter) = no_longer opens cycle occ S k (u + occ) h in (
        v,
        serves,
        λ y z a b.
            let (s, first, rest) = ends_behind opens occ k u y a in
            let now : IsFirstFit opens occ u u = record { after = omega arith; fits = here; least = λ w p q. absurd (omega (arith, p, q)) } in
            let same = first_one opens occ u s u first now in
            let on : FramesEnd opens occ k (u + occ) y = subst (λ (i : ℕ). FramesEnd opens occ k (i + occ) y) same rest in
            let (x, few) = ends_some opens occ k v (λ w. firsts opens cycle occ h.fit w h.cycle_some h.repeats h.fits) in
            let less = shorter y x on few in
            let more = ends_more opens occ k v x z few b in
            omega (arith, less, more),
      )
  | inr none ↦
      let (c, from, upto, edge, shorter) = edge_of opens cycle occ h.fit u h.cycle_some h.repeats h.fits none in
      (c + 1, h.edges c from upto edge, λ y z a b. shorter k y z a b)
]
