-- Times and spans from which a delay bound follows.
use Rattle.std.proofs.Common.{◌≡◌, ◌<◌, ◌≤◌, ◌+◌, ◌-◌, ℕ, zero, suc, Bool, true, arith, subst, inl, inr}
use Rattle.std.proofs.lemmas.Bool.{cases_lt}
use Rattle.bridge_cycle.specs.Fits.{Fits, IsFirstFit}
use Rattle.bridge_groups.specs.Work.{HasFitsPerCycle, IsDelayBound, IsNthFit, IsSpanBound}
use Rattle.bridge_groups.proofs.NthFits.{HasFits, first_before, nth_apart, nth_fits, nth_more}

-- From a time without a fit, the fits are those from the next ns.
nth_from_later : (opens : ℕ → Bool) (occ k u v : ℕ) → (Fits opens occ u → ⊥) → IsNthFit opens occ k u v → IsNthFit opens occ k (u + 1) v
nth_from_later opens occ zero u v shut h = record {
  after = elim (cases_lt u v) [ inl l ↦ omega (arith, l) | inr l ↦ absurd (shut (let after = h.after in let same : v ≡ u = omega (arith, after, l) in subst (Fits opens occ) same h.fits)) ];
  fits = h.fits;
  least = λ w p q. h.least w (omega (arith, p)) q;
}
nth_from_later opens occ (suc k) u v shut (w, e, first) = (w, nth_from_later opens occ k u w shut e, first)

-- From a fit, there is one fit more than from the next ns.
nth_from_next : (opens : ℕ → Bool) (occ k u v w : ℕ) → HasFits opens occ → Fits opens occ u → IsNthFit opens occ k u v → IsNthFit opens occ k (u + 1) w → v + 1 ≤ w
nth_from_next opens occ zero u v w some here a b =
    let early : v ≤ u = first_before opens occ occ u v u (omega arith) (omega arith) here a in
    let after = b.after in
    omega (arith, early, after)
nth_from_next opens occ (suc k) u v w some here (x, e, first) (y, f, other) =
    let before = nth_from_next opens occ k u x y some here e f in
    let after = other.after in
    let early = first_before opens occ occ (x + 1) v y (omega arith) (omega (arith, before)) (nth_fits opens occ k (u + 1) y f) first in
    omega (arith, early, after)

-- In a run of fits, each ns has the next fit.
pub run_nth : (opens : ℕ → Bool) (occ n length u first j : ℕ) → IsNthFit opens occ n u first → ((i : ℕ) → i < length → Fits opens occ (first + i)) → j < length → IsNthFit opens occ (n + j) u (first + j)
run_nth opens occ n length u first zero nth run less = subst (λ (i : ℕ). IsNthFit opens occ (n + zero) u i) (let e : first ≡ first + zero = omega arith in e) (subst (λ (i : ℕ). IsNthFit opens occ i u first) (let e : n ≡ n + zero = omega arith in e) nth)
run_nth opens occ n length u first (suc j) nth run less =
    let before = run_nth opens occ n length u first j nth run (omega (arith, less)) in
    let next : IsFirstFit opens occ ((first + j) + 1) (first + suc j) = record { after = omega arith; fits = run (suc j) less; least = λ x p q. absurd (omega (arith, p, q)) } in
    subst (λ (i : ℕ). IsNthFit opens occ i u (first + suc j)) (let e : suc (n + j) ≡ n + suc j = omega arith in e) (first + j, before, next)

module _ (opens : ℕ → Bool) (occ least : ℕ) (curve : ℕ → ℕ) (b : ℕ) (some : HasFits opens occ) where
  -- A bound from the ns after a fit is also a bound from the fit.
  pub from_behind : (u w : ℕ) → Fits opens occ u → IsSpanBound opens occ least curve b (u + 1) w → IsSpanBound opens occ least curve b u w
  from_behind u w here (x, nth, end) =
      let (f, first) = some u in
      let (v, own, upto) = nth_more opens occ 0 (curve w - least) u f some first in
      let same : (curve w - least) + 0 ≡ curve w - least = omega arith in
      let is : IsNthFit opens occ (curve w - least) u v = subst (λ (i : ℕ). IsNthFit opens occ i u v) same own in
      let before = nth_from_next opens occ (curve w - least) u v x some here is nth in
      (v, is, omega (arith, before, end))

  -- A bound from a time without a fit is also a bound from the next ns.
  pub from_before : (u w : ℕ) → (Fits opens occ u → ⊥) → IsSpanBound opens occ least curve b u w → IsSpanBound opens occ least curve b (u + 1) w
  from_before u w shut (v, nth, end) = (v, nth_from_later opens occ (curve w - least) u v shut nth, omega (arith, end))

  -- If the curve rises by at most 1 ns each ns, the shortest span's bound holds for all spans with work that ends in
  -- the same run.
  pub in_run : (u from w n length first : ℕ) → IsNthFit opens occ n u first → ((i : ℕ) → i < length → Fits opens occ (first + i)) → from ≤ w → least ≤ curve from → n ≤ curve from - least → curve w ≤ curve from + (w - from) → curve from ≤ curve w → curve w - least < n + length → first + (curve from - least - n) + least ≤ u + from + b → IsSpanBound opens occ least curve b u w
  in_run u from w n length first nth run before low reaches slow rises ends within =
      let j : ℕ = curve w - least - n in
      let at = run_nth opens occ n length u first j nth run (omega (arith, ends, reaches, rises)) in
      let same : n + j ≡ curve w - least = omega (arith, reaches, rises) in
      (first + j, subst (λ (i : ℕ). IsNthFit opens occ i u (first + j)) same at, omega (arith, within, slow, reaches, rises, before, low))

  -- If a cycle has enough fits for its work, a span's bound holds for the span that is one cycle longer.
  pub in_next_cycle : (cycle n u w : ℕ) → HasFitsPerCycle opens occ cycle n → least ≤ curve w → curve (w + cycle) ≤ curve w + n → IsSpanBound opens occ least curve b u w → IsSpanBound opens occ least curve b u (w + cycle)
  in_next_cycle cycle n u w fits low slow (v, nth, end) =
      let (f, first) = some u in
      let (x, own, upto) = nth_more opens occ 0 (curve (w + cycle) - least) u f some first in
      let same : (curve (w + cycle) - least) + 0 ≡ curve (w + cycle) - least = omega arith in
      let is : IsNthFit opens occ (curve (w + cycle) - least) u x = subst (λ (i : ℕ). IsNthFit opens occ i u x) same own in
      let apart = nth_apart opens occ (curve (w + cycle) - least) ((curve w - least) + n) u x (v + cycle) some (omega (arith, slow, low)) is (fits (curve w - least) u v nth) in
      (x, is, omega (arith, apart, end))

-- A delay bound for a curve holds for each lesser curve.
pub lesser_curve : (opens : ℕ → Bool) (occ least b : ℕ) (curve greater : ℕ → ℕ) → ((w : ℕ) → curve w ≤ greater w) → IsDelayBound opens occ least greater b → IsDelayBound opens occ least curve b
lesser_curve opens occ least b curve greater below done = record {
  has_fit = done.has_fit;
  in_time = λ u w low.
      let upto = below w in
      let (z, far, end) = done.in_time u w (omega (arith, low, upto)) in
      let (f, first) = done.has_fit u in
      let (v, own, after) = nth_more opens occ 0 (curve w - least) u f done.has_fit first in
      let same : (curve w - least) + 0 ≡ curve w - least = omega arith in
      let is : IsNthFit opens occ (curve w - least) u v = subst (λ (i : ℕ). IsNthFit opens occ i u v) same own in
      let apart = nth_apart opens occ (curve w - least) (greater w - least) u v z done.has_fit (omega (arith, upto)) is far in
      (v, is, omega (arith, apart, end));
}

-- If a class is always open and the curve rises by at most 1 ns each ns, the burst is a delay bound.
pub always_in_burst : (opens : ℕ → Bool) (occ least : ℕ) (curve : ℕ → ℕ) → ((u : ℕ) → opens u ≡ true) → ((w : ℕ) → curve w ≤ curve 0 + w) → least ≤ curve 0 → IsDelayBound opens occ least curve (curve 0)
always_in_burst opens occ least curve always slow low = record {
  has_fit = λ u. (u, here u);
  in_time = λ u w enough. let limit = slow w in (u + (curve w - least), nth_of (curve w - least) u, omega (arith, limit, enough));
}
  where
    here : (u : ℕ) → IsFirstFit opens occ u u
    here u = record { after = omega arith; fits = λ v p q. always v; least = λ v p q. absurd (omega (arith, p, q)) }

    nth_of : (n u : ℕ) → IsNthFit opens occ n u (u + n)
    nth_of zero u = subst (λ (i : ℕ). IsFirstFit opens occ u i) (let same : u ≡ u + zero = omega arith in same) (here u)
    nth_of (suc n) u = (u + n, nth_of n u, subst (λ (i : ℕ). IsFirstFit opens occ i (u + suc n)) (let same : u + suc n ≡ (u + n) + 1 = omega arith in same) (here (u + suc n)))
