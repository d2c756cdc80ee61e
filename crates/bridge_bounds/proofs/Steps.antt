-- Frames that leave one after another.
use Rattle.std.proofs.Common.{◌≡◌, ℕ, zero, suc, Bool, true, ◌<◌, ◌≤◌, ◌+◌, ◌*◌, arith, refl, subst, inl, inr}
use Rattle.std.proofs.lemmas.Bool.{cases_lt}
use Rattle.bridge_cycle.specs.Fits.{Fits, IsFirstFit}
use Rattle.bridge_bounds.specs.Bounds.{FramesEnd, IsTimeAttained, IsLongestTime}
use Rattle.bridge_port.proofs.Alone.{first_one}

-- The first fit grows with the time and with the length.
pub first_rises : (opens : ℕ → Bool) (own occ from later s t : ℕ) → own ≤ occ → from ≤ later → IsFirstFit opens own from s → IsFirstFit opens occ later t → s ≤ t
first_rises opens own occ from later s t short h a b =
    let after = b.after in
    let fit : Fits opens own t = λ v p q. b.fits v p (omega (arith, q, short)) in
    elim (cases_lt t s) [ inl l ↦ absurd (a.least t (omega (arith, after, h)) l fit) | inr l ↦ l ]

-- The end isn't before the beginning.
pub ends_after : (opens : ℕ → Bool) (occ k u v : ℕ) → FramesEnd opens occ k u v → u ≤ v
ends_after opens occ zero u v e = omega (arith, e)
ends_after opens occ (suc k) u v (w, s, e, first, is) =
    let before = ends_after opens occ k u w e in
    let after = first.after in
    omega (arith, before, after, is)

-- Fewer frames end no later.
pub ends_fewer : (opens : ℕ → Bool) (occ j k u v : ℕ) → j ≤ k → FramesEnd opens occ k u v → (w : ℕ) × FramesEnd opens occ j u w × (w ≤ v)
ends_fewer opens occ j zero u v h e =
    let none : zero ≡ j = omega (arith, h) in
    (v, subst (λ (i : ℕ). FramesEnd opens occ i u v) none e, omega arith)
ends_fewer opens occ j (suc k) u v h (w, s, e, first, is) = elim (cases_lt k j) [
  | inl l ↦
      let all : suc k ≡ j = omega (arith, h, l) in
      (v, subst (λ (i : ℕ). FramesEnd opens occ i u v) all (w, s, e, first, is), omega arith)
  | inr l ↦
      let (x, few, before) = ends_fewer opens occ j k u w l e in
      let after = first.after in
      (x, few, omega (arith, before, after, is))
]

-- The end is unique.
pub ends_once : (opens : ℕ → Bool) (occ k u v z : ℕ) → FramesEnd opens occ k u v → FramesEnd opens occ k u z → v ≡ z
ends_once opens occ zero u v z a b = omega (arith, a, b)
ends_once opens occ (suc k) u v z (w, s, e, first, is) (x, t, f, other, was) =
    let same = ends_once opens occ k u w x e f in
    let here : IsFirstFit opens occ x s = subst (λ (i : ℕ). IsFirstFit opens occ i s) same first in
    let start = first_one opens occ x s t here other in
    omega (arith, start, is, was)

-- The longest time bounds every end.
pub longest_bounds : (opens : ℕ → Bool) (occ k d u v : ℕ) → IsLongestTime opens occ k d → FramesEnd opens occ k u v → v ≤ u + d
longest_bounds opens occ k d u v longest e =
    let (z, f, upto) = longest u in
    let same = ends_once opens occ k u v z e f in
    omega (arith, same, upto)

-- If each time has a first fit, `k` frames have an end.
pub ends_some : (opens : ℕ → Bool) (occ k u : ℕ) → ((w : ℕ) → (s : ℕ) × IsFirstFit opens occ w s) → (v : ℕ) × FramesEnd opens occ k u v
ends_some opens occ zero u some = (u, refl)
ends_some opens occ (suc k) u some =
    let (w, e) = ends_some opens occ k u some in
    let (s, first) = some w in
    (s + occ, (w, s, e, first, refl))

-- After the first frame, the other frames continue from its end.
pub ends_behind : (opens : ℕ → Bool) (occ k u v : ℕ) → FramesEnd opens occ (suc k) u v → (s : ℕ) × IsFirstFit opens occ u s × FramesEnd opens occ k (s + occ) v
ends_behind opens occ zero u v (w, s, e, first, is) = (s, subst (λ (i : ℕ). IsFirstFit opens occ i s) e first, is)
ends_behind opens occ (suc k) u v (w, s, e, first, is) =
    let (t, here, rest) = ends_behind opens occ k u w e in
    (t, here, (w, s, rest, first, is))

-- If two times have equal first fits, their frames have equal ends.
pub ends_alike : (opens : ℕ → Bool) (occ k u w v : ℕ) → ((s : ℕ) → IsFirstFit opens occ u s → IsFirstFit opens occ w s) → FramesEnd opens occ (suc k) u v → FramesEnd opens occ (suc k) w v
ends_alike opens occ zero u w v same (x, s, e, first, is) = (w, s, refl, same s (subst (λ (i : ℕ). IsFirstFit opens occ i s) e first), is)
ends_alike opens occ (suc k) u w v same (x, s, e, first, is) = (x, s, ends_alike opens occ k u w x same e, first, is)

-- One frame more takes at least one transmission time.
pub ends_more : (opens : ℕ → Bool) (occ k u v w : ℕ) → FramesEnd opens occ k u v → FramesEnd opens occ (suc k) u w → v + occ ≤ w
ends_more opens occ k u v w e (x, s, f, first, is) =
    let same = ends_once opens occ k u v x e f in
    let after = first.after in
    omega (arith, same, after, is)

-- If the class is always open, frames leave one after another.
pub ends_open : (opens : ℕ → Bool) (occ k u : ℕ) → ((w : ℕ) → opens w ≡ true) → FramesEnd opens occ k u (u + k * occ)
ends_open opens occ zero u always = omega arith
ends_open opens occ (suc k) u always = (u + k * occ, u + k * occ, ends_open opens occ k u always, record { after = omega arith; fits = λ w p q. always w; least = λ v p q. absurd (omega (arith, p, q)) }, omega arith)

-- Frames that fit one after another from a time on leave one after another.
pub ends_fitting : (opens : ℕ → Bool) (occ k u : ℕ) → ((i : ℕ) → i < k → Fits opens occ (u + i * occ)) → FramesEnd opens occ k u (u + k * occ)
ends_fitting opens occ zero u fits = omega arith
ends_fitting opens occ (suc k) u fits = (u + k * occ, u + k * occ, ends_fitting opens occ k u (λ i h. fits i (omega (arith, h))), record { after = omega arith; fits = fits k (omega arith); least = λ v p q. absurd (omega (arith, p, q)) }, omega arith)

-- Frames that wait from a time on end as those that wait from its first fit on.
pub ends_from : (opens : ℕ → Bool) (occ k u s v : ℕ) → 1 ≤ k → IsFirstFit opens occ u s → FramesEnd opens occ k s v → FramesEnd opens occ k u v
ends_from opens occ zero u s v some first e = absurd (omega (arith, some))
ends_from opens occ (suc k) u s v some first e =
    let own : IsFirstFit opens occ s s = record { after = omega arith; fits = first.fits; least = λ w p q. absurd (omega (arith, p, q)) } in
    ends_alike opens occ k s u v (λ t f. subst (IsFirstFit opens occ u) (first_one opens occ s s t own f) first) e

-- Frames that wait from a later time on end no earlier.
pub ends_rises : (opens : ℕ → Bool) (occ k u v y z : ℕ) → u ≤ v → FramesEnd opens occ k u y → FramesEnd opens occ k v z → y ≤ z
ends_rises opens occ zero u v y z h a b = omega (arith, h, a, b)
ends_rises opens occ (suc k) u v y z h (w, s, e, first, is) (x, t, f, other, was) =
    let before = ends_rises opens occ k u v w x h e f in
    let start = first_rises opens occ occ w x s t (omega arith) before first other in
    omega (arith, start, is, was)

-- An attained time is at most each longest time.
pub attained_least : (opens : ℕ → Bool) (occ k d e : ℕ) → IsLongestTime opens occ k d → IsTimeAttained opens occ k e → e ≤ d
attained_least opens occ k d e longest (u, ends) =
    let upto = longest_bounds opens occ k d u (u + e) longest ends in
    omega (arith, upto)
