-- Capacities that suffice.
use Rattle.std.proofs.Common.{◌≡◌, ◌<◌, ◌≤◌, ◌+◌, ◌-◌, ◌*◌, ℕ, zero, suc, Bool, true, arith, refl, Option, None, Some}
use Rattle.bridge_groups.specs.LinearCurves.{IsLinearCurve, curve_at}
use Rattle.bridge_groups.specs.Rooms.{drains}
use Rattle.bridge_groups.specs.SpanSearches.{AreAllSpansBounded}
use Rattle.bridge_groups.specs.Work.{IsNthFit}
use Rattle.bridge_groups.specs.declared.linear_curve.LinearCurve.{LinearCurve}
use Rattle.bridge_groups.proofs.LinearCurves.{slow}

-- If a class is always open, each ns is a fit.
nth_always : (opens : ℕ → Bool) (occ n u : ℕ) → ((v : ℕ) → opens v ≡ true) → IsNthFit opens occ n u (u + n)
nth_always opens occ zero u always = record { after = omega arith; fits = λ v p q. always v; least = λ v p q. absurd (omega (arith, p, q)) }
nth_always opens occ (suc n) u always = (
  u + n,
  nth_always opens occ n u always,
  record { after = omega arith; fits = λ v p q. always v; least = λ v p q. absurd (omega (arith, p, q)) },
)

-- An option that is no value is none.
pub none_of : {X : Type 0} (o : Option X) → ((x : X) → o ≡ Some x → ⊥) → o ≡ None
none_of None not_some = refl
none_of (Some x) not_some = absurd (not_some x refl)

-- In an always open class, a queue drains if the shortest span has less work than it lasts.
pub drains_always : (opens : ℕ → Bool) (occ least : ℕ) (c : LinearCurve) (many : ℕ → ℕ) (room span : ℕ) → IsLinearCurve c → ((v : ℕ) → opens v ≡ true) → ((w : ℕ) → (room + 1) * least ≤ curve_at c w → room + 1 ≤ many w → span ≤ w) → curve_at c span < (room + 1) * least + span → drains opens occ least (curve_at c) many room
drains_always opens occ least c many room span line always shorter few u w enough frames =
    let after = shorter w enough frames in
    let rise = slow c span w line after in
    (u + (curve_at c w - (room + 1) * least), nth_always opens occ (curve_at c w - (room + 1) * least) u always, omega (arith, rise, few, enough, after))

-- A queue drains if all spans from the shortest one on have delays below the work of the waiting frames.
pub drains_by : (opens : ℕ → Bool) (occ least : ℕ) (curve many : ℕ → ℕ) (room span b : ℕ) → ((w : ℕ) → (room + 1) * least ≤ curve w → room + 1 ≤ many w → span ≤ w) → b < (room + 1) * least → AreAllSpansBounded opens occ ((room + 1) * least) curve span b → drains opens occ least curve many room
drains_by opens occ least curve many room span b shorter few bounded u w enough frames =
    let (v, nth, end) = bounded u w (shorter w enough frames) in
    (v, nth, omega (arith, end, few))
