-- Frames of a talker at the next hop.
use Rattle.std.proofs.Common.{◌≡◌, ◌≤◌, ◌+◌, ◌-◌, ◌*◌, ℕ, true, List, [], ◌∷◌, arith}
use Rattle.std.proofs.Math.Nat.{mul-le-mul_left}
use Rattle.std.proofs.lemmas.Bool.{leb-true}
use Rattle.std.proofs.lemmas.Bool.Decides.{nat_tests}
use Rattle.std.specs.Prelude.{nat_le}
use Rattle.bridge_limits.proofs.Cases.{by_bool}
use Rattle.bridge_groups.specs.Hops.{HaveHopDelays, Passage, recent_arrived_octets, recent_departed_octets}

-- Frames that leave at `u` or later arrived at `u - worst` or later.
left_came : (best worst u : ℕ) (xs : List Passage) → HaveHopDelays best worst xs → recent_departed_octets u xs ≤ recent_arrived_octets (u - worst) xs
left_came best worst u [] times = omega arith
left_came best worst u (x ∷ xs) times =
    let rest = left_came best worst u xs times.1 in
    let own = times.0 in
    by_bool (nat_le u x.departure)
    (λ k.
    let after : u ≤ x.departure = leb-true u x.departure k in
    let slow = own.1 in
    let late : u - worst ≤ x.arrival = omega (arith, after, slow) in
    let here : nat_le (u - worst) x.arrival ≡ true = grind (arith, nat_tests) in
    rw (k, here) (omega (arith, rest)))
    (λ k. rw k (omega (arith, rest)))

-- No frame arrived after the newest one.
pub next_burst : (best worst burst rate unit u w : ℕ) (x : Passage) (xs : List Passage) → HaveHopDelays best worst (x ∷ xs)
    → ((u w : ℕ) → x.arrival ≡ u + w → recent_arrived_octets u (x ∷ xs) * unit ≤ burst * unit + rate * w)
    → x.departure ≡ u + w → recent_departed_octets u (x ∷ xs) * unit ≤ burst * unit + rate * (w + (worst - best))
next_burst best worst burst rate unit u w x xs times keeps at =
    let few = left_came best worst u (x ∷ xs) times in
    let fast = times.0.0 in
    let slow = times.0.1 in
    let from : ℕ = u - worst in
    let v : ℕ = x.arrival - from in
    let own : x.arrival ≡ from + v = omega (arith, slow, at) in
    let before = keeps from v own in
    let more = mul-le-mul_left rate (let h : v ≤ w + (worst - best) = omega (arith, fast, slow, at) in h) in
    let all = mul-le-mul_left unit few in
    omega (arith, before, more, all)
