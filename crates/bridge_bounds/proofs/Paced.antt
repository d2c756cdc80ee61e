-- Frames of a protected filter that keep a gap wait only until the class is next open long enough.
use Rattle.std.proofs.Common.{◌≡◌, ◌<◌, ◌≤◌, ◌+◌, ℕ, true, false, max, List, [], ◌∷◌, arith, refl, sym, subst, inl, inr}
use Rattle.std.proofs.Math.Bool.{and-false}
use Rattle.std.proofs.lemmas.Bool.{cases_lt, both_ways}
use Rattle.std.proofs.lemmas.Bool.Decides.{nat_tests}
use Rattle.std.specs.Prelude.{nat_lt}
use Rattle.bridge_limits.specs.Members.{IsMember, RelatesToEach, IsOrdered}
use Rattle.bridge_cycle.specs.Fits.{Fits, IsFirstFit}
use Rattle.bridge_frame.specs.Link.{transmission_time}
use Rattle.bridge_frame.proofs.Times.{occupied_some}
use Rattle.bridge_port.specs.GateSchedule.{lists_open}
use Rattle.bridge_port.specs.Schedule.{Copy, Fate, Never, Full, Queued, Started, PortRules, count_waiting, is_waiting}
use Rattle.bridge_port.specs.Solo.{IsSolo, IsSoloFate, last_done_time}
use Rattle.bridge_config.specs.declared.ports.PortPlan.{PortPlan}
use Rattle.bridge_config.specs.Model.{Plan}
use Rattle.bridge_semantics.specs.Events.{Event}
use Rattle.bridge_semantics.specs.Offers.{CarriedFrame, egress_rules, port_offers, copy_offers, class_offers}
use Rattle.bridge_semantics.proofs.Headline.{as_offer, in_offered, in_class_in}
use Rattle.bridge_bounds.specs.Latency.{FitsWithinWait, IsPaced, Conforms, StartsWithinWait}

-- Copy `x` is of class `c`, has a transmission time from 1 to `occ` ns, and fits at some time.
record Suits (r : PortRules CarriedFrame) (c occ : ℕ) (x : Copy CarriedFrame) : Type 0 where
  class : x.class ≡ c
  some : 0 < r.occ x.item
  short : r.occ x.item ≤ occ
  fits : r.ever c (r.occ x.item) ≡ true

abbrev KeepsGap : ℕ → Copy CarriedFrame → Copy CarriedFrame → Type 0
KeepsGap gap a b = b.at + gap ≤ a.at

-- All copies started at most `wait` ns after they arrived.
abbrev AreServed : PortRules CarriedFrame → ℕ → ℕ → List (Copy CarriedFrame) → Type 0
AreServed r c wait xs = (x : Copy CarriedFrame) → IsMember x xs → StartsWithinWait (r.opens c) (r.occ x.item) wait x.at x.fate

-- The newest copy has left before the next one arrives.
done_soon : (r : PortRules CarriedFrame) (c occ wait t : ℕ) (xs : List (Copy CarriedFrame)) → ((x : Copy CarriedFrame) → IsMember x xs → Suits r c occ x) → AreServed r c wait xs → ((x : Copy CarriedFrame) → IsMember x xs → x.at + (wait + occ) ≤ t) → last_done_time r xs ≤ t
done_soon r c occ wait t [] suits served gap = omega arith
done_soon r c occ wait t (x ∷ xs) suits served gap =
    let s = served x (inl refl) in
    let short = (suits x (inl refl)).short in
    let late = s.3 in
    let g = gap x (inl refl) in
    rw s.1 (omega (arith, short, late, g))

-- No copy waits when the next one arrives.
none_waits : (r : PortRules CarriedFrame) (c occ wait t : ℕ) (xs : List (Copy CarriedFrame)) → ((x : Copy CarriedFrame) → IsMember x xs → Suits r c occ x) → AreServed r c wait xs → ((x : Copy CarriedFrame) → IsMember x xs → x.at + (wait + occ) ≤ t) → count_waiting c t xs ≡ 0
none_waits r c occ wait t [] suits served gap = refl
none_waits r c occ wait t (x ∷ xs) suits served gap =
    let s = served x (inl refl) in
    let some = (suits x (inl refl)).some in
    let short = (suits x (inl refl)).short in
    let late = s.3 in
    let g = gap x (inl refl) in
    let before : s.0 < t = omega (arith, some, short, late, g) in
    let k : nat_lt s.0 t ≡ true = grind (arith, nat_tests) in
    let gone : is_waiting t (Started s.0) ≡ false = rw k refl in
    let rest = none_waits r c occ wait t xs (λ y i. suits y (inr i)) (λ y i. served y (inr i)) (λ y i. gap y (inr i)) in
    rw (s.1, gone, and-false) (omega (arith, rest))

fate_within : (r : PortRules CarriedFrame) (c occ wait : ℕ) (x : Copy CarriedFrame) (xs : List (Copy CarriedFrame)) (f : Fate) → FitsWithinWait (r.opens c) occ wait → 1 ≤ r.room c → Suits r c occ x → last_done_time r xs ≤ x.at → count_waiting c x.at xs ≡ 0 → IsSoloFate r x xs f → StartsWithinWait (r.opens c) (r.occ x.item) wait x.at f
fate_within r c occ wait x xs Never soon room suits done none h =
    let can : r.ever x.class (r.occ x.item) ≡ true = subst (λ (k : ℕ). r.ever k (r.occ x.item) ≡ true) (sym suits.class) suits.fits in
    absurd (both_ways (r.ever x.class (r.occ x.item)) h can)
fate_within r c occ wait x xs Full soon room suits done none h =
    let full : r.room c ≤ count_waiting c x.at xs = subst (λ (k : ℕ). r.room k ≤ count_waiting k x.at xs) suits.class h.1 in
    absurd (omega (arith, full, none, room))
fate_within r c occ wait x xs Queued soon room suits done none h = absurd h
fate_within r c occ wait x xs (Started s) soon room suits done none h =
    let first : IsFirstFit (r.opens c) (r.occ x.item) (max x.at (last_done_time r xs)) s = subst (λ (k : ℕ). IsFirstFit (r.opens k) (r.occ x.item) (max x.at (last_done_time r xs)) s) suits.class h.2 in
    let (u, from, upto, fits) = soon x.at in
    let short = suits.short in
    let fit : Fits (r.opens c) (r.occ x.item) u = λ v a b. fits v a (omega (arith, b, short)) in
    let start : s ≤ u = elim (cases_lt u s) [ inl l ↦ absurd (first.least u (omega (arith, from, done)) l fit) | inr l ↦ l ] in
    let same : max x.at (last_done_time r xs) ≡ x.at = omega (arith, done) in
    (s, refl, subst (λ (k : ℕ). IsFirstFit (r.opens c) (r.occ x.item) k s) same first, omega (arith, start, upto))

gap_all : (gap : ℕ) (x : Copy CarriedFrame) (xs : List (Copy CarriedFrame)) → RelatesToEach (KeepsGap gap) x xs → (y : Copy CarriedFrame) → IsMember y xs → y.at + gap ≤ x.at
gap_all gap x [] a y i = absurd i
gap_all gap x (z ∷ zs) a y (inl e) = subst (λ (w : Copy CarriedFrame). w.at + gap ≤ x.at) (sym e) a.0
gap_all gap x (z ∷ zs) a y (inr i) = gap_all gap x zs a.1 y i

-- Copies that keep the gap all start in time.
served_all : (r : PortRules CarriedFrame) (c occ wait : ℕ) (xs : List (Copy CarriedFrame)) → FitsWithinWait (r.opens c) occ wait → 1 ≤ r.room c → IsSolo r xs → ((x : Copy CarriedFrame) → IsMember x xs → Suits r c occ x) → IsOrdered (KeepsGap (wait + occ)) xs → AreServed r c wait xs
served_all r c occ wait [] soon room solo suits rises = λ x i. absurd i
served_all r c occ wait (x ∷ xs) soon room solo suits rises =
    let more : (y : Copy CarriedFrame) → IsMember y xs → Suits r c occ y = λ y i. suits y (inr i) in
    let rest = served_all r c occ wait xs soon room solo.1 more rises.1 in
    let gap = gap_all (wait + occ) x xs rises.0 in
    let own : StartsWithinWait (r.opens c) (r.occ x.item) wait x.at x.fate = fate_within r c occ wait x xs x.fate soon room (suits x (inl refl)) (done_soon r c occ wait x.at xs more rest gap) (none_waits r c occ wait x.at xs more rest gap) solo.0 in
    λ y i. elim i [ inl e ↦ subst (λ (z : Copy CarriedFrame). StartsWithinWait (r.opens c) (r.occ z.item) wait z.at z.fate) (sym e) own | inr j ↦ rest y j ]

-- Copies are as far apart as their offers.
gap_after : (gap : ℕ) (x : Copy CarriedFrame) (xs : List (Copy CarriedFrame)) → RelatesToEach (IsPaced gap) (as_offer x) (copy_offers xs) → RelatesToEach (KeepsGap gap) x xs
gap_after gap x [] a = tt
gap_after gap x (y ∷ ys) a = (a.0, gap_after gap x ys a.1)

gap_of : (gap : ℕ) (xs : List (Copy CarriedFrame)) → IsOrdered (IsPaced gap) (copy_offers xs) → IsOrdered (KeepsGap gap) xs
gap_of gap [] r = tt
gap_of gap (x ∷ xs) r = (gap_after gap x xs r.0, gap_of gap xs r.1)

-- If the offers conform, each copy in a queue by itself starts in time.
pub starts_in_time : {A : Type 0} (p : Plan A) (out : PortPlan A) (c occ wait : ℕ) (es : List Event) (xs : List (Copy CarriedFrame)) → copy_offers xs ≡ class_offers c (port_offers p out es) → IsSolo (egress_rules out) xs → FitsWithinWait (lists_open out.list c) occ wait → 1 ≤ (egress_rules out).room c → Conforms p out c es occ (wait + occ) → (x : Copy CarriedFrame) → IsMember x xs → StartsWithinWait (lists_open out.list c) (transmission_time x.item.len out.speed) wait x.at x.fate
starts_in_time p out c occ wait es xs same solo soon room conforms =
    let paced : IsOrdered (IsPaced (wait + occ)) (copy_offers xs) = subst (IsOrdered (IsPaced (wait + occ))) (sym same) conforms.paced in
    served_all (egress_rules out) c occ wait xs soon room solo
    (λ x i.
    let among : IsMember (as_offer x) (class_offers c (port_offers p out es)) = subst (IsMember (as_offer x)) same (in_offered x xs i) in
    record {
      class = (in_class_in c (as_offer x) (port_offers p out es) among).1;
      some = occupied_some x.item.len out.speed;
      short = conforms.short (as_offer x) among;
      fits = conforms.fits (as_offer x) among;
    })
    (gap_of (wait + occ) xs paced)
