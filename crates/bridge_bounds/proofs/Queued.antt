-- Delays of copies in a queue alone on its link.
use Rattle.std.proofs.Common.{◌≡◌, ◌<◌, ◌≤◌, ◌+◌, ◌-◌, ℕ, zero, suc, Bool, true, false, max, List, [], ◌∷◌, arith, refl, sym, subst, inl, inr}
use Rattle.std.proofs.Math.Bool.{and-false}
use Rattle.std.proofs.lemmas.Bool.{cases_lt, eq-eqb}
use Rattle.std.proofs.lemmas.Bool.Decides.{nat_tests}
use Rattle.std.specs.Prelude.{nat_lt, nat_eq, ◌&&◌, if◌then◌else◌}
use Rattle.bridge_limits.specs.Members.{IsMember}
use Rattle.bridge_cycle.specs.Fits.{IsFirstFit}
use Rattle.bridge_port.specs.Schedule.{Copy, Fate, Never, Full, Queued, Started, PortRules, AreOffersInOrder, count_waiting, is_waiting}
use Rattle.bridge_port.specs.Solo.{IsSolo, IsSoloFate, done_time_or, last_done_time}
use Rattle.bridge_port.proofs.Laws.{offered_later}
use Rattle.bridge_bounds.specs.Bounds.{HaveShortFrames, FramesEnd, IsLongestTime, IsLongestTimeFrom}
use Rattle.bridge_bounds.proofs.Steps.{ends_after, ends_fewer, first_rises}

-- The ends of transmission of the copies before one.
abbrev AreDone : {X : Type 0} → PortRules X → ℕ → ℕ → ℕ → ℕ → List (Copy X) → Type 0
AreDone r c occ t u xs = (k v : ℕ) → k ≡ count_waiting c t xs → FramesEnd (r.opens c) occ k u v → last_done_time r xs ≤ v

-- If a copy starts no earlier than the next arrival, it adds at most one longest frame.
done_late : {X : Type 0} (r : PortRules X) (c occ t u s k v : ℕ) (x : Copy X) (xs : List (Copy X)) → x.class ≡ c → r.occ x.item ≤ occ → x.at ≤ u → AreDone r c occ t u xs → IsFirstFit (r.opens x.class) (r.occ x.item) (max x.at (last_done_time r xs)) s → k ≡ 1 + count_waiting c t xs → FramesEnd (r.opens c) occ k u v → s + occ ≤ v
done_late r c occ t u s zero v x xs class short at before is count e = absurd (omega (arith, count))
done_late r c occ t u s (suc k) v x xs class short at before is count (w, last, e, first, end) =
    let done = before k w (omega (arith, count)) e in
    let later = ends_after (r.opens c) occ k u w e in
    let own : IsFirstFit (r.opens c) (r.occ x.item) (max x.at (last_done_time r xs)) s = subst (λ (i : ℕ). IsFirstFit (r.opens i) (r.occ x.item) (max x.at (last_done_time r xs)) s) class is in
    let start = first_rises (r.opens c) (r.occ x.item) occ (max x.at (last_done_time r xs)) w s last short (omega (arith, done, later, at)) own first in
    omega (arith, start, end)

-- The end of the newest copy, by its fate.
done_by : {X : Type 0} (r : PortRules X) (c occ t u k v : ℕ) (x : Copy X) (xs : List (Copy X)) (f : Fate) → x.class ≡ c → r.occ x.item ≤ occ → x.at ≤ t → t ≤ u → t + occ ≤ u + 1 → AreDone r c occ t u xs → IsSoloFate r x xs f → k ≡ (if nat_eq x.class c && is_waiting t f then 1 else 0) + count_waiting c t xs → FramesEnd (r.opens c) occ k u v → done_time_or f (r.occ x.item) (last_done_time r xs) ≤ v
done_by r c occ t u k v x xs Never class short at base far before fate count e =
    let same : k ≡ count_waiting c t xs = let z = rw and-false at count in omega (arith, z) in
    before k v same e
done_by r c occ t u k v x xs Full class short at base far before fate count e =
    let same : k ≡ count_waiting c t xs = let z = rw and-false at count in omega (arith, z) in
    before k v same e
done_by r c occ t u k v x xs Queued class short at base far before fate count e = absurd fate
done_by r c occ t u k v x xs (Started s) class short at base far before fate count e = elim (cases_lt s t) [
  | inl l ↦
      let later = ends_after (r.opens c) occ k u v e in
      omega (arith, l, short, far, later)
  | inr l ↦
      let own : nat_eq x.class c ≡ true = eq-eqb x.class c class in
      let late : nat_lt s t ≡ false = grind (arith, nat_tests) in
      let more : k ≡ 1 + count_waiting c t xs = rw (own, late) at count in
      let start = done_late r c occ t u s k v x xs class short (omega (arith, at, base)) before fate.2 more e in
      omega (arith, start, short)
]

-- Copies offered up to `t` have left no later than an equal number of longest frames that wait from `u` on. Only copies without start before `t` count.
pub all_done : {X : Type 0} (r : PortRules X) (c occ t u : ℕ) (xs : List (Copy X)) → t ≤ u → t + occ ≤ u + 1 → IsSolo r xs → HaveShortFrames r c occ xs → AreOffersInOrder t xs → AreDone r c occ t u xs
all_done r c occ t u [] base far solo short order k v count e = omega arith
all_done r c occ t u (x ∷ xs) base far solo short order k v count e =
    let (class, own) = short x (inl refl) in
    done_by r c occ t u k v x xs x.fate class own order.0 base far (all_done r c occ t u xs base far solo.1 (λ y i. short y (inr i)) (offered_later x.at t xs order.0 order.1)) solo.0 count e

-- If fewer than `n` copies wait, a sent copy starts before the last of `n` longest frames would leave.
pub starts_early : {X : Type 0} (r : PortRules X) (c occ n d s : ℕ) (x : Copy X) (xs : List (Copy X)) → 1 ≤ occ → IsLongestTime (r.opens c) occ n d → count_waiting c x.at xs < n → IsSolo r (x ∷ xs) → HaveShortFrames r c occ (x ∷ xs) → AreOffersInOrder x.at xs → x.fate ≡ Started s → s + occ ≤ x.at + (occ - 1) + d
starts_early r c occ n d s x xs some longest few solo short order started =
    let (class, own) = short x (inl refl) in
    let fate : IsSoloFate r x xs (Started s) = subst (IsSoloFate r x xs) started solo.0 in
    let u : ℕ = x.at + (occ - 1) in
    let before = all_done r c occ x.at u xs (omega arith) (omega (arith, some)) solo.1 (λ y i. short y (inr i)) order in
    let (z, all, upto) = longest u in
    let (v, ends, early) = ends_fewer (r.opens c) occ (1 + count_waiting c x.at xs) n u z (omega (arith, few)) all in
    let start = done_late r c occ x.at u s (1 + count_waiting c x.at xs) v x xs class own (omega arith) before fate.2 refl ends in
    omega (arith, start, early, upto)

-- A sent copy leaves in time.
pub in_time : {X : Type 0} (r : PortRules X) (c occ d s : ℕ) (x : Copy X) (xs : List (Copy X)) → 1 ≤ occ → IsLongestTime (r.opens c) occ (r.room c) d → IsSolo r (x ∷ xs) → HaveShortFrames r c occ (x ∷ xs) → AreOffersInOrder x.at xs → x.fate ≡ Started s → s + r.occ x.item ≤ x.at + (occ - 1) + d
in_time r c occ d s x xs some longest solo short order started =
    let (class, own) = short x (inl refl) in
    let fate : IsSoloFate r x xs (Started s) = subst (IsSoloFate r x xs) started solo.0 in
    let few : count_waiting c x.at xs < r.room c = subst (λ (i : ℕ). count_waiting i x.at xs < r.room i) class fate.1 in
    let early = starts_early r c occ (r.room c) d s x xs some longest few solo short order started in
    omega (arith, early, own)

-- If the newest copy always leaves at most `d` ns after its offer, every copy does.
pub each_of_newest : {X : Type 0} (r : PortRules X) (c occ d s h : ℕ) (P : List (Copy X) → Type 0) (x : Copy X) (xs : List (Copy X))
    → ((y : Copy X) (ys : List (Copy X)) → P (y ∷ ys) → P ys)
    → ((y : Copy X) (ys : List (Copy X)) → P (y ∷ ys) → IsSolo r (y ∷ ys) → HaveShortFrames r c occ (y ∷ ys) → AreOffersInOrder y.at ys → y.fate ≡ Started s → s + r.occ y.item ≤ y.at + d)
    → P xs → IsSolo r xs → HaveShortFrames r c occ xs → AreOffersInOrder h xs → IsMember x xs → x.fate ≡ Started s → s + r.occ x.item ≤ x.at + d
each_of_newest r c occ d s h P x [] rest newest p solo short order i started = absurd i
each_of_newest r c occ d s h P x (y ∷ ys) rest newest p solo short order (inl same) started =
    let own : y.fate ≡ Started s = subst (λ (z : Copy _). z.fate ≡ Started s) same started in
    subst (λ (z : Copy _). s + r.occ z.item ≤ z.at + d) (sym same) (newest y ys p solo short order.1 own)
each_of_newest r c occ d s h P x (y ∷ ys) rest newest p solo short order (inr later) started = each_of_newest r c occ d s y.at P x ys rest newest (rest y ys p) solo.1 (λ z j. short z (inr j)) order.1 later started

-- Each copy of a queue alone on its link leaves in time.
pub each_in_time : {X : Type 0} (r : PortRules X) (c occ d s h : ℕ) (x : Copy X) (xs : List (Copy X)) → 1 ≤ occ → IsLongestTime (r.opens c) occ (r.room c) d → IsSolo r xs → HaveShortFrames r c occ xs → AreOffersInOrder h xs → IsMember x xs → x.fate ≡ Started s → s + r.occ x.item ≤ x.at + (occ - 1) + d
each_in_time {X} r c occ d s h x xs some longest solo short order i started =
    let done = each_of_newest r c occ ((occ - 1) + d) s h (λ (ys : List (Copy X)). Unit {0}) x xs (λ y ys p. tt)
    (λ y ys p own few upto begun. let done = in_time r c occ d s y ys some longest own few upto begun in omega (arith, done))
    tt solo short order i started in
    omega (arith, done)

-- If the last of `room` longest frames that wait from `occ` - 1 ns after the offer ends by `b`, a sent copy has left by then.
pub done_before : {X : Type 0} (r : PortRules X) (c occ s v : ℕ) (x : Copy X) (xs : List (Copy X)) → 1 ≤ occ → FramesEnd (r.opens c) occ (r.room c) (x.at + (occ - 1)) v → IsSolo r (x ∷ xs) → HaveShortFrames r c occ (x ∷ xs) → AreOffersInOrder x.at xs → x.fate ≡ Started s → s + r.occ x.item ≤ v
done_before r c occ s v x xs some all solo short order started =
    let (class, own) = short x (inl refl) in
    let fate : IsSoloFate r x xs (Started s) = subst (IsSoloFate r x xs) started solo.0 in
    let few : count_waiting c x.at xs < r.room c = subst (λ (i : ℕ). count_waiting i x.at xs < r.room i) class fate.1 in
    let u : ℕ = x.at + (occ - 1) in
    let before = all_done r c occ x.at u xs (omega arith) (omega (arith, some)) solo.1 (λ y i. short y (inr i)) order in
    let (z, ends, early) = ends_fewer (r.opens c) occ (1 + count_waiting c x.at xs) (r.room c) u v (omega (arith, few)) all in
    let start = done_late r c occ x.at u s (1 + count_waiting c x.at xs) z x xs class own (omega arith) before fate.2 refl ends in
    omega (arith, start, early, own)

-- If `lets` is true at each offer, each copy of a queue alone on its link leaves within the longest time from such times.
pub each_from_openings : {X : Type 0} (r : PortRules X) (lets : ℕ → Bool) (c occ d s h : ℕ) (x : Copy X) (xs : List (Copy X)) → 1 ≤ occ → IsLongestTimeFrom lets (r.opens c) occ (occ - 1) (r.room c) d → ((y : Copy X) → IsMember y xs → lets y.at ≡ true) → IsSolo r xs → HaveShortFrames r c occ xs → AreOffersInOrder h xs → IsMember x xs → x.fate ≡ Started s → s + r.occ x.item ≤ x.at + (occ - 1) + d
each_from_openings {X} r lets c occ d s h x xs some longest offered solo short order i started =
    let done = each_of_newest r c occ ((occ - 1) + d) s h (λ (ys : List (Copy X)). (y : Copy X) → IsMember y ys → lets y.at ≡ true) x xs
    (λ y ys p z j. p z (inr j))
    (λ y ys p own few upto begun. let (v, ends, early) = longest y.at (p y (inl refl)) in let done = done_before r c occ s v y ys some ends own few upto begun in omega (arith, done, early))
    offered solo short order i started in
    omega (arith, done)
