-- Delays of copies in a queue alone on its link, if few copies arrive in a span of time.
use Rattle.std.proofs.Common.{◌≡◌, ◌<◌, ◌≤◌, ◌+◌, ◌-◌, ℕ, true, List, [], ◌∷◌, arith, inl, inr, refl}
use Rattle.std.specs.Prelude.{nat_eq, nat_le, nat_lt, ◌&&◌, if◌then◌else◌}
use Rattle.std.proofs.Math.Bool.{and-false}
use Rattle.std.proofs.lemmas.Bool.{cases_lt}
use Rattle.std.proofs.lemmas.Bool.Decides.{nat_tests}
use Rattle.bridge_limits.specs.Members.{IsMember}
use Rattle.bridge_limits.proofs.Cases.{by_bool}
use Rattle.bridge_port.specs.Schedule.{Copy, Fate, Full, Never, AreOffersInOrder, Queued, PortRules, Started, is_started, is_waiting, count_waiting}
use Rattle.bridge_port.specs.Solo.{IsSolo, IsSoloFate}
use Rattle.bridge_port.proofs.Laws.{offered_later}
use Rattle.bridge_bounds.specs.Bounds.{HaveShortFrames, IsLongestTime}
use Rattle.bridge_bounds.specs.GateFrames.{AreSeldom, count_recent, offer_times}
use Rattle.bridge_bounds.proofs.Queued.{each_of_newest, starts_early}

-- The older copies are as seldom.
seldom_older : (d n t : ℕ) (f : Fate) (us : List ℕ) → AreSeldom d n (if is_started f then t ∷ us else us) → AreSeldom d n us
seldom_older d n t Never us h = h
seldom_older d n t Full us h = h
seldom_older d n t Queued us h = h
seldom_older d n t (Started s) us h = h.1

-- Before a sent copy, few copies arrived.
few_before : (d n t s : ℕ) (f : Fate) (us : List ℕ) → f ≡ Started s → AreSeldom d n (if is_started f then t ∷ us else us) → count_recent d t us < n
few_before d n t s f us started h = let own : AreSeldom d n (t ∷ us) = rw started at h in own.0

-- One copy more that waits at `t` arrived less than `d` ns before.
one_waits : {X : Type 0} (r : PortRules X) (c d t many : ℕ) (x : Copy X) (xs : List (Copy X)) (f : Fate) (us : List ℕ) → many ≤ count_recent d t us → x.at ≤ t → IsSoloFate r x xs f → ((s : ℕ) → f ≡ Started s → s < x.at + d)
    → (if nat_eq x.class c && is_waiting t f then 1 else 0) + many ≤ count_recent d t (if is_started f then x.at ∷ us else us)
one_waits r c d t many x xs Never us few at fate early = rw and-false (omega (arith, few))
one_waits r c d t many x xs Full us few at fate early = rw and-false (omega (arith, few))
one_waits r c d t many x xs Queued us few at fate early = absurd fate
one_waits r c d t many x xs (Started s) us few at fate early = elim (cases_lt s t) [
  | inl l ↦
      let begun : nat_lt s t ≡ true = grind (arith, nat_tests) in
      rw (begun, and-false) (omega (arith, few))
  | inr l ↦
      let before = early s refl in
      let here : nat_le x.at t ≡ true = grind (arith, nat_tests) in
      let lately : nat_lt t (x.at + d) ≡ true = grind (arith, nat_tests) in
      rw (here, lately) (by_bool (nat_eq x.class c && is_waiting t (Started s)) (λ k. rw k (omega (arith, few))) (λ k. rw k (omega (arith, few))))
]

-- The copies that wait at `t` arrived less than `d` ns before.
pub few_wait : {X : Type 0} (r : PortRules X) (c occ n d t : ℕ) (xs : List (Copy X)) → 1 ≤ occ → IsLongestTime (r.opens c) occ n d → IsSolo r xs → HaveShortFrames r c occ xs → AreOffersInOrder t xs → AreSeldom d n (offer_times xs) → count_waiting c t xs ≤ count_recent d t (offer_times xs)
few_wait r c occ n d t [] some longest solo short order seldom = omega arith
few_wait r c occ n d t (x ∷ xs) some longest solo short order seldom =
    let rest = seldom_older d n x.at x.fate (offer_times xs) seldom in
    let older : HaveShortFrames r c occ xs = λ y i. short y (inr i) in
    let before = few_wait r c occ n d x.at xs some longest solo.1 older order.1 rest in
    one_waits r c d t (count_waiting c t xs) x xs x.fate (offer_times xs) (few_wait r c occ n d t xs some longest solo.1 older (offered_later x.at t xs order.0 order.1) rest) order.0 solo.0
    (λ s started.
    let few = few_before d n x.at s x.fate (offer_times xs) started seldom in
    let early = starts_early r c occ n d s x xs some longest (omega (arith, before, few)) solo short order.1 started in
    omega (arith, early, some))

-- If at most `n` sent copies arrive in the longest time of `n` frames, a sent copy leaves in time.
pub seldom_in_time : {X : Type 0} (r : PortRules X) (c occ n d s : ℕ) (x : Copy X) (xs : List (Copy X)) → 1 ≤ occ → IsLongestTime (r.opens c) occ n d → AreSeldom d n (offer_times (x ∷ xs)) → IsSolo r (x ∷ xs) → HaveShortFrames r c occ (x ∷ xs) → AreOffersInOrder x.at xs → x.fate ≡ Started s → s + r.occ x.item ≤ x.at + (occ - 1) + d
seldom_in_time r c occ n d s x xs some longest seldom solo short order started =
    let (class, own) = short x (inl refl) in
    let before = few_wait r c occ n d x.at xs some longest solo.1 (λ y i. short y (inr i)) order (seldom_older d n x.at x.fate (offer_times xs) seldom) in
    let few = few_before d n x.at s x.fate (offer_times xs) started seldom in
    let early = starts_early r c occ n d s x xs some longest (omega (arith, before, few)) solo short order started in
    omega (arith, early, own)

-- Each copy of a queue alone on its link leaves in time.
pub each_seldom_in_time : {X : Type 0} (r : PortRules X) (c occ n d s h : ℕ) (x : Copy X) (xs : List (Copy X)) → 1 ≤ occ → IsLongestTime (r.opens c) occ n d → AreSeldom d n (offer_times xs) → IsSolo r xs → HaveShortFrames r c occ xs → AreOffersInOrder h xs → IsMember x xs → x.fate ≡ Started s → s + r.occ x.item ≤ x.at + (occ - 1) + d
each_seldom_in_time {X} r c occ n d s h x xs some longest seldom solo short order i started =
    let done = each_of_newest r c occ ((occ - 1) + d) s h (λ (ys : List (Copy X)). AreSeldom d n (offer_times ys)) x xs
    (λ y ys p. seldom_older d n y.at y.fate (offer_times ys) p)
    (λ y ys p own few upto begun. let done = seldom_in_time r c occ n d s y ys some longest p own few upto begun in omega (arith, done))
    seldom solo short order i started in
    omega (arith, done)
