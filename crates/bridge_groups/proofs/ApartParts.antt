-- Parts of a queue that are apart in time are as if alone at the port.
use Rattle.std.proofs.Common.{◌≡◌, ◌<◌, ◌≤◌, ℕ, Bool, true, false, max, List, [], ◌∷◌, arith, refl, sym, subst, inl, inr}
use Rattle.std.proofs.Math.Bool.{and-false}
use Rattle.std.proofs.lemmas.Bool.Decides.{nat_tests}
use Rattle.std.specs.Prelude.{nat_lt, not}
use Rattle.bridge_limits.specs.Members.{IsMember}
use Rattle.bridge_limits.proofs.Cases.{by_bool}
use Rattle.bridge_cycle.specs.Fits.{IsFirstFit}
use Rattle.bridge_port.specs.Schedule.{Copy, Fate, Full, Never, PortRules, Queued, Started, count_waiting, is_waiting}
use Rattle.bridge_port.specs.Solo.{IsSolo, IsSoloFate, done_time_or, last_done_time}
use Rattle.bridge_groups.specs.ApartParts.{AreApart, ArriveApart, HasLeftBy, HaveDelayBounds, IsOlderEnd, is_in_part, part_copies}

-- A copy that has left doesn't wait.
gone : {X : Type 0} (r : PortRules X) (t : ℕ) (x : Copy X) (xs : List (Copy X)) (f : Fate) → 0 < r.occ x.item → done_time_or f (r.occ x.item) 0 ≤ t → IsSoloFate r x xs f → is_waiting t f ≡ false
gone r t x xs Never some left h = refl
gone r t x xs Full some left h = refl
gone r t x xs Queued some left h = absurd h
gone r t x xs (Started s) some left h =
    let early : s < t = omega (arith, some, left) in
    let k : nat_lt s t ≡ true = grind (arith, nat_tests) in
    rw k refl

-- Copies of the other part that have left don't count as waiting.
same_count : {X : Type 0} (r : PortRules X) (own : X → Bool) (c t : ℕ) (xs : List (Copy X)) → IsSolo r xs → ((y : Copy X) → IsMember y xs → 0 < r.occ y.item) → ((y : Copy X) → IsMember y xs → own y.item ≡ false → HasLeftBy r t y)
    → count_waiting c t xs ≡ count_waiting c t (part_copies own xs)
same_count r own c t [] solo some left = refl
same_count r own c t (x ∷ xs) solo some left =
    let rest = same_count r own c t xs solo.1 (λ y i. some y (inr i)) (λ y i. left y (inr i)) in
    by_bool (own x.item)
    (λ k. rw k (rw rest refl))
    (λ k.
    let none : is_waiting t x.fate ≡ false = gone r t x xs x.fate (some x (inl refl)) (left x (inl refl) k) solo.0 in
    rw (k, none, and-false) (omega (arith, rest)))

last_or : {X : Type 0} (r : PortRules X) (t : ℕ) (x : Copy X) (f : Fate) (older : ℕ) → done_time_or f (r.occ x.item) 0 ≤ t → older ≤ t → done_time_or f (r.occ x.item) older ≤ t
last_or r t x Never older left rest = rest
last_or r t x Full older left rest = rest
last_or r t x Queued older left rest = rest
last_or r t x (Started s) older left rest = left

-- If all copies of a part have left by a time, its newest transmission has ended by then.
last_by : {X : Type 0} (r : PortRules X) (own : X → Bool) (t : ℕ) (xs : List (Copy X)) → ((y : Copy X) → IsMember y xs → own y.item ≡ true → HasLeftBy r t y) → last_done_time r (part_copies own xs) ≤ t
last_by r own t [] left = omega arith
last_by r own t (x ∷ xs) left =
    let rest = last_by r own t xs (λ y i. left y (inr i)) in
    by_bool (own x.item) (λ k. rw k (last_or r t x x.fate (last_done_time r (part_copies own xs)) (left x (inl refl) k) rest)) (λ k. rw k rest)

-- The newest transmission of all copies and that of a part are alike for a copy that arrives when the other part has left.
newest_own : {X : Type 0} (r : PortRules X) (t : ℕ) (x : Copy X) (f : Fate) (a b : ℕ) → max t a ≡ max t b → max t (done_time_or f (r.occ x.item) a) ≡ max t (done_time_or f (r.occ x.item) b)
newest_own r t x Never a b same = same
newest_own r t x Full a b same = same
newest_own r t x Queued a b same = same
newest_own r t x (Started s) a b same = refl

newest_other : {X : Type 0} (r : PortRules X) (t : ℕ) (x : Copy X) (xs : List (Copy X)) (f : Fate) (b : ℕ) → IsSoloFate r x xs f → done_time_or f (r.occ x.item) 0 ≤ t → b ≤ x.at → max t (last_done_time r xs) ≡ max t b → max t (done_time_or f (r.occ x.item) (last_done_time r xs)) ≡ max t b
newest_other r t x xs Never b h left before same = same
newest_other r t x xs Full b h left before same = same
newest_other r t x xs Queued b h left before same = absurd h
newest_other r t x xs (Started s) b h left before same = let first = h.2.after in omega (arith, first, left, before)

same_newest : {X : Type 0} (r : PortRules X) (own : X → Bool) (t : ℕ) (xs : List (Copy X)) → IsSolo r xs → AreApart r own xs → ((y : Copy X) → IsMember y xs → own y.item ≡ false → HasLeftBy r t y)
    → max t (last_done_time r xs) ≡ max t (last_done_time r (part_copies own xs))
same_newest r own t [] solo apart left = refl
same_newest r own t (x ∷ xs) solo apart left =
    let rest = same_newest r own t xs solo.1 apart.1 (λ y i. left y (inr i)) in
    by_bool (own x.item)
    (λ k. rw k (newest_own r t x x.fate (last_done_time r xs) (last_done_time r (part_copies own xs)) rest))
    (λ k.
    let before = last_by r own x.at xs (λ y i e. apart.0 y i (rw (e, k) refl)) in
    rw k (newest_other r t x xs x.fate (last_done_time r (part_copies own xs)) solo.0 (left x (inl refl) k) before rest))

own_fate : {X : Type 0} (r : PortRules X) (x : Copy X) (xs ys : List (Copy X)) (f : Fate) → count_waiting x.class x.at xs ≡ count_waiting x.class x.at ys → max x.at (last_done_time r xs) ≡ max x.at (last_done_time r ys) → IsSoloFate r x xs f → IsSoloFate r x ys f
own_fate r x xs ys Never count newest h = h
own_fate r x xs ys Full count newest h = (h.0, subst (λ (n : ℕ). r.room x.class ≤ n) count h.1)
own_fate r x xs ys Queued count newest h = absurd h
own_fate r x xs ys (Started s) count newest h =
    (h.0, subst (λ (n : ℕ). n < r.room x.class) count h.1, subst (λ (n : ℕ). IsFirstFit (r.opens x.class) (r.occ x.item) n s) newest h.2)

-- Each part of a queue that is apart in time is as if alone.
pub part_alone : {X : Type 0} (r : PortRules X) (own : X → Bool) (xs : List (Copy X)) → IsSolo r xs → ((y : Copy X) → IsMember y xs → 0 < r.occ y.item) → AreApart r own xs → IsSolo r (part_copies own xs)
part_alone r own [] solo some apart = tt
part_alone r own (x ∷ xs) solo some apart =
    let rest = part_alone r own xs solo.1 (λ y i. some y (inr i)) apart.1 in
    by_bool (own x.item)
    (λ k.
    let left : (y : Copy _) → IsMember y xs → own y.item ≡ false → HasLeftBy r x.at y = λ y i e. apart.0 y i (rw (e, k) refl) in
    let count = same_count r own x.class x.at xs solo.1 (λ y i. some y (inr i)) left in
    let newest = same_newest r own x.at xs solo.1 apart.1 left in
    rw k (own_fate r x xs (part_copies own xs) x.fate count newest solo.0, rest))
    (λ k. rw k rest)

-- THE DELAYS OF BOTH PARTS

not_both : (a b : Bool) → not a ≡ not (not b) → a ≡ not b
not_both true true h = sym h
not_both true false h = refl
not_both false true h = refl
not_both false false h = sym h

-- Parts that are apart are apart by either part's name.
apart_either : {X : Type 0} (r : PortRules X) (own : X → Bool) (b : Bool) (xs : List (Copy X)) → AreApart r own xs → AreApart r (is_in_part own b) xs
apart_either r own b [] apart = tt
apart_either r own true (x ∷ xs) apart = (apart.0, apart_either r own true xs apart.1)
apart_either r own false (x ∷ xs) apart = (λ y i e. apart.0 y i (not_both (own y.item) (own x.item) e), apart_either r own false xs apart.1)

in_part : {X : Type 0} (part : X → Bool) (y : Copy X) (xs : List (Copy X)) → part y.item ≡ true → IsMember y xs → IsMember y (part_copies part xs)
in_part part y [] own i = absurd i
in_part part y (x ∷ xs) own (inl same) =
    let k : part x.item ≡ true = subst (λ (z : Copy _). part z.item ≡ true) same own in
    rw k (inl same)
in_part part y (x ∷ xs) own (inr i) =
    let rest = in_part part y xs own i in
    by_bool (part x.item) (λ k. rw k (inr rest)) (λ k. rw k rest)

own_part : {X : Type 0} (own : X → Bool) (b : Bool) (x : X) → own x ≡ b → is_in_part own b x ≡ true
own_part own true x h = h
own_part own false x h = rw h refl

whole : {X : Type 0} (xs : List (Copy X)) → IsOlderEnd xs xs
whole [] = refl
whole (x ∷ xs) = inl refl

-- If both parts have delay bounds by themselves and arrive apart, they are apart.
pub arrivals_apart : {X : Type 0} (r : PortRules X) (own : X → Bool) (delay : Bool → ℕ) (xs : List (Copy X)) → IsSolo r xs → ((y : Copy X) → IsMember y xs → 0 < r.occ y.item) → HaveDelayBounds r own delay xs → ArriveApart own delay xs → AreApart r own xs
arrivals_apart r own delay [] solo some bounds arrive = tt
arrivals_apart r own delay (x ∷ xs) solo some bounds arrive =
    let rest = arrivals_apart r own delay xs solo.1 (λ y i. some y (inr i)) (λ ys b y i. bounds ys b y (inr i)) arrive.1 in (
      λ y i e.
          let b : Bool = own y.item in
          let alone = part_alone r (is_in_part own b) xs solo.1 (λ z j. some z (inr j)) (apart_either r own b xs rest) in
          let left = bounds xs b y (inr (whole xs)) alone (in_part (is_in_part own b) y xs (own_part own b y.item refl) i) in
          let soon = arrive.0 y i e in
          omega (arith, left, soon),
      rest,
    )
