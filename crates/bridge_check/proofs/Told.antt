-- Tables of test results for the numbers below a limit.
use Rattle.std.proofs.Common.{◌≡◌, ◌<◌, ◌≤◌, ◌+◌, ◌-◌, ℕ, zero, suc, Bool, false, List, [], ◌∷◌, ◌++◌, length, take, set, get_or, refl, sym, ap, ◌∙◌, arith, subst, inl, inr, Option, Some, None}
use Rattle.std.proofs.lemmas.Bool.{cases_lt}
use Rattle.std.proofs.lemmas.List.{take_more_set, length-append, get_or_append_left}
use Rattle.std.proofs.Math.Bool.{and-false}
use Rattle.std.proofs.Math.Numerals.{add-one}
use Rattle.std.proofs.Math.Seq.{get_or-append_seam}
use Rattle.bridge_filter.specs.declared.FilterPlan.{FilterPlan}
use Rattle.bridge_config.specs.declared.ports.PortPlan.{PortPlan}
use Rattle.bridge_config.specs.Model.{Plan}
use Rattle.bridge_config.specs.Rules.{find_port}
use Rattle.bridge_check.specs.Reach.{reaches_port, reaches_queue}
use Rattle.bridge_check.specs.Faults.{other_in_queue, outsider_in_queue, first_option, first_among_numbers, tests_in_group}
use Rattle.bridge_check.specs.ReachTables.{test_results, filter_reach, has_queue, all_reaches, least_outsider, other_or_outsider, case_tests, reached_queue_fault}
use Rattle.bridge_check.specs.declared.filter_tests.QueueTest.{QueueTest}

told_length : (n : ℕ) (test : ℕ → Bool) → length (test_results n test) ≡ n
told_length zero test = refl
told_length (suc n) test = let before = told_length n test in length-append (test_results n test) (test n ∷ []) ∙ (let e : length (test_results n test) + 1 ≡ suc n = omega (arith, before) in e)

told_last : (n m : ℕ) (test : ℕ → Bool) (d : Bool) → length (test_results n test) ≡ m → get_or (test_results n test ++ test n ∷ []) m d ≡ test n
told_last n m test d h = subst (λ (i : ℕ). get_or (test_results n test ++ test n ∷ []) i d ≡ test n) h (get_or-append_seam (test_results n test) (test n) [] d)

pub told_at : (n k : ℕ) (test : ℕ → Bool) (d : Bool) → k < n → get_or (test_results n test) k d ≡ test k
told_at zero k test d h = absurd (omega (arith, h))
told_at (suc n) k test d h = elim (cases_lt k n) [
  | inl a ↦
      let inside : k < length (test_results n test) = rw (told_length n test) a in
      get_or_append_left (test_results n test) (test n ∷ []) d k inside ∙ told_at n k test d a
  | inr a ↦
      let same : n ≡ k = omega (arith, h, a) in
      subst (λ (i : ℕ). get_or (test_results n test ++ test n ∷ []) i d ≡ test i) same (told_last n n test d (told_length n test))
]

pub told_more : (test : ℕ → Bool) (xs : List Bool) (i : ℕ) (b : Bool) → i < length xs → b ≡ test i → take i xs ≡ test_results i test → take (i + 1) (set xs i b) ≡ test_results (i + 1) test
told_more test xs i b room is same =
    let next : test_results (i + 1) test ≡ test_results i test ++ test i ∷ [] = rw (add-one i) refl in
    rw (take_more_set xs i b room, same, is) (sym next)

-- The table of a filter's reach gives its reachable queues.
pub in_reach : {A : Type 0} (p : Plan A) (f : FilterPlan) (q c : ℕ) (port : PortPlan A) → 1 ≤ q → q ≤ 16 → find_port p.ports q ≡ Some port → has_queue (filter_reach p f) q port.classes c ≡ reaches_queue p f q c
in_reach p f q c port from to at =
    let back : (q - 1) + 1 ≡ q = omega (arith, from) in
    let before : q - 1 < 16 = omega (arith, from, to) in
    let out : get_or (test_results 16 (λ i. reaches_port p f.handle (i + 1))) (q - 1) false ≡ reaches_port p f.handle q = told_at 16 (q - 1) (λ i. reaches_port p f.handle (i + 1)) false before ∙ ap (reaches_port p f.handle) back in
    rw (at, out) refl

-- The lowest other filter in a queue, by the tables of reaches.
others : {A : Type 0} (p : Plan A) (fs : List (ℕ × FilterPlan)) (n q c : ℕ) (port : PortPlan A) → 1 ≤ q → q ≤ 16 → find_port p.ports q ≡ Some port → least_outsider (all_reaches p fs) None n q port.classes c ≡ other_in_queue p fs n q c
others p [] n q c port from to at = refl
others p (g ∷ gs) n q c port from to at = rw (in_reach p g.1 q c port from to at, others p gs n q c port from to at) refl

-- The lowest filter outside a group in a queue, by the tables of reaches.
outsiders : {A : Type 0} (p : Plan A) (fs : List (ℕ × FilterPlan)) (k n q c : ℕ) (port : PortPlan A) → 1 ≤ q → q ≤ 16 → find_port p.ports q ≡ Some port → least_outsider (all_reaches p fs) (Some k) n q port.classes c ≡ outsider_in_queue p fs k q c
outsiders p [] k n q c port from to at = refl
outsiders p (g ∷ gs) k n q c port from to at = rw (in_reach p g.1 q c port from to at, outsiders p gs k n q c port from to at) refl

pub others_or_outsiders : {A : Type 0} (p : Plan A) (group : Option ℕ) (n q c : ℕ) (port : PortPlan A) → 1 ≤ q → q ≤ 16 → find_port p.ports q ≡ Some port → least_outsider (all_reaches p p.filters) group n q port.classes c ≡ other_or_outsider p group n q c
others_or_outsiders p None n q c port from to at = others p p.filters n q c port from to at
others_or_outsiders p (Some k) n q c port from to at = outsiders p p.filters k n q c port from to at

-- The results of the code are those of the definition.
pub tests_of_group : {A : Type 0} (p : Plan A) (group : Option ℕ) (n : ℕ) (f : FilterPlan) → case_tests p group n f ≡ tests_in_group p group n f
tests_of_group p None n f = refl
tests_of_group p (Some k) n f = refl

-- No queue of a missing port is reachable.
pub unreached : {A : Type 0} (p : Plan A) (f : FilterPlan) (q c : ℕ) → find_port p.ports q ≡ None → reaches_queue p f q c ≡ false
unreached p f q c at = rw at (and-false (reaches_port p f.handle q))

pub none_below : {X : Type 0} (n : ℕ) (tell : ℕ → Option X) → ((k : ℕ) → tell k ≡ None) → first_among_numbers n tell ≡ None
unfolding first_among_numbers
none_below zero tell h = refl
none_below (suc n) tell h = rw (none_below n tell h) (h n)

pub nothing_told : {A : Type 0} (p : Plan A) (n : ℕ) (f : FilterPlan) (t : QueueTest) (q : ℕ) → find_port p.ports q ≡ None → None ≡ first_among_numbers 8 (reached_queue_fault p n f t q)
nothing_told p n f t q at = sym (none_below 8 (reached_queue_fault p n f t q) (λ c. rw (unreached p f q c at) refl))

pub first_none : {X : Type 0} (tell : ℕ → Option X) → first_among_numbers 0 tell ≡ None
unfolding first_among_numbers
first_none tell = refl

pub first_more : {X : Type 0} (n : ℕ) (tell : ℕ → Option X) → first_among_numbers (n + 1) tell ≡ first_option (first_among_numbers n tell) (tell n)
unfolding first_among_numbers
first_more n tell = rw (add-one n) refl
