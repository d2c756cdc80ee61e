-- Facts about frames that a grouped filter's passed tests prove.
use Rattle.std.proofs.Common.{◌≡◌, ◌+◌, ℕ, Bool, true, false, not, ◌&&◌, List, [], ◌∷◌, Option, Some, None, is_some, refl, ap, ◌∙◌, subst, inl, inr}
use Rattle.std.specs.Prelude.{option_map}
use Rattle.std.proofs.lemmas.Bool.{false≢true, not-false, not-true}
use Rattle.bridge_limits.specs.Members.{IsMember}
use Rattle.bridge_limits.proofs.Cases.{left_false}
use Rattle.bridge_limits.proofs.Options.{some_of}
use Rattle.bridge_limits.proofs.Cases.{by_bool}
use Rattle.bridge_limits.proofs.Orders.{same_eq}
use Rattle.bridge_filter.specs.declared.FilterPlan.{FilterPlan}
use Rattle.bridge_filter.proofs.Members.{one_number}
use Rattle.bridge_config.specs.Model.{Plan}
use Rattle.bridge_config.specs.Rules.{IsPlan}
use Rattle.bridge_check.specs.declared.check_fault.CheckFault.TheVariants as fault
use Rattle.bridge_check.specs.Reach.{reaches_queue}
use Rattle.bridge_check.specs.Faults.{filter_fault, first_fault_in_reach, first_test_fault, has_catch_all, is_gate_shared, is_in_group, is_meter_shared, member_fault, outsider_in_queue, wildcard_fault, max_sdu_fault, gate_fault, meter_fault, catch_all_fault, queue_fault, outsider_fault, window_fault, size_fault}
use Rattle.bridge_check.specs.Acceptable.{IsIsolatedMember}
use Rattle.bridge_check.specs.declared.check_fault.CheckFault.{CheckFault}
use Rattle.bridge_check.proofs.Isolated.{both_none, caught, fits_at_some_time, holds, isolated, not_told, only_gate, only_meter, passed_over, reached, size_suits, told_none, window_alone}
use Rattle.bridge_check.proofs.Told.{none_below}

-- If no outsider reaches a queue, each filter that reaches it is in the group.
no_outsider : {A : Type 0} (p : Plan A) (gs : List (ℕ × FilterPlan)) (k q c j : ℕ) (g : FilterPlan) → outsider_in_queue p gs k q c ≡ None → IsMember (j, g) gs → reaches_queue p g q c ≡ true → is_in_group k g.group ≡ true
no_outsider p [] k q c j g h i r = absurd i
no_outsider p (y ∷ ys) k q c j g h (inl e) r =
    let (not_it, rest) = passed_over (not (is_in_group k y.1.group) && reaches_queue p y.1 q c) y.0 (outsider_in_queue p ys k q c) h in
    let own : (not (is_in_group k g.group) && reaches_queue p g q c) ≡ false = ap (λ (z : ℕ × FilterPlan). not (is_in_group k z.1.group) && reaches_queue p z.1 q c) e ∙ not_it in
    not-false (is_in_group k g.group) (left_false (not (is_in_group k g.group)) (reaches_queue p g q c) own r)
no_outsider p (y ∷ ys) k q c j g h (inr i) r =
    let (not_it, rest) = passed_over (not (is_in_group k y.1.group) && reaches_queue p y.1 q c) y.0 (outsider_in_queue p ys k q c) h in
    no_outsider p ys k q c j g rest i r

pub isolated_member : {A : Type 0} (p : Plan A) (k n : ℕ) (f : FilterPlan) → IsPlan p → IsMember (n, f) p.filters → member_fault p k n f ≡ None → IsIsolatedMember p k n f
isolated_member p k n f plan listed h =
    let (handle, h1) = both_none _ _ h in
    let (sdu, h2) = both_none _ _ h1 in
    let (gate, h3) = both_none _ _ h2 in
    let (meter, h4) = both_none _ _ h3 in
    let (catches, h5) = both_none _ _ h4 in
    let (queue, h6) = both_none _ _ h5 in
    let (window, h7) = both_none _ _ h6 in
    let (size, h8) = both_none _ _ h7 in
    record {
      handle = some_of f.handle (holds (is_some f.handle) _ handle);
      max_sdu = some_of f.max_sdu (holds (is_some f.max_sdu) _ sdu);
      gate = λ j g i e. only_gate p.filters n f j g (not-true (is_gate_shared p.filters n f) (holds (not (is_gate_shared p.filters n f)) _ gate)) i e;
      meter = λ j m g own i e. only_meter p.filters n f j m g (not-true (is_meter_shared p.filters n f) (holds (not (is_meter_shared p.filters n f)) _ meter)) own i e;
      catches = caught p.filters (holds (has_catch_all p.filters) _ catches);
      queue = λ j q c g i own other. no_outsider p p.filters k q c j g (told_none (fault.QueueShared n q c) (outsider_in_queue p p.filters k q c) (not_told p f q c (λ q c. option_map (fault.QueueShared n q c) (outsider_in_queue p p.filters k q c)) queue (reached p f q c plan own) own)) i other;
      window = λ q c port at own d u oc od. window_alone p n q c d u f port plan window at own oc od;
      can_fit = λ q c m port at own e. size_suits p n q c m f port plan size at own e;
      fits = λ q c m port at own e. fits_at_some_time p q c m port plan at (size_suits p n q c m f port plan size at own e);
    }

-- A PROTECTED FILTER IN A GROUP

-- If eight tests pass and another sixth test passes too, the eight tests with it pass.
with_sixth : (a b c d e x y g h : Option CheckFault) → first_test_fault (a ∷ b ∷ c ∷ d ∷ e ∷ x ∷ g ∷ h ∷ []) ≡ None → y ≡ None → first_test_fault (a ∷ b ∷ c ∷ d ∷ e ∷ y ∷ g ∷ h ∷ []) ≡ None
with_sixth a b c d e x y g h all sixth =
    let (pa, r1) = both_none a (first_test_fault (b ∷ c ∷ d ∷ e ∷ x ∷ g ∷ h ∷ [])) all in
    let (pb, r2) = both_none b (first_test_fault (c ∷ d ∷ e ∷ x ∷ g ∷ h ∷ [])) r1 in
    let (pc, r3) = both_none c (first_test_fault (d ∷ e ∷ x ∷ g ∷ h ∷ [])) r2 in
    let (pd, r4) = both_none d (first_test_fault (e ∷ x ∷ g ∷ h ∷ [])) r3 in
    let (pe, r5) = both_none e (first_test_fault (x ∷ g ∷ h ∷ [])) r4 in
    let (px, r6) = both_none x (first_test_fault (g ∷ h ∷ [])) r5 in
    let (pg, r7) = both_none g (first_test_fault (h ∷ [])) r6 in
    let (ph, r8) = both_none h None r7 in
    rw (pa, pb, pc, pd, pe, sixth, pg, ph) refl

-- If each filter that reaches a queue is in the group, no outsider is found.
none_outside : {A : Type 0} (p : Plan A) (gs : List (ℕ × FilterPlan)) (k q c : ℕ) → ((j : ℕ) (g : FilterPlan) → IsMember (j, g) gs → reaches_queue p g q c ≡ true → is_in_group k g.group ≡ true) → outsider_in_queue p gs k q c ≡ None
none_outside p [] k q c inside = refl
none_outside p (y ∷ ys) k q c inside =
    let rest : outsider_in_queue p ys k q c ≡ None = none_outside p ys k q c (λ j g i r. inside j g (inr i) r) in
    by_bool (reaches_queue p y.1 q c)
    (λ r. let own : is_in_group k y.1.group ≡ true = inside y.0 y.1 (inl refl) r in rw (own, rest) refl)
    (λ r. by_bool (is_in_group k y.1.group) (λ own. rw (own, rest) refl) (λ own. rw (own, r, rest) refl))

-- A test of queues finds no fault if each reachable queue passes it.
none_in_reach : {A : Type 0} (p : Plan A) (f : FilterPlan) (tell : ℕ → ℕ → Option CheckFault) → ((q c : ℕ) → reaches_queue p f q c ≡ true → tell q c ≡ None) → first_fault_in_reach p f tell ≡ None
none_in_reach p f tell passes =
    none_below 16 (λ i. _) (λ i. none_below 8 (λ c. _) (λ c. by_bool (reaches_queue p f (i + 1) c) (λ r. rw r (passes (i + 1) c r)) (λ r. rw r refl)))

-- A filter that passes the tests of a protected filter passes those of its group.
pub alone_in_group : {A : Type 0} (p : Plan A) (k n : ℕ) (f : FilterPlan) → IsPlan p → IsMember (n, f) p.filters → f.group ≡ Some k → filter_fault p n f ≡ None → member_fault p k n f ≡ None
alone_in_group p k n f plan listed grouped h =
    let own : is_in_group k f.group ≡ true = rw grouped (same_eq k) in
    let alone = isolated p n f plan listed h in
    let inside : (q c j : ℕ) (g : FilterPlan) → IsMember (j, g) p.filters → reaches_queue p f q c ≡ true → reaches_queue p g q c ≡ true → is_in_group k g.group ≡ true = λ q c j g i r s.
    let same : j ≡ n = alone.queue j q c g i r s in
    let there : IsMember (n, g) p.filters = subst (λ (m : ℕ). IsMember (m, g) p.filters) same i in
    let one : f ≡ g = one_number p.filters n f g plan.filters.own listed there in
    subst (λ (e : FilterPlan). is_in_group k e.group ≡ true) one own in
    let outside : outsider_fault p k n f ≡ None = none_in_reach p f (λ q c. option_map (fault.QueueShared n q c) (outsider_in_queue p p.filters k q c)) (λ q c r. ap (option_map (fault.QueueShared n q c)) (none_outside p p.filters k q c (λ j g i s. inside q c j g i r s))) in
    with_sixth (wildcard_fault n f) (max_sdu_fault n f) (gate_fault p n f) (meter_fault p n f) (catch_all_fault p n) (queue_fault p n f) (outsider_fault p k n f) (window_fault p n f) (size_fault p n f) h outside
