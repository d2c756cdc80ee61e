-- Facts about frames that a filter's passed tests prove.
use Rattle.std.proofs.Common.{◌≡◌, ◌<◌, ◌≤◌, ◌+◌, ◌-◌, ◌^◌, ℕ, zero, suc, Bool, true, false, not, ◌&&◌, ◌||◌, List, [], ◌∷◌, Option, Some, None, nat_eq, nat_le, refl, sym, ap, ◌∙◌, arith, subst, inl, inr, cond, ◌⊎◌}
use Rattle.std.specs.Prelude.{option_map, slice_index, is_some}
use Rattle.std.specs.List.{list_any}
use Rattle.std.proofs.lemmas.Bool.{and_parts, or_parts, eqb-true, not-true, not-false, false≢true, cases_lt}
use Rattle.std.specs.Option.{ForSome, option_or}
use Rattle.std.specs.Bool.{if◌then◌else◌}
use Rattle.std.proofs.lemmas.Bool.Decides.{nat_tests}
use Rattle.std.proofs.Math.Nat.{div-eq_of_lt, pow-le-pow_right, zero-lt-suc}
use Rattle.bridge_cycle.specs.Cyclic.{Cyclic, turn_by_time}
use Rattle.bridge_limits.specs.Members.{IsMember}
use Rattle.bridge_limits.proofs.Options.{some_of}
use Rattle.bridge_limits.proofs.Members.{each_passes, each_in}
use Rattle.bridge_limits.proofs.Orders.{same_eq}
use Rattle.bridge_limits.proofs.Cases.{left_false}
use Rattle.bridge_cycle.specs.Fits.{Fits, is_open}
use Rattle.bridge_cycle.specs.Opens.{turn_opens}
use Rattle.bridge_cycle.specs.declared.timeline.Turn.{Turn}
use Rattle.bridge_cycle.specs.declared.gate_control_lists.Egress.{Egress}
use Rattle.bridge_cycle.specs.declared.gate_control_lists.Egress.TheVariants as egress
use Rattle.bridge_cycle.proofs.Lists.{among}
use Rattle.bridge_cycle.proofs.Changes.{opens_before, opens_after}
use Rattle.bridge_frame.specs.Link.{transmission_time}
use Rattle.bridge_filter.specs.declared.FilterPlan.{FilterPlan}
use Rattle.bridge_filter.specs.Routes.{lesser_number}
use Rattle.bridge_port.specs.GateSchedule.{lists_open, gate_schedule, HasLawfulLists}
use Rattle.bridge_port.proofs.Opening as opening
use Rattle.bridge_config.specs.declared.ports.PortPlan.{PortPlan}
use Rattle.bridge_config.specs.Model.{Plan}
use Rattle.bridge_config.specs.Rules.{find_port, IsPlan, IsPort, IsPortList, HoldsOfLists}
use Rattle.bridge_config.proofs.PlanPorts.{class_below, port_is}
use Rattle.bridge_check.specs.declared.check_fault.CheckFault.{CheckFault}
use Rattle.bridge_check.specs.declared.check_fault.CheckFault.TheVariants as fault
use Rattle.bridge_check.specs.Reach.{some_number_passes, reaches_queue, reaches_class, reaches_port, reaches_priority}
use Rattle.bridge_check.specs.Windows.{is_shared, shared_phase, list_shared_phase, port_shared_phase, longest_frame, can_ever_fit}
use Rattle.bridge_check.specs.Faults.{first_option, first_among_numbers, fault_unless, is_gate_shared, is_meter_shared, is_same_meter, is_greatest_number, has_catch_all, other_in_queue, shared_phase_if_port, can_never_fit, filter_fault, first_fault_in_reach, window_fault, size_fault}
use Rattle.bridge_check.specs.Acceptable.{IsIsolated}

-- TESTS

pub both_none : {X : Type 0} (a b : Option X) → first_option a b ≡ None → (a ≡ None) × (b ≡ None)
both_none None b h = (refl, h)
both_none (Some x) b h = absurd (cc)

pub holds : (b : Bool) (e : CheckFault) → fault_unless b e ≡ None → b ≡ true
holds true e h = refl
holds false e h = absurd (cc)

none_by : {X : Type 0} (o : Option X) → not (is_some o) ≡ true → o ≡ None
none_by None h = refl
none_by (Some x) h = absurd (false≢true h)

-- If no element of a list passes a test, a given element fails it.
none_passes : {X : Type 0} (t : X → Bool) (xs : List X) (x : X) → list_any t xs ≡ false → IsMember x xs → t x ≡ false
none_passes t [] x h i = absurd i
none_passes t (y ∷ ys) x h (inl e) = let (here, rest) = or_parts (t y) (list_any t ys) h in ap t e ∙ here
none_passes t (y ∷ ys) x h (inr i) = let (here, rest) = or_parts (t y) (list_any t ys) h in none_passes t ys x rest i

one_passes_by : {X : Type 0} (b : Bool) (t : X → Bool) (y : X) (ys : List X) → t y ≡ b → (b || list_any t ys) ≡ true → (list_any t ys ≡ true → (x : X) × IsMember x ys × (t x ≡ true)) → (x : X) × IsMember x (y ∷ ys) × (t x ≡ true)
one_passes_by true t y ys e h more = (y, inl refl, e)
one_passes_by false t y ys e h more = let (x, i, passes) = more h in (x, inr i, passes)

one_passes : {X : Type 0} (t : X → Bool) (xs : List X) → list_any t xs ≡ true → (x : X) × IsMember x xs × (t x ≡ true)
one_passes t [] h = absurd (false≢true h)
one_passes t (y ∷ ys) h = one_passes_by (t y) t y ys refl h (one_passes t ys)

-- If the first result among the numbers below `n` is `None`, every result is `None`.
pub none_told : {X : Type 0} (n k : ℕ) (tell : ℕ → Option X) → first_among_numbers n tell ≡ None → k < n → tell k ≡ None
unfolding first_among_numbers
none_told zero k tell h lt = absurd (omega (arith, lt))
none_told (suc n) k tell h lt =
    let (before, last) = both_none (first_among_numbers n tell) (tell n) h in
    elim (cases_lt k n) [
      | inl a ↦ none_told n k tell before a
      | inr a ↦ let same : n ≡ k = omega (arith, lt, a) in subst (λ (i : ℕ). tell i ≡ None) same last
    ]

pub any_told : (n : ℕ) (t : ℕ → Bool) → some_number_passes n t ≡ true → (k : ℕ) × (k < n) × (t k ≡ true)
any_told zero t h = absurd (false≢true h)
any_told (suc n) t h = elim (either (some_number_passes n t) (t n) h) [
  | inl a ↦ let (k, lt, passes) = any_told n t a in (k, (omega (arith, lt)), passes)
  | inr a ↦ (n, (omega (arith)), a)
]
  where
    either : (a b : Bool) → (a || b) ≡ true → (a ≡ true) ⊎ (b ≡ true)
    either true b h = inl refl
    either false b h = inr h

none_below : (n k : ℕ) (t : ℕ → Bool) → some_number_passes n t ≡ false → k < n → t k ≡ false
none_below zero k t h lt = absurd (omega (arith, lt))
none_below (suc n) k t h lt =
    let (before, last) = or_parts (some_number_passes n t) (t n) h in
    elim (cases_lt k n) [
      | inl a ↦ none_below n k t before a
      | inr a ↦ let same : n ≡ k = omega (arith, lt, a) in subst (λ (i : ℕ). t i ≡ false) same last
    ]

-- PORTS AND CLASSES

pub record IsReached {A : Type 0} (p : Plan A) (q c : ℕ) : Type 0 where
  pub port : PortPlan A
  pub at : find_port p.ports q ≡ Some port
  pub is : IsPort port
  pub from : 1 ≤ q
  pub to : q ≤ 16
  pub class : c < 8

classed : {A : Type 0} (p : Plan A) (f : FilterPlan) (o : Option (PortPlan A)) (c : ℕ) → reaches_class p f o c ≡ true → (port : PortPlan A) × (o ≡ Some port) × (k : ℕ) × (k < 8) × (slice_index port.classes k ≡ c)
classed p f None c h = absurd (false≢true h)
classed p f (Some port) c h =
    let (k, lt, passes) = any_told 8 (λ k. reaches_priority p f k && nat_eq (slice_index port.classes k) c) h in
    let (opened, same) = and_parts (reaches_priority p f k) (nat_eq (slice_index port.classes k) c) passes in
    (port, refl, k, lt, eqb-true (slice_index port.classes k) c same)

pub reached : {A : Type 0} (p : Plan A) (f : FilterPlan) (q c : ℕ) → IsPlan p → reaches_queue p f q c ≡ true → IsReached p q c
reached p f q c plan h =
    let (out, class) = and_parts (reaches_port p f.handle q) (reaches_class p f (find_port p.ports q) c) h in
    let (port, at, k, lt, same) = classed p f (find_port p.ports q) c class in
    let (is, number) = port_is p.ports q port plan.ports at in
    record {
      port = port;
      at = at;
      is = is;
      from = omega (arith, number, is.number_from);
      to = omega (arith, number, is.number_to);
      class = subst (λ (n : ℕ). n < 8) same (class_below port k is (omega (arith, lt)));
    }

-- The class of a reachable queue is at most 7.
pub class_few : {A : Type 0} (p : Plan A) (f : FilterPlan) (q c : ℕ) (out : PortPlan A) → IsPlan p → find_port p.ports q ≡ Some out → reaches_queue p f q c ≡ true → c < 8
class_few p f q c out plan at reach = (reached p f q c plan reach).class

-- If a test of queues finds no fault, each reachable queue passes the test.
pub not_told : {A : Type 0} (p : Plan A) (f : FilterPlan) (q c : ℕ) (tell : ℕ → ℕ → Option CheckFault) → first_fault_in_reach p f tell ≡ None → IsReached p q c → reaches_queue p f q c ≡ true → tell q c ≡ None
not_told p f q c tell h r is =
    let before : q - 1 < 16 = omega (arith, r.from, r.to) in
    let back : (q - 1) + 1 ≡ q = omega (arith, r.from) in
    let on : first_among_numbers 8 (λ d. if reaches_queue p f ((q - 1) + 1) d then tell ((q - 1) + 1) d else None) ≡ None = none_told 16 (q - 1) (λ i. first_among_numbers 8 (λ d. if reaches_queue p f (i + 1) d then tell (i + 1) d else None)) h before in
    let here : (if reaches_queue p f ((q - 1) + 1) c then tell ((q - 1) + 1) c else None) ≡ None = none_told 8 c (λ d. if reaches_queue p f ((q - 1) + 1) d then tell ((q - 1) + 1) d else None) on r.class in
    let there : (if reaches_queue p f q c then tell q c else None) ≡ None = subst (λ (i : ℕ). (if reaches_queue p f i c then tell i c else None) ≡ None) back here in
    (rw is at there)

-- OTHER FILTERS

lesser_is_some : (m : ℕ) (o : Option ℕ) → lesser_number (Some m) o ≡ None → ⊥
lesser_is_some m None h = absurd (cc)
lesser_is_some m (Some n) h = absurd (cc)

pub passed_over : (b : Bool) (m : ℕ) (o : Option ℕ) → cond b (lesser_number (Some m) o) o ≡ None → (b ≡ false) × (o ≡ None)
passed_over true m o h = absurd (lesser_is_some m o h)
passed_over false m o h = (refl, h)

pub told_none : {X Y : Type 0} (g : X → Y) (o : Option X) → option_map g o ≡ None → o ≡ None
told_none g None h = refl
told_none g (Some x) h = absurd (cc)

no_other : {A : Type 0} (p : Plan A) (gs : List (ℕ × FilterPlan)) (n q c k : ℕ) (g : FilterPlan) → other_in_queue p gs n q c ≡ None → IsMember (k, g) gs → reaches_queue p g q c ≡ true → k ≡ n
no_other p [] n q c k g h i r = absurd i
no_other p (y ∷ ys) n q c k g h (inl e) r =
    let (not_it, rest) = passed_over (not (nat_eq y.0 n) && reaches_queue p y.1 q c) y.0 (other_in_queue p ys n q c) h in
    let own : (not (nat_eq k n) && reaches_queue p g q c) ≡ false = ap (λ (z : ℕ × FilterPlan). not (nat_eq z.0 n) && reaches_queue p z.1 q c) e ∙ not_it in
    eqb-true k n (not-false (nat_eq k n) (left_false (not (nat_eq k n)) (reaches_queue p g q c) own r))
  where
    left_false : (a b : Bool) → (a && b) ≡ false → b ≡ true → a ≡ false
    left_false true b h t = absurd (false≢true (sym h ∙ t))
    left_false false b h t = refl
no_other p (y ∷ ys) n q c k g h (inr i) r =
    let (not_it, rest) = passed_over (not (nat_eq y.0 n) && reaches_queue p y.1 q c) y.0 (other_in_queue p ys n q c) h in
    no_other p ys n q c k g rest i r

pub only_gate : (fs : List (ℕ × FilterPlan)) (n : ℕ) (f : FilterPlan) (k : ℕ) (g : FilterPlan) → is_gate_shared fs n f ≡ false → IsMember (k, g) fs → g.gate ≡ f.gate → k ≡ n
only_gate fs n f k g h i e =
    let none : (not (nat_eq k n) && nat_eq g.gate f.gate) ≡ false = none_passes (λ (x : ℕ × FilterPlan). not (nat_eq x.0 n) && nat_eq x.1.gate f.gate) fs (k, g) h i in
    let same : nat_eq g.gate f.gate ≡ true = rw e (same_eq f.gate) in
    eqb-true k n (not-false (nat_eq k n) (left_false (not (nat_eq k n)) (nat_eq g.gate f.gate) none same))

pub only_meter : (fs : List (ℕ × FilterPlan)) (n : ℕ) (f : FilterPlan) (k m : ℕ) (g : FilterPlan) → is_meter_shared fs n f ≡ false → f.meter ≡ Some m → IsMember (k, g) fs → g.meter ≡ Some m → k ≡ n
only_meter fs n f k m g h own i e =
    let none : (not (nat_eq k n) && is_same_meter g.meter f.meter) ≡ false = none_passes (λ (x : ℕ × FilterPlan). not (nat_eq x.0 n) && is_same_meter x.1.meter f.meter) fs (k, g) h i in
    let same : is_same_meter g.meter f.meter ≡ true = rw (e, own) (same_eq m) in
    eqb-true k n (not-false (nat_eq k n) (left_false (not (nat_eq k n)) (is_same_meter g.meter f.meter) none same))

pub caught : (fs : List (ℕ × FilterPlan)) → has_catch_all fs ≡ true → (k : ℕ) × (g : FilterPlan) × IsMember (k, g) fs × (g.handle ≡ None) × (g.priority ≡ None) × ((j : ℕ) (e : FilterPlan) → IsMember (j, e) fs → j ≤ k)
caught fs h =
    let (x, i, passes) = one_passes (λ (x : ℕ × FilterPlan). is_greatest_number fs x.0 && not (is_some x.1.handle) && not (is_some x.1.priority)) fs h in
    let (first, priority) = and_parts (is_greatest_number fs x.0 && not (is_some x.1.handle)) (not (is_some x.1.priority)) passes in
    let (greatest, handle) = and_parts (is_greatest_number fs x.0) (not (is_some x.1.handle)) first in
    (x.0, x.1, i, none_by x.1.handle handle, none_by x.1.priority priority, λ j e m. at_most j x.0 (each_passes (λ (y : ℕ × FilterPlan). nat_le y.0 x.0) fs (j, e) greatest m))
  where
    at_most : (a b : ℕ) → nat_le a b ≡ true → a ≤ b
    at_most a b h = grind (arith, nat_tests)

-- WINDOWS AND SIZES

not_first : (b : Bool) (x : ℕ) (o : Option ℕ) → cond b (Some x) o ≡ None → (b ≡ false) × (o ≡ None)
not_first true x o h = absurd (cc)
not_first false x o h = (refl, h)

none_shared : (es : List (ℕ × ℕ)) (start c : ℕ) (e : ℕ × ℕ) → shared_phase es start c ≡ None → IsMember e es → is_shared e.0 c ≡ false
none_shared [] start c e h i = absurd i
none_shared (y ∷ ys) start c e h (inl same) = let (here, rest) = not_first (is_shared y.0 c) start (shared_phase ys (start + y.1) c) h in ap (λ (z : ℕ × ℕ). is_shared z.0 c) same ∙ here
none_shared (y ∷ ys) start c e h (inr i) = let (here, rest) = not_first (is_shared y.0 c) start (shared_phase ys (start + y.1) c) h in none_shared ys (start + y.1) c e rest i

turn_open : (o : Option (Turn ℕ)) (c : ℕ) → turn_opens o c ≡ true → (x : Turn ℕ) × (o ≡ Some x) × (is_open x.state c ≡ true)
turn_open None c h = absurd (false≢true h)
turn_open (Some x) c h = (x, refl, h)

no_class : (s d : ℕ) → s < 256 → 8 ≤ d → is_open s d ≡ false
no_class s d small from =
    let large : s < 2 ^ d = (let more = pow-le-pow_right {n = 2} (zero-lt-suc 1) {i = 8} {j = d} from in omega (arith, small, more)) in
    rw (div-eq_of_lt large) refl

open_below : (s d : ℕ) → s < 256 → is_open s d ≡ true → d < 8
open_below s d small h = elim (cases_lt d 8) [ inl a ↦ a | inr a ↦ absurd (false≢true (sym (no_class s d small a) ∙ h)) ]

not_beside : (s c d : ℕ) → s < 256 → is_shared s c ≡ false → is_open s c ≡ true → is_open s d ≡ true → d ≡ c
not_beside s c d small h oc od =
    let beside : some_number_passes 8 (λ e. not (nat_eq e c) && is_open s e) ≡ false = right_false (is_open s c) (some_number_passes 8 (λ e. not (nat_eq e c) && is_open s e)) h oc in
    let none : (not (nat_eq d c) && is_open s d) ≡ false = none_below 8 d (λ e. not (nat_eq e c) && is_open s e) beside (open_below s d small od) in
    eqb-true d c (not-false (nat_eq d c) (left_false (not (nat_eq d c)) (is_open s d) none od))
  where
    right_false : (a b : Bool) → (a && b) ≡ false → a ≡ true → b ≡ false
    right_false true b h t = h
    right_false false b h t = absurd (false≢true t)

open_in : (l : Cyclic ℕ) (c d u : ℕ) → IsPortList l → list_shared_phase l c ≡ None → turn_opens (turn_by_time l u) c ≡ true → turn_opens (turn_by_time l u) d ≡ true → d ≡ c
open_in l c d u own h oc od =
    let (x, at, opened) = turn_open (turn_by_time l u) c oc in
    let other : is_open x.state d ≡ true = ap (λ o. turn_opens o d) (sym at) ∙ od in
    let (e, i, state) = among l u x at in
    let small : x.state < 256 = subst (λ (z : ℕ). z < 256) state (each_in (λ (y : ℕ × ℕ). y.0 < 256) l.entries e own.classes i) in
    let alone : is_shared x.state c ≡ false = subst (λ (z : ℕ). is_shared z c ≡ false) state (none_shared l.entries 0 c e h i) in
    not_beside x.state c d small alone opened other

neither : {X : Type 0} (a b : Option X) → option_or a b ≡ None → (a ≡ None) × (b ≡ None)
neither None b h = (refl, h)
neither (Some x) b h = absurd (cc)

open_alone : {A : Type 0} (list : Option (Egress A)) (c d u : ℕ) → ForSome list (HoldsOfLists IsPortList) → port_shared_phase list c ≡ None → lists_open list c u ≡ true → lists_open list d u ≡ true → d ≡ c
open_alone None c d u is h oc od = absurd (cc)
open_alone (Some (egress.Cyclic l)) c d u is h oc od = open_in l c d u (is (egress.Cyclic l) refl) h oc od
open_alone (Some (egress.Joined j)) c d u is h oc od =
    let (old, new) = is (egress.Joined j) refl in
    let (before, after) = neither (list_shared_phase j.old c) (list_shared_phase j.new c) h in
    elim (cases_lt u j.at) [
      | inl l ↦ open_in j.old c d u old before (sym (opens_before j c u l) ∙ oc) (sym (opens_before j d u l) ∙ od)
      | inr r ↦ open_in j.new c d u new after (sym (opens_after j c u r) ∙ oc) (sym (opens_after j d u r) ∙ od)
    ]

pub made : {A : Type 0} (list : Option (Egress A)) → ForSome list (HoldsOfLists IsPortList) → HasLawfulLists (gate_schedule list)
made None is = tt
made (Some (egress.Cyclic l)) is = (is (egress.Cyclic l) refl).lawful
made (Some (egress.Joined j)) is = let (old, new) = is (egress.Joined j) refl in record { old = old.lawful; new = new.lawful }

-- If no reachable window is shared, no other class is open together with a reachable class.
pub window_alone : {A : Type 0} (p : Plan A) (n q c d u : ℕ) (f : FilterPlan) (port : PortPlan A) → IsPlan p → window_fault p n f ≡ None → find_port p.ports q ≡ Some port → reaches_queue p f q c ≡ true → lists_open port.list c u ≡ true → lists_open port.list d u ≡ true → d ≡ c
window_alone p n q c d u f port plan passes at own oc od =
    let r = reached p f q c plan own in
    let told : option_map (fault.WindowShared n q c) (shared_phase_if_port (find_port p.ports q) c) ≡ None = not_told p f q c (λ q c. option_map (fault.WindowShared n q c) (shared_phase_if_port (find_port p.ports q) c)) passes r own in
    let none : port_shared_phase port.list c ≡ None = subst (λ (o : Option (PortPlan _)). shared_phase_if_port o c ≡ None) at (told_none (fault.WindowShared n q c) (shared_phase_if_port (find_port p.ports q) c) told) in
    let (is, number) = port_is p.ports q port plan.ports at in
    open_alone port.list c d u is.list none oc od

-- If no reachable queue lacks a window for the longest frame, each of them can fit this frame.
pub size_suits : {A : Type 0} (p : Plan A) (n q c m : ℕ) (f : FilterPlan) (port : PortPlan A) → IsPlan p → size_fault p n f ≡ None → find_port p.ports q ≡ Some port → reaches_queue p f q c ≡ true → f.max_sdu ≡ Some m → can_ever_fit port c m ≡ true
size_suits p n q c m f port plan passes at own e =
    let r = reached p f q c plan own in
    let told : fault_unless (not (can_never_fit (find_port p.ports q) c f.max_sdu)) (fault.MaxSduNeverFits n q c) ≡ None = not_told p f q c (λ q c. fault_unless (not (can_never_fit (find_port p.ports q) c f.max_sdu)) (fault.MaxSduNeverFits n q c)) passes r own in
    let fitting : can_never_fit (find_port p.ports q) c f.max_sdu ≡ false = not-true (can_never_fit (find_port p.ports q) c f.max_sdu) (holds (not (can_never_fit (find_port p.ports q) c f.max_sdu)) _ told) in
    let ever : not (can_ever_fit port c m) ≡ false = subst (λ (o : Option (PortPlan _)). can_never_fit o c (Some m) ≡ false) at (subst (λ (s : Option ℕ). can_never_fit (find_port p.ports q) c s ≡ false) e fitting) in
    not-false (can_ever_fit port c m) ever

-- A frame that a queue can fit fits at some time.
pub fits_at_some_time : {A : Type 0} (p : Plan A) (q c m : ℕ) (port : PortPlan A) → IsPlan p → find_port p.ports q ≡ Some port → can_ever_fit port c m ≡ true → (t : ℕ) × Fits (lists_open port.list c) (transmission_time (longest_frame m) port.speed) t
fits_at_some_time p q c m port plan at can =
    let (is, number) = port_is p.ports q port plan.ports at in
    opening.ever_fits (gate_schedule port.list) c (transmission_time (longest_frame m) port.speed) (made port.list is.list) can

pub isolated : {A : Type 0} (p : Plan A) (n : ℕ) (f : FilterPlan) → IsPlan p → IsMember (n, f) p.filters → filter_fault p n f ≡ None → IsIsolated p n f
isolated p n f plan listed h =
    let (handle, h1) = both_none _ _ h in
    let (sdu, h2) = both_none _ _ h1 in
    let (gate, h3) = both_none _ _ h2 in
    let (meter, h4) = both_none _ _ h3 in
    let (catches, h5) = both_none _ _ h4 in
    let (queue, h6) = both_none _ _ h5 in
    let (window, h7) = both_none _ _ h6 in
    let (size, h8) = both_none _ _ h7 in
    record {
      handle = some_of f.handle (holds (is_some f.handle) _ handle);
      max_sdu = some_of f.max_sdu (holds (is_some f.max_sdu) _ sdu);
      gate = λ k g i e. only_gate p.filters n f k g (not-true (is_gate_shared p.filters n f) (holds (not (is_gate_shared p.filters n f)) _ gate)) i e;
      meter = λ k m g own i e. only_meter p.filters n f k m g (not-true (is_meter_shared p.filters n f) (holds (not (is_meter_shared p.filters n f)) _ meter)) own i e;
      catches = caught p.filters (holds (has_catch_all p.filters) _ catches);
      queue = λ k q c g i own other. no_other p p.filters n q c k g (told_none (fault.QueueShared n q c) (other_in_queue p p.filters n q c) (not_told p f q c (λ q c. option_map (fault.QueueShared n q c) (other_in_queue p p.filters n q c)) queue (reached p f q c plan own) own)) i other;
      window = λ q c port at own d u oc od. window_alone p n q c d u f port plan window at own oc od;
      fits = λ q c m port at own e. fits_at_some_time p q c m port plan at (size_suits p n q c m f port plan size at own e);
    }
