-- In an accepted plan, a protected filter's longest frame fits in each of its reachable queues.
use Rattle.std.proofs.Common.{◌≡◌, ◌<◌, ◌≤◌, ◌+◌, ◌-◌, ℕ, true, false, not, List, [], ◌∷◌, Option, Some, None, nat_eq, sym, arith, subst, inl, inr}
use Rattle.std.specs.List.{list_all}
use Rattle.std.specs.Bool.{if◌then◌else◌}
use Rattle.std.specs.Map.{lookup}
use Rattle.std.specs.Option.{ForSome}
use Rattle.std.proofs.lemmas.Bool.{and_parts, eqb-true, not-true, not-false, false≢true}
use Rattle.std.proofs.lemmas.Option.{same_Some}
use Rattle.bridge_limits.specs.Members.{IsMember}
use Rattle.bridge_limits.proofs.Cases.{by_bool}
use Rattle.bridge_limits.proofs.Options.{some_of}
use Rattle.bridge_limits.proofs.Members.{each_passes, each_in}
use Rattle.bridge_frame.specs.Link.{transmission_time}
use Rattle.bridge_gate.specs.declared.schedule.GatePlan.{GatePlan}
use Rattle.bridge_filter.specs.declared.FilterPlan.{FilterPlan}
use Rattle.bridge_filter.specs.Plans.{has_instances, is_listed, is_listed_if_any}
use Rattle.bridge_port.specs.GateSchedule.{lists_can_fit}
use Rattle.bridge_config.specs.declared.ports.PortPlan.{PortPlan}
use Rattle.bridge_config.specs.Model.{Plan}
use Rattle.bridge_config.specs.Rules.{IsFilter, IsPlan, find_port}
use Rattle.bridge_config.proofs.PlanPorts.{port_is}
use Rattle.bridge_check.specs.declared.check_fault.CheckFault.{CheckFault}
use Rattle.bridge_check.specs.declared.check_fault.CheckFault.TheVariants as fault
use Rattle.bridge_check.specs.Reach.{reaches_queue, reaches_class, reaches_port}
use Rattle.bridge_check.specs.Windows.{can_ever_fit, longest_frame}
use Rattle.bridge_check.proofs.Isolated.{both_none, holds, none_told, class_few}
use Rattle.bridge_check.specs.Faults.{filter_fault, fault_unless, first_among_numbers, first_option, can_never_fit, wildcard_fault, max_sdu_fault, gate_fault, meter_fault, catch_all_fault, queue_fault, window_fault, size_fault}

same_pair : {X : Type 0} (n m : ℕ) (x z : X) → n ≡ m → x ≡ z → ◌≡◌ {A = ℕ × X} (n, x) (m, z)
same_pair n m x z e d = cc

-- An item that a lookup finds is in the list.
pub found_in : {X : Type 0} (xs : List (ℕ × X)) (n : ℕ) (x : X) → lookup (nat_eq n) xs ≡ Some x → IsMember (n, x) xs
found_in [] n x h = absurd (cc)
found_in {X} (y ∷ ys) n x h = by_bool (nat_eq n y.0)
    (λ k.
    let here : Some y.1 ≡ Some x = rw k at h in
    let same : y.1 ≡ x = same_Some y.1 x here in
    inl (same_pair n y.0 x y.1 (eqb-true n y.0 k) (sym same)))
    (λ k. let later : lookup (nat_eq n) ys ≡ Some x = rw k at h in inr (found_in ys n x later))

-- If none of eight tests fails, the last one passes.
last_none : {X : Type 0} (a b c d e f g h : Option X) → first_option a (first_option b (first_option c (first_option d (first_option e (first_option f (first_option g (first_option h None))))))) ≡ None → h ≡ None
last_none {X} a b c d e f g h none =
    let h7 : first_option h None ≡ None = behind g (first_option h None) (behind f (first_option g (first_option h None)) (behind e (first_option f (first_option g (first_option h None))) (behind d (first_option e (first_option f (first_option g (first_option h None)))) (behind c (first_option d (first_option e (first_option f (first_option g (first_option h None))))) (behind b (first_option c (first_option d (first_option e (first_option f (first_option g (first_option h None)))))) (behind a (first_option b (first_option c (first_option d (first_option e (first_option f (first_option g (first_option h None))))))) none)))))) in
    (both_none h None h7).0
  where
    behind : {X : Type 0} (x y : Option X) → first_option x y ≡ None → y ≡ None
    behind x y z = (both_none x y z).1

-- The longest frame of a filter without fault fits in each of its reachable queues.
pub longest_fits : {A : Type 0} (p : Plan A) (n q c m : ℕ) (f : FilterPlan) (out : PortPlan A) → IsPlan p → filter_fault p n f ≡ None → find_port p.ports q ≡ Some out → reaches_queue p f q c ≡ true → f.max_sdu ≡ Some m → lists_can_fit out.list c (transmission_time (longest_frame m) out.speed) ≡ true
longest_fits p n q c m f out plan none at reach size =
    let fits : size_fault p n f ≡ None = last_none (wildcard_fault n f) (max_sdu_fault n f) (gate_fault p n f) (meter_fault p n f) (catch_all_fault p n) (queue_fault p n f) (window_fault p n f) (size_fault p n f) none in
    let (is, number) = port_is p.ports q out plan.ports at in
    let from = is.number_from in
    let to = is.number_to in
    let class = class_few p f q c out plan at reach in
    let before : q - 1 < 16 = omega (arith, number, from, to) in
    let back : (q - 1) + 1 ≡ q = omega (arith, number, from) in
    let tell : ℕ → ℕ → Option CheckFault = λ i d. fault_unless (not (can_never_fit (find_port p.ports i) d f.max_sdu)) (fault.MaxSduNeverFits n i d) in
    let on : first_among_numbers 8 (λ d. if reaches_queue p f ((q - 1) + 1) d then tell ((q - 1) + 1) d else None) ≡ None = none_told 16 (q - 1) (λ i. first_among_numbers 8 (λ d. if reaches_queue p f (i + 1) d then tell (i + 1) d else None)) fits before in
    let here : (if reaches_queue p f ((q - 1) + 1) c then tell ((q - 1) + 1) c else None) ≡ None = none_told 8 c (λ d. if reaches_queue p f ((q - 1) + 1) d then tell ((q - 1) + 1) d else None) on class in
    let there : (if reaches_queue p f q c then tell q c else None) ≡ None = subst (λ (i : ℕ). (if reaches_queue p f i c then tell i c else None) ≡ None) back here in
    let told : tell q c ≡ None = rw reach at there in
    let fitting : can_never_fit (find_port p.ports q) c f.max_sdu ≡ false = not-true (can_never_fit (find_port p.ports q) c f.max_sdu) (holds (not (can_never_fit (find_port p.ports q) c f.max_sdu)) _ told) in
    let ever : not (can_ever_fit out c m) ≡ false = subst (λ (o : Option (PortPlan _)). can_never_fit o c (Some m) ≡ false) at (subst (λ (s : Option ℕ). can_never_fit (find_port p.ports q) c s ≡ false) size fitting) in
    not-false (can_ever_fit out c m) ever

-- No queue of a missing port is reachable.
pub not_reached : {A : Type 0} (p : Plan A) (f : FilterPlan) (q c : ℕ) → find_port p.ports q ≡ None → reaches_queue p f q c ≡ true → ⊥
not_reached p f q c at reach =
    let (port, class) = and_parts (reaches_port p f.handle q) (reaches_class p f (find_port p.ports q) c) reach in
    let none : false ≡ true = subst (λ (o : Option (PortPlan _)). reaches_class p f o c ≡ true) at class in
    false≢true none

-- The largest service data unit of a filter is in its range.
pub sdu_few : {A : Type 0} (p : Plan A) (n : ℕ) (f : FilterPlan) → IsPlan p → IsMember (n, f) p.filters → ForSome f.max_sdu (λ m. m ≤ 65535)
sdu_few p n f plan listed = (each_in IsFilter p.filters (n, f) plan.filters.each listed).max_sdu

-- The stream gate of a filter exists.
pub gate_there : {A : Type 0} (p : Plan A) (n : ℕ) (f : FilterPlan) → IsPlan p → IsMember (n, f) p.filters → (g : GatePlan A) × (lookup (nat_eq f.gate) p.gates ≡ Some g)
gate_there {A} p n f plan listed =
    let all : list_all (λ (x : ℕ × FilterPlan). has_instances p.gates p.meters x.1) p.filters ≡ true = plan.filters.instances in
    let own : has_instances p.gates p.meters f ≡ true = each_passes (λ (x : ℕ × FilterPlan). has_instances p.gates p.meters x.1) p.filters (n, f) all listed in
    some_of (lookup (nat_eq f.gate) p.gates) (and_parts (is_listed f.gate p.gates) (is_listed_if_any f.meter p.meters) own).0
