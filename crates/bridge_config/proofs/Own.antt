-- Adds an instance that equals no earlier instance.
use Rattle.std.proofs.Common.{◌≡◌, ℕ, Bool, true, false, not, ◌&&◌, nat_eq, List, [], ◌∷◌, ◌++◌, refl, sym, IsTrue, Option, Some, None, Result, Ok, Err, cond}
use Rattle.std.specs.Option.{ForSome, is_some}
use Rattle.std.specs.Map.{lookup}
use Rattle.std.proofs.lemmas.Bool.{and_parts, not-true, false≢true}
use Rattle.std.proofs.lemmas.List.Folds.{list_all-append}
use Rattle.bridge_meter.specs.declared.MeterPlan.{MeterPlan}
use Rattle.bridge_meter.specs.Colours.{is_within_limits}
use Rattle.bridge_gate.specs.declared.schedule.GatePlan.{GatePlan}
use Rattle.bridge_gate.specs.Schedules as schedules
use Rattle.std.specs.Str.{bytes_eq}
use Rattle.bridge_limits.proofs.Lists.{each_push, are_own-push}
use Rattle.bridge_limits.proofs.Orders.{swapped}
use Rattle.bridge_forward.specs.declared.Vlan.{Vlan}
use Rattle.bridge_forward.specs.declared.StaticEntry.{StaticEntry}
use Rattle.bridge_filter.specs.declared.FilterPlan.{FilterPlan}
use Rattle.bridge_filter.specs.Plans.{is_listed, is_listed_if_any, are_numbers_distinct, has_instances}
use Rattle.bridge_config.specs.declared.ports.PortPlan.{PortPlan}
use Rattle.bridge_config.specs.Rules.{has_port, has_vlan, has_static, IsVlan, AreVlans, IsStatic, AreStatics, IsPort, ArePorts, AreGates, AreMeters, IsFilter, AreFilters, IsChangeInTime}
use Rattle.std.specs.Result.{IfOk}
use Rattle.bridge_schema.specs.declared.plan_fault.PlanFault.{PlanFault}
use Rattle.bridge_config.specs.Sections.{has_number}

pub ports_push : {A : Type 0} (ports : List (PortPlan A)) (p : PortPlan A) → ArePorts ports → has_port ports p.number ≡ false → IsPort p → ArePorts (ports ++ p ∷ [])
ports_push ports p are new is = record {
  each = each_push IsPort ports p are.each is;
  own = are_own-push (λ p q. nat_eq p.number q.number) ports p are.own new;
}

pub vlans_push : (all : ℕ) (vlans : List Vlan) (v : Vlan) → AreVlans all vlans → has_vlan vlans v.vid ≡ false → IsVlan all v → AreVlans all (vlans ++ v ∷ [])
vlans_push all vlans v are new is = record {
  each = each_push (IsVlan all) vlans v are.each is;
  own = are_own-push (λ v w. nat_eq v.vid w.vid) vlans v are.own new;
}

pub statics_push : (all : ℕ) (vlans : List Vlan) (statics : List StaticEntry) (s : StaticEntry) → AreStatics all vlans statics → has_static statics s.vid s.address ≡ false → IsStatic all vlans s → AreStatics all vlans (statics ++ s ∷ [])
statics_push all vlans statics s are new is = record {
  each = each_push (IsStatic all vlans) statics s are.each is;
  own = are_own-push (λ s t. nat_eq s.vid t.vid && bytes_eq s.address t.address) statics s are.own new;
}

-- If a look-up fails, it fails at the head and in the rest of the list.
pub past_head : {X : Type 0} (b : Bool) (v : X) (o : Option X) → is_some (cond b (Some v) o) ≡ false → (b ≡ false) × (is_some o ≡ false)
past_head true v o h = absurd (false≢true (sym h))
past_head false v o h = (refl, h)

-- A number that isn't listed stays unlisted if another number is added.
pub apart : {X : Type 0} (n : ℕ) (xs : List (ℕ × X)) (y : ℕ × X) → nat_eq n y.0 ≡ false → is_listed n xs ≡ false → is_listed n (xs ++ y ∷ []) ≡ false
apart n [] y differ none = rw differ refl
apart n (x ∷ xs) y differ none =
    let (other, more) = past_head (nat_eq n x.0) x.1 (lookup (nat_eq n) xs) none in
    rw other (apart n xs y differ more)

pub distinct_push : {X : Type 0} (xs : List (ℕ × X)) (y : ℕ × X) → IsTrue (are_numbers_distinct xs) → has_number xs y.0 ≡ false → IsTrue (are_numbers_distinct (xs ++ y ∷ []))
distinct_push [] y own new = refl
distinct_push (x ∷ xs) y own new =
    let (here, more) = and_parts (not (is_listed x.0 xs)) (are_numbers_distinct xs) own in
    let (other, others) = past_head (nat_eq y.0 x.0) x.1 (lookup (nat_eq y.0) xs) new in
    rw (apart x.0 xs y (swapped y.0 x.0 other) (not-true (is_listed x.0 xs) here), distinct_push xs y more others) refl

-- An optional number is listed if each number it can have is listed.
pub there_if_any : {X : Type 0} (o : Option ℕ) (xs : List (ℕ × X)) → ((n : ℕ) → o ≡ Some n → is_listed n xs ≡ true) → is_listed_if_any o xs ≡ true
there_if_any None xs h = refl
there_if_any (Some n) xs h = h n refl

pub gates_push : {A : Type 0} (gates : List (ℕ × GatePlan A)) (g : ℕ × GatePlan A) → AreGates gates → has_number gates g.0 ≡ false → schedules.has_valid_priorities g.1.schedule ≡ true → schedules.IsLawful g.1.schedule → AreGates (gates ++ g ∷ [])
gates_push gates g are new priorities lawful = record {
  own = distinct_push gates g are.own new;
  priorities = rw (list_all-append (λ h. schedules.has_valid_priorities h.1.schedule) gates (g ∷ []), are.priorities, priorities) refl;
  lawful = each_push (λ h. schedules.IsLawful h.1.schedule) gates g are.lawful lawful;
}

pub meters_push : (meters : List (ℕ × MeterPlan)) (m : ℕ × MeterPlan) → AreMeters meters → has_number meters m.0 ≡ false → is_within_limits m.1 ≡ true → AreMeters (meters ++ m ∷ [])
meters_push meters m are new limits = record {
  own = distinct_push meters m are.own new;
  limits = rw (list_all-append (λ n. is_within_limits n.1) meters (m ∷ []), are.limits, limits) refl;
}

pub filters_push : {A : Type 0} (gates : List (ℕ × GatePlan A)) (meters : List (ℕ × MeterPlan)) (filters : List (ℕ × FilterPlan)) (f : ℕ × FilterPlan) → AreFilters gates meters filters → has_number filters f.0 ≡ false → IsFilter f → has_instances gates meters f.1 ≡ true → AreFilters gates meters (filters ++ f ∷ [])
filters_push gates meters filters f are new is there = record {
  each = each_push IsFilter filters f are.each is;
  own = distinct_push filters f are.own new;
  instances = rw (list_all-append (λ g. has_instances gates meters g.1) filters (f ∷ []), are.instances, there) refl;
}

-- The rules of ports still hold with the port that was read.
pub ports_kept : {A : Type 0} (change : Option ℕ) (ports : List (PortPlan A)) (r : Result (PortPlan A) PlanFault) → IsChangeInTime change × ArePorts ports → IfOk r (λ p. has_port ports p.number ≡ false) → IfOk r IsPort
    → IfOk r (λ p. IsChangeInTime change × ArePorts (ports ++ p ∷ []))
ports_kept change ports (Ok p) are new is = (are.0, ports_push ports p are.1 new is)
ports_kept change ports (Err e) are new is = tt

-- The rules of gates still hold with the gate that was read.
pub gates_kept : {A : Type 0} (change : Option ℕ) (gates : List (ℕ × GatePlan A)) (r : Result (ℕ × GatePlan A) PlanFault) → IsChangeInTime change × AreGates gates → IfOk r (λ g. has_number gates g.0 ≡ false)
    → IfOk r (λ g. schedules.has_valid_priorities g.1.schedule ≡ true) → IfOk r (λ g. schedules.IsLawful g.1.schedule) → IfOk r (λ g. IsChangeInTime change × AreGates (gates ++ g ∷ []))
gates_kept change gates (Ok g) are new priorities lawful = (are.0, gates_push gates g are.1 new priorities lawful)
gates_kept change gates (Err e) are new priorities lawful = tt

-- A filter that was read has its gate, and its meter if it names one.
pub instances_kept : {A : Type 0} (gates : List (ℕ × GatePlan A)) (meters : List (ℕ × MeterPlan)) (r : Result (ℕ × FilterPlan) PlanFault) → IfOk r (λ f. has_number gates f.1.gate ≡ true)
    → IfOk r (λ f. ForSome f.1.meter (λ n. has_number meters n ≡ true)) → IfOk r (λ f. has_instances gates meters f.1 ≡ true)
instances_kept gates meters (Ok f) gate meter = rw (gate, there_if_any f.1.meter meters meter) refl
instances_kept gates meters (Err e) gate meter = tt
