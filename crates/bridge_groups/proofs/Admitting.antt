-- The settings of a filter that pass the test admit a conforming talker.
use Rattle.std.proofs.Common.{◌≡◌, ◌<◌, ◌≤◌, ◌+◌, ℕ, Bool, true, ◌&&◌, Option, None, Some, List, [], ◌∷◌, length, arith, ap, refl, sym, subst}
use Rattle.std.specs.Prelude.{nat_eq, nat_le, nat_lt, not}
use Rattle.std.specs.List.{list_all}
use Rattle.std.specs.Map.{lookup}
use Rattle.std.specs.Option.{is_some}
use Rattle.std.proofs.lemmas.Bool.{and_parts}
use Rattle.std.proofs.lemmas.Bool.Decides.{nat_tests}
use Rattle.bridge_limits.proofs.Cases.{by_bool}
use Rattle.bridge_limits.proofs.Members.{each_in}
use Rattle.bridge_cycle.specs.Cyclic as cyclic
use Rattle.bridge_cycle.specs.Cyclic.{EntryInterval, entry_interval, phase}
use Rattle.bridge_cycle.specs.ChangingList as joined
use Rattle.bridge_cycle.specs.declared.timeline.Turn.{Turn}
use Rattle.bridge_gate.specs.declared.schedule.GateEntry.{GateEntry}
use Rattle.bridge_gate.specs.declared.schedule.GatePlan.{GatePlan}
use Rattle.bridge_gate.specs.declared.schedule.Schedule.{Schedule}
use Rattle.bridge_gate.specs.declared.schedule.Schedule.TheVariants as schedule
use Rattle.bridge_gate.specs.Schedules as schedules
use Rattle.bridge_gate.specs.Schedules.{gate_rules, turn_by_time}
use Rattle.bridge_meter.specs.declared.MeterPlan.{MeterPlan}
use Rattle.bridge_filter.specs.declared.FilterPlan.{FilterPlan}
use Rattle.bridge_filter.specs.Plans.{gate_or_closed}
use Rattle.bridge_config.specs.Model.{Plan}
use Rattle.bridge_config.specs.Rules.{IsPlan}
use Rattle.bridge_semantics.specs.Events.{plan_police}
use Rattle.bridge_bounds.proofs.Reached.{found_in}
use Rattle.bridge_groups.specs.Admission.{admits_talker, allows_sdu, are_open_entries, committed_tokens, has_tokens, is_open_entry, is_open_gate, is_open_schedule}
use Rattle.bridge_groups.specs.Talkers.{AdmitsTalker, IsAlwaysOpen}

-- The entry in force at an offset has each property that all entries have.
entry_has : {S : Type 0} (P : S → Bool) (es : List (S × ℕ)) (start cycle at : ℕ) → 0 < length es → list_all (λ (e : S × ℕ). P e.0) es ≡ true → (x : EntryInterval S) × (entry_interval es start cycle at ≡ Some x) × (P x.state ≡ true)
entry_has P [] start cycle at some h = absurd (let no : 0 < 0 = some in omega (arith, no))
entry_has P (e ∷ []) start cycle at some h = (record { state = e.0; start = start; end = cycle }, refl, (and_parts (P e.0) true h).0)
entry_has P (e ∷ f ∷ es) start cycle at some h =
    let (first, others) = and_parts (P e.0) (list_all (λ (g : _ × ℕ). P g.0) (f ∷ es)) h in
    by_bool (nat_lt at (start + e.1))
    (λ k. (record { state = e.0; start = start; end = start + e.1 }, rw k refl, first))
    (λ k. let (x, is, has) = entry_has P (f ∷ es) (start + e.1) cycle at (omega arith) others in (x, rw k is, has))

-- A turn of a stream gate that is open without an octet limit.
record IsOpenTurn (o : Option (Turn GateEntry)) : Type 0 where
  turn : Turn GateEntry
  is : o ≡ Some turn
  lets : turn.state.lets ≡ true
  octets : turn.state.octets ≡ None

no_octets : (o : Option ℕ) → not (is_some o) ≡ true → o ≡ None
no_octets None h = refl
no_octets (Some n) h = absurd (cc)

open_turn : (l : cyclic.Cyclic GateEntry) (t : ℕ) → cyclic.IsLawful l → are_open_entries l.entries ≡ true → IsOpenTurn (cyclic.turn_by_time l t)
open_turn l t lawful h =
    let (x, is, has) = entry_has is_open_entry l.entries 0 l.cycle (phase l.base l.cycle t) lawful.some h in
    let (lets, none) = and_parts x.state.lets (not (is_some x.state.octets)) has in
    record { turn = _; is = ap (cyclic.interval_turn t (phase l.base l.cycle t)) is; lets = lets; octets = no_octets x.state.octets none }

clipped_end : (m : ℕ) (o : Option (Turn GateEntry)) → IsOpenTurn o → IsOpenTurn (joined.clip_end m o)
clipped_end m o h = record { turn = _; is = ap (joined.clip_end m) h.is; lets = h.lets; octets = h.octets }

clipped_start : (m : ℕ) (o : Option (Turn GateEntry)) → IsOpenTurn o → IsOpenTurn (joined.clip_start m o)
clipped_start m o h = record { turn = _; is = ap (joined.clip_start m) h.is; lets = h.lets; octets = h.octets }

schedule_turn : {A : Type 0} (s : Schedule A) (t : ℕ) → schedules.IsLawful s → is_open_schedule s ≡ true → IsOpenTurn (turn_by_time s t)
schedule_turn (schedule.Fixed lets ipv) t lawful h = record { turn = _; is = refl; lets = h; octets = refl }
schedule_turn (schedule.Cyclic l) t lawful h = open_turn l t lawful h
schedule_turn (schedule.Joined j) t lawful h =
    let (old, new) = and_parts (are_open_entries j.old.entries) (are_open_entries j.new.entries) h in
    by_bool (nat_lt t j.at)
    (λ k. rw k (clipped_end j.at (cyclic.turn_by_time j.old t) (open_turn j.old t lawful.old old)))
    (λ k. rw k (clipped_start j.at (cyclic.turn_by_time j.new t) (open_turn j.new t lawful.new new)))

always : {A : Type 0} (p : Plan A) (n : ℕ) (o : Option (GatePlan A)) → IsPlan p → lookup (nat_eq n) p.gates ≡ o → is_open_gate o ≡ true → IsAlwaysOpen ((plan_police p).gates n)
always p n None plan is h = absurd (cc)
always {A} p n (Some g) plan is h =
    let lawful = each_in (λ (x : ℕ × GatePlan A). schedules.IsLawful x.1.schedule) p.gates (n, g) plan.gates.lawful (found_in p.gates n g is) in
    let rules : (plan_police p).gates n ≡ gate_rules g = ap gate_or_closed is in
    subst IsAlwaysOpen (sym rules) (λ t. let x = schedule_turn g.schedule t lawful h in (x.turn, x.is, x.lets, x.octets))

within_limit : (o : Option ℕ) (most : ℕ) → allows_sdu o most ≡ true → (k : ℕ) × (o ≡ Some k) × (most ≤ k)
within_limit None most h = absurd (cc)
within_limit (Some k) most h = (k, refl, (let upto : most ≤ k = grind (arith, nat_tests) in upto))

tokens_of : (meters : ℕ → MeterPlan) (o : Option ℕ) (burst rate : ℕ) → has_tokens (committed_tokens meters o) burst rate ≡ true → (m : ℕ) × (o ≡ Some m) × (burst ≤ (meters m).cbs) × (rate ≤ (meters m).cir)
tokens_of meters None burst rate h = absurd (cc)
tokens_of meters (Some m) burst rate h =
    let (few, slow) = and_parts (nat_le burst (meters m).cbs) (nat_le rate (meters m).cir) h in
    let size : burst ≤ (meters m).cbs = grind (arith, nat_tests) in
    let speed : rate ≤ (meters m).cir = grind (arith, nat_tests) in
    (m, refl, size, speed)

pub admits : {A : Type 0} (p : Plan A) (f : FilterPlan) (most burst rate : ℕ) → IsPlan p → admits_talker p f most burst rate ≡ true → (m : ℕ) × AdmitsTalker p f m most burst rate
admits p f most burst rate plan h =
    let (open_is, more) = and_parts (is_open_gate (lookup (nat_eq f.gate) p.gates)) (allows_sdu f.max_sdu most && has_tokens (committed_tokens (plan_police p).meters f.meter) burst rate) h in
    let (short, tokens) = and_parts (allows_sdu f.max_sdu most) (has_tokens (committed_tokens (plan_police p).meters f.meter) burst rate) more in
    let (m, meter_is, size, speed) = tokens_of (plan_police p).meters f.meter burst rate tokens in
    (m, record { gate = always p f.gate (lookup (nat_eq f.gate) p.gates) plan refl open_is; max_sdu = within_limit f.max_sdu most short; meter = meter_is; burst_size = size; token_rate = speed })
