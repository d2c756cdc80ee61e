-- Every queue that a passed frame enters is a reachable queue of the frame's filter.
use Rattle.std.proofs.Common.{◌≡◌, ◌<◌, ◌≤◌, ◌+◌, ℕ, zero, suc, Bool, true, false, not, ◌&&◌, ◌||◌, List, [], ◌∷◌, map, Ok, Option, Some, None, cond, nat_eq, nat_le, nat_lt, refl, sym, ap, ◌∙◌, arith, subst, inl, inr}
use Rattle.std.specs.Prelude.{slice_index, unwrap_or}
use Rattle.std.specs.List.{list_all}
use Rattle.std.specs.Map.{lookup}
use Rattle.std.specs.Str.{bytes_eq}
use Rattle.std.proofs.lemmas.Bool.{and_parts, eqb-true, false≢true, cases_lt}
use Rattle.std.proofs.lemmas.Bool.Decides.{nat_tests}
use Rattle.std.proofs.lemmas.Option.{same_Some}
use Rattle.std.proofs.Math.Bool.{or-true}
use Rattle.bridge_frame.specs.declared.Head.{Head}
use Rattle.bridge_frame.specs.Frames as frames
use Rattle.bridge_limits.specs.Members.{IsMember}
use Rattle.bridge_limits.proofs.Members.{in_left, in_right, each_passes, passes_any, in_map}
use Rattle.bridge_limits.proofs.Cases.{by_bool}
use Rattle.bridge_limits.proofs.Octets.{same_bytes}
use Rattle.bridge_limits.proofs.Orders.{same_eq}
use Rattle.bridge_cycle.specs.declared.timeline.Turn.{Turn}
use Rattle.bridge_cycle.proofs.Lists.{among}
use Rattle.bridge_cycle.proofs.Changes.{among_both}
use Rattle.bridge_gate.specs.declared.stream_gate.GateAnswer.{GateAnswer}
use Rattle.bridge_gate.specs.declared.stream_gate.GateAnswer.TheVariants as gate
use Rattle.bridge_gate.specs.declared.schedule.GateEntry.{GateEntry}
use Rattle.bridge_gate.specs.declared.schedule.GatePlan.{GatePlan}
use Rattle.bridge_gate.specs.declared.schedule.Schedule.{Schedule}
use Rattle.bridge_gate.specs.declared.schedule.Schedule.TheVariants as schedule
use Rattle.bridge_gate.specs.Gates.{GateRules, GateStep, answer, turn_answer, gate_steps, is_over_limit, octets_in_turn, is_shut_by_rx, is_shut_by_octets}
use Rattle.bridge_gate.specs.Schedules as schedules
use Rattle.bridge_ident.specs.declared.Kind.TheVariants.{Null, Source}
use Rattle.bridge_ident.specs.declared.StreamEntry.{StreamEntry}
use Rattle.bridge_ident.specs.Identification as ident
use Rattle.bridge_meter.specs.declared.Colour.{Colour}
use Rattle.bridge_meter.specs.declared.Colour.TheVariants as colour
use Rattle.bridge_meter.specs.declared.MeterPlan.{MeterPlan}
use Rattle.bridge_filter.specs.declared.FilterInput.{FilterInput}
use Rattle.bridge_filter.specs.declared.FilterPlan.{FilterPlan}
use Rattle.bridge_filter.specs.declared.Verdict.{Verdict}
use Rattle.bridge_filter.specs.declared.Verdict.TheVariants as verdict
use Rattle.bridge_filter.specs.Plans.{police_plans, gate_or_closed}
use Rattle.bridge_filter.specs.Verdicts.{PolicePlans, FilterStep, frame_filter, lesser_filter, is_match, is_handle_match, is_priority_match, frame_verdict, answer_verdict, meter_verdict, colour_verdict, gate_answer, gate_share, is_blocked, is_above_max}
use Rattle.bridge_filter.proofs.Taken.{flow_matches, taken_handle}
use Rattle.bridge_ident.proofs.Entries.{given}
use Rattle.bridge_forward.specs.Ports.{has_port}
use Rattle.bridge_forward.specs.Forward.{forward}
use Rattle.bridge_config.specs.declared.ports.PortPlan.{PortPlan}
use Rattle.bridge_config.specs.Model.{Plan}
use Rattle.bridge_config.specs.Rules.{IsPlan, find_port}
use Rattle.bridge_check.specs.Faults.{filter_fault}
use Rattle.bridge_check.specs.Reach.{some_number_passes, reaches_queue, reaches_port, reaches_class, reaches_priority, are_null_kinds, is_null_kind, leads_through_port, schedule_entries, optional_entries, gate_entries, has_priority_value, gives_priority, lets}
use Rattle.bridge_check.specs.FrameInput.{frame_vid, frame_priority, frame_input, frame_class}
use Rattle.bridge_config.proofs.PlanPorts.{port_is}
use Rattle.bridge_frame.proofs.Heads.{head_few}
use Rattle.bridge_check.proofs.Heads.{priority_few}
use Rattle.bridge_check.proofs.Isolated.{isolated}

pub below_any : (n k : ℕ) (t : ℕ → Bool) → k < n → t k ≡ true → some_number_passes n t ≡ true
below_any zero k t lt h = absurd (omega (arith, lt))
below_any (suc n) k t lt h = elim (cases_lt k n) [
  | inl a ↦ rw (below_any n k t a h) refl
  | inr a ↦ let same : k ≡ n = omega (arith, lt, a) in rw (subst (λ (i : ℕ). t i ≡ true) same h) (or-true (some_number_passes n t))
]

-- THE FILTER

lesser_some : (f : ℕ × FilterPlan) (o : Option (ℕ × FilterPlan)) → (g : ℕ × FilterPlan) × (lesser_filter f o ≡ Some g)
lesser_some f None = (f, refl)
lesser_some f (Some g) = by_bool (nat_lt g.0 f.0) (λ e. (g, rw e refl)) (λ e. (f, rw e refl))

has_flow : (fs : List (ℕ × FilterPlan)) (c : FilterInput) (x : ℕ × FilterPlan) → IsMember x fs → is_match x.1 c ≡ true → (g : ℕ × FilterPlan) × (frame_filter fs c ≡ Some g)
has_flow [] c x i m = absurd i
has_flow (f ∷ fs) c x (inl e) m =
    let own : is_match f.1 c ≡ true = subst (λ (z : ℕ × FilterPlan). is_match z.1 c ≡ true) e m in
    let (g, is) = lesser_some f (frame_filter fs c) in
    (g, rw own is)
has_flow (f ∷ fs) c x (inr i) m = by_bool (is_match f.1 c)
    (λ own. let (g, is) = lesser_some f (frame_filter fs c) in (g, rw own is))
    (λ other. let (g, is) = has_flow fs c x i m in (g, rw other is))

pub filtered : {A : Type 0} (p : Plan A) (n : ℕ) (f : FilterPlan) (c : FilterInput) → IsPlan p → IsMember (n, f) p.filters → filter_fault p n f ≡ None → (g : ℕ × FilterPlan) × (frame_filter p.filters c ≡ Some g)
filtered p n f c plan listed h =
    let (k, g, i, handle, priority, greatest) = (isolated p n f plan listed h).catches in
    let takes : is_match g c ≡ true = rw (handle, priority) refl in
    has_flow p.filters c (k, g) i takes

-- THE PORT

null_address : (e : StreamEntry) (head : Head) → is_null_kind e.kind ≡ true → ident.compared_address e.kind head ≡ head.da
null_address e head h = null_of e.kind head h
  where
    null_of : (k : _) (head : Head) → is_null_kind k ≡ true → ident.compared_address k head ≡ head.da
    null_of Null head h = refl
    null_of Source head h = absurd (false≢true h)

goes_by : {A : Type 0} (p : Plan A) (port : PortPlan A) (head : Head) (q h : ℕ) → ident.HasEntry p.streams port.number head (frame_vid port head.tag) h → has_port (forward p.database port.number (frame_vid port head.tag) head.da) q ≡ true → are_null_kinds h p.streams ≡ true → leads_through_port p.database h q p.streams ≡ true
goes_by p port head q h f goes null =
    let e = f.entry in
    let vid = frame_vid port head.tag in
    let (abc, tag) = and_parts (nat_eq e.port port.number && nat_eq e.vid vid && bytes_eq e.address (ident.compared_address e.kind head)) (ident.accepts_tag e.tag head.tag) f.matches in
    let (ab, address) = and_parts (nat_eq e.port port.number && nat_eq e.vid vid) (bytes_eq e.address (ident.compared_address e.kind head)) abc in
    let (on, in_vlan) = and_parts (nat_eq e.port port.number) (nat_eq e.vid vid) ab in
    let own : nat_eq e.handle h ≡ true = rw f.handle (same_eq h) in
    let kind : (not (nat_eq e.handle h) || is_null_kind e.kind) ≡ true = each_passes (λ (x : StreamEntry). not (nat_eq x.handle h) || is_null_kind x.kind) p.streams e null f.listed in
    let is : is_null_kind e.kind ≡ true = rw own at kind in
    let to : e.address ≡ head.da = same_bytes e.address (ident.compared_address e.kind head) address ∙ null_address e head is in
    let port_is : e.port ≡ port.number = eqb-true e.port port.number on in
    let vid_is : e.vid ≡ vid = eqb-true e.vid vid in_vlan in
    let there : has_port (forward p.database e.port e.vid e.address) q ≡ true = rw (port_is, vid_is, to) goes in
    let both : (nat_eq e.handle h && has_port (forward p.database e.port e.vid e.address) q) ≡ true = rw (own, there) refl in
    passes_any (λ (x : StreamEntry). nat_eq x.handle h && has_port (forward p.database x.port x.vid x.address) q) p.streams e f.listed both

port_reached : {A : Type 0} (p : Plan A) (port : PortPlan A) (head : Head) (q : ℕ) (o : Option ℕ) → has_port (forward p.database port.number (frame_vid port head.tag) head.da) q ≡ true → is_handle_match o (ident.first_handle p.streams port.number head (frame_vid port head.tag)) ≡ true → reaches_port p o q ≡ true
port_reached p port head q None goes takes = refl
port_reached p port head q (Some h) goes takes =
    let f = given p.streams port.number head (frame_vid port head.tag) h (taken_handle h (ident.first_handle p.streams port.number head (frame_vid port head.tag)) takes) in
    by_bool (are_null_kinds h p.streams)
    (λ null. rw (goes_by p port head q h f goes null) (or-true (not (are_null_kinds h p.streams))))
    (λ other. rw other refl)

-- THE GATE

pub record IsLet (r : GateRules) (t : ℕ) (ipv : Option ℕ) : Type 0 where
  pub turn : Turn GateEntry
  pub at : r.turn_at t ≡ Some turn
  pub lets : turn.state.lets ≡ true
  pub ipv_is : turn.state.ipv ≡ ipv

let_by : (lets over : Bool) (i ipv : Option ℕ) → cond (not lets) gate.Closed (cond over gate.OctetsExceeded (gate.Through i)) ≡ gate.Through ipv → (lets ≡ true) × (i ≡ ipv)
let_by false over i ipv h = absurd (cc)
let_by true true i ipv h = absurd (cc)
let_by true false i ipv h = (refl, through h)
  where
    through : gate.Through i ≡ gate.Through ipv → i ≡ ipv
    through h = cc

let_in : (r : GateRules) (ss : List GateStep) (sdu t : ℕ) (o : Option (Turn GateEntry)) (ipv : Option ℕ) → r.turn_at t ≡ o → turn_answer r ss sdu o ≡ gate.Through ipv → IsLet r t ipv
let_in r ss sdu t None ipv e h = absurd (cc)
let_in r ss sdu t (Some x) ipv e h =
    let (lets, same) = let_by x.state.lets (is_over_limit x.state.octets (octets_in_turn r.turn_at x.start ss + sdu)) x.state.ipv ipv h in
    record { turn = x; at = e; lets = lets; ipv_is = same }

unshut : (a b : Bool) (v : GateAnswer) (ipv : Option ℕ) → cond a gate.ShutByRx (cond b gate.ShutByOctets v) ≡ gate.Through ipv → v ≡ gate.Through ipv
unshut true b v ipv h = absurd (cc)
unshut false true v ipv h = absurd (cc)
unshut false false v ipv h = h

let_through : (r : GateRules) (ss : List GateStep) (t sdu : ℕ) (ipv : Option ℕ) → answer r ss t sdu ≡ gate.Through ipv → IsLet r t ipv
let_through r ss t sdu ipv h = let_in r ss sdu t (r.turn_at t) ipv refl (unshut (r.shut_on_rx && is_shut_by_rx ss) (r.shut_on_octets && is_shut_by_octets ss) (turn_answer r ss sdu (r.turn_at t)) ipv h)

-- THE VERDICT

same_ipv : (i ipv : Option ℕ) (e eligible : Bool) → verdict.Pass i e ≡ verdict.Pass ipv eligible → i ≡ ipv
same_ipv i ipv e eligible h = cc

yellow_by : (drop : Bool) (i ipv : Option ℕ) (eligible : Bool) → cond drop verdict.YellowDropped (verdict.Pass i true) ≡ verdict.Pass ipv eligible → i ≡ ipv
yellow_by true i ipv eligible h = absurd (cc)
yellow_by false i ipv eligible h = same_ipv i ipv true eligible h

by_colour_passes : (m : MeterPlan) (i ipv : Option ℕ) (eligible : Bool) (c : Colour) → colour_verdict m i c ≡ verdict.Pass ipv eligible → i ≡ ipv
by_colour_passes m i ipv eligible colour.Green h = same_ipv i ipv false eligible h
by_colour_passes m i ipv eligible colour.Yellow h = yellow_by m.drop_yellow i ipv eligible h
by_colour_passes m i ipv eligible colour.Red h = absurd (cc)

by_meter_passes : (p : PolicePlans) (ss : List FilterStep) (c : FilterInput) (i ipv o : Option ℕ) (eligible : Bool) → meter_verdict p ss c i o ≡ verdict.Pass ipv eligible → i ≡ ipv
by_meter_passes p ss c i ipv None eligible h = same_ipv i ipv false eligible h
by_meter_passes p ss c i ipv (Some m) eligible h = by_colour_passes (p.meters m) i ipv eligible _ h

by_answer_passes : (p : PolicePlans) (ss : List FilterStep) (c : FilterInput) (f : FilterPlan) (a : GateAnswer) (ipv : Option ℕ) (eligible : Bool) → answer_verdict p ss c f a ≡ verdict.Pass ipv eligible → a ≡ gate.Through ipv
by_answer_passes p ss c f (gate.Through i) ipv eligible h = ap gate.Through (by_meter_passes p ss c i ipv f.meter eligible h)
by_answer_passes p ss c f gate.Closed ipv eligible h = absurd (cc)
by_answer_passes p ss c f gate.ShutByRx ipv eligible h = absurd (cc)
by_answer_passes p ss c f gate.ShutByOctets ipv eligible h = absurd (cc)
by_answer_passes p ss c f gate.OctetsExceeded ipv eligible h = absurd (cc)

pub unrefused : (a b : Bool) (v : Verdict) (ipv : Option ℕ) (eligible : Bool) → cond a verdict.Blocked (cond b verdict.Oversize v) ≡ verdict.Pass ipv eligible → v ≡ verdict.Pass ipv eligible
unrefused true b v ipv eligible h = absurd (cc)
unrefused false true v ipv eligible h = absurd (cc)
unrefused false false v ipv eligible h = h

-- A frame that its filter passes arrived while the stream gate was open.
let_by_verdict : (p : PolicePlans) (ss : List FilterStep) (c : FilterInput) (n : ℕ) (f : FilterPlan) (ipv : Option ℕ) (eligible : Bool) → frame_verdict p ss c n f ≡ verdict.Pass ipv eligible → IsLet (p.gates f.gate) c.at ipv
let_by_verdict p ss c n f ipv eligible h =
    let v = unrefused (f.block_oversize && is_blocked n ss) (is_above_max f.max_sdu c.sdu) (answer_verdict p ss c f (gate_answer p ss c f.gate)) ipv eligible h in
    let_through (p.gates f.gate) (gate_steps (p.gates f.gate) (gate_share f.gate ss)) c.at c.sdu ipv (by_answer_passes p ss c f (gate_answer p ss c f.gate) ipv eligible v)

-- ENTRIES

-- An entry of a list has its gate state in the list of states.
state_of : (l : List (GateEntry × ℕ)) (e : GateEntry × ℕ) (x : GateEntry) → IsMember e l → e.0 ≡ x → list_all (λ (y : GateEntry × ℕ). schedules.is_valid_priority y.0.ipv) l ≡ true → IsMember x (map (λ (y : GateEntry × ℕ). y.0) l) × (schedules.is_valid_priority x.ipv ≡ true)
state_of l e x i same has_port =
    let own : schedules.is_valid_priority e.0.ipv ≡ true = each_passes (λ (y : GateEntry × ℕ). schedules.is_valid_priority y.0.ipv) l e has_port i in
    (subst (λ (z : GateEntry). IsMember z (map (λ (y : GateEntry × ℕ). y.0) l)) same (in_map (λ (y : GateEntry × ℕ). y.0) l e i), subst (λ (z : GateEntry). schedules.is_valid_priority z.ipv ≡ true) same own)

pub record IsEntry (es : List GateEntry) (e : GateEntry) : Type 0 where
  pub listed : IsMember e es
  pub priority : schedules.is_valid_priority e.ipv ≡ true

entry_of : {A : Type 0} (s : Schedule A) (t : ℕ) (x : Turn GateEntry) → schedules.turn_by_time s t ≡ Some x → schedules.has_valid_priorities s ≡ true → IsEntry (schedule_entries s) x.state
entry_of (schedule.Fixed lets ipv) t x h has_port =
    let same : record { lets = lets; ipv = ipv; octets = None } ≡ x.state = ap (λ y. y.state) (same_Some _ _ h) in
    record { listed = inl (sym same); priority = subst (λ (e : GateEntry). schedules.is_valid_priority e.ipv ≡ true) same has_port }
entry_of (schedule.Cyclic l) t x h has_port =
    let (e, i, same) = among l t x h in
    let (listed, priority) = state_of l.entries e x.state i same has_port in
    record { listed = listed; priority = priority }
entry_of (schedule.Joined j) t x h has_port =
    let (before, after) = and_parts (list_all (λ e. schedules.is_valid_priority e.0.ipv) j.old.entries) (list_all (λ e. schedules.is_valid_priority e.0.ipv) j.new.entries) has_port in
    elim (among_both j t x h) [
      | inl a ↦
          let (e, i, same) = a in
          let (listed, priority) = state_of j.old.entries e x.state i same before in
          record { listed = in_left x.state (map (λ (y : GateEntry × ℕ). y.0) j.old.entries) (map (λ (y : GateEntry × ℕ). y.0) j.new.entries) listed; priority = priority }
      | inr b ↦
          let (e, i, same) = b in
          let (listed, priority) = state_of j.new.entries e x.state i same after in
          record { listed = in_right x.state (map (λ (y : GateEntry × ℕ). y.0) j.old.entries) (map (λ (y : GateEntry × ℕ). y.0) j.new.entries) listed; priority = priority }
    ]

lookup_by : {A : Type 0} (b : Bool) (x : ℕ × GatePlan A) (xs : List (ℕ × GatePlan A)) (n : ℕ) (g : GatePlan A) → (schedules.has_valid_priorities x.1.schedule && list_all (λ (y : ℕ × GatePlan A). schedules.has_valid_priorities y.1.schedule) xs) ≡ true → cond b (Some x.1) (lookup (nat_eq n) xs) ≡ Some g → (list_all (λ (y : ℕ × GatePlan A). schedules.has_valid_priorities y.1.schedule) xs ≡ true → lookup (nat_eq n) xs ≡ Some g → schedules.has_valid_priorities g.schedule ≡ true) → schedules.has_valid_priorities g.schedule ≡ true
lookup_by {A} true x xs n g all h more = let (here, rest) = and_parts (schedules.has_valid_priorities x.1.schedule) (list_all (λ (y : ℕ × GatePlan A). schedules.has_valid_priorities y.1.schedule) xs) all in subst (λ (z : GatePlan A). schedules.has_valid_priorities z.schedule ≡ true) (same_Some _ _ h) here
lookup_by {A} false x xs n g all h more = let (here, rest) = and_parts (schedules.has_valid_priorities x.1.schedule) (list_all (λ (y : ℕ × GatePlan A). schedules.has_valid_priorities y.1.schedule) xs) all in more rest h

looked_up : {A : Type 0} (gates : List (ℕ × GatePlan A)) (n : ℕ) (g : GatePlan A) → list_all (λ (y : ℕ × GatePlan A). schedules.has_valid_priorities y.1.schedule) gates ≡ true → lookup (nat_eq n) gates ≡ Some g → schedules.has_valid_priorities g.schedule ≡ true
looked_up [] n g all h = absurd (cc)
looked_up (x ∷ xs) n g all h = lookup_by (nat_eq n x.0) x xs n g all h (looked_up xs n g)

gate_entry : {A : Type 0} (o : Option (GatePlan A)) (t : ℕ) (x : Turn GateEntry) → ((g : GatePlan A) → o ≡ Some g → schedules.has_valid_priorities g.schedule ≡ true) → (gate_or_closed o).turn_at t ≡ Some x → IsEntry (optional_entries o) x.state
gate_entry None t x has_port h = absurd (cc)
gate_entry (Some g) t x has_port h = entry_of g.schedule t x h (has_port g refl)

value_of : (ipv own : Option ℕ) (k : ℕ) → is_priority_match own k ≡ true → has_priority_value ipv own (unwrap_or ipv k) ≡ true
value_of (Some i) own k h = same_eq i
value_of None None k h = refl
value_of None (Some j) k h = h

small_of : (ipv : Option ℕ) (k : ℕ) → schedules.is_valid_priority ipv ≡ true → k ≤ 7 → unwrap_or ipv k < 8
small_of None k h le = omega (arith, le)
small_of (Some i) k h le = let most = at_most i h in omega (arith, most)
  where
    at_most : (i : ℕ) → nat_le i 7 ≡ true → i ≤ 7
    at_most i h = grind (arith, nat_tests)

pub sound : {A : Type 0} (p : Plan A) (port out : PortPlan A) (head : Head) (at octets n : ℕ) (f : FilterPlan) (ss : List FilterStep) (ipv : Option ℕ) (eligible : Bool)
    → IsPlan p
    → find_port p.ports out.number ≡ Some out
    → frame_priority port head.tag ≤ 7
    → has_port (forward p.database port.number (frame_vid port head.tag) head.da) out.number ≡ true
    → frame_filter p.filters (frame_input p port at head octets) ≡ Some (n, f)
    → frame_verdict (police_plans p.filters p.gates p.meters) ss (frame_input p port at head octets) n f ≡ verdict.Pass ipv eligible
    → reaches_queue p f out.number (frame_class out ipv (frame_priority port head.tag)) ≡ true
sound {A} p port out head at octets n f ss ipv eligible plan there few goes flows passes =
    let c = frame_input p port at head octets in
    let k = frame_priority port head.tag in
    let (handle, priority) = and_parts (is_handle_match f.handle c.handle) (is_priority_match f.priority k) (flow_matches p.filters c (n, f) flows) in
    let gone : reaches_port p f.handle out.number ≡ true = port_reached p port head out.number f.handle goes handle in
    let through = let_by_verdict (police_plans p.filters p.gates p.meters) ss c n f ipv eligible passes in
    let entry = gate_entry (lookup (nat_eq f.gate) p.gates) at through.turn (λ g e. looked_up p.gates f.gate g plan.gates.priorities e) through.at in
    let own : schedules.is_valid_priority ipv ≡ true = subst (λ (i : Option ℕ). schedules.is_valid_priority i ≡ true) through.ipv_is entry.priority in
    let value : has_priority_value through.turn.state.ipv f.priority (unwrap_or ipv k) ≡ true = rw through.ipv_is (value_of ipv f.priority k priority) in
    let given : gives_priority through.turn.state f.priority (unwrap_or ipv k) ≡ true = rw (through.lets, value) refl in
    let open_for : reaches_priority p f (unwrap_or ipv k) ≡ true = passes_any (λ (e : GateEntry). gives_priority e f.priority (unwrap_or ipv k)) (gate_entries p.gates f.gate) through.turn.state entry.listed given in
    let both : (reaches_priority p f (unwrap_or ipv k) && nat_eq (slice_index out.classes (unwrap_or ipv k)) (frame_class out ipv k)) ≡ true = rw (open_for, same_eq (frame_class out ipv k)) refl in
    let class : reaches_class p f (Some out) (frame_class out ipv k) ≡ true = below_any 8 (unwrap_or ipv k) (λ j. reaches_priority p f j && nat_eq (slice_index out.classes j) (frame_class out ipv k)) (small_of ipv k own few) both in
    rw (gone, there) class

-- Every queue that a parsed, passed frame enters is reachable, at a port of the plan.
pub frame_sound : {A : Type 0} (p : Plan A) (port out : PortPlan A) (frame : List ℕ) (len : ℕ) (head : Head) (at octets n : ℕ) (f : FilterPlan) (ss : List FilterStep) (ipv : Option ℕ) (eligible : Bool)
    → IsPlan p
    → find_port p.ports port.number ≡ Some port
    → find_port p.ports out.number ≡ Some out
    → frames.parsed_head frame len ≡ Ok head
    → has_port (forward p.database port.number (frame_vid port head.tag) head.da) out.number ≡ true
    → frame_filter p.filters (frame_input p port at head octets) ≡ Some (n, f)
    → frame_verdict (police_plans p.filters p.gates p.meters) ss (frame_input p port at head octets) n f ≡ verdict.Pass ipv eligible
    → reaches_queue p f out.number (frame_class out ipv (frame_priority port head.tag)) ≡ true
frame_sound p port out frame len head at octets n f ss ipv eligible plan on there parsed goes flows passes =
    let (is, number) = port_is p.ports port.number port plan.ports on in
    sound p port out head at octets n f ss ipv eligible plan there (priority_few port head.tag is (head_few frame len head parsed)) goes flows passes
