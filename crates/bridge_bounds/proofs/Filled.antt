-- Each frame of a filter entered its queue's class at a time at which the stream gate's list puts frames there.
use Rattle.std.proofs.Common.{◌≡◌, ◌<◌, ◌≤◌, ◌+◌, ℕ, Bool, true, false, not, ◌&&◌, Option, None, Some, List, [], ◌∷◌, cond, nat_eq, nat_le, arith, ap, refl, sym, subst, ◌∙◌, inl, inr}
use Rattle.std.specs.Prelude.{slice_index, unwrap_or}
use Rattle.std.specs.List.{list_all}
use Rattle.std.specs.Map.{lookup}
use Rattle.std.proofs.lemmas.Bool.{and_parts}
use Rattle.std.proofs.lemmas.Bool.Decides.{nat_tests}
use Rattle.std.proofs.lemmas.Option.{same_Some}
use Rattle.bridge_limits.specs.Members.{IsMember}
use Rattle.bridge_limits.proofs.Members.{each_passes, in_either}
use Rattle.bridge_limits.proofs.Cases.{by_bool}
use Rattle.bridge_limits.proofs.Orders.{same_eq}
use Rattle.bridge_cycle.specs.Cyclic as cyclic
use Rattle.bridge_cycle.specs.declared.timeline.Turn.{Turn}
use Rattle.bridge_cycle.proofs.Lists.{among}
use Rattle.bridge_frame.proofs.Heads.{head_few}
use Rattle.bridge_forward.specs.Ports.{has_port}
use Rattle.bridge_gate.specs.declared.stream_gate.GateAnswer.{GateAnswer}
use Rattle.bridge_gate.specs.declared.stream_gate.GateAnswer.TheVariants as gate
use Rattle.bridge_gate.specs.declared.schedule.GateEntry.{GateEntry}
use Rattle.bridge_gate.specs.declared.schedule.GatePlan.{GatePlan}
use Rattle.bridge_gate.specs.declared.schedule.Schedule.{Schedule}
use Rattle.bridge_gate.specs.declared.schedule.Schedule.TheVariants.{Cyclic}
use Rattle.bridge_gate.specs.Gates.{GateRules, GateStep, answer, gate_steps, is_over_limit, is_shut_by_octets, is_shut_by_rx, octets_in_turn, turn_answer}
use Rattle.bridge_gate.specs.Schedules.{gate_rules, has_valid_priorities, is_valid_priority, turn_by_time}
use Rattle.bridge_meter.specs.declared.Colour.{Colour}
use Rattle.bridge_meter.specs.declared.Colour.TheVariants as colour
use Rattle.bridge_meter.specs.declared.MeterPlan.{MeterPlan}
use Rattle.bridge_filter.specs.declared.FilterInput.{FilterInput}
use Rattle.bridge_filter.specs.declared.FilterPlan.{FilterPlan}
use Rattle.bridge_filter.specs.declared.Verdict.{Verdict}
use Rattle.bridge_filter.specs.declared.Verdict.TheVariants as verdict
use Rattle.bridge_filter.specs.Plans.{gate_or_closed}
use Rattle.bridge_filter.specs.Verdicts as verdicts
use Rattle.bridge_filter.specs.Verdicts.{PolicePlans, FilterStep, answer_verdict, colour_verdict, frame_verdict, gate_answer, gate_share, input_step, is_above_max, is_blocked, is_handle_match, is_priority_match, meter_verdict}
use Rattle.bridge_filter.proofs.Members.{one_number}
use Rattle.bridge_filter.proofs.Owned.{flow_listed}
use Rattle.bridge_filter.proofs.Taken.{flow_matches}
use Rattle.bridge_config.specs.declared.ports.PortPlan.{PortPlan}
use Rattle.bridge_config.specs.Model.{Plan}
use Rattle.bridge_config.specs.Rules.{IsPlan}
use Rattle.bridge_config.proofs.PlanPorts.{port_is}
use Rattle.bridge_check.specs.FrameInput.{frame_class, frame_priority}
use Rattle.bridge_check.specs.Reach.{gives_priority, has_priority_value}
use Rattle.bridge_check.proofs.Heads.{priority_few}
use Rattle.bridge_check.proofs.Sound.{below_any, unrefused}
use Rattle.bridge_semantics.specs.declared.destination.Destination.{Destination}
use Rattle.bridge_semantics.specs.declared.destination.Destination.TheVariants as way
use Rattle.bridge_semantics.specs.Events.{Arrival, Arrived, Cleared, Event, frame_destination, plan_police, police_steps}
use Rattle.bridge_semantics.specs.Offers.{Offer, destination_offer, make_offer, port_offers, step_offer, verdict_offer}
use Rattle.bridge_semantics.proofs.Offering.{going}
use Rattle.bridge_bounds.specs.Openings.{fills_at, fills_class, turn_passes}
use Rattle.bridge_bounds.proofs.Reached.{found_in}

-- THE GATE

-- A frame that arrives at time `t` finds an open interval, which gives it the value `ipv`.
record IsLet (r : GateRules) (t : ℕ) (ipv : Option ℕ) : Type 0 where
  turn : Turn GateEntry
  at : r.turn_at t ≡ Some turn
  lets : turn.state.lets ≡ true
  ipv_is : turn.state.ipv ≡ ipv

same_through : (i ipv : Option ℕ) → gate.Through i ≡ gate.Through ipv → i ≡ ipv
same_through i ipv h = cc

let_by : (lets over : Bool) (i ipv : Option ℕ) → cond (not lets) gate.Closed (cond over gate.OctetsExceeded (gate.Through i)) ≡ gate.Through ipv → (lets ≡ true) × (i ≡ ipv)
let_by false over i ipv h = absurd (cc)
let_by true true i ipv h = absurd (cc)
let_by true false i ipv h = (refl, same_through i ipv h)

let_in : (r : GateRules) (ss : List GateStep) (sdu t : ℕ) (o : Option (Turn GateEntry)) (ipv : Option ℕ) → r.turn_at t ≡ o → turn_answer r ss sdu o ≡ gate.Through ipv → IsLet r t ipv
let_in r ss sdu t None ipv e h = absurd (cc)
let_in r ss sdu t (Some x) ipv e h =
    let (lets, same) = let_by x.state.lets (is_over_limit x.state.octets (octets_in_turn r.turn_at x.start ss + sdu)) x.state.ipv ipv h in
    record { turn = x; at = e; lets = lets; ipv_is = same }

unshut : (a b : Bool) (v : GateAnswer) (ipv : Option ℕ) → cond a gate.ShutByRx (cond b gate.ShutByOctets v) ≡ gate.Through ipv → v ≡ gate.Through ipv
unshut true b v ipv h = absurd (cc)
unshut false true v ipv h = absurd (cc)
unshut false false v ipv h = h

let_through : (r : GateRules) (ss : List GateStep) (t sdu : ℕ) (ipv : Option ℕ) → answer r ss t sdu ≡ gate.Through ipv → IsLet r t ipv
let_through r ss t sdu ipv h = let_in r ss sdu t (r.turn_at t) ipv refl (unshut (r.shut_on_rx && is_shut_by_rx ss) (r.shut_on_octets && is_shut_by_octets ss) (turn_answer r ss sdu (r.turn_at t)) ipv h)

-- THE VERDICT

same_ipv : (i ipv : Option ℕ) (e eligible : Bool) → verdict.Pass i e ≡ verdict.Pass ipv eligible → i ≡ ipv
same_ipv i ipv e eligible h = cc

yellow_by : (drop : Bool) (i ipv : Option ℕ) (eligible : Bool) → cond drop verdict.YellowDropped (verdict.Pass i true) ≡ verdict.Pass ipv eligible → i ≡ ipv
yellow_by true i ipv eligible h = absurd (cc)
yellow_by false i ipv eligible h = same_ipv i ipv true eligible h

colour_passes : (m : MeterPlan) (i ipv : Option ℕ) (eligible : Bool) (c : Colour) → colour_verdict m i c ≡ verdict.Pass ipv eligible → i ≡ ipv
colour_passes m i ipv eligible colour.Green h = same_ipv i ipv false eligible h
colour_passes m i ipv eligible colour.Yellow h = yellow_by m.drop_yellow i ipv eligible h
colour_passes m i ipv eligible colour.Red h = absurd (cc)

meter_passes : (p : PolicePlans) (ss : List FilterStep) (c : FilterInput) (i ipv o : Option ℕ) (eligible : Bool) → meter_verdict p ss c i o ≡ verdict.Pass ipv eligible → i ≡ ipv
meter_passes p ss c i ipv None eligible h = same_ipv i ipv false eligible h
meter_passes p ss c i ipv (Some m) eligible h = colour_passes (p.meters m) i ipv eligible _ h

answer_passes : (p : PolicePlans) (ss : List FilterStep) (c : FilterInput) (f : FilterPlan) (a : GateAnswer) (ipv : Option ℕ) (eligible : Bool) → answer_verdict p ss c f a ≡ verdict.Pass ipv eligible → a ≡ gate.Through ipv
answer_passes p ss c f (gate.Through i) ipv eligible h = ap gate.Through (meter_passes p ss c i ipv f.meter eligible h)
answer_passes p ss c f gate.Closed ipv eligible h = absurd (cc)
answer_passes p ss c f gate.ShutByRx ipv eligible h = absurd (cc)
answer_passes p ss c f gate.ShutByOctets ipv eligible h = absurd (cc)
answer_passes p ss c f gate.OctetsExceeded ipv eligible h = absurd (cc)

-- A frame that its filter passes arrived in an open interval of the stream gate, whose value it has.
let_by_verdict : (p : PolicePlans) (ss : List FilterStep) (c : FilterInput) (n : ℕ) (f : FilterPlan) (ipv : Option ℕ) (eligible : Bool) → frame_verdict p ss c n f ≡ verdict.Pass ipv eligible → IsLet (p.gates f.gate) c.at ipv
let_by_verdict p ss c n f ipv eligible h =
    let v = unrefused (f.block_oversize && is_blocked n ss) (is_above_max f.max_sdu c.sdu) (answer_verdict p ss c f (gate_answer p ss c f.gate)) ipv eligible h in
    let_through (p.gates f.gate) (gate_steps (p.gates f.gate) (gate_share f.gate ss)) c.at c.sdu ipv (answer_passes p ss c f (gate_answer p ss c f.gate) ipv eligible v)

-- THE PRIORITY

value_of : (ipv own : Option ℕ) (k : ℕ) → is_priority_match own k ≡ true → has_priority_value ipv own (unwrap_or ipv k) ≡ true
value_of (Some i) own k h = same_eq i
value_of None None k h = refl
value_of None (Some j) k h = h

small_of : (ipv : Option ℕ) (k : ℕ) → is_valid_priority ipv ≡ true → k ≤ 7 → unwrap_or ipv k < 8
small_of None k h few = omega (arith, few)
small_of (Some i) k h few = let most = at_most i h in omega (arith, most)
  where
    at_most : (i : ℕ) → nat_le i 7 ≡ true → i ≤ 7
    at_most i h = grind (arith, nat_tests)

-- The value of an interval is valid.
valid_turn : (l : cyclic.Cyclic GateEntry) (t : ℕ) (x : Turn GateEntry) → list_all (λ (e : GateEntry × ℕ). is_valid_priority e.0.ipv) l.entries ≡ true → cyclic.turn_by_time l t ≡ Some x → is_valid_priority x.state.ipv ≡ true
valid_turn l t x all h =
    let (e, i, same) = among l t x h in
    subst (λ (z : GateEntry). is_valid_priority z.ipv ≡ true) same (each_passes (λ (y : GateEntry × ℕ). is_valid_priority y.0.ipv) l.entries e all i)

-- THE FRAMES OF A FILTER

number_is : (m n : ℕ) → ◌≡◌ {A = Option ℕ} (Some m) (Some n) → m ≡ n
number_is m n h = same_Some m n h

number_lacks : (n : ℕ) → ◌≡◌ {A = Option ℕ} None (Some n) → ⊥
number_lacks n h = cc

module _ {A : Type 0} (p : Plan A) (n : ℕ) (f : FilterPlan) (g : GatePlan A) (l : cyclic.Cyclic GateEntry) (out : PortPlan A) (plan : IsPlan p) (listed : IsMember (n, f) p.filters) (gated : lookup (nat_eq f.gate) p.gates ≡ Some g) (one_list : g.schedule ≡ Cyclic l) where
  -- The stream gate's intervals are the list's intervals.
  turn_is : (t : ℕ) (x : Turn GateEntry) → ((plan_police p).gates f.gate).turn_at t ≡ Some x → cyclic.turn_by_time l t ≡ Some x
  turn_is t x h =
      let rules : (plan_police p).gates f.gate ≡ gate_rules g = ap gate_or_closed gated in
      let own : turn_by_time g.schedule t ≡ Some x = subst (λ (r : GateRules). r.turn_at t ≡ Some x) rules h in
      subst (λ (s : Schedule A). turn_by_time s t ≡ Some x) one_list own

  valid : list_all (λ (e : GateEntry × ℕ). is_valid_priority e.0.ipv) l.entries ≡ true
  valid =
      let own : has_valid_priorities g.schedule ≡ true = each_passes (λ (y : ℕ × GatePlan A). has_valid_priorities y.1.schedule) p.gates (f.gate, g) plan.gates.priorities (found_in p.gates f.gate g gated) in
      subst (λ (s : Schedule A). has_valid_priorities s ≡ true) one_list own

  -- A passed frame enters a class that the interval fills.
  fills : (c : FilterInput) (ss : List FilterStep) (ipv : Option ℕ) (eligible : Bool) → verdicts.frame_filter p.filters c ≡ Some (n, f) → c.priority ≤ 7 → frame_verdict (plan_police p) ss c n f ≡ verdict.Pass ipv eligible → fills_at out f.priority (frame_class out ipv c.priority) l c.at ≡ true
  fills c ss ipv eligible flows few passes =
      let through = let_by_verdict (plan_police p) ss c n f ipv eligible passes in
      let at = turn_is c.at through.turn through.at in
      let (handle, priority) = and_parts (is_handle_match f.handle c.handle) (is_priority_match f.priority c.priority) (flow_matches p.filters c (n, f) flows) in
      let k : ℕ = unwrap_or ipv c.priority in
      let own : is_valid_priority ipv ≡ true = subst (λ (i : Option ℕ). is_valid_priority i ≡ true) through.ipv_is (valid_turn l c.at through.turn valid at) in
      let value : has_priority_value through.turn.state.ipv f.priority k ≡ true = rw through.ipv_is (value_of ipv f.priority c.priority priority) in
      let given : gives_priority through.turn.state f.priority k ≡ true = rw (through.lets, value) refl in
      let both : (gives_priority through.turn.state f.priority k && nat_eq (slice_index out.classes k) (slice_index out.classes k)) ≡ true = rw (given, same_eq (slice_index out.classes k)) refl in
      let found : fills_class out f.priority (slice_index out.classes k) through.turn.state ≡ true = below_any 8 k (λ i. gives_priority through.turn.state f.priority i && nat_eq (slice_index out.classes i) (slice_index out.classes k)) (small_of ipv c.priority own few) both in
      ap (turn_passes (fills_class out f.priority (slice_index out.classes k))) at ∙ found

  -- An offer of the filter was made at a time at which the gate fills its class.
  abbrev IsFilling : Offer → Type 0
  IsFilling o = fills_at out f.priority o.class l o.at ≡ true

  verdict_fills : (a : Arrival) (m own : ℕ) (h : FilterPlan) (c : FilterInput) (ss : List FilterStep) (v : Verdict) (o : Offer) → verdicts.frame_filter p.filters c ≡ Some (m, h) → c.at ≡ a.at → c.priority ≤ 7 → frame_verdict (plan_police p) ss c m h ≡ v → IsMember o (verdict_offer out a c.priority m own v) → o.item.flow ≡ Some n → IsFilling o
  verdict_fills a m own h c ss (verdict.Pass ipv e) o flows at few is (inl same) flow =
      let made : Offer = make_offer out a c.priority (Some m) own ipv e in
      let number : m ≡ n = number_is m n (sym (ap (λ (z : Offer). z.item.flow) same) ∙ flow) in
      let filter : h ≡ f = one_number p.filters n h f plan.filters.own (subst (λ (i : ℕ). IsMember (i, h) p.filters) number (flow_listed p.filters c (m, h) flows)) listed in
      let flows_n : verdicts.frame_filter p.filters c ≡ Some (n, h) = subst (λ (i : ℕ). verdicts.frame_filter p.filters c ≡ Some (i, h)) number flows in
      let own_flow : verdicts.frame_filter p.filters c ≡ Some (n, f) = subst (λ (z : FilterPlan). verdicts.frame_filter p.filters c ≡ Some (n, z)) filter flows_n in
      let passes_n : frame_verdict (plan_police p) ss c n h ≡ verdict.Pass ipv e = subst (λ (i : ℕ). frame_verdict (plan_police p) ss c i h ≡ verdict.Pass ipv e) number is in
      let own_passes : frame_verdict (plan_police p) ss c n f ≡ verdict.Pass ipv e = subst (λ (z : FilterPlan). frame_verdict (plan_police p) ss c n z ≡ verdict.Pass ipv e) filter passes_n in
      let filled : fills_at out f.priority (frame_class out ipv c.priority) l c.at ≡ true = fills c ss ipv e own_flow few own_passes in
      let there : fills_at out f.priority (frame_class out ipv c.priority) l a.at ≡ true = subst (λ (t : ℕ). fills_at out f.priority (frame_class out ipv c.priority) l t ≡ true) at filled in
      subst IsFilling (sym same) there
  verdict_fills a m own h c ss (verdict.Pass ipv e) o flows at few is (inr i) flow = absurd i
  verdict_fills a m own h c ss verdict.Blocked o flows at few is i flow = absurd i
  verdict_fills a m own h c ss verdict.Oversize o flows at few is i flow = absurd i
  verdict_fills a m own h c ss verdict.GateClosed o flows at few is i flow = absurd i
  verdict_fills a m own h c ss verdict.ShutByRx o flows at few is i flow = absurd i
  verdict_fills a m own h c ss verdict.ShutByOctets o flows at few is i flow = absurd i
  verdict_fills a m own h c ss verdict.OctetsExceeded o flows at few is i flow = absurd i
  verdict_fills a m own h c ss verdict.Red o flows at few is i flow = absurd i
  verdict_fills a m own h c ss verdict.YellowDropped o flows at few is i flow = absurd i

  step_fills : (a : Arrival) (es : List Event) (c : FilterInput) (x : Option (ℕ × FilterPlan)) (o : Offer) → verdicts.frame_filter p.filters c ≡ x → c.at ≡ a.at → c.priority ≤ 7 → IsMember o (step_offer p out a es c.priority (input_step (plan_police p) (police_steps p es) c x)) → o.item.flow ≡ Some n → IsFilling o
  step_fills a es c None o is at few (inl same) flow = absurd (number_lacks n (sym (ap (λ (z : Offer). z.item.flow) same) ∙ flow))
  step_fills a es c None o is at few (inr i) flow = absurd i
  step_fills a es c (Some x) o is at few i flow = verdict_fills a x.0 _ x.1 c (police_steps p es) (frame_verdict (plan_police p) (police_steps p es) c x.0 x.1) o is at few refl i flow

  way_fills : (a : Arrival) (es : List Event) (w : Destination) (o : Offer) → frame_destination p a ≡ w → IsMember o (destination_offer p out a es w) → o.item.flow ≡ Some n → IsFilling o
  way_fills a es way.Malformed o w i flow = absurd i
  way_fills a es way.Nowhere o w i flow = absurd i
  way_fills a es (way.Forwarded set c) o w i flow = by_bool (has_port set out.number)
      (λ k.
      let j : IsMember o (step_offer p out a es c.priority (input_step (plan_police p) (police_steps p es) c (verdicts.frame_filter p.filters c))) = rw k at i in
      let on = going p a set c w in
      let few : frame_priority on.on on.parsed.tag ≤ 7 = priority_few on.on on.parsed.tag (port_is p.ports a.port on.on plan.ports on.at_port).0 (head_few a.octets a.len on.parsed on.is) in
      let own : c.priority ≤ 7 = subst (λ (z : FilterInput). z.priority ≤ 7) on.call_is few in
      let at : c.at ≡ a.at = sym (ap (λ (z : FilterInput). z.at) on.call_is) in
      step_fills a es c (verdicts.frame_filter p.filters c) o refl at own j flow)
      (λ k. let j : ⊥ = rw k at i in absurd j)

  -- Each offer of the filter was made at a time at which the gate fills its class.
  pub offers_fill : (es : List Event) (o : Offer) → IsMember o (port_offers p out es) → o.item.flow ≡ Some n → fills_at out f.priority o.class l o.at ≡ true
  offers_fill [] o i flow = absurd i
  offers_fill (Cleared d m ∷ es) o i flow = offers_fill es o i flow
  offers_fill (Arrived a ∷ es) o i flow = elim (in_either o (destination_offer p out a es (frame_destination p a)) (port_offers p out es) i) [
    | inl here ↦ way_fills a es (frame_destination p a) o refl here flow
    | inr later ↦ offers_fill es o later flow
  ]
