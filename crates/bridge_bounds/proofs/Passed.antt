-- Each frame of traffic passes its filter.
use Rattle.std.proofs.Common.{◌≡◌, ℕ, Bool, true, false, not, ◌||◌, ◌<◌, ◌≤◌, ◌+◌, ◌-◌, cond, Option, None, Some, List, [], ◌∷◌, Result, Ok, Err, length, arith, ap, refl, sym, subst, ◌∙◌}
use Rattle.std.specs.Prelude.{nat_eq, nat_lt, if◌then◌else◌}
use Rattle.std.specs.List.{list_all}
use Rattle.std.specs.Map.{lookup}
use Rattle.std.specs.Ordering.{int_eq}
use Rattle.std.proofs.Math.Bool.{and-false}
use Rattle.std.proofs.lemmas.Bool.{and_parts, eqb-true, false≢true}
use Rattle.std.proofs.lemmas.Bool.Decides.{nat_tests}
use Rattle.std.proofs.lemmas.List.Folds.{list_all-append}
use Rattle.std.proofs.lemmas.Option.{same_Some}
use Rattle.bridge_limits.specs.Members.{IsMember}
use Rattle.bridge_limits.specs.declared.TheConstants.{LONGEST_FRAME}
use Rattle.bridge_limits.proofs.Cases.{by_bool}
use Rattle.bridge_limits.proofs.Members.{each_in, each_passes as one_of_all}
use Rattle.bridge_limits.proofs.Orders.{same_eq}
use Rattle.bridge_cycle.specs.declared.timeline.Turn.{Turn}
use Rattle.bridge_frame.specs.declared.Head.{Head}
use Rattle.bridge_frame.specs.declared.Tag.{Tag}
use Rattle.bridge_frame.specs.declared.FrameFault.{FrameFault}
use Rattle.bridge_frame.specs.declared.FrameFault.TheVariants.{TooLong, TooShort}
use Rattle.bridge_frame.specs.Frames.{parsed_head, head_octets, is_tagged, sdu_octets, frame_tag}
use Rattle.bridge_gate.specs.declared.stream_gate.GateAnswer.TheVariants as gate
use Rattle.bridge_gate.specs.declared.schedule.GateEntry.{GateEntry}
use Rattle.bridge_gate.specs.declared.schedule.GatePlan.{GatePlan}
use Rattle.bridge_gate.specs.Gates as gates
use Rattle.bridge_gate.specs.Gates.{GateRules, GateStep, OctetsCleared, RxCleared, Answered, answer, is_turn_start, is_over_limit, is_shut_by_octets, is_shut_by_rx, octets_in_turn}
use Rattle.bridge_gate.specs.Schedules as schedules
use Rattle.bridge_gate.specs.Schedules.{gate_rules}
use Rattle.bridge_gate.proofs.ScheduleLaws.{IsOrdered, ordered}
use Rattle.bridge_gate.proofs.Asks.{same_int}
use Rattle.bridge_ident.specs.Identification.{first_handle, has_vlan_tag, accepts_tag}
use Rattle.bridge_ident.specs.declared.StreamEntry.{StreamEntry}
use Rattle.bridge_ident.specs.declared.TagKind.{TagKind}
use Rattle.bridge_ident.specs.declared.TagKind.TheVariants as tag
use Rattle.bridge_ident.proofs.Entries.{given}
use Rattle.bridge_filter.specs.declared.FilterInput.{FilterInput}
use Rattle.bridge_filter.specs.declared.Clear.{Clear}
use Rattle.bridge_filter.specs.declared.Clear.TheVariants as clear
use Rattle.bridge_filter.specs.declared.FilterPlan.{FilterPlan}
use Rattle.bridge_filter.specs.declared.Verdict.{Verdict}
use Rattle.bridge_filter.specs.declared.Verdict.TheVariants as verdict
use Rattle.bridge_filter.specs.Counts.{filter_verdicts}
use Rattle.bridge_filter.specs.OwnEvents.{is_own_command, is_filter_number}
use Rattle.bridge_filter.specs.Plans.{gate_or_closed}
use Rattle.bridge_filter.specs.Verdicts as verdicts
use Rattle.bridge_filter.specs.Verdicts.{Commanded, Judged, PolicePlans, FilterStep, frame_filter, gate_share, is_above_max, is_blocked, frame_verdict}
use Rattle.bridge_filter.proofs.Members.{one_number}
use Rattle.bridge_filter.proofs.Owned.{flow_listed}
use Rattle.bridge_filter.proofs.Taken.{flow_handle}
use Rattle.bridge_port.specs.Schedule.{Copy}
use Rattle.bridge_config.specs.Model.{Plan}
use Rattle.bridge_config.specs.Rules.{IsPlan}
use Rattle.bridge_check.specs.Acceptable.{IsAcceptable}
use Rattle.bridge_semantics.specs.declared.outcome.Outcome.{Outcome}
use Rattle.bridge_semantics.specs.declared.outcome.View.{View}
use Rattle.bridge_semantics.specs.declared.destination.Destination.{Destination}
use Rattle.bridge_semantics.specs.declared.destination.Destination.TheVariants as way
use Rattle.bridge_semantics.specs.Events.{Arrival, Arrived, Cleared, Event, destination_input, arrival_input, input_filter, arrival_filter, own_events, plan_police, police_steps, frame_destination}
use Rattle.bridge_semantics.specs.Offers.{CarriedFrame}
use Rattle.bridge_semantics.specs.Runs.{IsOutcome}
use Rattle.bridge_semantics.proofs.Headline.{protected_alone}
use Rattle.bridge_semantics.proofs.Offering.{going}
use Rattle.bridge_bounds.proofs.Reached.{found_in}
use Rattle.bridge_bounds.specs.Latency.{IsMultiple}
use Rattle.bridge_bounds.specs.declared.traffic.Traffic.{Traffic}
use Rattle.bridge_bounds.specs.Passing.{Passes, allows, are_all_tagged, longest_sdu, passes, takes_only_tagged}
use Rattle.bridge_bounds.specs.Traffic.{ComeInPeriods, IsTraffic, KeepsTraffic}
use Rattle.bridge_bounds.proofs.Fair.{IsFair, fair, goes_on, some_turn}

-- THE GATE

-- The stream gate passed its frames, one in each period, newest first.
abbrev pub AreThrough : Traffic → ℕ → List GateStep → Type 0
AreThrough t next [] = Unit {0}
AreThrough t next (Answered at n a ∷ ss) =
    (p : ℕ) × (ipv : Option ℕ) × IsMultiple t.period p × (p + t.period ≤ next) × (t.from + p ≤ at) × (at ≤ t.to + p) × (a ≡ gate.Through ipv) × AreThrough t p ss
AreThrough t next (RxCleared ∷ ss) = AreThrough t next ss
AreThrough t next (OctetsCleared ∷ ss) = AreThrough t next ss

-- The flag of rejected frames isn't set.
no_rx : (t : Traffic) (next : ℕ) (ss : List GateStep) → AreThrough t next ss → is_shut_by_rx ss ≡ false
no_rx t next [] h = refl
no_rx t next (Answered at n a ∷ ss) h = rw h.6 (no_rx t h.0 ss h.7)
no_rx t next (RxCleared ∷ ss) h = refl
no_rx t next (OctetsCleared ∷ ss) h = no_rx t next ss h

no_octets : (t : Traffic) (next : ℕ) (ss : List GateStep) → AreThrough t next ss → is_shut_by_octets ss ≡ false
no_octets t next [] h = refl
no_octets t next (Answered at n a ∷ ss) h = rw h.6 (no_octets t h.0 ss h.7)
no_octets t next (RxCleared ∷ ss) h = no_octets t next ss h
no_octets t next (OctetsCleared ∷ ss) h = refl

module _ (turns : ℕ → Option (Turn GateEntry)) (t : Traffic) (sdu : ℕ) (order : IsOrdered turns) (fair_at : IsFair turns t sdu) (traffic : IsTraffic t) where
  -- A frame of an earlier period arrived in another interval.
  not_begun : (p q at now limit : ℕ) (x : Turn GateEntry) (o : Option (Turn GateEntry)) → IsMultiple t.period p → t.from + p ≤ at → at ≤ t.to + p → p + t.period ≤ q → t.from + q ≤ now → turns now ≡ Some x → now < x.end → x.state.octets ≡ Some limit → turns at ≡ o → is_turn_start o x.start ≡ false
  not_begun p q at now limit x None multiple low high before later here on is there = refl
  not_begun p q at now limit x (Some y) multiple low high before later here on is there = by_bool (int_eq y.start x.start)
      (λ k.
      let within = traffic.within in
      let same : y ≡ x = order.one at now y x there here (omega (arith, high, before, later, within)) (same_int y.start x.start k) in
      let ends = (fair_at p at y multiple low high there).ends limit (subst (λ (z : Turn GateEntry). z.state.octets ≡ Some limit) (sym same) is) in
      let end : y.end ≡ x.end = ap (λ z. z.end) same in
      absurd (omega (arith, ends, end, before, later, on)))
      (λ k. k)

  -- When a frame arrives, no octets of its interval are used.
  none_used : (p q now limit : ℕ) (x : Turn GateEntry) (ss : List GateStep) → p ≤ q → t.from + q ≤ now → turns now ≡ Some x → now < x.end → x.state.octets ≡ Some limit → AreThrough t p ss → octets_in_turn turns x.start ss ≡ 0
  none_used p q now limit x [] le later here on is h = refl
  none_used p q now limit x (RxCleared ∷ ss) le later here on is h = none_used p q now limit x ss le later here on is h
  none_used p q now limit x (OctetsCleared ∷ ss) le later here on is h = none_used p q now limit x ss le later here on is h
  none_used p q now limit x (Answered at n a ∷ ss) le later here on is h =
      let (v, ipv, multiple, before, low, high, through, rest) = h in
      let other = not_begun v q at now limit x (turns at) multiple low high (omega (arith, before, le)) later here on is refl in
      let more = none_used v q now limit x ss (omega (arith, before, le)) later here on is rest in
      rw (through, other, more) refl

not_exceeding : (o : Option ℕ) (before sdu n : ℕ) → allows o sdu ≡ true → n ≤ sdu → ((limit : ℕ) → o ≡ Some limit → before ≡ 0) → is_over_limit o (before + n) ≡ false
not_exceeding None before sdu n h le none = refl
not_exceeding (Some limit) before sdu n h le none = let zero = none limit refl in grind (arith, nat_tests)

-- The stream gate passes the next frame.
answered : (r : GateRules) (ss : List GateStep) (at n : ℕ) (x : Turn GateEntry) → r.turn_at at ≡ Some x → x.state.lets ≡ true → is_shut_by_rx ss ≡ false → is_shut_by_octets ss ≡ false → is_over_limit x.state.octets (octets_in_turn r.turn_at x.start ss + n) ≡ false → answer r ss at n ≡ gate.Through x.state.ipv
answered r ss at n x here lets rx octets few = rw (rx, octets, and-false, and-false, here, lets, few) refl

through_next : {A : Type 0} (g : GatePlan A) (t : Traffic) (sdu p at n : ℕ) (ss : List GateStep) → schedules.IsLawful g.schedule → IsFair (schedules.turn_by_time g.schedule) t sdu → IsTraffic t → IsMultiple t.period p → t.from + p ≤ at → at ≤ t.to + p → n ≤ sdu → AreThrough t p ss → (ipv : Option ℕ) × (answer (gate_rules g) ss at n ≡ gate.Through ipv)
through_next g t sdu p at n ss lawful fair_at traffic multiple low high few through =
    let (x, here) = some_turn g.schedule at lawful in
    let own_events = fair_at p at x multiple low high here in
    let none : (limit : ℕ) → x.state.octets ≡ Some limit → octets_in_turn (schedules.turn_by_time g.schedule) x.start ss ≡ 0 = λ limit is. none_used (schedules.turn_by_time g.schedule) t sdu (ordered g.schedule lawful) fair_at traffic p p at limit x ss (omega arith) low here (goes_on g.schedule at limit x lawful here is) is through in
    (x.state.ipv, answered (gate_rules g) ss at n x here own_events.lets (no_rx t p ss through) (no_octets t p ss through) (not_exceeding x.state.octets (octets_in_turn (schedules.turn_by_time g.schedule) x.start ss) sdu n own_events.allows few none))

-- THE OCTETS

record IsRead (octets : List ℕ) (len : ℕ) (h : Head) : Type 0 where
  tag : h.tag ≡ (if is_tagged octets then Some (frame_tag octets) else None)
  sdu : h.sdu ≡ sdu_octets octets len

read : (octets : List ℕ) (len : ℕ) (h : Head) → parsed_head octets len ≡ Ok h → IsRead octets len h
read octets len h e = by_bool (nat_lt (length octets) 14)
    (λ k. let z : Err TooShort ≡ Ok h = rw k at e in absurd (cc))
    (λ k. by_bool (nat_lt (length octets) (head_octets octets))
    (λ m. let z : Err TooShort ≡ Ok h = rw (k, m) at e in absurd (cc))
    (λ m. by_bool (nat_lt LONGEST_FRAME len)
    (λ n. let z : Err TooLong ≡ Ok h = rw (k, m, n) at e in absurd (cc))
    (λ n. record { tag = sym (ap tag_of (rw (k, m, n) at e)); sdu = sym (ap sdu_of (rw (k, m, n) at e)) })))
  where
    tag_of : Result Head FrameFault → Option Tag
    tag_of (Ok h) = h.tag
    tag_of (Err e) = None

    sdu_of : Result Head FrameFault → ℕ
    sdu_of (Ok h) = h.sdu
    sdu_of (Err e) = 0

tagged_by : (kind : TagKind) (o : Option Tag) → takes_only_tagged kind ≡ true → accepts_tag kind o ≡ true → has_vlan_tag o ≡ true
tagged_by tag.Tagged o h k = k
tagged_by tag.Priority o h k = absurd (false≢true h)
tagged_by tag.All o h k = absurd (false≢true h)

-- The service data unit of a VLAN-tagged frame is shorter by its tag.
named : (b : Bool) (x : Tag) (len : ℕ) → has_vlan_tag (if b then Some x else None) ≡ true → cond b (len - 16) (len - 12) ≡ len - 16
named true x len h = refl
named false x len h = absurd (false≢true h)

at_most : (b : Bool) (len : ℕ) → cond b (len - 16) (len - 12) ≤ len - 12
at_most true len = omega arith
at_most false len = omega arith

few_for : {A : Type 0} (p : Plan A) (on vid h len : ℕ) (octets : List ℕ) (x : Head) → parsed_head octets len ≡ Ok x → first_handle p.streams on x vid ≡ Some h → x.sdu ≤ longest_sdu p (Some h) len
few_for p on vid h len octets x is handle =
    let r = read octets len x is in
    by_bool (are_all_tagged h p.streams)
    (λ k.
    let e = given p.streams on x vid h handle in
    let own_events : (not (nat_eq e.entry.handle h) || takes_only_tagged e.entry.tag) ≡ true = one_of_all (λ (y : StreamEntry). not (nat_eq y.handle h) || takes_only_tagged y.tag) p.streams e.entry k e.listed in
    let tags : takes_only_tagged e.entry.tag ≡ true = rw (e.handle, same_eq h) at own_events in
    let (first, takes) = and_parts _ (accepts_tag e.entry.tag x.tag) e.matches in
    let vlan : has_vlan_tag (if is_tagged octets then Some (frame_tag octets) else None) ≡ true = subst (λ (o : Option Tag). has_vlan_tag o ≡ true) r.tag (tagged_by e.entry.tag x.tag tags takes) in
    let shorter = named (is_tagged octets) (frame_tag octets) len vlan in
    let sdu = r.sdu in
    rw k (omega (arith, sdu, shorter)))
    (λ k. let sdu = r.sdu in let most = at_most (is_tagged octets) len in rw k (omega (arith, sdu, most)))

rises_by : (b : Bool) (a c : ℕ) → a ≤ c → cond b (a - 16) (a - 12) ≤ cond b (c - 16) (c - 12)
rises_by true a c h = omega (arith, h)
rises_by false a c h = omega (arith, h)

pub octets_rise : {A : Type 0} (p : Plan A) (o : Option ℕ) (a c : ℕ) → a ≤ c → longest_sdu p o a ≤ longest_sdu p o c
octets_rise p None a c h = omega (arith, h)
octets_rise p (Some k) a c h = rises_by (are_all_tagged k p.streams) a c h

-- The filter's input for one of its frames.
pub record IsSeen {A : Type 0} (p : Plan A) (f : FilterPlan) (a : Arrival) (c : FilterInput) : Type 0 where
  pub at : c.at ≡ a.at
  pub few : c.sdu ≤ longest_sdu p f.handle a.len

few_by : {A : Type 0} (p : Plan A) (f : FilterPlan) (on vid len : ℕ) (octets : List ℕ) (x : Head) (o handle : Option ℕ) → parsed_head octets len ≡ Ok x → first_handle p.streams on x vid ≡ handle → ((h : ℕ) → o ≡ Some h → handle ≡ Some h) → x.sdu ≤ longest_sdu p o len
few_by p f on vid len octets x None handle is found asks = let r = read octets len x is in let sdu = r.sdu in let most = at_most (is_tagged octets) len in omega (arith, sdu, most)
few_by p f on vid len octets x (Some h) handle is found asks = few_for p on vid h len octets x is (found ∙ asks h refl)

pub seen_by : {A : Type 0} (p : Plan A) (n : ℕ) (f : FilterPlan) (a : Arrival) (c : FilterInput) (w : Destination) → frame_destination p a ≡ w → destination_input w ≡ Some c → frame_filter p.filters c ≡ Some (n, f) → IsSeen p f a c
seen_by p n f a c way.Malformed w h fl = absurd (cc)
seen_by p n f a c way.Nowhere w h fl = absurd (cc)
seen_by p n f a c (way.Forwarded set made) w h fl =
    let g = going p a set made w in
    let is = g.call_is ∙ same_Some made c h in
    let few : g.parsed.sdu ≤ longest_sdu p f.handle a.len = few_by p f _ _ a.len a.octets g.parsed f.handle c.handle g.is (ap (λ (z : FilterInput). z.handle) is) (λ k asks. flow_handle p.filters c (n, f) k fl asks) in
    record { at = sym (ap (λ (z : FilterInput). z.at) is); few = subst (λ (z : FilterInput). z.sdu ≤ longest_sdu p f.handle a.len) is few }

-- THE VERDICT

not_above : (o : Option ℕ) (a b : ℕ) → a ≤ b → is_above_max o b ≡ false → is_above_max o a ≡ false
not_above None a b le h = refl
not_above (Some most) a b le h = grind (arith, nat_tests)

-- A frame that the stream gate passes gets the verdict `Pass`.
passed_by : (q : PolicePlans) (ss : List FilterStep) (c : FilterInput) (n : ℕ) (f : FilterPlan) (ipv : Option ℕ) → is_blocked n ss ≡ false → is_above_max f.max_sdu c.sdu ≡ false → f.meter ≡ None → verdicts.gate_answer q ss c f.gate ≡ gate.Through ipv → frame_verdict q ss c n f ≡ verdict.Pass ipv false
passed_by q ss c n f ipv blocked above meter through = rw (blocked, and-false, above, through, meter) refl

-- THE RUN

-- Properties of a filter's own events up to now.
record IsPassing {A : Type 0} (p : Plan A) (n : ℕ) (f : FilterPlan) (t : Traffic) (r : GateRules) (next : ℕ) (ss : List FilterStep) : Type 0 where
  blocked : is_blocked n ss ≡ false
  through : AreThrough t next (gates.gate_steps r (gate_share f.gate ss))
  pass : list_all passes (filter_verdicts n ss) ≡ true

-- A command keeps these properties.
commanded : {A : Type 0} (p : Plan A) (n : ℕ) (f : FilterPlan) (t : Traffic) (r : GateRules) (next k : ℕ) (c : Clear) (ss : List FilterStep) → IsPassing p n f t r next ss → IsPassing p n f t r next (Commanded c k ∷ ss)
commanded p n f t r next k clear.Blocked ss h = record { blocked = rw (h.blocked, and-false) refl; through = h.through; pass = h.pass }
commanded p n f t r next k clear.Rx ss h = record {
  blocked = h.blocked;
  through = by_bool (nat_eq k f.gate) (λ e. rw e h.through) (λ e. rw e h.through);
  pass = h.pass;
}
commanded p n f t r next k clear.Octets ss h = record {
  blocked = h.blocked;
  through = by_bool (nat_eq k f.gate) (λ e. rw e h.through) (λ e. rw e h.through);
  pass = h.pass;
}
commanded p n f t r next k clear.Red ss h = record { blocked = h.blocked; through = h.through; pass = h.pass }

-- One more frame passes.
frame_more : {A : Type 0} (p : Plan A) (n : ℕ) (f : FilterPlan) (t : Traffic) (r : GateRules) (next m : ℕ) (ipv : Option ℕ) (c : FilterInput) (ss : List FilterStep) → IsPassing p n f t r m ss → IsMultiple t.period m → m + t.period ≤ next → t.from + m ≤ c.at → c.at ≤ t.to + m → answer r (gates.gate_steps r (gate_share f.gate ss)) c.at c.sdu ≡ gate.Through ipv → IsPassing p n f t r next (Judged c n f (verdict.Pass ipv false) ∷ ss)
frame_more p n f t r next m ipv c ss h multiple before low high through = record {
  blocked = rw (and-false, h.blocked) refl;
  through = rw (same_eq f.gate) (m, ipv, multiple, before, low, high, through, h.through);
  pass = rw (same_eq n, list_all-append passes (filter_verdicts n ss) (verdict.Pass ipv false ∷ []), h.pass) refl;
}

-- The events are own events of a filter.
abbrev AreOwn : {A : Type 0} → Plan A → ℕ → List Event → Type 0
AreOwn p n [] = Unit {0}
AreOwn p n (Arrived a ∷ es) = (is_filter_number n (arrival_filter p a) ≡ true) × AreOwn p n es
AreOwn p n (Cleared c k ∷ es) = AreOwn p n es

are_own : {A : Type 0} (p : Plan A) (n : ℕ) (f : FilterPlan) (es : List Event) → AreOwn p n (own_events p n f es)
are_own p n f [] = tt
are_own p n f (Arrived a ∷ es) = by_bool (is_filter_number n (arrival_filter p a)) (λ k. rw k (k, are_own p n f es)) (λ k. rw k (are_own p n f es))
are_own p n f (Cleared c m ∷ es) = by_bool (is_own_command n f c m) (λ k. rw k (are_own p n f es)) (λ k. rw k (are_own p n f es))

-- The filter's input for a frame.
record IsCalled {A : Type 0} (p : Plan A) (n : ℕ) (o : Option FilterInput) : Type 0 where
  call : FilterInput
  is : o ≡ Some call
  filter : FilterPlan
  flows : frame_filter p.filters call ≡ Some (n, filter)

called_by : {A : Type 0} (p : Plan A) (n : ℕ) (c : FilterInput) (x : Option (ℕ × FilterPlan)) → frame_filter p.filters c ≡ x → is_filter_number n x ≡ true → IsCalled p n (Some c)
called_by p n c None fl h = absurd (false≢true h)
called_by p n c (Some x) fl h = record {
  call = c;
  is = refl;
  filter = x.1;
  flows = subst (λ (k : ℕ). frame_filter p.filters c ≡ Some (k, x.1)) (eqb-true x.0 n h) fl;
}

called : {A : Type 0} (p : Plan A) (n : ℕ) (o : Option FilterInput) → is_filter_number n (input_filter p o) ≡ true → IsCalled p n o
called p n None h = absurd (false≢true h)
called p n (Some c) h = called_by p n c (frame_filter p.filters c) refl h

-- The step of a frame of the filter.
one_step : {A : Type 0} (p : Plan A) (n : ℕ) (f : FilterPlan) (a : Arrival) (c : FilterInput) (es : List Event) (w : Verdict) → arrival_input p a ≡ Some c → frame_filter p.filters c ≡ Some (n, f) → frame_verdict (plan_police p) (police_steps p es) c n f ≡ w → police_steps p (Arrived a ∷ es) ≡ Judged c n f w ∷ police_steps p es
one_step p n f a c es w is flows v = rw (is, flows, v) refl

all_pass : {A : Type 0} (p : Plan A) (n : ℕ) (f : FilterPlan) (t : Traffic) (next : ℕ) (es : List Event) → IsPlan p → IsMember (n, f) p.filters → IsTraffic t → (k : Passes p f t) → AreOwn p n es → ComeInPeriods t next es → IsPassing p n f t (gate_rules k.gate) next (police_steps p es)
all_pass p n f t next [] plan listed traffic k owned h = record { blocked = refl; through = tt; pass = refl }
all_pass p n f t next (Cleared c m ∷ es) plan listed traffic k owned h = commanded p n f t (gate_rules k.gate) next m c (police_steps p es) (all_pass p n f t next es plan listed traffic k owned h)
all_pass {A} p n f t next (Arrived a ∷ es) plan listed traffic k owned h =
    let (m, multiple, before, low, high, least, most, rest) = h in
    let was = all_pass p n f t m es plan listed traffic k owned.1 rest in
    let c = called p n (arrival_input p a) owned.0 in
    let same : c.filter ≡ f = one_number p.filters n c.filter f plan.filters.own (flow_listed p.filters c.call (n, c.filter) c.flows) listed in
    let flows : frame_filter p.filters c.call ≡ Some (n, f) = subst (λ (g : FilterPlan). frame_filter p.filters c.call ≡ Some (n, g)) same c.flows in
    let seen = seen_by p n f a c.call (frame_destination p a) refl c.is flows in
    let at = seen.at in
    let own_few = seen.few in
    let upto = octets_rise p f.handle a.len t.longest most in
    let few : c.call.sdu ≤ longest_sdu p f.handle t.longest = omega (arith, own_few, upto) in
    let gate_listed = found_in p.gates f.gate k.gate k.found in
    let lawful = each_in (λ (g : ℕ × GatePlan A). schedules.IsLawful g.1.schedule) p.gates (f.gate, k.gate) plan.gates.lawful gate_listed in
    let fair_at = fair k.gate.schedule t (longest_sdu p f.handle t.longest) lawful traffic k.lets in
    let share = gates.gate_steps (gate_rules k.gate) (gate_share f.gate (police_steps p es)) in
    let (ipv, through) = through_next k.gate t (longest_sdu p f.handle t.longest) m c.call.at c.call.sdu share lawful fair_at traffic multiple (omega (arith, at, low)) (omega (arith, at, high)) few was.through in
    let rules : (plan_police p).gates f.gate ≡ gate_rules k.gate = ap gate_or_closed k.found in
    let answers : verdicts.gate_answer (plan_police p) (police_steps p es) c.call f.gate ≡ gate.Through ipv = rw rules through in
    let v : frame_verdict (plan_police p) (police_steps p es) c.call n f ≡ verdict.Pass ipv false = passed_by (plan_police p) (police_steps p es) c.call n f ipv was.blocked (not_above f.max_sdu c.call.sdu (longest_sdu p f.handle t.longest) few k.octets) k.meter answers in
    let step : Judged c.call n f (verdict.Pass ipv false) ∷ police_steps p es ≡ police_steps p (Arrived a ∷ es) = sym (one_step p n f a c.call es (verdict.Pass ipv false) c.is flows v) in
    subst (IsPassing p n f t (gate_rules k.gate) next) step (frame_more p n f t (gate_rules k.gate) next m ipv c.call (police_steps p es) was multiple before (omega (arith, at, low)) (omega (arith, at, high)) through)

-- In a complete run, each frame of the protected filter passes.
pub each_passes : {A : Type 0} (p : Plan A) (n : ℕ) (f : FilterPlan) (es : List Event) (lists : ℕ → List (Copy CarriedFrame)) (o : Outcome A) (v : View A) (t : Traffic) → IsPlan p → IsAcceptable p → IsMember (n, f) p.filters → f.protected ≡ true → IsOutcome p es lists o → lookup (nat_eq n) o.filters.items ≡ Some v → IsTraffic t → KeepsTraffic t (own_events p n f es) → Passes p f t → list_all passes v.verdicts.items ≡ true
each_passes p n f es lists o v t plan good listed prot out found traffic keeps k =
    let alone = protected_alone p n f es lists o v plan good listed prot out found in
    let all = all_pass p n f t keeps.0 (own_events p n f es) plan listed traffic k (are_own p n f es) keeps.1 in
    rw alone.view.verdicts all.pass
