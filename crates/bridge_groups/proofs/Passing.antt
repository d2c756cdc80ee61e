-- Frames of a conforming talker pass their filter.
use Rattle.std.proofs.Common.{◌≡◌, ◌≤◌, ◌+◌, ◌*◌, ℕ, Bool, true, false, ◌&&◌, Option, None, Some, List, [], ◌∷◌, arith, ap, refl, sym, subst, ◌∙◌}
use Rattle.std.specs.Prelude.{nat_eq, nat_le, if◌then◌else◌}
use Rattle.std.specs.List.{list_all}
use Rattle.std.proofs.Math.Bool.{and-false}
use Rattle.std.proofs.lemmas.Bool.{eqb-false, eqb-true}
use Rattle.std.proofs.lemmas.List.{append-nil}
use Rattle.std.proofs.lemmas.List.Folds.{list_all-append}
use Rattle.std.proofs.lemmas.Bool.Decides.{nat_tests}
use Rattle.bridge_limits.specs.Members.{IsMember}
use Rattle.bridge_limits.proofs.Cases.{by_bool}
use Rattle.bridge_limits.proofs.Orders.{same_eq}
use Rattle.bridge_cycle.specs.declared.timeline.Turn.{Turn}
use Rattle.bridge_meter.specs.declared.Colour.TheVariants.{Green}
use Rattle.bridge_meter.specs.Colours as meter
use Rattle.bridge_meter.specs.Colours.{frame_colour, meter_history, octet_units}
use Rattle.bridge_gate.specs.declared.schedule.GateEntry.{GateEntry}
use Rattle.bridge_gate.specs.declared.stream_gate.GateAnswer.{GateAnswer}
use Rattle.bridge_gate.specs.declared.stream_gate.GateAnswer.TheVariants as gate
use Rattle.bridge_gate.specs.Gates as gates
use Rattle.bridge_gate.specs.Gates.{GateEvent, GateRules, answer, turn_answer}
use Rattle.bridge_filter.specs.declared.FilterInput.{FilterInput}
use Rattle.bridge_filter.specs.declared.Clear.{Clear}
use Rattle.bridge_filter.specs.declared.Clear.TheVariants as clear
use Rattle.bridge_filter.specs.declared.FilterPlan.{FilterPlan}
use Rattle.bridge_filter.specs.declared.Verdict.{Verdict}
use Rattle.bridge_filter.specs.declared.Verdict.TheVariants as verdict
use Rattle.bridge_filter.specs.Verdicts.{Commanded, FilterStep, Judged, answer_verdict, colour_verdict, filter_steps, frame_filter, frame_verdict, gate_answer, gate_share, has_passed_gate, input_step, is_above_max, is_blocked, is_meter, meter_share, meter_verdict}
use Rattle.bridge_filter.specs.Counts.{filter_verdicts}
use Rattle.bridge_filter.specs.OwnEvents.{HasOwnInstances, is_filter_number}
use Rattle.bridge_filter.proofs.Owned.{flow_listed}
use Rattle.bridge_config.specs.Model.{Plan}
use Rattle.bridge_semantics.specs.declared.destination.Destination.{Destination}
use Rattle.bridge_semantics.specs.declared.destination.Destination.TheVariants as way
use Rattle.bridge_semantics.specs.Events.{Arrival, Arrived, Cleared, Event, arrival_filter, arrival_input, destination_input, filter_inputs, frame_destination, metered_octets, plan_police, police_steps, with_input}
use Rattle.bridge_semantics.proofs.Offering.{going}
use Rattle.bridge_bounds.specs.Passing.{passes}
use Rattle.bridge_groups.specs.MeterAllowance.{AreConforming, AreFramesInOrder, last_metered_time, recent_octets}
use Rattle.bridge_groups.proofs.GreenFrames.{next_green}
use Rattle.bridge_groups.specs.Curves.{AreArrivalsInOrder, last_arrival_time}
use Rattle.bridge_groups.specs.Talkers.{IsConformingFrame, IsAlwaysOpen, AdmitsTalker, IsConformingTalker, recent_own_octets}

-- A GATE THAT IS ALWAYS OPEN

answers_in : (r : GateRules) (ss : List gates.GateStep) (sdu : ℕ) (o : Option (Turn GateEntry)) (x : Turn GateEntry) → o ≡ Some x → x.state.lets ≡ true → x.state.octets ≡ None → turn_answer r ss sdu o ≡ gate.Through x.state.ipv
answers_in r ss sdu o x is lets none = subst (λ (z : Option (Turn GateEntry)). turn_answer r ss sdu z ≡ gate.Through x.state.ipv) (sym is) (rw (lets, none) refl)

-- If the gate was never shut by a fault, it passes a frame.
lets_by : (r : GateRules) → IsAlwaysOpen r → (ss : List gates.GateStep) (t sdu : ℕ) → gates.is_shut_by_rx ss ≡ false → gates.is_shut_by_octets ss ≡ false → (ipv : Option ℕ) × (answer r ss t sdu ≡ gate.Through ipv)
lets_by r always ss t sdu rx octets =
    let (x, at, lets, none) = always t in
    (x.state.ipv, rw (rx, octets, and-false, and-false) (answers_in r ss sdu (r.turn_at t) x at lets none))

-- The gate is never shut by a fault.
open_so_far : (r : GateRules) → IsAlwaysOpen r → (es : List GateEvent) → (gates.is_shut_by_rx (gates.gate_steps r es) ≡ false) × (gates.is_shut_by_octets (gates.gate_steps r es) ≡ false)
open_so_far r always [] = (refl, refl)
open_so_far r always (gates.Asked t sdu ∷ es) =
    let before = open_so_far r always es in
    let (ipv, through) = lets_by r always (gates.gate_steps r es) t sdu before.0 before.1 in
    (subst (λ (a : GateAnswer). gates.is_shut_by_rx (gates.Answered t sdu a ∷ gates.gate_steps r es) ≡ false) (sym through) before.0, subst (λ (a : GateAnswer). gates.is_shut_by_octets (gates.Answered t sdu a ∷ gates.gate_steps r es) ≡ false) (sym through) before.1)
open_so_far r always (gates.ClearedRx ∷ es) = let before = open_so_far r always es in (refl, before.1)
open_so_far r always (gates.ClearedOctets ∷ es) = let before = open_so_far r always es in (before.0, refl)

-- The gate passes each frame.
lets_next : (r : GateRules) → IsAlwaysOpen r → (es : List GateEvent) (t sdu : ℕ) → (ipv : Option ℕ) × (answer r (gates.gate_steps r es) t sdu ≡ gate.Through ipv)
lets_next r always es t sdu = let before = open_so_far r always es in lets_by r always (gates.gate_steps r es) t sdu before.0 before.1

-- THE FRAMES OF A FILTER

module _ {A : Type 0} (p : Plan A) (n m most burst rate : ℕ) (f : FilterPlan) (alone : HasOwnInstances (plan_police p) n f) (lets : AdmitsTalker p f m most burst rate) where
  -- Holds if the frames at the filter's meter conform so far, and the filter is not blocked.
  pub record IsPassing (ss : List FilterStep) (last : ℕ) (own : ℕ → ℕ) : Type 0 where
    pub conforms : AreConforming burst rate (meter_share m ss)
    pub sorted : AreFramesInOrder (meter_share m ss)
    pub upto : last_metered_time (meter_share m ss) ≤ last
    pub octets : (u : ℕ) → recent_octets u (meter_share m ss) ≤ own u
    pub free : is_blocked n ss ≡ false

  -- A frame of the talker is green and passes.
  own_passes : (ss : List FilterStep) (last : ℕ) (own more : ℕ → ℕ) (c : FilterInput) → IsPassing ss last own → last ≤ c.at → c.dei ≡ false → c.sdu ≤ most
      → ((u : ℕ) → u ≤ c.at → c.octets + own u ≤ more u) → ((u w : ℕ) → c.at ≡ u + w → more u * octet_units ≤ burst * octet_units + rate * w)
      → (ipv : Option ℕ) × (frame_verdict (plan_police p) ss c n f ≡ verdict.Pass ipv false) × AreConforming burst rate (meter.Arrived c.at c.octets c.dei ∷ meter_share m ss) × AreFramesInOrder (meter.Arrived c.at c.octets c.dei ∷ meter_share m ss)
  own_passes ss last own more c so_far later plain short adds keeps =
      let pl = (plan_police p).meters m in
      let share = meter_share m ss in
      let upto = so_far.upto in
      let sorted : AreFramesInOrder (meter.Arrived c.at c.octets c.dei ∷ share) = (omega (arith, upto, later), so_far.sorted) in
      let conforms : AreConforming burst rate (meter.Arrived c.at c.octets c.dei ∷ share) = (
        plain,
        (λ u w at.
            let late : nat_le u c.at ≡ true = grind (arith, nat_tests) in
            let before = so_far.octets u in
            let all = adds u (omega (arith, at)) in
            let upto_rate = keeps u w at in
            let own_one : (c.octets + recent_octets u share) * octet_units ≤ burst * octet_units + rate * w = omega (arith, before, all, upto_rate) in
            rw late own_one),
        so_far.conforms,
      ) in
      let green : frame_colour pl (meter_history pl share) c.at c.octets c.dei ≡ Green = next_green pl burst rate c.at c.octets c.dei share lets.burst_size lets.token_rate sorted conforms in
      let (ipv, through) = lets_next ((plan_police p).gates f.gate) lets.gate (gate_share f.gate ss) c.at c.sdu in
      let (k, size, fits) = lets.max_sdu in
      let low : is_above_max (Some k) c.sdu ≡ false = grind (arith, nat_tests) in
      let above : is_above_max f.max_sdu c.sdu ≡ false = subst (λ (o : Option ℕ). is_above_max o c.sdu ≡ false) (sym size) low in
      let free = so_far.free in
      let one : frame_verdict (plan_police p) ss c n f ≡ answer_verdict (plan_police p) ss c f (gate_answer (plan_police p) ss c f.gate) = rw (free, and-false, above) refl in
      let two : answer_verdict (plan_police p) ss c f (gate_answer (plan_police p) ss c f.gate) ≡ meter_verdict (plan_police p) ss c ipv f.meter = ap (answer_verdict (plan_police p) ss c f) through in
      let three : meter_verdict (plan_police p) ss c ipv f.meter ≡ meter_verdict (plan_police p) ss c ipv (Some m) = ap (meter_verdict (plan_police p) ss c ipv) lets.meter in
      let four : meter_verdict (plan_police p) ss c ipv (Some m) ≡ verdict.Pass ipv false = ap (colour_verdict pl ipv) green in
      (ipv, one ∙ (two ∙ (three ∙ four)), conforms, sorted)

  -- The state after a frame of the talker.
  behind_own : (ss : List FilterStep) (last : ℕ) (own more : ℕ → ℕ) (c : FilterInput) (ipv : Option ℕ) → IsPassing ss last own → AreConforming burst rate (meter.Arrived c.at c.octets c.dei ∷ meter_share m ss) → AreFramesInOrder (meter.Arrived c.at c.octets c.dei ∷ meter_share m ss)
      → ((u : ℕ) → own u ≤ more u) → ((u : ℕ) → u ≤ c.at → c.octets + own u ≤ more u) → IsPassing (Judged c n f (verdict.Pass ipv false) ∷ ss) c.at more
  behind_own ss last own more c ipv so_far conforms sorted rises adds =
      let share = meter_share m ss in
      let mine : is_meter f.meter m ≡ true = subst (λ (o : Option ℕ). is_meter o m ≡ true) (sym lets.meter) (same_eq m) in
      let with_own : Bool → List meter.MeterEvent = λ b. if b && true then meter.Arrived c.at c.octets c.dei ∷ share else share in
      record {
        conforms = subst (λ (b : Bool). AreConforming burst rate (with_own b)) (sym mine) conforms;
        sorted = subst (λ (b : Bool). AreFramesInOrder (with_own b)) (sym mine) sorted;
        upto = subst (λ (b : Bool). last_metered_time (with_own b) ≤ c.at) (sym mine) (omega arith);
        octets = λ u. subst (λ (b : Bool). recent_octets u (with_own b) ≤ more u) (sym mine)
            (let before = so_far.octets u in
            let rise = rises u in
            by_bool (nat_le u c.at)
            (λ k. let all = adds u (let h : u ≤ c.at = grind (arith, nat_tests) in h) in rw k (omega (arith, before, all)))
            (λ k. rw k (omega (arith, before, rise))));
        free = rw (and-false, so_far.free) refl;
      }

  -- A frame of another filter keeps the state.
  behind_other : (ss : List FilterStep) (last at : ℕ) (own more : ℕ → ℕ) (c : FilterInput) (k : ℕ) (g : FilterPlan) (v : Verdict) → IsPassing ss last own → last ≤ at → ((u : ℕ) → own u ≤ more u) → nat_eq k n ≡ false → is_meter g.meter m ≡ false → IsPassing (Judged c k g v ∷ ss) at more
  behind_other ss last at own more c k g v so_far later rises other foreign =
      let share = meter_share m ss in
      let with_own : Bool → List meter.MeterEvent = λ b. if b && has_passed_gate v then meter.Arrived c.at c.octets c.dei ∷ share else share in
      let upto = so_far.upto in
      record {
        conforms = subst (λ (b : Bool). AreConforming burst rate (with_own b)) (sym foreign) so_far.conforms;
        sorted = subst (λ (b : Bool). AreFramesInOrder (with_own b)) (sym foreign) so_far.sorted;
        upto = subst (λ (b : Bool). last_metered_time (with_own b) ≤ at) (sym foreign) (omega (arith, upto, later));
        octets = λ u. subst (λ (b : Bool). recent_octets u (with_own b) ≤ more u) (sym foreign) (let before = so_far.octets u in let rise = rises u in omega (arith, before, rise));
        free = rw other so_far.free;
      }

  -- A frame without a filter, or without an egress port, keeps the state.
  behind_none : (ss : List FilterStep) (last at : ℕ) (own more : ℕ → ℕ) → IsPassing ss last own → last ≤ at → ((u : ℕ) → own u ≤ more u) → IsPassing ss at more
  behind_none ss last at own more so_far later rises =
      let upto = so_far.upto in
      record { conforms = so_far.conforms; sorted = so_far.sorted; upto = omega (arith, upto, later); octets = λ u. let before = so_far.octets u in let rise = rises u in omega (arith, before, rise); free = so_far.free }

  -- A command keeps the state.
  behind_command : (ss : List FilterStep) (last : ℕ) (own : ℕ → ℕ) (c : Clear) (k : ℕ) → IsPassing ss last own → IsPassing (Commanded c k ∷ ss) last own
  behind_command ss last own clear.Blocked k so_far = record { conforms = so_far.conforms; sorted = so_far.sorted; upto = so_far.upto; octets = so_far.octets; free = rw (so_far.free, and-false) refl }
  behind_command ss last own clear.Rx k so_far = record { conforms = so_far.conforms; sorted = so_far.sorted; upto = so_far.upto; octets = so_far.octets; free = so_far.free }
  behind_command ss last own clear.Octets k so_far = record { conforms = so_far.conforms; sorted = so_far.sorted; upto = so_far.upto; octets = so_far.octets; free = so_far.free }
  behind_command ss last own clear.Red k so_far =
      let share = meter_share m ss in
      let with_own : Bool → List meter.MeterEvent = λ b. if b then meter.Cleared ∷ share else share in
      let P : Bool → Type 0 = λ b. AreConforming burst rate (with_own b) × AreFramesInOrder (with_own b) × (last_metered_time (with_own b) ≤ last) × ((u : ℕ) → recent_octets u (with_own b) ≤ own u) in
      let all : P (nat_eq k m) = elim (nat_eq k m) as P [ true ↦ (so_far.conforms, so_far.sorted, so_far.upto, so_far.octets) | false ↦ (so_far.conforms, so_far.sorted, so_far.upto, so_far.octets) ] in
      record { conforms = all.0; sorted = all.1; upto = all.2; octets = all.3; free = so_far.free }

  -- A FRAME OF THE FILTER

  own_frame : (a : Arrival) (es : List Event) (c : FilterInput) → arrival_input p a ≡ Some c → c.at ≡ a.at → c.octets ≡ metered_octets a.len → is_filter_number n (arrival_filter p a) ≡ true → IsConformingFrame p n most burst rate a es → last_arrival_time es ≤ a.at → IsPassing (police_steps p es) (last_arrival_time es) (λ u. recent_own_octets p n u es)
      → (ipv : Option ℕ) × (frame_verdict (plan_police p) (police_steps p es) c n f ≡ verdict.Pass ipv false) × IsPassing (Judged c n f (verdict.Pass ipv false) ∷ police_steps p es) a.at (λ u. recent_own_octets p n u (Arrived a ∷ es))
  own_frame a es c called at octets mine keeps later so_far =
      let own : ℕ → ℕ = λ u. recent_own_octets p n u es in
      let more : ℕ → ℕ = λ u. recent_own_octets p n u (Arrived a ∷ es) in
      let rises : (u : ℕ) → own u ≤ more u = λ u. omega arith in
      let adds : (u : ℕ) → u ≤ c.at → c.octets + own u ≤ more u = λ u before.
      let late : nat_le u a.at ≡ true = (let h : u ≤ a.at = omega (arith, before, at) in grind (arith, nat_tests)) in
      rw (mine, late) (omega (arith, octets)) in
      let (plain, short) = keeps.form c called in
      let rate_keeps : (u w : ℕ) → c.at ≡ u + w → more u * octet_units ≤ burst * octet_units + rate * w = λ u w moment. keeps.octets u w (sym at ∙ moment) in
      let (ipv, passes, conforms, sorted) = own_passes (police_steps p es) (last_arrival_time es) own more c so_far (omega (arith, later, at)) plain short adds rate_keeps in
      (ipv, passes, subst (λ (i : ℕ). IsPassing (Judged c n f (verdict.Pass ipv false) ∷ police_steps p es) i more) at (behind_own (police_steps p es) (last_arrival_time es) own more c ipv so_far conforms sorted rises adds))

  meter_differs : (o : Option ℕ) → (o ≡ Some m → ⊥) → is_meter o m ≡ false
  meter_differs None h = refl
  meter_differs (Some k) h = by_bool (nat_eq k m) (λ e. absurd (h (ap Some (eqb-true k m e)))) (λ e. e)

  flow_step : (a : Arrival) (es : List Event) (c : FilterInput) (o : Option (ℕ × FilterPlan)) → arrival_input p a ≡ Some c → c.at ≡ a.at → c.octets ≡ metered_octets a.len → frame_filter p.filters c ≡ o → (is_filter_number n (arrival_filter p a) ≡ true → IsConformingFrame p n most burst rate a es) → last_arrival_time es ≤ a.at → IsPassing (police_steps p es) (last_arrival_time es) (λ u. recent_own_octets p n u es)
      → IsPassing (input_step (plan_police p) (police_steps p es) c o ∷ police_steps p es) a.at (λ u. recent_own_octets p n u (Arrived a ∷ es))
  flow_step a es c None called at octets is keeps later so_far =
      let more : ℕ → ℕ = λ u. recent_own_octets p n u (Arrived a ∷ es) in
      let next = behind_none (police_steps p es) (last_arrival_time es) a.at (λ u. recent_own_octets p n u es) more so_far later (λ u. omega arith) in
      record { conforms = next.conforms; sorted = next.sorted; upto = next.upto; octets = next.octets; free = next.free }
  flow_step a es c (Some x) called at octets is keeps later so_far =
      let more : ℕ → ℕ = λ u. recent_own_octets p n u (Arrived a ∷ es) in
      let there : IsMember x p.filters = flow_listed p.filters c x is in
      by_bool (nat_eq x.0 n)
      (λ k.
      let number : x.0 ≡ n = eqb-true x.0 n k in
      let same : f ≡ x.1 = alone.one x.1 (subst (λ (i : ℕ). IsMember (i, x.1) p.filters) number there) in
      let mine : is_filter_number n (arrival_filter p a) ≡ true = rw (called, is) k in
      let (ipv, passes, next) = own_frame a es c called at octets mine (keeps mine) later so_far in
      let moved : IsPassing (Judged c n f (frame_verdict (plan_police p) (police_steps p es) c n f) ∷ police_steps p es) a.at more = subst (λ (v : Verdict). IsPassing (Judged c n f v ∷ police_steps p es) a.at more) (sym passes) next in
      let by_filter : IsPassing (Judged c n x.1 (frame_verdict (plan_police p) (police_steps p es) c n x.1) ∷ police_steps p es) a.at more = subst (λ (g : FilterPlan). IsPassing (Judged c n g (frame_verdict (plan_police p) (police_steps p es) c n g) ∷ police_steps p es) a.at more) same moved in
      subst (λ (i : ℕ). IsPassing (Judged c i x.1 (frame_verdict (plan_police p) (police_steps p es) c i x.1) ∷ police_steps p es) a.at more) (sym number) by_filter)
      (λ k.
      let foreign : is_meter x.1.meter m ≡ false = meter_differs x.1.meter (λ e. eqb-false x.0 n k (alone.meter x.0 m x.1 lets.meter there e)) in
      behind_other (police_steps p es) (last_arrival_time es) a.at (λ u. recent_own_octets p n u es) more c x.0 x.1 (frame_verdict (plan_police p) (police_steps p es) c x.0 x.1) so_far later (λ u. omega arith) k foreign)

  way_step : (a : Arrival) (es : List Event) (w : Destination) → frame_destination p a ≡ w → (is_filter_number n (arrival_filter p a) ≡ true → IsConformingFrame p n most burst rate a es) → last_arrival_time es ≤ a.at → IsPassing (police_steps p es) (last_arrival_time es) (λ u. recent_own_octets p n u es)
      → IsPassing (filter_steps (plan_police p) (with_input (destination_input w) (filter_inputs p es))) a.at (λ u. recent_own_octets p n u (Arrived a ∷ es))
  way_step a es way.Malformed is keeps later so_far = behind_none (police_steps p es) (last_arrival_time es) a.at (λ u. recent_own_octets p n u es) (λ u. recent_own_octets p n u (Arrived a ∷ es)) so_far later (λ u. omega arith)
  way_step a es way.Nowhere is keeps later so_far = behind_none (police_steps p es) (last_arrival_time es) a.at (λ u. recent_own_octets p n u es) (λ u. recent_own_octets p n u (Arrived a ∷ es)) so_far later (λ u. omega arith)
  way_step a es (way.Forwarded set c) is keeps later so_far =
      let call_is = (going p a set c is).call_is in
      flow_step a es c (frame_filter p.filters c) (ap destination_input is) (sym (ap (λ (z : FilterInput). z.at) call_is)) (sym (ap (λ (z : FilterInput). z.octets) call_is)) refl keeps later so_far

  -- The state after all events.
  pub passing : (es : List Event) → AreArrivalsInOrder es → IsConformingTalker p n most burst rate es → IsPassing (police_steps p es) (last_arrival_time es) (λ u. recent_own_octets p n u es)
  passing [] order keeps = record { conforms = tt; sorted = tt; upto = omega arith; octets = λ u. omega arith; free = refl }
  passing (Cleared c k ∷ es) order keeps = behind_command (police_steps p es) (last_arrival_time es) (λ u. recent_own_octets p n u es) c k (passing es order keeps)
  passing (Arrived a ∷ es) order keeps = way_step a es (frame_destination p a) refl keeps.0 order.0 (passing es order.1 keeps.1)

  -- Each frame of the talker passes its filter.
  pub each_passes : (a : Arrival) (es : List Event) (set : ℕ) (c : FilterInput) → frame_destination p a ≡ way.Forwarded set c → frame_filter p.filters c ≡ Some (n, f) → AreArrivalsInOrder (Arrived a ∷ es) → IsConformingTalker p n most burst rate (Arrived a ∷ es) → (ipv : Option ℕ) × (frame_verdict (plan_police p) (police_steps p es) c n f ≡ verdict.Pass ipv false)
  each_passes a es set c is fl order keeps =
      let call_is = (going p a set c is).call_is in
      let called : arrival_input p a ≡ Some c = ap destination_input is in
      let mine : is_filter_number n (arrival_filter p a) ≡ true = rw (called, fl) (same_eq n) in
      let (ipv, passes, next) = own_frame a es c called (sym (ap (λ (z : FilterInput). z.at) call_is)) (sym (ap (λ (z : FilterInput). z.octets) call_is)) mine (keeps.0 mine) order.0 (passing es order.1 keeps.1) in
      (ipv, passes)

  -- THE VERDICTS

  flow_verdicts : (a : Arrival) (es : List Event) (set : ℕ) (c : FilterInput) (o : Option (ℕ × FilterPlan)) → frame_destination p a ≡ way.Forwarded set c → frame_filter p.filters c ≡ o → AreArrivalsInOrder (Arrived a ∷ es) → IsConformingTalker p n most burst rate (Arrived a ∷ es) → list_all passes (filter_verdicts n (police_steps p es)) ≡ true
      → list_all passes (filter_verdicts n (input_step (plan_police p) (police_steps p es) c o ∷ police_steps p es)) ≡ true
  flow_verdicts a es set c None is fl order keeps before = before
  flow_verdicts a es set c (Some x) is fl order keeps before =
      let there : IsMember x p.filters = flow_listed p.filters c x fl in
      by_bool (nat_eq x.0 n)
      (λ k.
      let number : x.0 ≡ n = eqb-true x.0 n k in
      let same : f ≡ x.1 = alone.one x.1 (subst (λ (i : ℕ). IsMember (i, x.1) p.filters) number there) in
      let own : frame_filter p.filters c ≡ Some (n, f) = subst (λ (g : FilterPlan). frame_filter p.filters c ≡ Some (n, g)) (sym same) (subst (λ (i : ℕ). frame_filter p.filters c ≡ Some (i, x.1)) number fl) in
      let (ipv, verdict_is) = each_passes a es set c is own order keeps in
      let moved : frame_verdict (plan_police p) (police_steps p es) c x.0 x.1 ≡ verdict.Pass ipv false = subst (λ (i : ℕ). frame_verdict (plan_police p) (police_steps p es) c i x.1 ≡ verdict.Pass ipv false) (sym number) (subst (λ (g : FilterPlan). frame_verdict (plan_police p) (police_steps p es) c n g ≡ verdict.Pass ipv false) same verdict_is) in
      let here : passes (frame_verdict (plan_police p) (police_steps p es) c x.0 x.1) ≡ true = ap passes moved in
      rw (k, list_all-append passes (filter_verdicts n (police_steps p es)) (frame_verdict (plan_police p) (police_steps p es) c x.0 x.1 ∷ []), before, here) refl)
      (λ k. rw (k, append-nil) before)

  way_verdicts : (a : Arrival) (es : List Event) (w : Destination) → frame_destination p a ≡ w → AreArrivalsInOrder (Arrived a ∷ es) → IsConformingTalker p n most burst rate (Arrived a ∷ es) → list_all passes (filter_verdicts n (police_steps p es)) ≡ true
      → list_all passes (filter_verdicts n (filter_steps (plan_police p) (with_input (destination_input w) (filter_inputs p es)))) ≡ true
  way_verdicts a es way.Malformed is order keeps before = before
  way_verdicts a es way.Nowhere is order keeps before = before
  way_verdicts a es (way.Forwarded set c) is order keeps before = flow_verdicts a es set c (frame_filter p.filters c) is refl order keeps before

  -- Each frame of the talker has the verdict Pass.
  pub all_pass : (es : List Event) → AreArrivalsInOrder es → IsConformingTalker p n most burst rate es → list_all passes (filter_verdicts n (police_steps p es)) ≡ true
  all_pass [] order keeps = refl
  all_pass (Cleared c k ∷ es) order keeps = all_pass es order keeps
  all_pass (Arrived a ∷ es) order keeps = way_verdicts a es (frame_destination p a) refl order keeps (all_pass es order.1 keeps.1)
