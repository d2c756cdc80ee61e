-- A filter's meter passed all frames that the filter offers to a class of a port.
use Rattle.std.proofs.Common.{◌≡◌, ◌≤◌, ◌+◌, ◌*◌, ℕ, Bool, true, false, ◌&&◌, Option, None, Some, List, [], ◌∷◌, ◌++◌, arith, ap, refl, sym, subst}
use Rattle.std.specs.Prelude.{nat_eq, nat_le, if◌then◌else◌}
use Rattle.std.proofs.lemmas.Bool.{eqb-true, false≢true}
use Rattle.bridge_limits.specs.Members.{IsMember}
use Rattle.bridge_limits.proofs.Cases.{by_bool}
use Rattle.bridge_limits.proofs.Orders.{same_eq}
use Rattle.bridge_forward.specs.Ports.{has_port}
use Rattle.bridge_meter.specs.declared.Colour.{Colour}
use Rattle.bridge_meter.specs.declared.Colour.TheVariants.{Green, Red, Yellow}
use Rattle.bridge_meter.specs.declared.MeterPlan.{MeterPlan}
use Rattle.bridge_meter.specs.Bounds as bounds
use Rattle.bridge_meter.specs.Colours as meter
use Rattle.bridge_meter.specs.Colours.{MeterHistory, colour_by_history, frame_colour, history_with_frame, is_red, judged_frame, meter_history, octet_units}
use Rattle.bridge_meter.specs.StandsFor.{AreInOrder, newest_time}
use Rattle.bridge_meter.proofs.Stands.{judged_at}
use Rattle.bridge_gate.specs.declared.stream_gate.GateAnswer.{GateAnswer}
use Rattle.bridge_gate.specs.declared.stream_gate.GateAnswer.TheVariants as gate
use Rattle.bridge_filter.specs.declared.FilterInput.{FilterInput}
use Rattle.bridge_filter.specs.declared.Clear.{Clear}
use Rattle.bridge_filter.specs.declared.Clear.TheVariants as clear
use Rattle.bridge_filter.specs.declared.FilterPlan.{FilterPlan}
use Rattle.bridge_filter.specs.declared.Verdict.{Verdict}
use Rattle.bridge_filter.specs.declared.Verdict.TheVariants as verdict
use Rattle.bridge_filter.specs.Verdicts as verdicts
use Rattle.bridge_filter.specs.Verdicts.{Commanded, FilterStep, Judged, PolicePlans, answer_verdict, colour_verdict, filter_steps, frame_verdict, gate_answer, has_passed_gate, input_step, is_above_max, is_blocked, is_meter, meter_share, meter_verdict}
use Rattle.bridge_filter.proofs.Members.{one_number}
use Rattle.bridge_filter.proofs.Owned.{flow_listed}
use Rattle.bridge_config.specs.declared.ports.PortPlan.{PortPlan}
use Rattle.bridge_config.specs.Model.{Plan}
use Rattle.bridge_config.specs.Rules.{IsPlan}
use Rattle.bridge_check.proofs.Sound.{unrefused}
use Rattle.bridge_semantics.specs.declared.destination.Destination.{Destination}
use Rattle.bridge_semantics.specs.declared.destination.Destination.TheVariants as way
use Rattle.bridge_semantics.specs.Events.{Arrival, Arrived, Cleared, Event, destination_input, filter_inputs, frame_destination, metered_octets, plan_police, police_steps, with_input}
use Rattle.bridge_semantics.specs.Offers.{Offer, class_offers, destination_offer, make_offer, port_offers, step_offer, verdict_offer}
use Rattle.bridge_semantics.proofs.Offering.{going}
use Rattle.bridge_groups.specs.MeterAllowance.{recent_passed_units, passed_units}
use Rattle.bridge_groups.specs.Curves.{AreArrivalsInOrder, last_arrival_time, recent_filter_octets}

-- ONE FRAME IN A METER

-- Holds if frames of the colour pass the meter.
abbrev IsPassing : Bool → Colour → Type 0
IsPassing drop Green = Unit {0}
IsPassing drop Yellow = drop ≡ false
IsPassing drop Red = ⊥

-- A frame that passes has its octets counted.
counted : (drop : Bool) (u at octets : ℕ) (c : Colour) → IsPassing drop c → (if nat_le u at then octets * octet_units else 0) ≤ (if nat_le u (judged_frame at octets c).at then passed_units drop (judged_frame at octets c) else 0)
counted true u at octets Green h = omega arith
counted false u at octets Green h = by_bool (nat_le u at) (λ k. rw k (omega arith)) (λ k. rw k (omega arith))
counted true u at octets Yellow h = absurd (false≢true (sym h))
counted false u at octets Yellow h = by_bool (nat_le u at) (λ k. rw k (omega arith)) (λ k. rw k (omega arith))
counted drop u at octets Red h = absurd h

-- A further frame doesn't lower the passed units.
after_more : (p : MeterPlan) (drop : Bool) (x : MeterHistory) (u at octets : ℕ) (dei : Bool) → recent_passed_units drop u x.judged ≤ recent_passed_units drop u (history_with_frame p x at octets dei).judged
after_more p drop x u at octets dei =
    let c = colour_by_history p x.judged at octets dei in
    let y : MeterHistory = record { judged = judged_frame at octets c ∷ x.judged; all_red = p.mark_all_red && is_red c } in
    let P : Bool → Type 0 = λ b. recent_passed_units drop u x.judged ≤ recent_passed_units drop u (if b then x else y).judged in
    elim x.all_red as P [ true ↦ omega arith | false ↦ omega arith ]

-- A further frame that passes adds its octets.
after_passed : (p : MeterPlan) (drop : Bool) (x : MeterHistory) (u at octets : ℕ) (dei : Bool) → IsPassing drop (frame_colour p x at octets dei) → (if nat_le u at then octets * octet_units else 0) + recent_passed_units drop u x.judged ≤ recent_passed_units drop u (history_with_frame p x at octets dei).judged
after_passed p drop x u at octets dei =
    let c = colour_by_history p x.judged at octets dei in
    let y : MeterHistory = record { judged = judged_frame at octets c ∷ x.judged; all_red = p.mark_all_red && is_red c } in
    let P : Bool → Type 0 = λ b. IsPassing drop (if b then Red else c) → (if nat_le u at then octets * octet_units else 0) + recent_passed_units drop u x.judged ≤ recent_passed_units drop u (if b then x else y).judged in
    elim x.all_red as P [
      | true ↦ λ h. absurd h
      | false ↦ λ h. let more = counted drop u at octets c h in omega (arith, more)
    ]

-- The judged frames stay in order with one more frame.
after_order : (p : MeterPlan) (x : MeterHistory) (last at octets : ℕ) (dei : Bool) → AreInOrder x.judged → newest_time x.judged ≤ last → last ≤ at → AreInOrder (history_with_frame p x at octets dei).judged × (newest_time (history_with_frame p x at octets dei).judged ≤ at)
after_order p x last at octets dei order upto later =
    let c = colour_by_history p x.judged at octets dei in
    let y : MeterHistory = record { judged = judged_frame at octets c ∷ x.judged; all_red = p.mark_all_red && is_red c } in
    let P : Bool → Type 0 = λ b. AreInOrder (if b then x else y).judged × (newest_time (if b then x else y).judged ≤ at) in
    let own = judged_at at octets c in
    elim x.all_red as P [
      | true ↦ (order, omega (arith, upto, later))
      | false ↦ ((omega (arith, upto, later, own), order), omega (arith, own))
    ]

-- A frame that passes the filter has a colour that passes.
passing : (m : MeterPlan) (ipv : Option ℕ) (c : Colour) (value : Option ℕ) (eligible : Bool) → colour_verdict m ipv c ≡ verdict.Pass value eligible → IsPassing m.drop_yellow c
passing m ipv Green value eligible h = tt
passing m ipv Yellow value eligible h = by_bool m.drop_yellow
    (λ k. let z : verdict.YellowDropped ≡ verdict.Pass value eligible = rw k at h in absurd (cc))
    (λ k. k)
passing m ipv Red value eligible h = absurd (cc)

colour_passed : (p : PolicePlans) (ss : List FilterStep) (c : FilterInput) (m : ℕ) (f : FilterPlan) (a : GateAnswer) (ipv : Option ℕ) (eligible : Bool) → f.meter ≡ Some m → answer_verdict p ss c f a ≡ verdict.Pass ipv eligible → IsPassing (p.meters m).drop_yellow (frame_colour (p.meters m) (meter_history (p.meters m) (meter_share m ss)) c.at c.octets c.dei)
colour_passed p ss c m f (gate.Through i) ipv eligible own h =
    let z : meter_verdict p ss c i (Some m) ≡ verdict.Pass ipv eligible = subst (λ (o : Option ℕ). meter_verdict p ss c i o ≡ verdict.Pass ipv eligible) own h in
    passing (p.meters m) i (frame_colour (p.meters m) (meter_history (p.meters m) (meter_share m ss)) c.at c.octets c.dei) ipv eligible z
colour_passed p ss c m f gate.Closed ipv eligible own h = absurd (cc)
colour_passed p ss c m f gate.ShutByRx ipv eligible own h = absurd (cc)
colour_passed p ss c m f gate.ShutByOctets ipv eligible own h = absurd (cc)
colour_passed p ss c m f gate.OctetsExceeded ipv eligible own h = absurd (cc)

-- THE FRAMES OF A FILTER

module _ {A : Type 0} (p : Plan A) (n m : ℕ) (f : FilterPlan) (plan : IsPlan p) (listed : IsMember (n, f) p.filters) (own_meter : f.meter ≡ Some m) where
  -- The frames that the filter's meter judged.
  abbrev pub judged_by : List FilterStep → List bounds.JudgedFrame
  judged_by ss = (meter_history ((plan_police p).meters m) (meter_share m ss)).judged

  abbrev pub passed : ℕ → List FilterStep → ℕ
  passed u ss = recent_passed_units ((plan_police p).meters m).drop_yellow u (judged_by ss)

  judged_more : (u : ℕ) (ss : List FilterStep) (c : FilterInput) (k : ℕ) (g : FilterPlan) (v : Verdict) → passed u ss ≤ passed u (Judged c k g v ∷ ss)
  judged_more u ss c k g v =
      let pl = (plan_police p).meters m in
      let P : Bool → Type 0 = λ b. passed u ss ≤ recent_passed_units pl.drop_yellow u (meter_history pl (if b then meter.Arrived c.at c.octets c.dei ∷ meter_share m ss else meter_share m ss)).judged in
      elim (is_meter g.meter m && has_passed_gate v) as P [
        | true ↦ after_more pl pl.drop_yellow (meter_history pl (meter_share m ss)) u c.at c.octets c.dei
        | false ↦ omega arith
      ]

  frame_more : (u : ℕ) (ss : List FilterStep) (c : FilterInput) (x : Option (ℕ × FilterPlan)) → passed u ss ≤ passed u (input_step (plan_police p) ss c x ∷ ss)
  frame_more u ss c None = omega arith
  frame_more u ss c (Some x) = judged_more u ss c x.0 x.1 (frame_verdict (plan_police p) ss c x.0 x.1)

  commanded_same : (u : ℕ) (ss : List FilterStep) (c : Clear) (k : ℕ) → passed u (Commanded c k ∷ ss) ≡ passed u ss
  commanded_same u ss clear.Blocked k = refl
  commanded_same u ss clear.Rx k = refl
  commanded_same u ss clear.Octets k = refl
  commanded_same u ss clear.Red k =
      let pl = (plan_police p).meters m in
      let P : Bool → Type 0 = λ b. recent_passed_units pl.drop_yellow u (meter_history pl (if b then meter.Cleared ∷ meter_share m ss else meter_share m ss)).judged ≡ passed u ss in
      elim (nat_eq k m) as P [ true ↦ refl | false ↦ refl ]

  -- The filter's meter counted each frame that passes the filter.
  own_counted : (u : ℕ) (ss : List FilterStep) (c : FilterInput) (ipv : Option ℕ) (eligible : Bool) → frame_verdict (plan_police p) ss c n f ≡ verdict.Pass ipv eligible → (if nat_le u c.at then c.octets * octet_units else 0) + passed u ss ≤ passed u (Judged c n f (verdict.Pass ipv eligible) ∷ ss)
  own_counted u ss c ipv eligible h =
      let pl = (plan_police p).meters m in
      let v = unrefused (f.block_oversize && is_blocked n ss) (is_above_max f.max_sdu c.sdu) (answer_verdict (plan_police p) ss c f (gate_answer (plan_police p) ss c f.gate)) ipv eligible h in
      let passes = colour_passed (plan_police p) ss c m f (gate_answer (plan_police p) ss c f.gate) ipv eligible own_meter v in
      let own : is_meter f.meter m ≡ true = rw own_meter (same_eq m) in
      let P : Bool → Type 0 = λ b. (if nat_le u c.at then c.octets * octet_units else 0) + passed u ss ≤ recent_passed_units pl.drop_yellow u (meter_history pl (if b && true then meter.Arrived c.at c.octets c.dei ∷ meter_share m ss else meter_share m ss)).judged in
      subst P (sym own) (after_passed pl pl.drop_yellow (meter_history pl (meter_share m ss)) u c.at c.octets c.dei passes)

  module _ (out : PortPlan A) (c u : ℕ) where
    -- Holds if the meter's passed units cover the offers of the filter to the class.
    abbrev IsCounted : List Offer → List FilterStep → Type 0
    IsCounted os ss = recent_filter_octets n u (class_offers c os) * octet_units ≤ passed u ss

    passed_counted : (a : Arrival) (es : List Event) (priority own k : ℕ) (g : FilterPlan) (ipv : Option ℕ) (eligible : Bool) (cl : FilterInput) → cl.at ≡ a.at → cl.octets ≡ metered_octets a.len → IsMember (k, g) p.filters
        → frame_verdict (plan_police p) (police_steps p es) cl k g ≡ verdict.Pass ipv eligible
        → IsCounted (port_offers p out es) (police_steps p es)
        → IsCounted (make_offer out a priority (Some k) own ipv eligible ∷ port_offers p out es) (Judged cl k g (verdict.Pass ipv eligible) ∷ police_steps p es)
    passed_counted a es priority own k g ipv eligible cl at octets there passes before =
        let o : Offer = make_offer out a priority (Some k) own ipv eligible in
        let ss = police_steps p es in
        let more = judged_more u ss cl k g (verdict.Pass ipv eligible) in
        by_bool (nat_eq o.class c)
        (λ e. by_bool (nat_eq k n)
        (λ y.
        let number : k ≡ n = eqb-true k n y in
        let same : f ≡ g = one_number p.filters n f g plan.filters.own listed (subst (λ (i : ℕ). IsMember (i, g) p.filters) number there) in
        let is : frame_verdict (plan_police p) ss cl n f ≡ verdict.Pass ipv eligible = subst (λ (h : FilterPlan). frame_verdict (plan_police p) ss cl n h ≡ verdict.Pass ipv eligible) (sym same) (subst (λ (i : ℕ). frame_verdict (plan_police p) ss cl i g ≡ verdict.Pass ipv eligible) number passes) in
        let mine = own_counted u ss cl ipv eligible is in
        let moved : (if nat_le u a.at then metered_octets a.len * octet_units else 0) + passed u ss ≤ passed u (Judged cl k g (verdict.Pass ipv eligible) ∷ ss) =
        subst (λ (h : FilterPlan). (if nat_le u a.at then metered_octets a.len * octet_units else 0) + passed u ss ≤ passed u (Judged cl k h (verdict.Pass ipv eligible) ∷ ss)) same
        (subst (λ (i : ℕ). (if nat_le u a.at then i * octet_units else 0) + passed u ss ≤ passed u (Judged cl k f (verdict.Pass ipv eligible) ∷ ss)) octets
        (subst (λ (i : ℕ). (if nat_le u i then cl.octets * octet_units else 0) + passed u ss ≤ passed u (Judged cl k f (verdict.Pass ipv eligible) ∷ ss)) at mine)) in
        by_bool (nat_le u a.at)
        (λ w. let z : metered_octets a.len * octet_units + passed u ss ≤ passed u (Judged cl k g (verdict.Pass ipv eligible) ∷ ss) = rw w at moved in rw (e, y, w) (omega (arith, z, before)))
        (λ w. rw (e, y, w) (omega (arith, before, more))))
        (λ y. rw (e, y) (omega (arith, before, more))))
        (λ e. rw e (omega (arith, before, more)))

    verdict_counted : (a : Arrival) (es : List Event) (priority own k : ℕ) (g : FilterPlan) (v : Verdict) (cl : FilterInput) → cl.at ≡ a.at → cl.octets ≡ metered_octets a.len → IsMember (k, g) p.filters
        → frame_verdict (plan_police p) (police_steps p es) cl k g ≡ v
        → IsCounted (port_offers p out es) (police_steps p es)
        → IsCounted (verdict_offer out a priority k own v ++ port_offers p out es) (Judged cl k g v ∷ police_steps p es)
    verdict_counted a es priority own k g (verdict.Pass ipv e) cl at octets there is before = passed_counted a es priority own k g ipv e cl at octets there is before
    verdict_counted a es priority own k g verdict.Blocked cl at octets there is before = let more = judged_more u (police_steps p es) cl k g verdict.Blocked in omega (arith, before, more)
    verdict_counted a es priority own k g verdict.Oversize cl at octets there is before = let more = judged_more u (police_steps p es) cl k g verdict.Oversize in omega (arith, before, more)
    verdict_counted a es priority own k g verdict.GateClosed cl at octets there is before = let more = judged_more u (police_steps p es) cl k g verdict.GateClosed in omega (arith, before, more)
    verdict_counted a es priority own k g verdict.ShutByRx cl at octets there is before = let more = judged_more u (police_steps p es) cl k g verdict.ShutByRx in omega (arith, before, more)
    verdict_counted a es priority own k g verdict.ShutByOctets cl at octets there is before = let more = judged_more u (police_steps p es) cl k g verdict.ShutByOctets in omega (arith, before, more)
    verdict_counted a es priority own k g verdict.OctetsExceeded cl at octets there is before = let more = judged_more u (police_steps p es) cl k g verdict.OctetsExceeded in omega (arith, before, more)
    verdict_counted a es priority own k g verdict.Red cl at octets there is before = let more = judged_more u (police_steps p es) cl k g verdict.Red in omega (arith, before, more)
    verdict_counted a es priority own k g verdict.YellowDropped cl at octets there is before = let more = judged_more u (police_steps p es) cl k g verdict.YellowDropped in omega (arith, before, more)

    step_counted : (a : Arrival) (es : List Event) (priority : ℕ) (cl : FilterInput) (x : Option (ℕ × FilterPlan)) → cl.at ≡ a.at → cl.octets ≡ metered_octets a.len → verdicts.frame_filter p.filters cl ≡ x
        → IsCounted (port_offers p out es) (police_steps p es)
        → IsCounted (step_offer p out a es priority (input_step (plan_police p) (police_steps p es) cl x) ++ port_offers p out es) (input_step (plan_police p) (police_steps p es) cl x ∷ police_steps p es)
    step_counted a es priority cl None at octets is before =
        let o : Offer = make_offer out a priority None 0 None false in
        by_bool (nat_eq o.class c) (λ e. rw e (omega (arith, before))) (λ e. rw e before)
    step_counted a es priority cl (Some x) at octets is before = verdict_counted a es priority _ x.0 x.1 (frame_verdict (plan_police p) (police_steps p es) cl x.0 x.1) cl at octets (flow_listed p.filters cl x is) refl before

    way_counted : (a : Arrival) (es : List Event) (w : Destination) → frame_destination p a ≡ w → IsCounted (port_offers p out es) (police_steps p es) → IsCounted (destination_offer p out a es w ++ port_offers p out es) (filter_steps (plan_police p) (with_input (destination_input w) (filter_inputs p es)))
    way_counted a es way.Malformed w before = before
    way_counted a es way.Nowhere w before = before
    way_counted a es (way.Forwarded set cl) w before =
        let call_is = (going p a set cl w).call_is in
        let at : cl.at ≡ a.at = sym (ap (λ (z : FilterInput). z.at) call_is) in
        let octets : cl.octets ≡ metered_octets a.len = sym (ap (λ (z : FilterInput). z.octets) call_is) in
        by_bool (has_port set out.number)
        (λ k. rw k (step_counted a es cl.priority cl (verdicts.frame_filter p.filters cl) at octets refl before))
        (λ k. let more = frame_more u (police_steps p es) cl (verdicts.frame_filter p.filters cl) in rw k (omega (arith, before, more)))

    -- The meter passed the octets that the filter offers to the class at time `u` or later.
    pub offers_counted : (es : List Event) → IsCounted (port_offers p out es) (police_steps p es)
    offers_counted [] = omega arith
    offers_counted (Cleared d k ∷ es) = let same = commanded_same u (police_steps p es) d k in let before = offers_counted es in omega (arith, same, before)
    offers_counted (Arrived a ∷ es) = way_counted a es (frame_destination p a) refl (offers_counted es)

  -- Holds if the frames that the meter judged are in order, up to time `last`.
  abbrev pub IsJudgedInOrder : ℕ → List FilterStep → Type 0
  IsJudgedInOrder last ss = AreInOrder (judged_by ss) × (newest_time (judged_by ss) ≤ last)

  judged_order : (last : ℕ) (ss : List FilterStep) (c : FilterInput) (k : ℕ) (g : FilterPlan) (v : Verdict) → last ≤ c.at → IsJudgedInOrder last ss → IsJudgedInOrder c.at (Judged c k g v ∷ ss)
  judged_order last ss c k g v later before =
      let pl = (plan_police p).meters m in
      let upto = before.1 in
      let P : Bool → Type 0 = λ b. AreInOrder (meter_history pl (if b then meter.Arrived c.at c.octets c.dei ∷ meter_share m ss else meter_share m ss)).judged × (newest_time (meter_history pl (if b then meter.Arrived c.at c.octets c.dei ∷ meter_share m ss else meter_share m ss)).judged ≤ c.at) in
      elim (is_meter g.meter m && has_passed_gate v) as P [
        | true ↦ after_order pl (meter_history pl (meter_share m ss)) last c.at c.octets c.dei before.0 before.1 later
        | false ↦ (before.0, omega (arith, upto, later))
      ]

  frame_order : (last : ℕ) (ss : List FilterStep) (c : FilterInput) (x : Option (ℕ × FilterPlan)) → last ≤ c.at → IsJudgedInOrder last ss → IsJudgedInOrder c.at (input_step (plan_police p) ss c x ∷ ss)
  frame_order last ss c None later before = let upto = before.1 in (before.0, omega (arith, upto, later))
  frame_order last ss c (Some x) later before = judged_order last ss c x.0 x.1 (frame_verdict (plan_police p) ss c x.0 x.1) later before

  commanded_order : (last : ℕ) (ss : List FilterStep) (c : Clear) (k : ℕ) → IsJudgedInOrder last ss → IsJudgedInOrder last (Commanded c k ∷ ss)
  commanded_order last ss clear.Blocked k before = before
  commanded_order last ss clear.Rx k before = before
  commanded_order last ss clear.Octets k before = before
  commanded_order last ss clear.Red k before =
      let pl = (plan_police p).meters m in
      let P : Bool → Type 0 = λ b. AreInOrder (meter_history pl (if b then meter.Cleared ∷ meter_share m ss else meter_share m ss)).judged × (newest_time (meter_history pl (if b then meter.Cleared ∷ meter_share m ss else meter_share m ss)).judged ≤ last) in
      elim (nat_eq k m) as P [ true ↦ before | false ↦ before ]

  way_order : (a : Arrival) (es : List Event) (w : Destination) → frame_destination p a ≡ w → last_arrival_time es ≤ a.at → IsJudgedInOrder (last_arrival_time es) (police_steps p es) → IsJudgedInOrder a.at (filter_steps (plan_police p) (with_input (destination_input w) (filter_inputs p es)))
  way_order a es way.Malformed w later before = let upto = before.1 in (before.0, omega (arith, upto, later))
  way_order a es way.Nowhere w later before = let upto = before.1 in (before.0, omega (arith, upto, later))
  way_order a es (way.Forwarded set cl) w later before =
      let at : cl.at ≡ a.at = sym (ap (λ (z : FilterInput). z.at) (going p a set cl w).call_is) in
      let next = frame_order (last_arrival_time es) (police_steps p es) cl (verdicts.frame_filter p.filters cl) (omega (arith, at, later)) before in
      let upto = next.1 in
      (next.0, omega (arith, upto, at))

  pub share_order : (es : List Event) → AreArrivalsInOrder es → IsJudgedInOrder (last_arrival_time es) (police_steps p es)
  share_order [] order = (tt, omega arith)
  share_order (Cleared d k ∷ es) order = commanded_order (last_arrival_time es) (police_steps p es) d k (share_order es order)
  share_order (Arrived a ∷ es) order = way_order a es (frame_destination p a) refl order.0 (share_order es order.1)
