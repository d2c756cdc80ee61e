use Rattle.std.proofs.Common.{◌≡◌, ℕ, Bool, true, false, ◌+◌, ◌-◌, ◌*◌, ◌≤◌, min, List, [], ◌∷◌, arith, refl, ap, ◌∙◌, sym, subst}
use Rattle.std.proofs.lemmas.Bool.Decides.{nat_tests}
use Rattle.std.specs.Prelude.{if◌then◌else◌, nat_le, ◌&&◌}
use Rattle.std.proofs.lemmas.Bool.{leb-true}
use Rattle.bridge_meter.specs.declared.Colour.{Colour}
use Rattle.bridge_meter.specs.declared.Colour.TheVariants.{Green, Yellow, Red}
use Rattle.bridge_meter.specs.declared.MeterPlan.{MeterPlan}
use Rattle.bridge_meter.specs.declared.Buckets.{Buckets}
use Rattle.bridge_meter.specs.Bounds.{JudgedFrame, Limits, committed, excess, coupled_overflow}
use Rattle.bridge_meter.specs.Colours.{MeterEvent, Arrived, Cleared, octet_units, meter_limits, is_red, may_be_green, MeterHistory, meter_history, history_with_frame, colour_by_history, frame_colour, judged_frame, frames_buckets, history_buckets}
use Rattle.bridge_meter.specs.StandsFor.{MeterState, StandsFor, AreInOrder, newest_time}
use Rattle.bridge_meter.specs.Covers.{IsCovered}
use Rattle.bridge_meter.specs.Steps.{refill_buckets, colour_by_buckets, spend_tokens, meter_after_judging, meter_step, meter_reply}
use Rattle.bridge_meter.proofs.Covered.{covered_more, committed_next, excess_next}

-- A judged frame takes at most the units in the bucket.

pub judged_at : (at octets : ℕ) (c : Colour) → (judged_frame at octets c).at ≡ at
judged_at at octets Green = refl
judged_at at octets Yellow = refl
judged_at at octets Red = refl

took_by : (a b : Bool) (at octets c e : ℕ) → (a ≡ true → octets * octet_units ≤ c) → (b ≡ true → octets * octet_units ≤ e) → ((judged_frame at octets (if a then Green else (if b then Yellow else Red))).green ≤ c) × ((judged_frame at octets (if a then Green else (if b then Yellow else Red))).yellow ≤ e)
took_by true b at octets c e h k = (h refl, omega arith)
took_by false true at octets c e h k = (omega arith, k refl)
took_by false false at octets c e h k = (omega arith, omega arith)

both_true : (a : Bool) (m n : ℕ) → a && nat_le m n ≡ true → m ≤ n
both_true true m n h = grind (arith, nat_tests)
both_true false m n h = absurd (cc)

took : (p : MeterPlan) (js : List JudgedFrame) (at octets : ℕ) (dei : Bool) → ((judged_frame at octets (colour_by_history p js at octets dei)).green ≤ committed (meter_limits p) at js) × ((judged_frame at octets (colour_by_history p js at octets dei)).yellow ≤ excess (meter_limits p) at js)
took p js at octets dei = took_by (may_be_green p dei && nat_le (octets * octet_units) (committed (meter_limits p) at js)) (nat_le (octets * octet_units) (excess (meter_limits p) at js)) at octets _ _ (both_true _ _ _) (leb-true _ _)

after_covered : (p : MeterPlan) (x : MeterHistory) (at octets : ℕ) (dei : Bool) → (AreInOrder x.judged → IsCovered (meter_limits p) x.judged) → AreInOrder (history_with_frame p x at octets dei).judged → IsCovered (meter_limits p) (history_with_frame p x at octets dei).judged
after_covered p x at octets dei h =
    let js = x.judged in
    let c = colour_by_history p js at octets dei in
    let y : MeterHistory = record { judged = judged_frame at octets c ∷ js; all_red = p.mark_all_red && is_red c } in
    let P : Bool → Type 0 = λ b. AreInOrder (if b then x else y).judged → IsCovered (meter_limits p) (if b then x else y).judged in
    elim x.all_red as P [
      | true ↦ h
      | false ↦ λ o.
          let t = took p js at octets dei in
          let e = judged_at at octets c in
          let j = judged_frame at octets c in
          covered_more (meter_limits p) js j (h o.1) o.0 (subst (λ (n : ℕ). j.green ≤ committed (meter_limits p) n js) (sym e) t.0) (subst (λ (n : ℕ). j.yellow ≤ excess (meter_limits p) n js) (sym e) t.1)
    ]

-- If arrival times never fall, no subtraction of the definitions stops at 0.
pub covered : (p : MeterPlan) (events : List MeterEvent) → AreInOrder (meter_history p events).judged → IsCovered (meter_limits p) (meter_history p events).judged
covered p [] o = tt
covered p (Arrived at octets dei ∷ es) o = after_covered p (meter_history p es) at octets dei (covered p es) o
covered p (Cleared ∷ es) o = covered p es o

-- The refilled buckets have the levels that the definitions give.
refilled_none : (l : Limits) (t : ℕ) (red : Bool) → refill_buckets l (frames_buckets l red []) t ≡ record { committed = committed l t []; excess = excess l t []; at = t; all_red = red }
unfolding committed excess refill_buckets
refilled_none l t red =
    let c : min l.cbs (l.cbs + l.cir * (t - 0)) ≡ l.cbs = omega arith in
    let e : min l.ebs (l.ebs + l.eir * (t - 0) + coupled_overflow l (l.cbs + l.cir * (t - 0) - l.cbs)) ≡ l.ebs = omega arith in
    rw c (rw e refl)

refilled_more : (l : Limits) (f : JudgedFrame) (fs : List JudgedFrame) (t : ℕ) (red : Bool) → IsCovered l (f ∷ fs) → f.at ≤ t → refill_buckets l (frames_buckets l red (f ∷ fs)) t ≡ record { committed = committed l t (f ∷ fs); excess = excess l t (f ∷ fs); at = t; all_red = red }
unfolding refill_buckets
refilled_more l f fs t red s h =
    let d = t - f.at in
    let e : f.at + d ≡ t = omega arith in
    let c = subst (λ (n : ℕ). committed l n (f ∷ fs) ≡ min l.cbs (committed l f.at fs - f.green + l.cir * d)) e (committed_next l f fs d s) in
    let x = subst (λ (n : ℕ). excess l n (f ∷ fs) ≡ min l.ebs (excess l f.at fs - f.yellow + l.eir * d + coupled_overflow l (committed l f.at fs - f.green + l.cir * d - committed l n (f ∷ fs)))) e (excess_next l f fs d s) in
    rw (← c) (rw (← x) refl)

refilled : (l : Limits) (js : List JudgedFrame) (t : ℕ) (red : Bool) → IsCovered l js → newest_time js ≤ t → refill_buckets l (frames_buckets l red js) t ≡ record { committed = committed l t js; excess = excess l t js; at = t; all_red = red }
refilled l [] t red s h = refilled_none l t red
refilled l (f ∷ fs) t red s h = refilled_more l f fs t red s h

taken_is : (l : Limits) (js : List JudgedFrame) (at octets : ℕ) (c : Colour) (red was : Bool) → spend_tokens (record { committed = committed l at js; excess = excess l at js; at = at; all_red = was }) octets c red ≡ frames_buckets l red (judged_frame at octets c ∷ js)
taken_is l js at octets Green red was = let e : excess l at js - 0 ≡ excess l at js = omega arith in rw e refl
taken_is l js at octets Yellow red was = let e : committed l at js - 0 ≡ committed l at js = omega arith in rw e refl
taken_is l js at octets Red red was = let e : excess l at js - 0 ≡ excess l at js = omega arith in let d : committed l at js - 0 ≡ committed l at js = omega arith in rw (e, d) refl

pub held_at : (l : Limits) (red : Bool) (js : List JudgedFrame) → (frames_buckets l red js).at ≡ newest_time js
held_at l red [] = refl
held_at l red (f ∷ fs) = refl

pub held_red : (l : Limits) (red : Bool) (js : List JudgedFrame) → (frames_buckets l red js).all_red ≡ red
held_red l red [] = refl
held_red l red (f ∷ fs) = refl

if_true : {A : Type 0} (b : Bool) (x y : A) → b ≡ true → (if b then x else y) ≡ x
if_true b x y r = let P : Bool → Type 0 = λ z. (if z then x else y) ≡ x in subst P (sym r) refl

if_false : {A : Type 0} (b : Bool) (x y : A) → b ≡ false → (if b then x else y) ≡ y
if_false b x y r = let P : Bool → Type 0 = λ z. (if z then x else y) ≡ y in subst P (sym r) refl

-- Holds if, after a frame, the meter has the buckets that the definitions give, and its answer is their colour.
pub record Follows (m : MeterState) (x : MeterHistory) (at octets : ℕ) (dei : Bool) : Type 0 where
  pub buckets : (meter_step m at octets dei).buckets ≡ history_buckets m.plan (history_with_frame m.plan x at octets dei)
  pub in_order : AreInOrder (history_with_frame m.plan x at octets dei).judged
  pub reply : meter_reply m at octets dei ≡ frame_colour m.plan x at octets dei
  pub plan : (meter_step m at octets dei).plan ≡ m.plan

follows_red : (m : MeterState) (x : MeterHistory) (at octets : ℕ) (dei : Bool) → m.buckets ≡ history_buckets m.plan x → m.buckets.all_red ≡ true → x.all_red ≡ true → AreInOrder x.judged → Follows m x at octets dei
follows_red m x at octets dei h a r o =
    let b = refill_buckets (meter_limits m.plan) m.buckets at in
    let c = colour_by_history m.plan x.judged at octets dei in
    let s : meter_step m at octets dei ≡ m = if_true m.buckets.all_red m (meter_after_judging m.plan octets dei b) a in
    let f : history_with_frame m.plan x at octets dei ≡ x = if_true x.all_red x (record { judged = judged_frame at octets c ∷ x.judged; all_red = m.plan.mark_all_red && is_red c }) r in
    record {
      buckets = ap (λ (z : MeterState). z.buckets) s ∙ (h ∙ sym (ap (λ (z : MeterHistory). history_buckets m.plan z) f));
      in_order = subst (λ (z : MeterHistory). AreInOrder z.judged) (sym f) o;
      reply = if_true m.buckets.all_red Red (colour_by_buckets m.plan b octets dei) a ∙ sym (if_true x.all_red Red c r);
      plan = ap (λ (z : MeterState). z.plan) s;
    }

follows_judged : (m : MeterState) (x : MeterHistory) (at octets : ℕ) (dei : Bool) → m.buckets ≡ history_buckets m.plan x → m.buckets.all_red ≡ false → x.all_red ≡ false → AreInOrder x.judged → newest_time x.judged ≤ at → IsCovered (meter_limits m.plan) x.judged → Follows m x at octets dei
follows_judged m x at octets dei h a r o n covers =
    let p = m.plan in
    let l = meter_limits p in
    let js = x.judged in
    let b = refill_buckets l m.buckets at in
    let c = colour_by_history p js at octets dei in
    let red = p.mark_all_red && is_red c in
    let e = ap (λ (z : Buckets). refill_buckets l z at) h ∙ refilled l js at x.all_red covers n in
    let s : meter_step m at octets dei ≡ meter_after_judging p octets dei b = if_false m.buckets.all_red m (meter_after_judging p octets dei b) a in
    let y : MeterHistory = record { judged = judged_frame at octets c ∷ js; all_red = red } in
    let f : history_with_frame p x at octets dei ≡ y = if_false x.all_red x y r in
    record {
      buckets = ap (λ (z : MeterState). z.buckets) s ∙ (ap (λ (z : Buckets). (meter_after_judging p octets dei z).buckets) e ∙ (taken_is l js at octets c red x.all_red ∙ sym (ap (λ (z : MeterHistory). history_buckets p z) f)));
      in_order = subst (λ (z : MeterHistory). AreInOrder z.judged) (sym f) (subst (λ (k : ℕ). newest_time js ≤ k) (sym (judged_at at octets c)) n, o);
      reply = if_false m.buckets.all_red Red (colour_by_buckets p b octets dei) a ∙ (ap (λ (z : Buckets). colour_by_buckets p z octets dei) e ∙ sym (if_false x.all_red Red c r));
      plan = ap (λ (z : MeterState). z.plan) s;
    }

follows : (m : MeterState) (x : MeterHistory) (at octets : ℕ) (dei b : Bool) → m.buckets ≡ history_buckets m.plan x → m.buckets.all_red ≡ b → x.all_red ≡ b → AreInOrder x.judged → newest_time x.judged ≤ at → IsCovered (meter_limits m.plan) x.judged → Follows m x at octets dei
follows m x at octets dei true h a r o n covers = follows_red m x at octets dei h a r o
follows m x at octets dei false h a r o n covers = follows_judged m x at octets dei h a r o n covers

pub stands_step : (plan : MeterPlan) (m : MeterState) (events : List MeterEvent) (at octets : ℕ) (dei : Bool) → StandsFor plan m events → m.buckets.at ≤ at → StandsFor plan (meter_step m at octets dei) (Arrived at octets dei ∷ events) × (meter_reply m at octets dei ≡ frame_colour plan (meter_history plan events) at octets dei)
stands_step plan m events at octets dei st h =
    let P : MeterPlan → Type 0 = λ p. m.buckets ≡ history_buckets p (meter_history p events) → AreInOrder (meter_history p events).judged → StandsFor p (meter_step m at octets dei) (Arrived at octets dei ∷ events) × (meter_reply m at octets dei ≡ frame_colour p (meter_history p events) at octets dei) in
    subst P st.plan_is (λ buckets order.
    let x = meter_history m.plan events in
    let n : newest_time x.judged ≤ at = subst (λ (k : ℕ). k ≤ at) (ap (λ (q : Buckets). q.at) buckets ∙ held_at (meter_limits m.plan) x.all_red x.judged) h in
    let red : m.buckets.all_red ≡ x.all_red = ap (λ (q : Buckets). q.all_red) buckets ∙ held_red (meter_limits m.plan) x.all_red x.judged in
    let r = follows m x at octets dei x.all_red buckets red refl order n (covered m.plan events order) in
    (record { plan_is = r.plan; buckets_are = r.buckets; in_order = r.in_order }, r.reply)) st.buckets_are st.in_order

pub step_plan : (m : MeterState) (at octets : ℕ) (dei : Bool) → (meter_step m at octets dei).plan ≡ m.plan
step_plan m at octets dei = let P : Bool → Type 0 = λ b. (if b then m else meter_after_judging m.plan octets dei (refill_buckets (meter_limits m.plan) m.buckets at)).plan ≡ m.plan in elim m.buckets.all_red as P [ true ↦ refl | false ↦ refl ]

taken_at : (b : Buckets) (octets : ℕ) (c : Colour) (red : Bool) → (spend_tokens b octets c red).at ≡ b.at
taken_at b octets Green red = refl
taken_at b octets Yellow red = refl
taken_at b octets Red red = refl

refill_at : (l : Limits) (b : Buckets) (t : ℕ) → (refill_buckets l b t).at ≡ t
unfolding refill_buckets
refill_at l b t = refl

pub step_at : (m : MeterState) (at octets : ℕ) (dei : Bool) → (meter_step m at octets dei).buckets.at ≡ (if m.buckets.all_red then m.buckets.at else at)
step_at m at octets dei =
    let b = refill_buckets (meter_limits m.plan) m.buckets at in
    let c = colour_by_buckets m.plan b octets dei in
    let P : Bool → Type 0 = λ z. (if z then m else meter_after_judging m.plan octets dei b).buckets.at ≡ (if z then m.buckets.at else at) in
    elim m.buckets.all_red as P [ true ↦ refl | false ↦ taken_at b octets c (m.plan.mark_all_red && is_red c) ∙ refill_at (meter_limits m.plan) m.buckets at ]
