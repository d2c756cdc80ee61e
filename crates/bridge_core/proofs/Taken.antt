-- A frame is taken, and its reader reads the next one.
use Rattle.std.proofs.Common.{◌≡◌, ◌≢◌, ℕ, zero, suc, ◌+◌, ◌<◌, ◌≤◌, List, [], ◌∷◌, length, slice_get, slice_set, arith, refl, ap, sym, subst, ◌∙◌, Option, Some, None, Result, Err}
use Rattle.std.specs.Prelude.{OnOk, ◌⊎◌}
use Rattle.std.proofs.Common.{inl, inr}
use Rattle.std.proofs.lemmas.Option.{slice_get_within, same_Some}
use Rattle.bridge_limits.specs.Members.{IsOrdered}
use Rattle.bridge_limits.proofs.Lists.{set_here, set_there}
use Rattle.bridge_capture.specs.declared.capture_fault.CaptureFault.{CaptureFault}
use Rattle.bridge_capture.specs.declared.capture_fault.CaptureFault.TheVariants as faults
use Rattle.bridge_capture.specs.declared.packet.Packet.{Packet}
use Rattle.bridge_capture.specs.Grammar.{CapturedFrame}
use Rattle.bridge_capture.specs.StandsFor.{StandsFor, IsReading, records_left}
use Rattle.bridge_config.specs.declared.ports.PortPlan.{PortPlan}
use Rattle.bridge_config.specs.Model.{Plan}
use Rattle.bridge_config.specs.Rules.{find_port}
use Rattle.bridge_capture.specs.declared.fault.RunFault.TheVariants as run
use Rattle.bridge_relay.specs.RelayState.{RelayState}
use Rattle.bridge_capture.specs.declared.capture_reader.CaptureReader.{CaptureReader}
use Rattle.bridge_capture.specs.CaptureReaders.{HaveRests, run_fault, IsEarliestReader, IsReader, ReadsAhead, port_numbers, frames_left, total_frames_left}
use Rattle.bridge_core.specs.Running.{HasTakenFrame, HasReadAhead, CanTakeFrames}
use Rattle.bridge_core.proofs.Places.{sum_at, sum_set}
use Rattle.bridge_core.proofs.Steps.{by_place, number_at, numbers_set}

-- The frame that was taken is the earliest.
abbrev pub again : {A : Type 0} (lanes new : List (CaptureReader A)) (place : ℕ) (given : ℕ × Packet A) → IsEarliestReader lanes place → HasTakenFrame lanes new place given → IsEarliestReader lanes place
again {A} lanes new place given first h =
    let lane : first.lane ≡ h.lane = same_Some first.lane h.lane (sym first.there ∙ h.there) in
    let same : first.packet ≡ given.1 = same_Some first.packet given.1 (sym first.ahead ∙ ap (λ (l : CaptureReader A). l.ahead) lane ∙ h.ahead) in record {
      lane = h.lane;
      packet = given.1;
      there = h.there;
      ahead = h.ahead;
      least = λ i l p e a. subst (λ (d : Packet A). (d.time < p.time) ⊎ ((d.time ≡ p.time) × (place ≤ i))) same (first.least i l p e a);
    }

set_set : {X : Type 0} (xs : List X) (i : ℕ) (a b : X) → slice_set (slice_set xs i a) i b ≡ slice_set xs i b
set_set [] i a b = refl
set_set (x ∷ xs) zero a b = refl
set_set (x ∷ xs) (suc i) a b = ap (λ l. x ∷ l) (set_set xs i a b)

-- A reader and its source after a frame was taken.
pub record IsRenewed {R A : Type 0} (remaining : R → Option (List ℕ)) (was : CaptureReader A) (lanes new : List (CaptureReader A)) (sources rest : List R) (place : ℕ) (result : Result (Unit {0}) CaptureFault) : Type 0 where
  pub source : R
  pub lane : CaptureReader A
  pub left : R
  pub lent : slice_get sources place ≡ Some source
  pub lanes_are : new ≡ slice_set lanes place lane
  pub sources_are : rest ≡ slice_set sources place left
  pub number : lane.number ≡ was.number
  pub looks : (text : List ℕ) (taken : List CapturedFrame) → StandsFor was.capture (remaining source) text taken → ReadsAhead lane (remaining left) text taken result
  pub is_lane : OnOk result (IsReader lane)
  pub onward : OnOk result ((p : Packet A) → lane.ahead ≡ Some p → was.capture.latest ≤ p.time)
  pub fewer : OnOk result (frames_left lane ≤ records_left was.capture)

renewed_at : {R A : Type 0} (remaining : R → Option (List ℕ)) (lanes given new : List (CaptureReader A)) (sources rest : List R) (place : ℕ) (result : Result (Unit {0}) CaptureFault) (was : CaptureReader A) → place < length lanes → given ≡ slice_set lanes place (record was { ahead = None }) → (h : HasReadAhead remaining given new sources rest place result) → record was { ahead = None } ≡ h.was → IsRenewed remaining was lanes new sources rest place result
renewed_at {R} {A} remaining lanes given new sources rest place result was within is h same = record {
  source = h.source;
  lane = h.lane;
  left = h.rest;
  lent = h.lent;
  lanes_are = h.lanes ∙ ap (λ (ls : List (CaptureReader A)). slice_set ls place h.lane) is ∙ set_set lanes place (record was { ahead = None }) h.lane;
  sources_are = h.sources;
  number = h.number ∙ ap (λ (l : CaptureReader A). l.number) (sym same);
  looks = λ text taken st. h.looks text taken (subst (λ (l : CaptureReader A). StandsFor l.capture (remaining h.source) text taken) same st);
  is_lane = h.is_lane;
  onward = subst (λ (l : CaptureReader A). OnOk result ((p : Packet A) → h.lane.ahead ≡ Some p → l.capture.latest ≤ p.time)) (sym same) h.onward;
  fewer = subst (λ (l : CaptureReader A). OnOk result (frames_left h.lane ≤ records_left l.capture)) (sym same) h.fewer;
}

pub renewed : {R A : Type 0} (remaining : R → Option (List ℕ)) (lanes given new : List (CaptureReader A)) (sources rest : List R) (place : ℕ) (which : ℕ × Packet A) (result : Result (Unit {0}) CaptureFault) → (g : HasTakenFrame lanes given place which) → HasReadAhead remaining given new sources rest place result → IsRenewed remaining g.lane lanes new sources rest place result
renewed {R} {A} remaining lanes given new sources rest place which result g h =
    let within = slice_get_within lanes place g.lane g.there in
    let here : slice_get given place ≡ Some (record g.lane { ahead = None }) = ap (λ (ls : List (CaptureReader A)). slice_get ls place) g.now ∙ set_here lanes place (record g.lane { ahead = None }) within in
    renewed_at remaining lanes given new sources rest place result g.lane within g.now h (same_Some (record g.lane { ahead = None }) h.was (sym here ∙ h.there))

-- A reader with a next frame has one frame more than its capture has records left.

room_ahead : {A : Type 0} (l : CaptureReader A) (p : Packet A) → l.ahead ≡ Some p → frames_left l ≡ records_left l.capture + 1
room_ahead {A} l p e = rw e refl

pub more_may_come : {G A : Type 0} (b : RelayState G A) (lanes : List (CaptureReader A)) (place : ℕ) (l : CaptureReader A) (p : Packet A) → CanTakeFrames b lanes → slice_get lanes place ≡ Some l → l.ahead ≡ Some p → b.arrived < 16000000
more_may_come b lanes place l p may e a = let few = may.few in let one = room_ahead l p a in let z = sum_at frames_left lanes place l e in omega (arith, few, one, z)

pub still_reading : {A : Type 0} (lanes given : List (CaptureReader A)) (place : ℕ) (which : ℕ × Packet A) → ((i : ℕ) (lane : CaptureReader A) → slice_get lanes i ≡ Some lane → IsReader lane) → HasTakenFrame lanes given place which → (lane : CaptureReader A) → slice_get given place ≡ Some lane → IsReading lane.capture
still_reading {A} lanes given place which each g lane e =
    let within = slice_get_within lanes place g.lane g.there in
    let here : slice_get given place ≡ Some (record g.lane { ahead = None }) = ap (λ (ls : List (CaptureReader A)). slice_get ls place) g.now ∙ set_here lanes place (record g.lane { ahead = None }) within in
    subst (λ (l : CaptureReader A). IsReading l.capture) (same_Some (record g.lane { ahead = None }) lane (sym here ∙ e)) (each place g.lane g.there which.1 g.ahead).reading

pub numbers_given : {A : Type 0} (lanes given : List (CaptureReader A)) (place : ℕ) (which : ℕ × Packet A) → HasTakenFrame lanes given place which → port_numbers given ≡ port_numbers lanes
numbers_given lanes given place which g = ap port_numbers g.now ∙ numbers_set lanes place g.lane (record g.lane { ahead = None }) g.there refl

pub numbers_renewed : {R A : Type 0} (remaining : R → Option (List ℕ)) (was : CaptureReader A) (lanes new : List (CaptureReader A)) (sources rest : List R) (place : ℕ) (result : Result (Unit {0}) CaptureFault) → slice_get lanes place ≡ Some was → IsRenewed remaining was lanes new sources rest place result → port_numbers new ≡ port_numbers lanes
numbers_renewed remaining was lanes new sources rest place result there r = ap port_numbers r.lanes_are ∙ numbers_set lanes place was r.lane there r.number

-- The rest of the capture in the reader's source.
pub rest_left : {R A : Type 0} (remaining : R → Option (List ℕ)) (was : CaptureReader A) (lanes new : List (CaptureReader A)) (sources rest : List R) (place : ℕ) (result : Result (Unit {0}) CaptureFault) (rests : ℕ → Option (List ℕ)) → slice_get lanes place ≡ Some was → length sources ≡ length lanes → (r : IsRenewed remaining was lanes new sources rest place result) → HaveRests remaining (port_numbers new) rests rest → remaining r.left ≡ rests was.number
rest_left remaining was lanes new sources rest place result rests there size r are =
    let within = slice_get_within lanes place was there in
    are place was.number r.left (ap (λ ns. slice_get ns place) (numbers_renewed remaining was lanes new sources rest place result there r) ∙ number_at lanes place was there)
    (ap (λ ss. slice_get ss place) r.sources_are ∙ set_here sources place r.left (omega (arith, within, size)))

-- The reader's port exists.
pub port_known : {G A : Type 0} (b c : RelayState G A) (lanes given : List (CaptureReader A)) (place : ℕ) (which : ℕ × Packet A) → CanTakeFrames b lanes → HasTakenFrame lanes given place which → c.plan ≡ b.plan → (out : PortPlan A) × (find_port c.plan.ports which.0 ≡ Some out)
port_known {G} {A} b c lanes given place which may g plan =
    let k = may.known place g.lane g.there in
    (k.0, subst (λ (v : Plan A). find_port v.ports which.0 ≡ Some k.0) (sym plan) (subst (λ (n : ℕ). find_port b.plan.ports n ≡ Some k.0) g.number k.1))

-- A property of each reader, after one of them changed.
at_each : {A : Type 0} (P : CaptureReader A → Type 0) (lanes : List (CaptureReader A)) (place : ℕ) (m : CaptureReader A) → place < length lanes → P m → ((i : ℕ) (l : CaptureReader A) → i ≢ place → slice_get lanes i ≡ Some l → P l) → (i : ℕ) (l : CaptureReader A) → slice_get (slice_set lanes place m) i ≡ Some l → P l
at_each {A} P lanes place m within here there i l e = by_place (λ j. slice_get (slice_set lanes place m) j ≡ Some l → P l) place i
    (λ h. subst P (same_Some m l (sym (set_here lanes place m within) ∙ h)) here)
    (λ n h. there i l n (sym (set_there lanes place i m n) ∙ h))
    e

pub fewer_room : {A : Type 0} (lanes : List (CaptureReader A)) (place : ℕ) (l m : CaptureReader A) (p : Packet A) → slice_get lanes place ≡ Some l → l.ahead ≡ Some p → frames_left m ≤ records_left l.capture → total_frames_left (slice_set lanes place m) + 1 ≤ total_frames_left lanes
fewer_room lanes place l m p e a few = let one = room_ahead l p a in let z = sum_set frames_left lanes place l m e in omega (arith, one, z, few)

-- After a frame was taken, the relay can handle the next ones.
pub may_again : {G A : Type 0} (b c : RelayState G A) (lanes : List (CaptureReader A)) (place : ℕ) (first : IsEarliestReader lanes place) (m : CaptureReader A) → CanTakeFrames b lanes → c.plan ≡ b.plan → c.arrived ≡ b.arrived + 1 → c.earliest ≡ first.packet.time → m.number ≡ first.lane.number → IsReader m → ((d : Packet A) → m.ahead ≡ Some d → first.packet.time ≤ d.time) → frames_left m ≤ records_left first.lane.capture → CanTakeFrames c (slice_set lanes place m)
may_again {G} {A} b c lanes place first m may plan arrived earliest number is onward few =
    let within = slice_get_within lanes place first.lane first.there in
    let low = may.few in
    let falls = fewer_room lanes place first.lane m first.packet first.there first.ahead few in
    let same : port_numbers (slice_set lanes place m) ≡ port_numbers lanes = numbers_set lanes place first.lane m first.there number in record {
      each = at_each IsReader lanes place m within is (λ i l n e. may.each i l e);
      from = at_each (λ l. 1 ≤ l.number) lanes place m within (let z = may.from place first.lane first.there in omega (arith, z, number)) (λ i l n e. may.from i l e);
      known = at_each (λ l. (out : PortPlan A) × (find_port c.plan.ports l.number ≡ Some out)) lanes place m within
          (let k = may.known place first.lane first.there in (k.0, subst (λ (v : Plan A). find_port v.ports m.number ≡ Some k.0) (sym plan) (subst (λ (n : ℕ). find_port b.plan.ports n ≡ Some k.0) (sym number) k.1)))
          (λ i l n e. let k = may.known i l e in (k.0, subst (λ (v : Plan A). find_port v.ports l.number ≡ Some k.0) (sym plan) k.1));
      onward = λ i l d e a. at_each (λ k. (d : Packet A) → k.ahead ≡ Some d → c.earliest ≤ d.time) lanes place m within
          (λ d h. let z = onward d h in omega (arith, z, earliest))
          (λ j k n f d h. elim (first.least j k d f h) [ inl z ↦ omega (arith, z, earliest) | inr z ↦ (let y = z.0 in omega (arith, y, earliest)) ])
          i l e d a;
      few = omega (arith, low, falls, arrived);
      rises = subst (IsOrdered (λ a b. a < b)) (sym same) may.rises;
    }

-- A read fault is a fault of the capture of its port.
pub read_at : (q port : ℕ) (fault : CaptureFault) → run_fault q fault ≡ run.Capture port faults.Read → (fault ≡ faults.Read) × (port ≡ q)
read_at q port faults.BadMagic e = absurd (cc)
read_at q port faults.BadVersion e = absurd (cc)
read_at q port faults.BadLinkType e = absurd (cc)
read_at q port faults.HeaderCut e = absurd (cc)
read_at q port (faults.RecordCut n) e = absurd (cc)
read_at q port (faults.LengthsCross n) e = absurd (cc)
read_at q port (faults.RecordTooLarge n) e = absurd (cc)
read_at q port (faults.TimeBack n) e = absurd (cc)
read_at q port (faults.TimeTooLate n) e = absurd (cc)
read_at q port faults.TooManyRecords e = absurd (cc)
read_at q port faults.Read e = (refl, cc)
read_at q port faults.Write e = absurd (cc)
read_at q port faults.NoMemory e = absurd (cc)

pub err_is : {X Y : Type 0} (a b : Y) → ◌≡◌ {A = Result X Y} (Err a) (Err b) → a ≡ b
err_is a b e = cc
