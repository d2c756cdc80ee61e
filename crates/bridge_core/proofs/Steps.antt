-- One frame more is handled, or a run stops.
use Rattle.std.proofs.Common.{◌≡◌, ◌≢◌, ℕ, zero, suc, ◌+◌, ◌<◌, ◌≤◌, true, false, List, [], ◌∷◌, ◌++◌, length, slice_get, slice_set, arith, refl, ap, sym, subst, ◌∙◌, inl, inr, Option, Some, None, Err}
use Rattle.std.specs.Prelude.{nat_eq, IfSome}
use Rattle.std.proofs.lemmas.Option.{slice_get_within, same_Some}
use Rattle.std.proofs.lemmas.Bool.Decides.{nat_tests}
use Rattle.std.proofs.lemmas.Bool.{eqb-true}
use Rattle.bridge_limits.specs.Members.{IsOrdered}
use Rattle.bridge_limits.proofs.Cases.{by_bool}
use Rattle.bridge_limits.proofs.Orders.{swapped, apart}
use Rattle.bridge_limits.proofs.Lists.{there_is, set_here, set_there}
use Rattle.bridge_capture.specs.declared.capture_fault.CaptureFault.{CaptureFault}
use Rattle.bridge_capture.specs.declared.capture_fault.CaptureFault.TheVariants as faults
use Rattle.bridge_capture.specs.declared.packet.Packet.{Packet}
use Rattle.bridge_capture.specs.Grammar.{CapturedFrame}
use Rattle.bridge_capture.specs.Reading.{packet_frame}
use Rattle.bridge_capture.specs.StandsFor.{HasReadFrames, IsRefusal, StandsFor}
use Rattle.bridge_config.specs.declared.ports.PortPlan.{PortPlan}
use Rattle.bridge_config.specs.Model.{Plan}
use Rattle.bridge_config.specs.Rules.{find_port}
use Rattle.bridge_capture.specs.declared.fault.RunFault.{RunFault}
use Rattle.bridge_capture.specs.declared.fault.RunFault.TheVariants as run
use Rattle.bridge_semantics.specs.Merge.{Input, capture_input, FollowsInput, input_events, newest_time}
use Rattle.bridge_semantics.specs.Outputs.{ReachesTime}
use Rattle.bridge_relay.specs.RelayState.{RelayState, RelayStandsFor}
use Rattle.bridge_capture.specs.declared.capture_reader.CaptureReader.{CaptureReader}
use Rattle.bridge_capture.specs.CaptureReaders.{AreOneAhead, run_fault, IsOneAhead, FindsNext, IsEarliestReader, port_numbers, frame_ahead}
use Rattle.bridge_core.specs.CaptureWriters.{AreWritten, AreWrittenExceptOne, SendsDueFrames, MakesStart}
use Rattle.bridge_core.specs.Running.{AreHeadsLater, FollowsInputs, HasTakenInputs, IsHeadEarlier, IsCaptureFault, IsUnderWay, EndsOrFollowsLater, EndsOrFollows, CanTakeFrames, StopsForMemory, StopsReading, StopsUnderWay, StopsWriting, PrecedesCommand}
use Rattle.bridge_core.proofs.Order.{frames_here, frames_there, taken_frame, with_frame}
use Rattle.bridge_core.proofs.Places.{rising_at}

is_apart : (a b : ℕ) → nat_eq a b ≡ false → a ≡ b → ⊥
is_apart a b e same = grind (arith, nat_tests)

-- A reader's index gives its port number.

pub number_at : {A : Type 0} (lanes : List (CaptureReader A)) (i : ℕ) (l : CaptureReader A) → slice_get lanes i ≡ Some l → slice_get (port_numbers lanes) i ≡ Some l.number
number_at [] i l e = absurd (cc)
number_at (m ∷ lanes) zero l e = ap (λ (z : CaptureReader _). Some z.number) (same_Some m l e)
number_at (m ∷ lanes) (suc i) l e = number_at lanes i l e

pub lane_at : {A : Type 0} (lanes : List (CaptureReader A)) (i q : ℕ) → slice_get (port_numbers lanes) i ≡ Some q → (l : CaptureReader A) × (slice_get lanes i ≡ Some l) × (l.number ≡ q)
lane_at [] i q e = absurd (cc)
lane_at (m ∷ lanes) zero q e = (m, refl, same_Some m.number q e)
lane_at (m ∷ lanes) (suc i) q e = lane_at lanes i q e

pub numbers_set : {A : Type 0} (lanes : List (CaptureReader A)) (i : ℕ) (l m : CaptureReader A) → slice_get lanes i ≡ Some l → m.number ≡ l.number → port_numbers (slice_set lanes i m) ≡ port_numbers lanes
numbers_set [] i l m e n = absurd (cc)
numbers_set (k ∷ lanes) zero l m e n = ap (λ (z : ℕ). z ∷ port_numbers lanes) (n ∙ ap (λ (z : CaptureReader _). z.number) (sym (same_Some k l e)))
numbers_set (k ∷ lanes) (suc i) l m e n = ap (λ z. k.number ∷ z) (numbers_set lanes i l m e n)

pub by_order : (P : Type 0) (i j : ℕ) → (i < j → P) → (j < i → P) → (i ≡ j → P) → P
by_order P zero zero l m n = n refl
by_order P zero (suc j) l m n = l (omega arith)
by_order P (suc i) zero l m n = m (omega arith)
by_order P (suc i) (suc j) l m n = by_order P i j (λ h. l (omega (arith, h))) (λ h. m (omega (arith, h))) (λ h. n (ap suc h))

-- Readers at different indices have different port numbers.
pub other_number : {A : Type 0} (lanes : List (CaptureReader A)) (i j : ℕ) (l m : CaptureReader A) → IsOrdered (λ a b. a < b) (port_numbers lanes) → slice_get lanes i ≡ Some l → slice_get lanes j ≡ Some m → i ≢ j → nat_eq l.number m.number ≡ false
other_number lanes i j l m r e f n = by_order (nat_eq l.number m.number ≡ false) i j
    (λ h. apart l.number m.number (rising_at (λ a b. a < b) (port_numbers lanes) i j l.number m.number r (number_at lanes i l e) (number_at lanes j m f) h))
    (λ h. swapped m.number l.number (apart m.number l.number (rising_at (λ a b. a < b) (port_numbers lanes) j i m.number l.number r (number_at lanes j m f) (number_at lanes i l e) h)))
    (λ h. absurd (n h))

pub by_place : (P : ℕ → Type 0) (place i : ℕ) → P place → ((i ≢ place) → P i) → P i
by_place P place i here there = by_bool (nat_eq i place)
    (λ e. let same : i ≡ place = grind (arith, nat_tests) in subst P (sym same) here)
    (λ e. there (λ z. absurd (let w : nat_eq i place ≡ true = grind (arith, nat_tests) in cc)))

-- Each other reader's next frame follows the earliest one.

pub is_next : {A : Type 0} (lanes : List (CaptureReader A)) (place : ℕ) (first : IsEarliestReader lanes place) → IsOrdered (λ a b. a < b) (port_numbers lanes) → (i : ℕ) (l : CaptureReader A) (d : Packet A) → slice_get lanes i ≡ Some l → l.ahead ≡ Some d → i ≢ place → FollowsInput (capture_input l.number (packet_frame d)) (capture_input first.lane.number (packet_frame first.packet))
is_next lanes place first rises i l d e h n = elim (first.least i l d e h) [
  | inl m ↦ inl m
  | inr m ↦ inr (
    m.0,
    let low = m.1 in let z : place < i = by_order (place < i) place i (λ k. k) (λ k. absurd (omega (arith, low, k))) (λ k. absurd (n (sym k))) in
        let y = rising_at (λ a b. a < b) (port_numbers lanes) place i first.lane.number l.number rises (number_at lanes place first.lane first.there) (number_at lanes i l e) z in omega (arith, y),
  )
]

-- The readers after one has read ahead.

ahead_of : {R A : Type 0} (remaining : R → Option (List ℕ)) (texts : ℕ → List ℕ) (frames : ℕ → List CapturedFrame) (lanes : List (CaptureReader A)) (sources : List R) (place : ℕ) (l m : CaptureReader A) (r : R) (c : CapturedFrame) → AreOneAhead remaining texts frames lanes sources → IsOrdered (λ a b. a < b) (port_numbers lanes) → slice_get lanes place ≡ Some l → place < length sources → m.number ≡ l.number → IsOneAhead m (remaining r) (texts l.number) (frames l.number ++ c ∷ []) → AreOneAhead remaining texts (with_frame frames l.number c) (slice_set lanes place m) (slice_set sources place r)
ahead_of {R} {A} remaining texts frames lanes sources place l m r c ahead rises there within number looks i k s e f =
    by_place (λ j. slice_get (slice_set lanes place m) j ≡ Some k → slice_get (slice_set sources place r) j ≡ Some s → IsOneAhead k (remaining s) (texts k.number) (with_frame frames l.number c k.number)) place i
    (λ g h.
    let is : m ≡ k = same_Some m k (sym (set_here lanes place m (slice_get_within lanes place l there)) ∙ g) in
    let rest : r ≡ s = same_Some r s (sym (set_here sources place r within) ∙ h) in
    let z : IsOneAhead m (remaining r) (texts l.number) (with_frame frames l.number c l.number) = subst (IsOneAhead m (remaining r) (texts l.number)) (sym (frames_here frames l.number c)) looks in
    let y : IsOneAhead m (remaining r) (texts m.number) (with_frame frames l.number c m.number) = subst (λ (n : ℕ). IsOneAhead m (remaining r) (texts n) (with_frame frames l.number c n)) (sym number) z in
    subst (λ (w : CaptureReader A). IsOneAhead w (remaining s) (texts w.number) (with_frame frames l.number c w.number)) is (subst (λ (w : R). IsOneAhead m (remaining w) (texts m.number) (with_frame frames l.number c m.number)) rest y))
    (λ n g h.
    let old : slice_get lanes i ≡ Some k = sym (set_there lanes place i m n) ∙ g in
    let was : slice_get sources i ≡ Some s = sym (set_there sources place i r n) ∙ h in
    subst (IsOneAhead k (remaining s) (texts k.number)) (sym (frames_there frames l.number c k.number (other_number lanes i place k l rises old there n))) (ahead i k s old was))
    e f

no_sooner : (q r : ℕ) (c d : CapturedFrame) → r ≡ q → c.time ≤ d.time → FollowsInput (capture_input r d) (capture_input q c)
no_sooner q r c d same late = by_order (FollowsInput (capture_input r d) (capture_input q c)) c.time d.time
    (λ h. inl h)
    (λ h. absurd (omega (arith, h, late)))
    (λ h. inr (h, omega (arith, same)))

follow_next : {A : Type 0} (lanes : List (CaptureReader A)) (place : ℕ) (first : IsEarliestReader lanes place) (m : CaptureReader A) (inputs : List Input) → IsOrdered (λ a b. a < b) (port_numbers lanes) → m.number ≡ first.lane.number → ((d : Packet A) → m.ahead ≡ Some d → first.packet.time ≤ d.time) → (i : ℕ) (k : CaptureReader A) (d : Packet A) → slice_get (slice_set lanes place m) i ≡ Some k → k.ahead ≡ Some d → FollowsInputs (capture_input k.number (packet_frame d)) (capture_input first.lane.number (packet_frame first.packet) ∷ inputs)
follow_next {A} lanes place first m inputs rises number onward i k d e h =
    by_place (λ j. slice_get (slice_set lanes place m) j ≡ Some k → FollowsInput (capture_input k.number (packet_frame d)) (capture_input first.lane.number (packet_frame first.packet))) place i
    (λ g.
    let is : m ≡ k = same_Some m k (sym (set_here lanes place m (slice_get_within lanes place first.lane first.there)) ∙ g) in
    let late = onward d (ap (λ (w : CaptureReader A). w.ahead) is ∙ h) in
    let same : k.number ≡ first.lane.number = ap (λ (w : CaptureReader A). w.number) (sym is) ∙ number in
    no_sooner first.lane.number k.number (packet_frame first.packet) (packet_frame d) same late)
    (λ n g. is_next lanes place first rises i k d (sym (set_there lanes place i m n) ∙ g) h n)
    e

pub source_of : {R A : Type 0} (lanes : List (CaptureReader A)) (sources : List R) (i : ℕ) (l : CaptureReader A) → length sources ≡ length lanes → slice_get lanes i ≡ Some l → (s : R) × (slice_get sources i ≡ Some s)
source_of lanes sources i l size e = let z = slice_get_within lanes i l e in there_is sources i (omega (arith, z, size))

looks_of : {A : Type 0} (text : List ℕ) (q : ℕ) (taken : List CapturedFrame) (inputs : List Input) (o : Option (Packet A)) → FindsNext text taken o → ((d : Packet A) → o ≡ Some d → FollowsInputs (capture_input q (packet_frame d)) inputs) → EndsOrFollows text q taken inputs
looks_of text q taken inputs None f h = inl f
looks_of text q taken inputs (Some d) f h = inr (packet_frame d, f, h d refl)

looks_from : {A : Type 0} (until : Option ℕ) (text : List ℕ) (q : ℕ) (taken : List CapturedFrame) (inputs : List Input) (o : Option (Packet A)) → FindsNext text taken o → ((d : Packet A) → o ≡ Some d → FollowsInputs (capture_input q (packet_frame d)) inputs) → ((d : Packet A) → o ≡ Some d → (t : ℕ) × (until ≡ Some t) × (t ≤ d.time)) → EndsOrFollowsLater until text q taken inputs
looks_from until text q taken inputs None f h l = inl f
looks_from until text q taken inputs (Some d) f h l = inr (packet_frame d, f, h d refl, l d refl)

pub waits_of : (n : ℕ) (next : Option Input) → IfSome next (λ y. n < y.at) → IfSome next (λ y. (t : ℕ) × (Some n ≡ Some t) × (t ≤ y.at))
waits_of n None h = tt
waits_of n (Some y) h = (n, refl, omega (arith, h))

later_than : (until : Option ℕ) (moment n : ℕ) → IfSome until (λ t. moment < t) → (t : ℕ) × (until ≡ Some t) × (t ≤ n) → (t : ℕ) × (Some (moment + 1) ≡ Some t) × (t ≤ n)
later_than until moment n before (t, is, low) = (moment + 1, refl, let less : moment < t = subst (λ (o : Option ℕ). IfSome o (λ t. moment < t)) is before in omega (arith, less, low))

waits_then : (until : Option ℕ) (moment : ℕ) (next : Option Input) → IfSome until (λ t. moment < t) → IfSome next (λ y. (t : ℕ) × (until ≡ Some t) × (t ≤ y.at)) → IfSome next (λ y. moment < y.at)
waits_then until moment None before h = tt
waits_then until moment (Some y) before (t, is, low) = let less : moment < t = subst (λ (o : Option ℕ). IfSome o (λ t. moment < t)) is before in omega (arith, less, low)

waits_at : (n : ℕ) (next : Option Input) → IfSome next (λ y. n < y.at) → IfSome next (λ y. n ≤ y.at)
waits_at n None h = tt
waits_at n (Some y) h = omega (arith, h)

-- A port number has one index.
pub one_place : {A : Type 0} (lanes : List (CaptureReader A)) (i j q : ℕ) → IsOrdered (λ a b. a < b) (port_numbers lanes) → slice_get (port_numbers lanes) i ≡ Some q → slice_get (port_numbers lanes) j ≡ Some q → i ≡ j
one_place lanes i j q r e f = by_order (i ≡ j) i j
    (λ h. absurd (let z = rising_at (λ a b. a < b) (port_numbers lanes) i j q q r e f h in omega (arith, z)))
    (λ h. absurd (let z = rising_at (λ a b. a < b) (port_numbers lanes) j i q q r f e h in omega (arith, z)))
    (λ h. h)

-- The newest input isn't later than an input that follows it.
pub newest_late : (y : Input) (xs : List Input) → FollowsInputs y xs → newest_time xs ≤ y.at
newest_late y [] h = omega arith
newest_late y (x ∷ xs) (inl l) = omega (arith, l)
newest_late y (x ∷ xs) (inr e) = let z = e.0 in omega (arith, z)

-- Facts about the frame that is taken.
module _ {R W G A : Type 0} (remaining : R → Option (List ℕ)) (contents : W → Option (List ℕ)) (p : Plan A) (texts : ℕ → List ℕ) (commanded : List Input) (next : Option Input) (olds : List W) (b : RelayState G A) (lanes : List (CaptureReader A)) (sources : List R) (sinks : List W)
    (u : IsUnderWay remaining contents p texts commanded next olds b lanes sources sinks) (size : length sources ≡ length lanes) where
  -- The reader of each port finds its capture's next frame or end.
  port_looks : (q : ℕ) (out : PortPlan A) → find_port p.ports q ≡ Some out → (i : ℕ) × (l : CaptureReader A) × (slice_get lanes i ≡ Some l) × (l.number ≡ q) × FindsNext (texts q) (u.frames q) l.ahead
  port_looks q out e =
      let place = u.covered q out e in
      let lane = lane_at lanes place.0 q place.1 in
      let source = source_of lanes sources place.0 lane.0 size lane.1 in
      let finds = (u.ahead place.0 lane.0 source.0 lane.1 source.1).finds in
      (place.0, lane.0, lane.1, lane.2, subst (λ (n : ℕ). FindsNext (texts n) (u.frames n) lane.0.ahead) lane.2 finds)

  -- A sink failed while starts before a limit were made.
  pub write_stops : (until : Option ℕ) (moment port : ℕ) (news : List W) (left : ℕ → List CapturedFrame) → AreHeadsLater until lanes → IfSome next (λ c. (t : ℕ) × (until ≡ Some t) × (t ≤ c.at)) → b.earliest ≤ moment → IfSome until (λ t. moment < t) → MakesStart p (input_events u.inputs) moment port left → AreWrittenExceptOne contents port (port_numbers lanes) olds news left → StopsWriting p texts commanded next contents (port_numbers lanes) olds news port
  write_stops until moment port news left later waits from before makes written = record {
    frames = u.frames;
    inputs = u.inputs;
    left = left;
    moment = moment;
    taken = u.taken;
    late = let late = u.late in omega (arith, late, from);
    looks = λ q out e.
        let z = port_looks q out e in
        looks_from (Some (moment + 1)) (texts q) q (u.frames q) u.inputs z.1.ahead z.4 (λ d h. subst (λ (n : ℕ). FollowsInputs (capture_input n (packet_frame d)) u.inputs) z.3 (u.follow z.0 z.1 d z.2 h)) (λ d h. later_than until moment d.time before (later z.0 z.1 d z.2 h));
    waits = waits_then until moment next before waits;
    makes = makes;
    written = written;
  }

  -- Starts before a limit were made, or a sink failed.
  pub depart_stops : (rests : ℕ → Option (List ℕ)) (until : Option ℕ) (c : RelayState G A) (ports : List ℕ) (news : List W) (fault : RunFault) → ports ≡ port_numbers lanes → AreHeadsLater until lanes → IfSome next (λ y. (t : ℕ) × (until ≡ Some t) × (t ≤ y.at)) → SendsDueFrames contents p (input_events u.inputs) b.earliest until c ports olds news (Err fault) → StopsUnderWay p texts rests commanded next contents (port_numbers lanes) olds news fault
  depart_stops rests until c ports news (run.Capture port fault) same later waits d = absurd d
  depart_stops rests until c ports news (run.Write port) same later waits d = write_stops until d.moment port news d.left later waits d.late d.early d.makes (subst (λ ns. AreWrittenExceptOne contents port ns olds news d.left) same d.written)
  depart_stops rests until c ports news run.NoMemory same later waits d = absurd d

  -- The departures are written, by the numbers of the writers.
  pub written_so : (ports : List ℕ) → ports ≡ port_numbers lanes → AreWritten contents ports olds sinks u.left
  written_so ports same = subst (λ ns. AreWritten contents ns olds sinks u.left) (sym same) u.written

  -- Memory ran out before the next frame was taken.
  pub memory_before : (rests : ℕ → Option (List ℕ)) (moment : ℕ) (news : List W) (left : ℕ → List CapturedFrame) → newest_time u.inputs ≤ moment → AreHeadsLater (Some moment) lanes → IfSome next (λ y. moment < y.at) → ReachesTime p (input_events u.inputs) moment left → AreWritten contents (port_numbers lanes) olds news left → StopsForMemory p texts rests commanded next contents (port_numbers lanes) olds news
  memory_before rests moment news left late later before reaches written = record {
    frames = u.frames;
    inputs = u.inputs;
    left = left;
    moment = moment;
    late = late;
    looks = λ q out e.
        let z = port_looks q out e in
        inl (looks_from (Some moment) (texts q) q (u.frames q) u.inputs z.1.ahead z.4 (λ d h. subst (λ (n : ℕ). FollowsInputs (capture_input n (packet_frame d)) u.inputs) z.3 (u.follow z.0 z.1 d z.2 h)) (λ d h. later z.0 z.1 d z.2 h));
    waits = waits_at moment next before;
    taken = u.taken;
    reaches = reaches;
    written = written;
  }

  -- One frame more is taken.
  module _ (may : CanTakeFrames b lanes) (place : ℕ) (first : IsEarliestReader lanes place) (before : IfSome next (λ y. first.packet.time < y.at)) where
    pub all_later : AreHeadsLater (Some first.packet.time) lanes
    all_later i l d e h = (first.packet.time, refl, elim (first.least i l d e h) [ inl m ↦ omega (arith, m) | inr m ↦ (let z = m.0 in omega (arith, z)) ])

    -- The frames read from its port, with this frame.
    pub gave_next : HasReadFrames (texts first.lane.number) (u.frames first.lane.number ++ packet_frame first.packet ∷ [])
    gave_next =
        let source = source_of lanes sources place first.lane size first.there in
        subst (FindsNext (texts first.lane.number) (u.frames first.lane.number)) first.ahead (u.ahead place first.lane source.0 first.there source.1).finds

    pub taken_next : HasTakenInputs p texts commanded next (with_frame u.frames first.lane.number (packet_frame first.packet)) (capture_input first.lane.number (packet_frame first.packet) ∷ u.inputs)
    taken_next =
        let known = may.known place first.lane first.there in
        let at : find_port p.ports first.lane.number ≡ Some known.0 = subst (λ (v : Plan A). find_port v.ports first.lane.number ≡ Some known.0) u.stands.plan known.1 in
        taken_frame p texts commanded next u.frames u.inputs first.lane.number (packet_frame first.packet) known.0 u.taken (may.from place first.lane first.there) at gave_next (u.follow place first.lane first.packet first.there first.ahead) before

    pub went_on : (m : CaptureReader A) (r : R) (c : RelayState G A) (news : List W) (left : ℕ → List CapturedFrame) → m.number ≡ first.lane.number → ((d : Packet A) → m.ahead ≡ Some d → first.packet.time ≤ d.time) → IsOneAhead m (remaining r) (texts first.lane.number) (u.frames first.lane.number ++ packet_frame first.packet ∷ []) → RelayStandsFor p c (input_events (capture_input first.lane.number (packet_frame first.packet) ∷ u.inputs)) left → first.packet.time ≤ c.earliest → AreWritten contents (port_numbers lanes) olds news left → IsUnderWay remaining contents p texts commanded next olds c (slice_set lanes place m) (slice_set sources place r) news
    went_on m r c news left number onward looks stands late written =
        let within = slice_get_within lanes place first.lane first.there in
        let same : port_numbers (slice_set lanes place m) ≡ port_numbers lanes = numbers_set lanes place first.lane m first.there number in record {
          frames = with_frame u.frames first.lane.number (packet_frame first.packet);
          inputs = capture_input first.lane.number (packet_frame first.packet) ∷ u.inputs;
          left = left;
          taken = taken_next;
          ahead = ahead_of remaining texts u.frames lanes sources place first.lane m r (packet_frame first.packet) u.ahead may.rises first.there (omega (arith, within, size)) number looks;
          follow = follow_next lanes place first m u.inputs may.rises number onward;
          covered = λ q out e. let z = u.covered q out e in (z.0, subst (λ (ns : List ℕ). slice_get ns z.0 ≡ Some q) (sym same) z.1);
          stands = stands;
          late = late;
          written = subst (λ (ns : List ℕ). AreWritten contents ns olds news left) (sym same) written;
        }

    -- The record after it is faulty.
    pub refused_next : (rests : ℕ → Option (List ℕ)) (fault : CaptureFault) (news : List W) (left : ℕ → List CapturedFrame) → IsCaptureFault fault → IsRefusal fault (rests first.lane.number) (texts first.lane.number) (u.frames first.lane.number ++ packet_frame first.packet ∷ []) → ReachesTime p (input_events (capture_input first.lane.number (packet_frame first.packet) ∷ u.inputs)) first.packet.time left → AreWritten contents (port_numbers lanes) olds news left → StopsReading p texts rests commanded next contents (port_numbers lanes) olds news first.lane.number fault
    refused_next rests fault news left own refused reaches written = record {
      own = own;
      frames = with_frame u.frames first.lane.number (packet_frame first.packet);
      inputs = capture_input first.lane.number (packet_frame first.packet) ∷ u.inputs;
      left = left;
      taken = taken_next;
      refused = subst (IsRefusal fault (rests first.lane.number) (texts first.lane.number)) (sym (frames_here u.frames first.lane.number (packet_frame first.packet))) refused;
      behind = refl;
      others = λ q out e n.
          let z = port_looks q out e in
          let apart : nat_eq q first.lane.number ≡ false = by_bool (nat_eq q first.lane.number) (λ h. absurd (n (eqb-true q first.lane.number h))) (λ h. h) in
          let elsewhere : z.0 ≢ place = λ h. n (sym z.3 ∙ ap (λ (w : CaptureReader A). w.number) (same_Some z.1 first.lane (sym (subst (λ (k : ℕ). slice_get lanes k ≡ Some z.1) h z.2) ∙ first.there))) in
          subst (λ taken. EndsOrFollows (texts q) q taken (capture_input first.lane.number (packet_frame first.packet) ∷ u.inputs)) (sym (frames_there u.frames first.lane.number (packet_frame first.packet) q apart))
          (looks_of (texts q) q (u.frames q) (capture_input first.lane.number (packet_frame first.packet) ∷ u.inputs) z.1.ahead z.4 (λ d h. subst (λ (k : ℕ). FollowsInput (capture_input k (packet_frame d)) (capture_input first.lane.number (packet_frame first.packet))) z.3 (is_next lanes place first may.rises z.0 z.1 d z.2 h elsewhere)));
      reaches = reaches;
      written = written;
    }

    -- Memory ran out after it.
    pub memory_next : (rests : ℕ → Option (List ℕ)) (news : List W) (left : ℕ → List CapturedFrame) → IsRefusal faults.NoMemory (rests first.lane.number) (texts first.lane.number) (u.frames first.lane.number ++ packet_frame first.packet ∷ []) → ReachesTime p (input_events (capture_input first.lane.number (packet_frame first.packet) ∷ u.inputs)) first.packet.time left → AreWritten contents (port_numbers lanes) olds news left → StopsForMemory p texts rests commanded next contents (port_numbers lanes) olds news
    memory_next rests news left refused reaches written = record {
      frames = with_frame u.frames first.lane.number (packet_frame first.packet);
      inputs = capture_input first.lane.number (packet_frame first.packet) ∷ u.inputs;
      left = left;
      moment = first.packet.time;
      late = omega arith;
      looks = λ q out e. by_bool (nat_eq q first.lane.number)
          (λ h.
          let same : q ≡ first.lane.number = eqb-true q first.lane.number h in
          let here = subst (IsRefusal faults.NoMemory (rests first.lane.number) (texts first.lane.number)) (sym (frames_here u.frames first.lane.number (packet_frame first.packet))) refused in
          inr (sym same, subst (λ (n : ℕ). IsRefusal faults.NoMemory (rests n) (texts n) (with_frame u.frames first.lane.number (packet_frame first.packet) n)) (sym same) here))
          (λ apart.
          let z = port_looks q out e in
          let elsewhere : z.0 ≢ place = λ h. absurd (let w : q ≡ first.lane.number = sym z.3 ∙ ap (λ (w : CaptureReader A). w.number) (same_Some z.1 first.lane (sym (subst (λ (k : ℕ). slice_get lanes k ≡ Some z.1) h z.2) ∙ first.there)) in is_apart q first.lane.number apart w) in
          inl (subst (λ taken. EndsOrFollowsLater (Some first.packet.time) (texts q) q taken (capture_input first.lane.number (packet_frame first.packet) ∷ u.inputs)) (sym (frames_there u.frames first.lane.number (packet_frame first.packet) q apart))
          (looks_from (Some first.packet.time) (texts q) q (u.frames q) (capture_input first.lane.number (packet_frame first.packet) ∷ u.inputs) z.1.ahead z.4 (λ d h. subst (λ (k : ℕ). FollowsInput (capture_input k (packet_frame d)) (capture_input first.lane.number (packet_frame first.packet))) z.3 (is_next lanes place first may.rises z.0 z.1 d z.2 h elsewhere))
          (λ d h. all_later z.0 z.1 d z.2 h))));
      waits = waits_at first.packet.time next before;
      taken = taken_next;
      reaches = reaches;
      written = written;
    }

    -- The capture stands for the frames that it gave.
    pub stood : (s : R) → slice_get sources place ≡ Some s → StandsFor first.lane.capture (remaining s) (texts first.lane.number) (u.frames first.lane.number ++ packet_frame first.packet ∷ [])
    stood s lent = subst (λ (o : Option (Packet A)). StandsFor first.lane.capture (remaining s) (texts first.lane.number) (u.frames first.lane.number ++ frame_ahead o)) first.ahead (u.ahead place first.lane s first.there lent).stands

    -- The record after it has a fault.
    pub look_stops : (rests : ℕ → Option (List ℕ)) (fault : CaptureFault) (news : List W) (left : ℕ → List CapturedFrame) → (fault ≢ faults.Write) → IsRefusal fault (rests first.lane.number) (texts first.lane.number) (u.frames first.lane.number ++ packet_frame first.packet ∷ []) → ReachesTime p (input_events (capture_input first.lane.number (packet_frame first.packet) ∷ u.inputs)) first.packet.time left → AreWritten contents (port_numbers lanes) olds news left → StopsUnderWay p texts rests commanded next contents (port_numbers lanes) olds news (run_fault first.lane.number fault)
    look_stops rests faults.BadMagic news left o f r w = refused_next rests faults.BadMagic news left ((λ e. cc), o) f r w
    look_stops rests faults.BadVersion news left o f r w = refused_next rests faults.BadVersion news left ((λ e. cc), o) f r w
    look_stops rests faults.BadLinkType news left o f r w = refused_next rests faults.BadLinkType news left ((λ e. cc), o) f r w
    look_stops rests faults.HeaderCut news left o f r w = refused_next rests faults.HeaderCut news left ((λ e. cc), o) f r w
    look_stops rests (faults.RecordCut n) news left o f r w = refused_next rests (faults.RecordCut n) news left ((λ e. cc), o) f r w
    look_stops rests (faults.LengthsCross n) news left o f r w = refused_next rests (faults.LengthsCross n) news left ((λ e. cc), o) f r w
    look_stops rests (faults.RecordTooLarge n) news left o f r w = refused_next rests (faults.RecordTooLarge n) news left ((λ e. cc), o) f r w
    look_stops rests (faults.TimeBack n) news left o f r w = refused_next rests (faults.TimeBack n) news left ((λ e. cc), o) f r w
    look_stops rests (faults.TimeTooLate n) news left o f r w = refused_next rests (faults.TimeTooLate n) news left ((λ e. cc), o) f r w
    look_stops rests faults.TooManyRecords news left o f r w = refused_next rests faults.TooManyRecords news left ((λ e. cc), o) f r w
    look_stops rests faults.Read news left o f r w = refused_next rests faults.Read news left ((λ e. cc), o) f r w
    look_stops rests faults.Write news left o f r w = refused_next rests faults.Write news left ((λ e. cc), o) f r w
    look_stops rests faults.NoMemory news left o f r w = memory_next rests news left f r w

-- A frame before a limit precedes the command at this limit.
pub before_next : {A : Type 0} (until : Option ℕ) (next : Option Input) (lanes : List (CaptureReader A)) (place : ℕ) → IfSome next (λ y. until ≡ Some y.at) → IsHeadEarlier until lanes place → PrecedesCommand lanes place next
before_next until None lanes place h b l c e a = tt
before_next until (Some y) lanes place h b l c e a = subst (λ (o : Option ℕ). IfSome o (λ t. c.time < t)) h (b l c e a)

-- After a frame before a limit, the relay isn't past the limit.
pub early_next : {A : Type 0} (until : Option ℕ) (lanes : List (CaptureReader A)) (place earliest : ℕ) → IsEarliestReader lanes place → IsHeadEarlier until lanes place → ((l : CaptureReader A) (c : Packet A) → slice_get lanes place ≡ Some l → l.ahead ≡ Some c → earliest ≡ c.time) → IfSome until (λ t. earliest ≤ t)
early_next None lanes place earliest first b h = tt
early_next (Some t) lanes place earliest first b h = let z = b first.lane first.packet first.there first.ahead in let y = h first.lane first.packet first.there first.ahead in omega (arith, z, y)
