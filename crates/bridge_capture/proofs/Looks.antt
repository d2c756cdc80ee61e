-- First reads of several captures, one after another.
use Rattle.std.proofs.Common.{◌≡◌, ℕ, zero, suc, Bool, true, ◌*◌, ◌<◌, ◌≤◌, List, [], ◌∷◌, ◌++◌, length, get_or, set, arith, refl, ap, ◌∙◌, sym, subst, Option, Some, None, inl, inr, slice_get, length-append}
use Rattle.std.specs.Prelude.{◌⊎◌}
use Rattle.std.proofs.lemmas.Bool.{cases_eq}
use Rattle.std.proofs.lemmas.List.Sums.{sum_by_push}
use Rattle.std.proofs.lemmas.Option.{same_Some, slice_get-get_or, slice_get_within}
use Rattle.circular_buffer.proofs.Places.{slice_get-last, slice_get-push, slice_get-set_other, slice_get-set_same, slice_get-some}
use Rattle.bridge_limits.specs.declared.TheConstants.{MAX_ARRIVALS}
use Rattle.bridge_limits.specs.Members.{IsMember, IsOrdered}
use Rattle.bridge_limits.proofs.Members.{after_at, in_at}
use Rattle.bridge_capture.specs.declared.capture_fault.CaptureFault.{CaptureFault}
use Rattle.bridge_capture.specs.declared.capture_fault.CaptureFault.TheVariants as faults
use Rattle.bridge_capture.specs.declared.packet.Packet.{Packet}
use Rattle.bridge_capture.specs.declared.record.TheConstants.{MAX_RECORDS}
use Rattle.bridge_capture.specs.Reading.{packet_frame}
use Rattle.bridge_capture.specs.declared.fault.RunFault.TheVariants as run
use Rattle.bridge_capture.specs.Devices.{HasFailed, AreUnfailing}
use Rattle.bridge_capture.specs.CaptureReaders.{AreOneAhead, AreReaders, HaveRests, HaveTexts, AreUnread, HasSoundStart, FailsAtFirst, FailsToBegin, run_fault, FindsNext, IsOneAhead, IsReader, FailsAtPort, port_numbers, frames_left, total_frames_left}
use Rattle.bridge_capture.specs.declared.capture_reader.CaptureReader.{CaptureReader}

-- Holds if the captures of the first ports were begun, and their readers agree with the sources.
pub record HasLooked {A R : Type 0} (remaining : R → Option (List ℕ)) (never_fails : R → Bool) (ports : List ℕ) (olds news : List R) (lanes : List (CaptureReader A)) : Type 0 where
  pub numbered : (i : ℕ) (lane : CaptureReader A) → slice_get lanes i ≡ Some lane → slice_get ports i ≡ Some lane.number
  pub each : AreReaders lanes
  pub few : total_frames_left lanes ≤ length lanes * MAX_RECORDS
  pub begins : (texts : ℕ → List ℕ) → HaveTexts remaining ports texts olds → AreOneAhead remaining texts (λ _. []) lanes news
  pub behind : (i : ℕ) → length lanes ≤ i → slice_get news i ≡ slice_get olds i
  pub lasts : AreUnfailing never_fails olds → AreUnfailing never_fails news

-- Holds if the first read of one capture agrees with its source before and after.
pub record LooksAt {A R : Type 0} (remaining : R → Option (List ℕ)) (never_fails : R → Bool) (q : ℕ) (old new : R) (lane : CaptureReader A) : Type 0 where
  pub number : lane.number ≡ q
  pub each : IsReader lane
  pub room : frames_left lane ≤ MAX_RECORDS
  pub begins : (text : List ℕ) → remaining old ≡ Some text → IsOneAhead lane (remaining new) text []
  pub lasts : never_fails old ≡ true → never_fails new ≡ true

-- Lists.

in_set : {X : Type 0} (xs : List X) (i : ℕ) (y x : X) → IsMember x (set xs i y) → (x ≡ y) ⊎ IsMember x xs
in_set [] i y x h = absurd h
in_set (z ∷ zs) zero y x h = elim h [ inl e ↦ inl e | inr l ↦ inr (inr l) ]
in_set (z ∷ zs) (suc i) y x h = elim h [ inl e ↦ inr (inl e) | inr l ↦ elim (in_set zs i y x l) [ inl e ↦ inl e | inr k ↦ inr (inr k) ] ]

-- A number occurs once in a rising list.
pub one_place : (ports : List ℕ) (i j q : ℕ) → IsOrdered (λ a b. a < b) ports → slice_get ports i ≡ Some q → slice_get ports j ≡ Some q → i ≡ j
one_place [] i j q r a b = absurd (cc)
one_place (p ∷ ps) zero zero q r a b = refl
one_place (p ∷ ps) zero (suc j) q r a b = let l = after_at (λ (a b : ℕ). a < b) p ps j q r.0 b in let e = same_Some _ _ a in absurd (omega (arith, l, e))
one_place (p ∷ ps) (suc i) zero q r a b = let l = after_at (λ (a b : ℕ). a < b) p ps i q r.0 a in let e = same_Some _ _ b in absurd (omega (arith, l, e))
one_place (p ∷ ps) (suc i) (suc j) q r a b = ap suc (one_place ps i j q r.1 a b)

-- Readers with the numbers of all ports have exactly these numbers.
pub same_numbers : {A : Type 0} (lanes : List (CaptureReader A)) (ports : List ℕ) → length lanes ≡ length ports → ((i : ℕ) (lane : CaptureReader A) → slice_get lanes i ≡ Some lane → slice_get ports i ≡ Some lane.number) → port_numbers lanes ≡ ports
same_numbers [] [] e h = refl
same_numbers [] (p ∷ ps) e h = absurd (omega arith)
same_numbers (l ∷ ls) [] e h = absurd (omega arith)
same_numbers (l ∷ ls) (p ∷ ps) e h = let here : p ≡ l.number = same_Some _ _ (h 0 l refl) in let rest : port_numbers ls ≡ ps = same_numbers ls ps (omega arith) (λ i lane at. h (suc i) lane at) in rw (here, rest) refl

-- One more first read.

pub looked_start : {A R : Type 0} (remaining : R → Option (List ℕ)) (never_fails : R → Bool) (ports : List ℕ) (olds : List R) (lanes : List (CaptureReader A)) → lanes ≡ [] → HasLooked remaining never_fails ports olds olds lanes
looked_start {A} remaining never_fails ports olds lanes e =
    let none : HasLooked {A = A} remaining never_fails ports olds olds [] = record {
      numbered = λ i lane at. absurd (cc);
      each = λ i lane at. absurd (cc);
      few = omega arith;
      begins = λ texts are i lane r at there. absurd (cc);
      behind = λ i l. refl;
      lasts = λ sure. sure;
    } in
    subst (HasLooked remaining never_fails ports olds olds) (sym e) none

-- The next source still has its whole file contents.
text_next : {A R : Type 0} (remaining : R → Option (List ℕ)) (never_fails : R → Bool) (ports : List ℕ) (olds news : List R) (lanes : List (CaptureReader A)) (place number : ℕ) (d : R) (texts : ℕ → List ℕ) → length lanes ≡ place → place < length news → slice_get ports place ≡ Some number → HasLooked remaining never_fails ports olds news lanes → HaveTexts remaining ports texts olds → remaining (get_or news place d) ≡ Some (texts number)
text_next remaining never_fails ports olds news lanes place number d texts size l there h are = are place number (get_or news place d) there (sym (h.behind place (omega (arith, size))) ∙ slice_get-get_or news place d l)

-- If no source can fail, the next source can't fail.
pub sure_next : {R : Type 0} (never_fails : R → Bool) (news : List R) (i : ℕ) (d : R) → i < length news → AreUnfailing never_fails news → never_fails (get_or news i d) ≡ true
sure_next never_fails news i d l sure = sure (get_or news i d) (in_at news i (get_or news i d) (slice_get-get_or news i d l))

pub lasts_set : {R : Type 0} (never_fails : R → Bool) (news : List R) (i : ℕ) (d new : R) → i < length news → (never_fails (get_or news i d) ≡ true → never_fails new ≡ true) → AreUnfailing never_fails news → AreUnfailing never_fails (set news i new)
lasts_set never_fails news i d new l lasts sure = λ w at. elim (in_set news i new w at) [
  | inl e ↦ subst (λ z. never_fails z ≡ true) (sym e) (lasts (sure_next never_fails news i d l sure))
  | inr k ↦ sure w k
]

-- Extends a property of all readers by one more reader.
each_more : {A : Type 0} (P : ℕ → CaptureReader A → Type 0) (lanes : List (CaptureReader A)) (lane : CaptureReader A) (place : ℕ) → length lanes ≡ place → ((i : ℕ) (x : CaptureReader A) → slice_get lanes i ≡ Some x → P i x) → P place lane → (i : ℕ) (x : CaptureReader A) → slice_get (lanes ++ lane ∷ []) i ≡ Some x → P i x
each_more P lanes lane place size all one i x at = elim (cases_eq i (length lanes)) [
  | inl e ↦ let is : lane ≡ x = same_Some _ _ (sym (slice_get-last lanes lane i e) ∙ at) in subst (λ (z : ℕ). P z x) (sym (e ∙ size)) (subst (P place) is one)
  | inr n ↦ all i x (sym (slice_get-push lanes lane i n) ∙ at)
]

pub looked_more : {A R : Type 0} (remaining : R → Option (List ℕ)) (never_fails : R → Bool) (ports : List ℕ) (olds news : List R) (lanes more : List (CaptureReader A)) (lane : CaptureReader A) (place number : ℕ) (d new : R) → more ≡ lanes ++ lane ∷ [] → length lanes ≡ place → place < length news → slice_get ports place ≡ Some number → LooksAt remaining never_fails number (get_or news place d) new lane → HasLooked remaining never_fails ports olds news lanes → HasLooked remaining never_fails ports olds (set news place new) more
looked_more {A} {R} remaining never_fails ports olds news lanes more lane place number d new pushed size l there looks h =
    let long = length-append lanes (lane ∷ []) in
    subst (HasLooked remaining never_fails ports olds (set news place new)) (sym pushed) (record {
      numbered = each_more (λ i x. slice_get ports i ≡ Some x.number) lanes lane place size h.numbered (there ∙ ap Some (sym looks.number));
      each = each_more (λ i x. IsReader x) lanes lane place size h.each looks.each;
      few = let sum = sum_by_push frames_left lanes lane in let few = h.few in let one = looks.room in rw (sum, long) (omega (arith, few, one));
      begins = λ texts are i x r at has.
          let text = text_next remaining never_fails ports olds news lanes place number d texts size l there h are in
          each_more (λ i x. (r : R) → slice_get (set news place new) i ≡ Some r → IsOneAhead x (remaining r) (texts x.number) []) lanes lane place size
          (λ i x at r has. let w = slice_get_within lanes i x at in h.begins texts are i x r at (sym (slice_get-set_other news place i new (λ e. absurd (omega (arith, w, e, size)))) ∙ has))
          (λ r has.
          let is : new ≡ r = same_Some _ _ (sym (slice_get-set_same news place new l) ∙ has) in
          subst (λ z. IsOneAhead lane (remaining z) (texts lane.number) []) is (subst (λ (q : ℕ). IsOneAhead lane (remaining new) (texts q) []) (sym looks.number) (looks.begins (texts number) text)))
          i x at r has;
      behind = λ i k. slice_get-set_other news place i new (λ e. absurd (omega (arith, long, k, e, size))) ∙ h.behind i (omega (arith, long, k));
      lasts = λ sure. lasts_set never_fails news place d new l looks.lasts (h.lasts sure);
    })

-- End, or a fault.

pub few_enough : {A R : Type 0} (remaining : R → Option (List ℕ)) (never_fails : R → Bool) (ports : List ℕ) (olds news : List R) (lanes : List (CaptureReader A)) → length lanes ≤ 16 → HasLooked remaining never_fails ports olds news lanes → total_frames_left lanes ≤ MAX_ARRIVALS
few_enough remaining never_fails ports olds news lanes l h = let few = h.few in omega (arith, few, l)

pub begins_well : {A : Type 0} (text : List ℕ) (ahead : Option (Packet A)) → FindsNext text [] ahead → HasSoundStart text
begins_well text None f = inl f
begins_well text (Some p) f = inr (packet_frame p, f)

fails_at : (texts : ℕ → List ℕ) (rests : ℕ → Option (List ℕ)) (ports : List ℕ) (port : ℕ) (fault : CaptureFault) → FailsAtPort texts rests ports port fault → FailsToBegin texts rests ports (run_fault port fault)
fails_at texts rests ports port faults.NoMemory h = inr (port, h)
fails_at texts rests ports port fault h = h

-- Before the first read, all file contents are unread.
pub untaken : {R : Type 0} (remaining : R → Option (List ℕ)) (ports : List ℕ) (texts : ℕ → List ℕ) (rests : ℕ → Option (List ℕ)) (sources : List R) → length sources ≡ length ports → HaveTexts remaining ports texts sources → HaveRests remaining ports rests sources → AreUnread texts rests ports
untaken remaining ports texts rests sources size are left i q at =
    let w = slice_get_within ports i q at in
    let (r, has) = slice_get-some sources i (omega (arith, w, size)) in
    sym (left i q r at has) ∙ are i q r at has

-- The next capture has a fault, and the captures before it have none.
pub fails_next : {A R : Type 0} (remaining : R → Option (List ℕ)) (never_fails : R → Bool) (ports : List ℕ) (olds news : List R) (lanes : List (CaptureReader A)) (place number : ℕ) (d new : R) (fault : CaptureFault) (texts : ℕ → List ℕ) (rests : ℕ → Option (List ℕ)) → length lanes ≡ place → place < length news → slice_get ports place ≡ Some number → HasLooked remaining never_fails ports olds news lanes → HaveTexts remaining ports texts olds → HaveRests remaining ports rests (set news place new) → ((text : List ℕ) → remaining (get_or news place d) ≡ Some text → FailsAtFirst fault (remaining new) text) → FailsToBegin texts rests ports (run_fault number fault)
fails_next {A} {R} remaining never_fails ports olds news lanes place number d new fault texts rests size l there h are left fails =
    fails_at texts rests ports number fault (record {
      place = place;
      there = there;
      before = λ i q below at.
          let (lane, in_place) = slice_get-some lanes i (omega (arith, below, size)) in
          let (r, has) = slice_get-some news i (omega (arith, below, l)) in
          let is : lane.number ≡ q = same_Some _ _ (sym (h.numbered i lane in_place) ∙ at) in
          subst (λ (n : ℕ). HasSoundStart (texts n)) is (begins_well (texts lane.number) lane.ahead (h.begins texts are i lane r in_place has).finds);
      fault = subst (λ (o : Option (List ℕ)). FailsAtFirst fault o (texts number)) (left place number new there (slice_get-set_same news place new l))
          (fails (texts number) (text_next remaining never_fails ports olds news lanes place number d texts size l there h are));
    })

-- A run's capture fault comes from the first read of that port, and isn't lack of memory.
pub is_capture : (number port : ℕ) (fault told : CaptureFault) → run_fault number fault ≡ run.Capture port told → (number ≡ port) × (fault ≡ told) × ((told ≡ faults.NoMemory) → ⊥)
is_capture number port faults.NoMemory told e = absurd (cc)
is_capture number port fault told e = (cc, cc, λ none. absurd (cc))

-- The only source of the port has failed.
pub failed_next : {R : Type 0} (has_failed : R → Bool) (ports : List ℕ) (news : List R) (i number port : ℕ) (new : R) → IsOrdered (λ a b. a < b) ports → i < length news → slice_get ports i ≡ Some number → number ≡ port → has_failed new ≡ true → HasFailed has_failed ports port (set news i new)
failed_next has_failed ports news i number port new rises l there e failed = λ j w at has.
    let same : j ≡ i = one_place ports j i port rises at (there ∙ ap Some e) in
    let is : new ≡ w = same_Some _ _ (sym (slice_get-set_same news i new l) ∙ subst (λ (k : ℕ). slice_get (set news i new) k ≡ Some w) same has) in
    subst (λ z. has_failed z ≡ true) is failed
