-- Sinks after one more write.
use Rattle.std.proofs.Common.{◌≡◌, ◌≢◌, ℕ, zero, suc, Bool, true, ◌+◌, ◌*◌, ◌^◌, ◌<◌, ◌≤◌, nat_eq, List, [], ◌∷◌, ◌++◌, length, refl, ap, ◌∙◌, sym, subst, arith, Option, Some, append-nil, slice_index_or, slice_set, take}
use Rattle.std.specs.Prelude.{All, slice_get, if◌then◌else◌}
use Rattle.std.specs.List.{flat_map}
use Rattle.std.specs.Io.KnownBytes.{Appends}
use Rattle.std.proofs.KnownBytes.{Appends-trans}
use Rattle.std.proofs.lemmas.Bool.{eqb-true, eqb-false, eq-eqb}
use Rattle.std.proofs.lemmas.Option.{same_Some, slice_get_within}
use Rattle.std.proofs.lemmas.List.{length-set, take_more}
use Rattle.std.proofs.lemmas.List.Elements.{All-nil, All-push}
use Rattle.bridge_limits.specs.Members.{IsOrdered}
use Rattle.bridge_limits.specs.declared.TheConstants.{LONGEST_FRAME}
use Rattle.bridge_limits.proofs.Cases.{by_bool}
use Rattle.bridge_limits.proofs.Lists.{set_there, set_is}
use Rattle.bridge_capture.specs.Grammar.{CapturedFrame}
use Rattle.bridge_capture.specs.WrittenCapture.{written_header, written_frame, written_text}
use Rattle.bridge_capture.specs.Sinks.{AppendsPrefix}
use Rattle.bridge_capture.proofs.Written.{front_of_second, written_more}
use Rattle.bridge_core.specs.declared.capture_writer.CaptureWriter.{CaptureWriter}
use Rattle.bridge_relay.specs.declared.relay.Sent.{Sent}
use Rattle.bridge_relay.specs.RelayState.{sent_record, with_sent_frame}
use Rattle.bridge_capture.specs.Devices.{HasFailed}
use Rattle.bridge_capture.proofs.Looks.{one_place}
use Rattle.bridge_core.specs.CaptureWriters.{AreWritten, AreWrittenExceptOne, FitsRecord, HasWritten, writer_ports, StopsAtHeader}

-- INDICES OF RISING NUMBERS

-- NUMBERS OF WRITERS

pub numbers_length : (lines : List CaptureWriter) → length (writer_ports lines) ≡ length lines
numbers_length [] = refl
numbers_length (line ∷ more) = ap suc (numbers_length more)

pub number_at : (lines : List CaptureWriter) (i : ℕ) (d : CaptureWriter) → i < length lines → slice_get (writer_ports lines) i ≡ Some (slice_index_or lines i d).number
number_at [] i d h = absurd (omega arith)
number_at (line ∷ more) zero d h = refl
number_at (line ∷ more) (suc i) d h = number_at more i d (omega arith)

pub numbers_set : (lines : List CaptureWriter) (i : ℕ) (d x : CaptureWriter) → x.number ≡ (slice_index_or lines i d).number → writer_ports (slice_set lines i x) ≡ writer_ports lines
numbers_set [] i d x e = refl
numbers_set (line ∷ more) zero d x e = ap (λ n. n ∷ writer_ports more) e
numbers_set (line ∷ more) (suc i) d x e = ap (λ l. line.number ∷ l) (numbers_set more i d x e)

pub numbers_push : (lines : List CaptureWriter) (x : CaptureWriter) → writer_ports (lines ++ x ∷ []) ≡ writer_ports lines ++ x.number ∷ []
numbers_push [] x = refl
numbers_push (line ∷ more) x = ap (λ l. line.number ∷ l) (numbers_push more x)

-- The port number at an index.
pub number_found : (lines now : List CaptureWriter) (place port : ℕ) (d : CaptureWriter) → lines ≡ now → place < length now → (slice_index_or lines place d).number ≡ port → slice_get (writer_ports now) place ≡ Some port
number_found lines now place port d same below test = number_at now place d below ∙ ap Some (ap (λ (l : List CaptureWriter). (slice_index_or l place d).number) (sym same) ∙ test)

-- Holds if no index before `place` has the port number.
abbrev pub NoneBefore : List ℕ → ℕ → ℕ → Type 0
NoneBefore ports port place = (i q : ℕ) → i < place → slice_get ports i ≡ Some q → q ≢ port

pub none_more : (lines now : List CaptureWriter) (place port : ℕ) (d : CaptureWriter) → lines ≡ now → place < length now → (slice_index_or lines place d).number ≢ port → NoneBefore (writer_ports now) port place → NoneBefore (writer_ports now) port (place + 1)
none_more lines now place port d same below test none i q less is =
    by_bool (nat_eq i place)
    (λ e.
    let at : slice_get (writer_ports now) place ≡ Some q = subst (λ j. slice_get (writer_ports now) j ≡ Some q) (eqb-true i place e) is in
    let number : (slice_index_or now place d).number ≡ q = same_Some (slice_index_or now place d).number q (sym (number_at now place d below) ∙ at) in
    λ z. test (ap (λ (l : List CaptureWriter). (slice_index_or l place d).number) same ∙ (number ∙ z)))
    (λ e. none i q (let other = eqb-false i place e in omega arith) is)

-- ONE FRAME MORE

pub one_here : {A : Type 0} (left : ℕ → List CapturedFrame) (sent : Sent A) (q : ℕ) → q ≡ sent.port → with_sent_frame left sent q ≡ left q ++ sent_record sent ∷ []
one_here left sent q e = ap (λ b. if b then left q ++ sent_record sent ∷ [] else left q) (eq-eqb q sent.port e)

pub one_there : {A : Type 0} (left : ℕ → List CapturedFrame) (sent : Sent A) (q : ℕ) → q ≢ sent.port → with_sent_frame left sent q ≡ left q
one_there left sent q n = by_bool (nat_eq q sent.port) (λ e. absurd (n (eqb-true q sent.port e))) (λ e. ap (λ b. if b then left q ++ sent_record sent ∷ [] else left q) e)

-- The frame fits its record.
pub fits_record : {A : Type 0} (sent : Sent A) → sent.done < 2 ^ 32 * 10 ^ 9 → length sent.octets.items ≤ sent.len → sent.len ≤ LONGEST_FRAME → FitsRecord (sent_record sent)
fits_record sent early within short = record {
  seconds = early;
  captured = omega (arith, within, short);
  within = within;
  original = omega (arith, short);
}

one_item : (x : CapturedFrame) → flat_map written_frame (x ∷ []) ≡ written_frame x
one_item x = append-nil (written_frame x)

-- The capture with one frame more.
pub text_more : {A : Type 0} (left : ℕ → List CapturedFrame) (sent : Sent A) (q : ℕ) → q ≡ sent.port → written_text (with_sent_frame left sent q) ≡ written_text (left q) ++ written_frame (sent_record sent)
text_more left sent q e = ap written_text (one_here left sent q e) ∙ (written_more (left q) (sent_record sent ∷ []) ∙ ap (λ l. written_text (left q) ++ l) (one_item (sent_record sent)))

-- The frame was written to the sink of its port.
pub writes_one : {A W : Type 0} (contents : W → Option (List ℕ)) (ports : List ℕ) (olds mids : List W) (left : ℕ → List CapturedFrame) (sent : Sent A) (place : ℕ) (mid new : W) → IsOrdered (λ a b. a < b) ports → slice_get ports place ≡ Some sent.port → slice_get mids place ≡ Some mid → Appends (contents mid) (contents new) (written_frame (sent_record sent)) → FitsRecord (sent_record sent) → AreWritten contents ports olds mids left → AreWritten contents ports olds (slice_set mids place new) (with_sent_frame left sent)
writes_one {A} {W} contents ports olds mids left sent place mid new r at was more fits h i q old w port old_is new_is =
    by_bool (nat_eq i place)
    (λ e.
    let same : i ≡ place = eqb-true i place e in
    let here : slice_get ports place ≡ Some q = subst (λ j. slice_get ports j ≡ Some q) same port in
    let is : q ≡ sent.port = sym (same_Some sent.port q (sym at ∙ here)) in
    let now : new ≡ w = set_is mids place new w (subst (λ j. slice_get (slice_set mids place new) j ≡ Some w) same new_is) in
    let mid_is : slice_get mids i ≡ Some mid = subst (λ j. slice_get mids j ≡ Some mid) (sym same) was in
    let so_far = h i q old mid port old_is mid_is in (
      subst (λ z. Appends (contents old) (contents z) (written_text (with_sent_frame left sent q))) now
          (subst (Appends (contents old) (contents new)) (sym (text_more left sent q is))
          (Appends-trans (contents old) (contents mid) (contents new) (written_text (left q)) (written_frame (sent_record sent)) so_far.0 more)),
      subst (All FitsRecord) (sym (one_here left sent q is)) (All-push FitsRecord (left q) (sent_record sent) so_far.1 fits),
    ))
    (λ e.
    let other : i ≢ place = eqb-false i place e in
    let is : q ≢ sent.port = λ z. other (one_place ports i place q r port (at ∙ ap Some (sym z))) in
    subst (HasWritten (contents old) (contents w)) (sym (one_there left sent q is))
    (h i q old w port old_is (sym (set_there mids place i new other) ∙ new_is)))

-- The sink of its port failed.
pub breaks_one : {A W : Type 0} (contents : W → Option (List ℕ)) (ports : List ℕ) (olds mids : List W) (left : ℕ → List CapturedFrame) (sent : Sent A) (place : ℕ) (mid new : W) → IsOrdered (λ a b. a < b) ports → slice_get ports place ≡ Some sent.port → slice_get mids place ≡ Some mid → AppendsPrefix (contents mid) (contents new) (written_frame (sent_record sent)) → AreWritten contents ports olds mids left → AreWrittenExceptOne contents sent.port ports olds (slice_set mids place new) (with_sent_frame left sent)
breaks_one {A} {W} contents ports olds mids left sent place mid new r at was front h = record {
  place = place;
  there = at;
  others = λ i q old w port is old_is new_is.
      let other : i ≢ place = λ same. is (sym (same_Some sent.port q (sym at ∙ subst (λ j. slice_get ports j ≡ Some q) same port))) in
      subst (λ l. Appends (contents old) (contents w) (written_text l)) (sym (one_there left sent q is))
      (h i q old w port old_is (sym (set_there mids place i new other) ∙ new_is)).0;
  broken = λ i old w port old_is new_is.
      let same : i ≡ place = one_place ports i place sent.port r port at in
      let now : new ≡ w = set_is mids place new w (subst (λ j. slice_get (slice_set mids place new) j ≡ Some w) same new_is) in
      let mid_is : slice_get mids i ≡ Some mid = subst (λ j. slice_get mids j ≡ Some mid) (sym same) was in
      subst (λ z. AppendsPrefix (contents old) (contents z) (written_text (with_sent_frame left sent sent.port))) now
      (subst (AppendsPrefix (contents old) (contents new)) (sym (text_more left sent sent.port refl))
      (front_of_second (contents old) (contents mid) (contents new) (written_text (left sent.port)) (written_frame (sent_record sent)) (h i sent.port old mid port old_is mid_is).0 front));
}

-- No sink belongs to its port.
pub writes_none : {A W : Type 0} (contents : W → Option (List ℕ)) (ports : List ℕ) (olds mids : List W) (left : ℕ → List CapturedFrame) (sent : Sent A) → ((i q : ℕ) → slice_get ports i ≡ Some q → q ≢ sent.port) → AreWritten contents ports olds mids left → AreWritten contents ports olds mids (with_sent_frame left sent)
writes_none contents ports olds mids left sent none h i q old w port old_is new_is =
    subst (HasWritten (contents old) (contents w)) (sym (one_there left sent q (none i q port))) (h i q old w port old_is new_is)

-- HEADERS, ONE SINK AFTER THE OTHER

-- Holds if the sinks before `place` have headers, and the other sinks are unchanged.
pub record HaveHeaders {W : Type 0} (contents : W → Option (List ℕ)) (olds news : List W) (place : ℕ) : Type 0 where
  pub before : (i : ℕ) (old new : W) → i < place → slice_get olds i ≡ Some old → slice_get news i ≡ Some new → Appends (contents old) (contents new) written_header
  pub behind : (i : ℕ) → place ≤ i → slice_get news i ≡ slice_get olds i
  pub size : length news ≡ length olds

pub headers_none : {W : Type 0} (contents : W → Option (List ℕ)) (olds : List W) → HaveHeaders contents olds olds 0
headers_none contents olds = record { before = λ i old new below old_is new_is. absurd (omega arith); behind = λ i past. refl; size = refl }

-- The next sink received its header.
pub headers_more : {W : Type 0} (contents : W → Option (List ℕ)) (olds mids : List W) (place : ℕ) (mid new : W) → slice_get mids place ≡ Some mid → Appends (contents mid) (contents new) written_header → HaveHeaders contents olds mids place → HaveHeaders contents olds (slice_set mids place new) (place + 1)
headers_more {W} contents olds mids place mid new was more h = record {
  before = λ i old w below old_is new_is.
      by_bool (nat_eq i place)
      (λ e.
      let same : i ≡ place = eqb-true i place e in
      let now : new ≡ w = set_is mids place new w (subst (λ j. slice_get (slice_set mids place new) j ≡ Some w) same new_is) in
      let is : old ≡ mid = same_Some old mid (sym old_is ∙ (ap (slice_get olds) same ∙ (sym (h.behind place (omega arith)) ∙ was))) in
      subst (λ z. Appends (contents old) (contents z) written_header) now (subst (λ z. Appends (contents z) (contents new) written_header) (sym is) more))
      (λ e.
      let other : i ≢ place = eqb-false i place e in
      h.before i old w (omega arith) old_is (sym (set_there mids place i new other) ∙ new_is));
  behind = λ i past. set_there mids place i new (λ e. absurd (omega arith)) ∙ h.behind i (omega arith);
  size = length-set mids place new ∙ h.size;
}

-- The next sink failed at its header.
pub headers_stop : {W : Type 0} (contents : W → Option (List ℕ)) (has_failed : W → Bool) (ports : List ℕ) (olds mids : List W) (place port : ℕ) (mid new : W) → slice_get ports place ≡ Some port → slice_get mids place ≡ Some mid → AppendsPrefix (contents mid) (contents new) written_header → has_failed new ≡ true → HaveHeaders contents olds mids place → StopsAtHeader contents has_failed ports port olds (slice_set mids place new)
headers_stop {W} contents has_failed ports olds mids place port mid new at was front fails h = record {
  place = place;
  there = at;
  before = λ i old w below old_is new_is. h.before i old w below old_is (sym (set_there mids place i new (λ e. absurd (omega arith))) ∙ new_is);
  broken = λ old w old_is new_is.
      let now : new ≡ w = set_is mids place new w new_is in
      let is : old ≡ mid = same_Some old mid (sym old_is ∙ (sym (h.behind place (omega arith)) ∙ was)) in
      subst (λ z. AppendsPrefix (contents old) (contents z) written_header) now (subst (λ z. AppendsPrefix (contents z) (contents new) written_header) (sym is) front);
  failed = λ w is. subst (λ z. has_failed z ≡ true) (set_is mids place new w is) fails;
  behind = λ i past. set_there mids place i new (λ e. absurd (omega arith)) ∙ h.behind i (omega arith);
}

-- All sinks have headers.
pub headers_all : {W : Type 0} (contents : W → Option (List ℕ)) (ports : List ℕ) (olds news : List W) (place : ℕ) → length ports ≤ place → HaveHeaders contents olds news place → AreWritten contents ports olds news (λ q. [])
headers_all contents ports olds news place all h i q old new port old_is new_is =
    let inside = slice_get_within ports i q port in
    (h.before i old new (omega arith) old_is new_is, All-nil FitsRecord)

-- If the port numbers rise, only one sink belongs to the port that stopped the run.
pub stop_failed : {W : Type 0} (contents : W → Option (List ℕ)) (has_failed : W → Bool) (ports : List ℕ) (port : ℕ) (olds news : List W) → IsOrdered (λ a b. a < b) ports → StopsAtHeader contents has_failed ports port olds news → HasFailed has_failed ports port news
stop_failed contents has_failed ports port olds news r s i w at is =
    s.failed w (subst (λ j. slice_get news j ≡ Some w) (one_place ports i s.place port r at s.there) is)

-- The port numbers of the writers, with one more.
pub numbers_more : (lines next : List CaptureWriter) (x : CaptureWriter) (ports : List ℕ) (place : ℕ) → next ≡ lines ++ x ∷ [] → place < length ports → x.number ≡ slice_index_or ports place 0 → writer_ports lines ≡ take place ports → writer_ports next ≡ take (place + 1) ports
numbers_more lines next x ports place pushed below is so_far =
    ap writer_ports pushed ∙ (numbers_push lines x ∙ (ap (λ l. l ++ x.number ∷ []) so_far ∙ (ap (λ n. take place ports ++ n ∷ []) is ∙ sym (take_more ports place 0 below))))
