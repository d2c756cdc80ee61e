-- The agenda of the readers' next frames.
use Rattle.std.proofs.Common.{◌≡◌, ◌≢◌, ℕ, zero, suc, Bool, true, false, ◌+◌, ◌-◌, ◌<◌, ◌≤◌, nat_eq, List, length, slice_get, slice_set, arith, refl, ap, sym, subst, ◌∙◌, inl, inr, Option, Some, None}
use Rattle.std.specs.Prelude.{IfSome, if◌then◌else◌, option_and_then, option_map}
use Rattle.std.proofs.lemmas.Bool.{cases_lt, eqb-true, eqb-false}
use Rattle.std.proofs.lemmas.Option.{none-some, same_Some, slice_get_past}
use Rattle.bridge_limits.proofs.Cases.{by_bool}
use Rattle.bridge_limits.proofs.Lists.{set_there}
use Rattle.bridge_capture.specs.declared.packet.Packet.{Packet}
use Rattle.bridge_events.specs.Least.{IsLeast}
use Rattle.bridge_capture.specs.declared.capture_reader.CaptureReader.{CaptureReader}
use Rattle.bridge_capture.specs.CaptureReaders.{IsEarliestReader}
use Rattle.bridge_core.specs.Running.{AreHeads, AreHeadsLater, IsHeadEarlier, nth_head_time, head_time}

-- THE LEAST TIME

-- Holds if the reader of entry `port` has a next frame at time `moment`.
pub record IsHead {A : Type 0} (lanes : List (CaptureReader A)) (port moment : ℕ) : Type 0 where
  pub from : 1 ≤ port
  pub lane : CaptureReader A
  pub packet : Packet A
  pub there : slice_get lanes (port - 1) ≡ Some lane
  pub ahead : lane.ahead ≡ Some packet
  pub time : packet.time ≡ moment

head_of : {A : Type 0} (lanes : List (CaptureReader A)) (i moment : ℕ) (l : CaptureReader A) (o : Option (Packet A)) → slice_get lanes i ≡ Some l → l.ahead ≡ o → option_map (λ (p : Packet A). p.time) o ≡ Some moment → IsHead lanes (suc i) moment
head_of lanes i moment l None there ahead is = absurd (none-some moment is)
head_of lanes i moment l (Some p) there ahead is = record {
  from = omega arith;
  lane = l;
  packet = p;
  there = let same : i ≡ suc i - 1 = omega arith in subst (λ (n : ℕ). slice_get lanes n ≡ Some l) same there;
  ahead = ahead;
  time = same_Some p.time moment is;
}

head_there : {A : Type 0} (lanes : List (CaptureReader A)) (i moment : ℕ) (o : Option (CaptureReader A)) → slice_get lanes i ≡ o → option_and_then head_time o ≡ Some moment → IsHead lanes (suc i) moment
head_there lanes i moment None there is = absurd (none-some moment is)
head_there lanes i moment (Some l) there is = head_of lanes i moment l l.ahead there refl is

head_at : {A : Type 0} (lanes : List (CaptureReader A)) (port moment : ℕ) → nth_head_time lanes port ≡ Some moment → IsHead lanes port moment
head_at lanes zero moment is = absurd (none-some moment is)
head_at lanes (suc i) moment is = head_there lanes i moment (slice_get lanes i) refl is

-- The least time is the time of a next frame.
pub head_is : {A : Type 0} (held : ℕ → Option ℕ) (lanes : List (CaptureReader A)) (port moment : ℕ) → AreHeads held lanes → IsLeast held (Some (port, moment)) → IsHead lanes port moment
head_is held lanes port moment heads least = head_at lanes port moment (sym (heads.each port) ∙ least.0)

moment_there : {A : Type 0} (lanes : List (CaptureReader A)) (i : ℕ) (l : CaptureReader A) (p : Packet A) → slice_get lanes i ≡ Some l → l.ahead ≡ Some p → nth_head_time lanes (suc i) ≡ Some p.time
moment_there {A} lanes i l p there ahead = ap (λ (o : Option (CaptureReader A)). option_and_then head_time o) there ∙ ap (λ (o : Option (Packet A)). option_map (λ (d : Packet A). d.time) o) ahead

-- The agenda has the time of each next frame.
held_there : {A : Type 0} (held : ℕ → Option ℕ) (lanes : List (CaptureReader A)) (i : ℕ) (l : CaptureReader A) (p : Packet A) → AreHeads held lanes → slice_get lanes i ≡ Some l → l.ahead ≡ Some p → held (suc i) ≡ Some p.time
held_there held lanes i l p heads there ahead = heads.each (suc i) ∙ moment_there lanes i l p there ahead

-- The frame with the least time is the earliest.
pub first_at : {A : Type 0} (held : ℕ → Option ℕ) (lanes : List (CaptureReader A)) (port moment : ℕ) → AreHeads held lanes → IsLeast held (Some (port, moment)) → IsEarliestReader lanes (port - 1)
first_at held lanes port moment heads least =
    let h = head_is held lanes port moment heads least in
    let is = h.time in
    record {
      lane = h.lane;
      packet = h.packet;
      there = h.there;
      ahead = h.ahead;
      least = λ i l p there ahead. elim (least.1 (suc i) p.time (held_there held lanes i l p heads there ahead)) [
        | inl later ↦ inl (omega (arith, later, is))
        | inr same ↦ let z = same.0 in let low = same.1 in inr (omega (arith, z, is), omega (arith, low))
      ];
    }

-- The frame is before a limit if the least time is.
pub before_at : {A : Type 0} (until : Option ℕ) (lanes : List (CaptureReader A)) (port moment : ℕ) → IsHead lanes port moment → IfSome until (λ t. moment < t) → IsHeadEarlier until lanes (port - 1)
before_at {A} until lanes port moment h before l c there ahead =
    let lane : h.lane ≡ l = same_Some h.lane l (sym h.there ∙ there) in
    let packet : h.packet ≡ c = same_Some h.packet c (sym h.ahead ∙ (ap (λ (z : CaptureReader A). z.ahead) lane ∙ ahead)) in
    let same : moment ≡ c.time = sym h.time ∙ ap (λ (z : Packet A). z.time) packet in
    subst (λ (n : ℕ). IfSome until (λ t. n < t)) same before

-- No frame is before a limit if the least time isn't.
pub later_at : {A : Type 0} (held : ℕ → Option ℕ) (until : Option ℕ) (lanes : List (CaptureReader A)) (port moment : ℕ) → AreHeads held lanes → IsLeast held (Some (port, moment)) → (t : ℕ) × (until ≡ Some t) × (t ≤ moment) → AreHeadsLater until lanes
later_at held until lanes port moment heads least (t, is, low) i l p there ahead = (
  t,
  is,
  elim (least.1 (suc i) p.time (held_there held lanes i l p heads there ahead)) [
    | inl later ↦ omega (arith, later, low)
    | inr same ↦ let z = same.0 in omega (arith, z, low)
  ],
)

-- If the agenda is empty, no reader has a next frame.
pub none_later : {A : Type 0} (held : ℕ → Option ℕ) (until : Option ℕ) (lanes : List (CaptureReader A)) → AreHeads held lanes → IsLeast held None → AreHeadsLater until lanes
none_later held until lanes heads none i l p there ahead = absurd (none-some p.time (sym (none (suc i)) ∙ held_there held lanes i l p heads there ahead))

-- ONE ENTRY MORE

-- The entry that was set, and the other entries.
set_here : {A : Type 0} (was now : ℕ → Option ℕ) (lanes : List (CaptureReader A)) (place : ℕ) (l : CaptureReader A) (q : ℕ) → slice_get lanes place ≡ Some l → now q ≡ (if nat_eq q (place + 1) then head_time l else was q) → nat_eq q (place + 1) ≡ true → now q ≡ nth_head_time lanes q
set_here {A} was now lanes place l q there set here =
    let same = eqb-true q (place + 1) here in
    let is : q ≡ suc place = omega (arith, same) in
    let own : head_time l ≡ nth_head_time lanes q = subst (λ (n : ℕ). head_time l ≡ nth_head_time lanes n) (sym is) (sym (ap (λ (o : Option (CaptureReader A)). option_and_then head_time o) there)) in
    set ∙ (ap (λ (b : Bool). if b then head_time l else was q) here ∙ own)

set_elsewhere : (was now : ℕ → Option ℕ) (place : ℕ) (o : Option ℕ) (q : ℕ) → now q ≡ (if nat_eq q (place + 1) then o else was q) → nat_eq q (place + 1) ≡ false → now q ≡ was q
set_elsewhere was now place o q set other = set ∙ ap (λ (b : Bool). if b then o else was q) other

-- All entries are right once the last one is.
pub heads_noted : {A : Type 0} (was now : ℕ → Option ℕ) (lanes : List (CaptureReader A)) (place : ℕ) (l : CaptureReader A) → length lanes ≤ 16 → slice_get lanes place ≡ Some l → ((q : ℕ) → q ≢ place + 1 → was q ≡ nth_head_time lanes q) → ((q : ℕ) → now q ≡ (if nat_eq q (place + 1) then head_time l else was q)) → AreHeads now lanes
heads_noted was now lanes place l few there others set = record {
  few = few;
  each = λ q. by_bool (nat_eq q (place + 1))
      (λ e. set_here was now lanes place l q there (set q) e)
      (λ e. set_elsewhere was now place (head_time l) q (set q) e ∙ others q (eqb-false q (place + 1) e));
}

-- The other entries keep their frames.
moment_but : {A : Type 0} (lanes : List (CaptureReader A)) (place : ℕ) (m : CaptureReader A) (q : ℕ) → q ≢ place + 1 → nth_head_time (slice_set lanes place m) q ≡ nth_head_time lanes q
moment_but lanes place m zero n = refl
moment_but {A} lanes place m (suc i) n = ap (λ (o : Option (CaptureReader A)). option_and_then head_time o) (set_there lanes place i m (λ e. n (omega (arith, e))))

-- If one reader changed, the entries of the others are still right.
pub heads_but : {A : Type 0} (held : ℕ → Option ℕ) (lanes new : List (CaptureReader A)) (place : ℕ) (m : CaptureReader A) → new ≡ slice_set lanes place m → AreHeads held lanes → (q : ℕ) → q ≢ place + 1 → held q ≡ nth_head_time new q
heads_but {A} held lanes new place m is heads q n = heads.each q ∙ sym (ap (λ (ls : List (CaptureReader A)). nth_head_time ls q) is ∙ moment_but lanes place m q n)

-- ENTRY BY ENTRY

-- Holds if the agenda has exactly the times of the first `n` readers.
pub record AreFirstHeads {A : Type 0} (held : ℕ → Option ℕ) (lanes : List (CaptureReader A)) (n : ℕ) : Type 0 where
  pub so_far : (q : ℕ) → q ≤ n → held q ≡ nth_head_time lanes q
  pub none : (q : ℕ) → n < q → held q ≡ None

none_at : {A : Type 0} (lanes : List (CaptureReader A)) (q : ℕ) → q ≤ 0 → None ≡ nth_head_time lanes q
none_at lanes zero l = refl
none_at lanes (suc i) l = absurd (omega (arith, l))

pub heads_none : {A : Type 0} (held : ℕ → Option ℕ) (lanes : List (CaptureReader A)) → ((q : ℕ) → held q ≡ None) → AreFirstHeads held lanes 0
heads_none held lanes none = record { so_far = λ q l. none q ∙ none_at lanes q l; none = λ q l. none q }

pub heads_more : {A : Type 0} (was now : ℕ → Option ℕ) (lanes : List (CaptureReader A)) (place : ℕ) (l : CaptureReader A) → slice_get lanes place ≡ Some l → ((q : ℕ) → now q ≡ (if nat_eq q (place + 1) then head_time l else was q)) → AreFirstHeads was lanes place → AreFirstHeads now lanes (place + 1)
heads_more was now lanes place l there set h = record {
  so_far = λ q within. by_bool (nat_eq q (place + 1))
      (λ e. set_here was now lanes place l q there (set q) e)
      (λ e. let other = eqb-false q (place + 1) e in set_elsewhere was now place (head_time l) q (set q) e ∙ h.so_far q (omega (arith, within, other)));
  none = λ q past. by_bool (nat_eq q (place + 1))
      (λ e. absurd (let same = eqb-true q (place + 1) e in omega (arith, past, same)))
      (λ e. set_elsewhere was now place (head_time l) q (set q) e ∙ h.none q (omega (arith, past)));
}

none_past : {A : Type 0} (lanes : List (CaptureReader A)) (n q : ℕ) → length lanes ≤ n → n < q → None ≡ nth_head_time lanes q
none_past lanes n zero all past = absurd (omega (arith, past))
none_past {A} lanes n (suc i) all past = sym (ap (λ (o : Option (CaptureReader A)). option_and_then head_time o) (slice_get_past lanes i (omega (arith, all, past))))

pub heads_all : {A : Type 0} (held : ℕ → Option ℕ) (lanes : List (CaptureReader A)) (n : ℕ) → length lanes ≤ n → length lanes ≤ 16 → AreFirstHeads held lanes n → AreHeads held lanes
heads_all held lanes n all few h = record {
  few = few;
  each = λ q. elim (cases_lt n q) [ inl past ↦ h.none q past ∙ none_past lanes n q all past | inr within ↦ h.so_far q within ];
}
