-- A delayed capture as a value of the octets that the bridge sent.
use Rattle.std.proofs.Common.{◌≡◌, ℕ, zero, suc, Bool, true, false, ◌+◌, ◌-◌, ◌*◌, ◌≤◌, ◌<◌, List, [], ◌∷◌, ◌++◌, length, map, take, drop, nat_lt, Option, Some, None, refl, sym, ap, ◌∙◌, append_assoc, append-nil, arith}
use Rattle.std.specs.Prelude.{All, IfOk, Result, Ok, Err, if◌then◌else◌}
use Rattle.std.specs.List.{flat_map}
use Rattle.std.proofs.lemmas.Bool.Decides.{nat_tests}
use Rattle.std.proofs.lemmas.List.{take_rest}
use Rattle.std.proofs.lemmas.List.Elements.{All-head, All-tail}
use Rattle.std.proofs.lemmas.Option.{same_Some}
use Rattle.bridge_capture.specs.Grammar.{CapturedFrame}
use Rattle.bridge_capture.specs.WrittenCapture.{written_frame, written_header, written_text}
use Rattle.bridge_core.specs.CaptureWriters.{FitsRecord}
use Rattle.net_run.specs.DelayedCapture.{IsRecordAppended, IsWord, delayed, delayed_octets, delayed_record, delayed_records, delayed_text, delayed_time, record_and_more, time_words, word_at}
use Rattle.net_run.specs.BridgeRuns.{IsDelayedCapture}
use Rattle.net_run.proofs.Later.{adds_later, captured_is, item_length}

-- ONE RECORD

-- Octets that are shorter than a record's header have no record.
pub no_words : (delay : ℕ) (octets : List ℕ) → length octets < 16 → delayed_record delay octets ≡ None
no_words delay octets short =
    let test : nat_lt (length octets) 16 ≡ true = grind (arith, nat_tests) in
    ap (λ (b : Bool). if b then None else if nat_lt (length octets) (16 + word_at octets 8) then None else Some (delayed_octets delay (word_at octets 8) octets, drop (16 + word_at octets 8) octets)) test

-- The test of the record's length.
abbrev tested : ℕ → List ℕ → ℕ → Option (List ℕ × List ℕ)
tested delay octets captured = if nat_lt (length octets) (16 + captured) then None else Some (delayed_octets delay captured octets, drop (16 + captured) octets)

has_words : (delay : ℕ) (octets : List ℕ) → 16 ≤ length octets → delayed_record delay octets ≡ tested delay octets (word_at octets 8)
has_words delay octets long =
    let test : nat_lt (length octets) 16 ≡ false = grind (arith, nat_tests) in
    ap (λ (b : Bool). if b then None else tested delay octets (word_at octets 8)) test

-- Octets that are shorter than the record's length have no whole record.
pub no_octets : (delay : ℕ) (octets : List ℕ) (captured : ℕ) → 16 ≤ length octets → IsWord octets 8 captured → length octets < 16 + captured → delayed_record delay octets ≡ None
no_octets delay octets captured long at short =
    let test : nat_lt (length octets) (16 + captured) ≡ true = grind (arith, nat_tests) in
    has_words delay octets long
    ∙ (ap (tested delay octets) (sym at)
    ∙ ap (λ (b : Bool). if b then None else Some (delayed_octets delay captured octets, drop (16 + captured) octets)) test)

-- A whole record is found.
pub one_record : (delay : ℕ) (octets : List ℕ) (captured : ℕ) → 16 ≤ length octets → IsWord octets 8 captured → 16 + captured ≤ length octets → delayed_record delay octets ≡ Some (delayed_octets delay captured octets, drop (16 + captured) octets)
one_record delay octets captured long at whole =
    let test : nat_lt (length octets) (16 + captured) ≡ false = grind (arith, nat_tests) in
    has_words delay octets long
    ∙ (ap (tested delay octets) (sym at)
    ∙ ap (λ (b : Bool). if b then None else Some (delayed_octets delay captured octets, drop (16 + captured) octets)) test)

-- The first record is appended, delayed.
pub record_appended : (delay : ℕ) (octets old mid new : List ℕ) (seconds fraction captured : ℕ)
    → 16 ≤ length octets → 16 + captured ≤ length octets
    → IsWord octets 8 captured → IsWord octets 0 seconds → IsWord octets 4 fraction
    → mid ≡ old ++ time_words (delayed_time (seconds * 1000000000 + fraction) delay)
    → new ≡ mid ++ take (16 + captured - 8) (drop 8 octets)
    → IsRecordAppended delay octets old new (Some (take (length octets - (16 + captured)) (drop (16 + captured) octets)))
record_appended delay octets old mid new seconds fraction captured long whole at at_0 at_4 first second =
    let words : time_words (delayed_time (seconds * 1000000000 + fraction) delay) ≡ time_words (delayed_time (word_at octets 0 * 1000000000 + word_at octets 4) delay) =
    ap (λ (z : ℕ). time_words (delayed_time (z * 1000000000 + fraction) delay)) at_0 ∙ ap (λ (z : ℕ). time_words (delayed_time (word_at octets 0 * 1000000000 + z) delay)) at_4 in (
      delayed_octets delay captured octets,
      one_record delay octets captured long at whole ∙ ap (λ (z : List ℕ). Some (delayed_octets delay captured octets, z)) (sym (take_rest octets (16 + captured))),
      second ∙ (ap (λ (z : List ℕ). z ++ take (16 + captured - 8) (drop 8 octets)) (first ∙ ap (λ (z : List ℕ). old ++ z) words)
          ∙ append_assoc old (time_words (delayed_time (word_at octets 0 * 1000000000 + word_at octets 4) delay)) (take (16 + captured - 8) (drop 8 octets))),
    )

-- ALL RECORDS

-- While records are appended one by one, the text and the delayed records of the octets that are left give the same text.
pub record IsAppending (delay : ℕ) (octets old left text : List ℕ) : Type 0 where
  pub most : ℕ
  pub enough : length left ≤ most
  pub same : text ++ delayed_records most delay left ≡ old ++ delayed_records (length octets) delay octets

pub appending_none : (delay : ℕ) (octets old : List ℕ) → IsAppending delay octets old octets old
appending_none delay octets old = record { most = length octets; enough = omega arith; same = refl }

-- One record more.
pub appending_more : (delay : ℕ) (octets old left text next rest : List ℕ) → length rest < length left → IsRecordAppended delay left text next (Some rest) → IsAppending delay octets old left text → IsAppending delay octets old rest next
appending_more delay octets old left text next rest fewer one so_far = go so_far.most so_far.enough so_far.same
  where
    go : (most : ℕ) → length left ≤ most → text ++ delayed_records most delay left ≡ old ++ delayed_records (length octets) delay octets → IsAppending delay octets old rest next
    go zero enough same = absurd (omega (arith, fewer, enough))
    go (suc most) enough same = record {
      most = most;
      enough = omega (arith, fewer, enough);
      same = ap (λ (z : List ℕ). z ++ delayed_records most delay rest) one.2
          ∙ (append_assoc text one.0 (delayed_records most delay rest)
          ∙ (sym (ap (λ (z : Option (List ℕ × List ℕ)). text ++ record_and_more (delayed_records most delay) z) one.1) ∙ same));
    }

-- No record is left.
pub appending_all : (delay : ℕ) (octets old left text next : List ℕ) → next ≡ text → IsRecordAppended delay left text next None → IsAppending delay octets old left text → next ≡ old ++ delayed_records (length octets) delay octets
appending_all delay octets old left text next kept none so_far = kept ∙ (sym (append-nil text) ∙ (sym (ap (λ (z : List ℕ). text ++ z) (nothing so_far.most)) ∙ so_far.same))
  where
    nothing : (most : ℕ) → delayed_records most delay left ≡ []
    nothing zero = refl
    nothing (suc most) = ap (record_and_more (delayed_records most delay)) none

-- WRITTEN CAPTURES

-- The first record of a written capture, delayed.
written_record : (delay : ℕ) (c : CapturedFrame) (more : List ℕ) → FitsRecord c → delayed_record delay (written_frame c ++ more) ≡ Some (written_frame (delayed delay c), more)
written_record delay c more fits =
    let octets : List ℕ = written_frame c ++ more in
    let captured = captured_is c more fits in
    let long = item_length c more in
    let adds = adds_later delay octets [] (time_words (delayed_time (word_at octets 0 * 1000000000 + word_at octets 4) delay)) (delayed_octets delay (word_at octets 8) octets) (word_at octets 0) (word_at octets 4) (word_at octets 8)
    refl refl refl refl refl c more fits refl in
    one_record delay octets (word_at octets 8) (omega (arith, long)) refl (omega (arith, long, captured))
    ∙ (ap (λ (z : List ℕ). Some (z, drop (16 + word_at octets 8) octets)) adds.1
    ∙ ap (λ (z : List ℕ). Some (written_frame (delayed delay c), z)) (sym (take_rest octets (16 + word_at octets 8)) ∙ same_Some (take (length octets - (16 + word_at octets 8)) (drop (16 + word_at octets 8) octets)) more adds.0))

written_records : (most delay : ℕ) (cs : List CapturedFrame) → All FitsRecord cs → length (flat_map written_frame cs) ≤ most → delayed_records most delay (flat_map written_frame cs) ≡ flat_map written_frame (map (delayed delay) cs)
written_records zero delay [] fits enough = refl
written_records (suc most) delay [] fits enough = ap (record_and_more (delayed_records most delay)) (no_words delay [] (omega arith))
written_records zero delay (c ∷ cs) fits enough = let long = item_length c (flat_map written_frame cs) in absurd (omega (arith, long, enough))
written_records (suc most) delay (c ∷ cs) fits enough =
    let long = item_length c (flat_map written_frame cs) in
    ap (record_and_more (delayed_records most delay)) (written_record delay c (flat_map written_frame cs) (All-head FitsRecord c cs fits))
    ∙ ap (λ (z : List ℕ). written_frame (delayed delay c) ++ z) (written_records most delay cs (All-tail FitsRecord c cs fits) (omega (arith, long, enough)))

-- A text with a header.
pub with_header : (delay : ℕ) (text : List ℕ) → 24 ≤ length text → delayed_text delay text ≡ take 24 text ++ delayed_records (length (drop 24 text)) delay (drop 24 text)
with_header delay text long =
    let test : nat_lt (length text) 24 ≡ false = grind (arith, nat_tests) in
    ap (λ (b : Bool). if b then [] else take 24 text ++ delayed_records (length (drop 24 text)) delay (drop 24 text)) test

-- A text without a whole header.
pub without_header : (delay : ℕ) (text : List ℕ) → length text < 24 → delayed_text delay text ≡ []
without_header delay text short =
    let test : nat_lt (length text) 24 ≡ true = grind (arith, nat_tests) in
    ap (λ (b : Bool). if b then [] else take 24 text ++ delayed_records (length (drop 24 text)) delay (drop 24 text)) test

-- A written capture, delayed, is the capture of the delayed frames.
pub written_later : (delay : ℕ) (cs : List CapturedFrame) → All FitsRecord cs → delayed_text delay (written_text cs) ≡ written_text (map (delayed delay) cs)
written_later delay cs fits =
    with_header delay (written_text cs) (omega arith)
    ∙ ap (λ (z : List ℕ). written_header ++ z) (written_records (length (flat_map written_frame cs)) delay cs fits (omega arith))

-- What a link delivers of a sent capture.
pub delivered : (delay : ℕ) (tap sent text : List ℕ) → sent ≡ tap → text ≡ delayed_text delay sent → IsDelayedCapture delay tap text
delivered delay tap sent text same is frames written = is ∙ (ap (delayed_text delay) (same ∙ written.is) ∙ written_later delay frames written.fits)

pub delivered_if : {E : Type 0} (delay : ℕ) (tap sent : List ℕ) (r : Result (List ℕ) E) → sent ≡ tap → IfOk r (λ text. text ≡ delayed_text delay sent) → IfOk r (IsDelayedCapture delay tap)
delivered_if delay tap sent (Ok text) same is = delivered delay tap sent text same is
delivered_if delay tap sent (Err e) same is = tt

-- If no capture was sent, every input is what a link delivers: a written capture has a header.
pub delivered_nothing : (delay : ℕ) (tap text : List ℕ) → [] ≡ tap → IsDelayedCapture delay tap text
delivered_nothing delay tap text none frames written = let long = ap length (none ∙ written.is) in absurd (omega (arith, long))
