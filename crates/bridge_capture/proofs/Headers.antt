-- Header of a capture, from the octets that were read.
use Rattle.std.proofs.Common.{◌≡◌, ℕ, ◌≤◌, ◌<◌, List, [], ◌++◌, length, take, drop, Option, Some, None, Result, Ok, Err, refl, sym, ap, ◌∙◌, subst, arith}
use Rattle.std.specs.Int.{w32, from_le_bytes}
use Rattle.std.specs.Io.KnownBytes.{Consumes, IsAtEnd}
use Rattle.std.proofs.lemmas.Bool.{le-ltb, lt-ltb}
use Rattle.std.proofs.lemmas.List.{length-append, append-nil, drop_at}
use lib.Seq.{take-append-le}
use Rattle.bridge_capture.specs.declared.format.CaptureFormat.{CaptureFormat}
use Rattle.bridge_capture.specs.declared.capture_fault.CaptureFault.{CaptureFault}
use Rattle.bridge_capture.specs.declared.capture_fault.CaptureFault.TheVariants as faults
use Rattle.bridge_capture.specs.declared.progress.Progress.TheVariants.{Reading}
use Rattle.bridge_capture.specs.Grammar.{IsCapture, ReadsBody, AtFault, format_by_magic, format_after_magic, header_format}
use Rattle.bridge_capture.specs.Reading.{IsHeaderFault}
use Rattle.bridge_capture.specs.StandsFor.{StandsFor, BeginsCapture}
use Rattle.bridge_capture.specs.TakenOctets.{TakesFewer}
use Rattle.bridge_capture.proofs.Fronts.{octets_front}

-- A capture with a header fault has no frames and ends with that fault.
records_fault : (text : List ℕ) (fault : CaptureFault) → header_format text ≡ Err fault → IsCapture text [] (AtFault fault)
records_fault text fault e = subst (λ (r : Result CaptureFormat CaptureFault). ReadsBody r text [] (AtFault fault)) (sym e) (refl, refl)

pub begun_fault : (text : List ℕ) (left : Option (List ℕ)) (fault : CaptureFault) → IsHeaderFault fault → header_format text ≡ Err fault → BeginsCapture text left (Err fault)
begun_fault text left faults.Read own e = absurd own
begun_fault text left fault own e = records_fault text fault e

-- The source failed within the header.
pub begun_short : (old new : Option (List ℕ)) (text : List ℕ) → old ≡ Some text → TakesFewer 24 old new → BeginsCapture text new (Err faults.Read)
begun_short old new text is fewer = subst (λ (o : Option (List ℕ)). TakesFewer 24 o new) is fewer

-- Fewer than 24 octets are the fault `HeaderCut`.
header_cut : (old new : Option (List ℕ)) (text w : List ℕ) → old ≡ Some text → Consumes old new w → IsAtEnd new → length w < 24 → header_format text ≡ Err faults.HeaderCut
unfolding header_format
header_cut None new text w is p e short = absurd cc
header_cut (Some octets) None text w is p e short = absurd p
header_cut (Some octets) (Some rest) text w is p e short =
    let same : octets ≡ text = cc in
    let all : text ≡ w = sym same ∙ p ∙ ap (λ l. w ++ l) e ∙ append-nil w in
    let brief : length text < 24 = omega (arith, ap length all) in
    rw (lt-ltb (length text) 24 brief) refl

pub begun_cut : (old new : Option (List ℕ)) (text w : List ℕ) → old ≡ Some text → Consumes old new w → IsAtEnd new → length w < 24 → IsCapture text [] (AtFault faults.HeaderCut)
begun_cut old new text w is p e short = records_fault text faults.HeaderCut (header_cut old new text w is p e short)

judged_front : (shown : Option CaptureFormat) (w r : List ℕ) → length w ≡ 24 → format_after_magic shown (w ++ r) ≡ format_after_magic shown w
judged_front None w r len = refl
judged_front (Some form) w r len = rw (octets_front 4 2 w r (omega arith), octets_front 6 2 w r (omega arith), octets_front 20 4 w r (omega arith)) refl

header_front : (w r : List ℕ) → length w ≡ 24 → header_format (w ++ r) ≡ format_after_magic (format_by_magic (from_le_bytes w32 (take 4 w))) w
unfolding header_format
header_front w r len =
    let long : 24 ≤ length (w ++ r) = omega (arith, length-append w r) in
    rw (le-ltb (length (w ++ r)) 24 long, take-append-le 4 w r (omega arith)) (judged_front (format_by_magic (from_le_bytes w32 (take 4 w))) w r len)

-- A complete header gives its format or its first fault.
pub header_read : (old new : Option (List ℕ)) (text w : List ℕ) → old ≡ Some text → Consumes old new w → length w ≡ 24 → header_format text ≡ format_after_magic (format_by_magic (from_le_bytes w32 (take 4 w))) w
header_read None new text w is p len = absurd cc
header_read (Some octets) None text w is p len = absurd p
header_read (Some octets) (Some rest) text w is p len = let same : text ≡ w ++ rest = cc in ap header_format same ∙ header_front w rest len

pub begun : (old new : Option (List ℕ)) (text w : List ℕ) (form : CaptureFormat) → old ≡ Some text → Consumes old new w → length w ≡ 24 → header_format text ≡ Ok form
    → StandsFor (record { form = form; records = 0; latest = 0; progress = Reading }) new text []
begun None new text w form is p len e = absurd cc
begun (Some octets) None text w form is p len e = absurd p
begun (Some octets) (Some rest) text w form is p len e =
    let same : text ≡ w ++ rest = cc in
    (rest, refl, e, (refl, sym (ap (drop 24) same ∙ drop_at w rest 24 len)))
