-- Writes one after another.
use Rattle.std.proofs.Common.{◌≡◌, ℕ, ◌+◌, ◌≤◌, List, ◌++◌, length, take, Option, ap, ◌∙◌, sym, subst, arith, append_assoc}
use Rattle.std.specs.List.{flat_map}
use Rattle.std.specs.Io.KnownBytes.{Appends}
use Rattle.std.proofs.KnownBytes.{Appends-trans}
use Rattle.std.proofs.lemmas.Grind.{flat_map-append}
use Rattle.std.proofs.lemmas.List.{length-append}
use Rattle.std.proofs.Math.Seq.{take-append-add}
use lib.Seq.{take-append-le}
use Rattle.bridge_capture.specs.Grammar.{CapturedFrame}
use Rattle.bridge_capture.specs.Sinks.{AppendsPrefix}
use Rattle.bridge_capture.specs.WrittenCapture.{written_header, written_frame, written_text}

pub front_of_first : (old new : Option (List ℕ)) (a b : List ℕ) → AppendsPrefix old new a → AppendsPrefix old new (a ++ b)
front_of_first old new a b h =
    let le : h.0 ≤ length a = h.1 in
    (h.0, omega (arith, length-append a b), subst (Appends old new) (sym (take-append-le h.0 a b le)) h.2)

pub front_of_second : (old mid new : Option (List ℕ)) (a b : List ℕ) → Appends old mid a → AppendsPrefix mid new b → AppendsPrefix old new (a ++ b)
front_of_second old mid new a b p h =
    let le : h.0 ≤ length b = h.1 in
    (length a + h.0, omega (arith, length-append a b), subst (Appends old new) (sym (take-append-add a b h.0)) (Appends-trans old mid new a (take h.0 b) p h.2))

-- Appending frames appends their records.
pub written_more : (left gone : List CapturedFrame) → written_text (left ++ gone) ≡ written_text left ++ flat_map written_frame gone
written_more left gone = ap (λ l. written_header ++ l) (flat_map-append written_frame left gone) ∙ sym (append_assoc written_header (flat_map written_frame left) (flat_map written_frame gone))
