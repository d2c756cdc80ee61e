-- A frame is taken from its reader.
use Rattle.std.proofs.Common.{◌≡◌, ℕ, ◌<◌, List, length, slice_index_or, slice_set, refl, ap, sym, ◌∙◌, Option, Some, None}
use Rattle.std.proofs.lemmas.Option.{slice_get_read, same_Some}
use Rattle.bridge_limits.proofs.Options.{none_some}
use Rattle.bridge_capture.specs.declared.packet.Packet.{Packet}
use Rattle.bridge_capture.specs.declared.capture_reader.CaptureReader.{CaptureReader}
use Rattle.bridge_capture.specs.CaptureReaders.{IsEarliestReader}
use Rattle.bridge_core.specs.Running.{HasTakenFrame}

lane_is : {A : Type 0} (lanes : List (CaptureReader A)) (place : ℕ) (first : IsEarliestReader lanes place) (l : CaptureReader A) → place < length lanes → l ≡ slice_index_or lanes place l → l ≡ first.lane
lane_is lanes place first l within is = same_Some l first.lane (sym (slice_get_read lanes (length lanes) place l refl within is) ∙ first.there)

-- The reader with the earliest frame has a frame.
pub is_ahead : {A : Type 0} (lanes : List (CaptureReader A)) (place : ℕ) (first : IsEarliestReader lanes place) (l : CaptureReader A) (o : Option (Packet A)) → place < length lanes → l ≡ slice_index_or lanes place l → o ≡ (slice_index_or lanes place l).ahead → o ≡ None → ⊥
is_ahead {A} lanes place first l o within is found none =
    let here : o ≡ l.ahead = found ∙ ap (λ (w : CaptureReader A). w.ahead) (sym is) in
    none_some o first.packet none (here ∙ ap (λ (w : CaptureReader A). w.ahead) (lane_is lanes place first l within is) ∙ first.ahead)

pub given_of : {A : Type 0} (lanes : List (CaptureReader A)) (place : ℕ) (first : IsEarliestReader lanes place) (l : CaptureReader A) (o after : Option (Packet A)) (p : Packet A) → place < length lanes → l ≡ slice_index_or lanes place l → o ≡ (slice_index_or lanes place l).ahead → o ≡ Some p → after ≡ None → HasTakenFrame lanes (slice_set lanes place (record { number = (slice_index_or lanes place l).number; capture = (slice_index_or lanes place l).capture; ahead = after })) place ((slice_index_or lanes place l).number, p)
given_of {A} lanes place first l o after p within is found some none = record {
  lane = l;
  there = slice_get_read lanes (length lanes) place l refl within is;
  number = ap (λ (w : CaptureReader A). w.number) is;
  ahead = ap (λ (w : CaptureReader A). w.ahead) is ∙ sym found ∙ some;
  now = ap (λ (w : CaptureReader A). slice_set lanes place (record { number = w.number; capture = w.capture; ahead = after })) (sym is) ∙ ap (λ (z : Option (Packet A)). slice_set lanes place (record { number = l.number; capture = l.capture; ahead = z })) none;
}
