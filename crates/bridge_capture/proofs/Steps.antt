-- One more record.
use Rattle.std.proofs.Common.{◌≡◌, ℕ, List, [], ◌∷◌, ◌++◌, refl, ap, subst}
use Rattle.bridge_capture.specs.declared.format.CaptureFormat.{CaptureFormat}
use Rattle.bridge_capture.specs.Grammar.{CapturedFrame, RecordPosition, Record, CaptureEnding, IsEnding, ReadsFrames, ReadsPrefix, next_position, front_item}

pub begins_more : (form : CaptureFormat) (place : RecordPosition) (bytes : List ℕ) (given : List CapturedFrame) (next : RecordPosition) (rest : List ℕ) (item : CapturedFrame) (more : List ℕ)
    → ReadsPrefix form place bytes given next rest → front_item form next rest ≡ Record item more → ReadsPrefix form place bytes (given ++ item ∷ []) (next_position next item) more
begins_more form place bytes [] next rest item more (p, q) e = (more, subst (λ (z : List ℕ). front_item form place z ≡ Record item more) q (subst (λ (z : RecordPosition). front_item form z rest ≡ Record item more) p e), (ap (λ (z : RecordPosition). next_position z item) p, refl))
begins_more form place bytes (x ∷ given) next rest item more (mid, p, q) e = (mid, p, begins_more form (next_position place x) mid given next rest item more q e)

pub begins_ends : (form : CaptureFormat) (place : RecordPosition) (bytes : List ℕ) (given : List CapturedFrame) (next : RecordPosition) (rest : List ℕ) (ending : CaptureEnding)
    → ReadsPrefix form place bytes given next rest → IsEnding (front_item form next rest) ending → ReadsFrames form place bytes given ending
begins_ends form place bytes [] next rest ending (p, q) e = subst (λ (z : List ℕ). IsEnding (front_item form place z) ending) q (subst (λ (z : RecordPosition). IsEnding (front_item form z rest) ending) p e)
begins_ends form place bytes (x ∷ given) next rest ending (mid, p, q) e = (mid, p, begins_ends form (next_position place x) mid given next rest ending q e)
