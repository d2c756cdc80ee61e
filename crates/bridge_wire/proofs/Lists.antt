-- Members of lists, and frames by rising time.
use Rattle.std.proofs.Common.{◌<◌, List, [], ◌∷◌, ◌++◌, inl, inr, refl}
use Rattle.bridge_capture.specs.Grammar.{CapturedFrame}
use Rattle.bridge_limits.specs.Members.{IsMember}
use Rattle.bridge_wire.specs.Wire.{HasRisingTimes}

pub rising_push : (frames : List CapturedFrame) (d : CapturedFrame) → HasRisingTimes frames → ((c : CapturedFrame) → IsMember c frames → c.time < d.time) → HasRisingTimes (frames ++ d ∷ [])
rising_push [] d r before = tt
rising_push (c ∷ []) d r before = (before c (inl refl), tt)
rising_push (c ∷ e ∷ more) d r before = (r.0, rising_push (e ∷ more) d r.1 (λ x h. before x (inr h)))
