-- A stream handle comes from a matching entry.
use Rattle.std.proofs.Common.{◌≡◌, ℕ, Bool, true, false, cond, List, [], ◌∷◌, Some, refl, inl, inr}
use Rattle.std.proofs.lemmas.Option.{same_Some}
use Rattle.bridge_frame.specs.declared.Head.{Head}
use Rattle.bridge_ident.specs.declared.StreamEntry.{StreamEntry}
use Rattle.bridge_ident.specs.Identification.{first_handle, is_match, HasEntry}

given_by : (b : Bool) (e : StreamEntry) (es : List StreamEntry) (port : ℕ) (head : Head) (vid h : ℕ)
    → is_match e port head vid ≡ b
    → cond b (Some e.handle) (first_handle es port head vid) ≡ Some h
    → (first_handle es port head vid ≡ Some h → HasEntry es port head vid h)
    → HasEntry (e ∷ es) port head vid h
given_by true e es port head vid h is k more = record { entry = e; listed = inl refl; handle = same_Some _ _ k; matches = is }
given_by false e es port head vid h is k more = let g = more k in record { entry = g.entry; listed = inr g.listed; handle = g.handle; matches = g.matches }

-- The handle of a frame is the handle of an entry that matches the frame.
pub given : (es : List StreamEntry) (port : ℕ) (head : Head) (vid h : ℕ) → first_handle es port head vid ≡ Some h → HasEntry es port head vid h
given [] port head vid h k = absurd (cc)
given (e ∷ es) port head vid h k = given_by (is_match e port head vid) e es port head vid h refl k (given es port head vid h)
