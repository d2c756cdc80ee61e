-- Copies of a schedule after a start.
use Rattle.std.proofs.Common.{◌≡◌, ℕ, List, Option, Some, None, ap, refl, ◌∙◌, sym, ◌⊎◌, inl, inr}
use Rattle.bridge_limits.specs.Members.{IsMember}
use Rattle.bridge_port.specs.declared.item.Refusal.{Refusal}
use Rattle.bridge_port.specs.declared.item.Refusal.TheVariants as refusal
use Rattle.bridge_port.specs.StandsFor.{refusal_fate}
use Rattle.bridge_port.specs.Schedule.{Queued, Started, Copy, StartsOldest, here, there}

-- Each copy after the start is an earlier copy or the started copy.
pub begun_to : {X : Type 0} (c s i : ℕ) (item : X) (xs ys : List (Copy X)) → StartsOldest c s i item xs ys → (y : Copy X) → IsMember y ys → IsMember y xs ⊎ ((y.fate ≡ Started s) × (y.item ≡ item) × (y.class ≡ c))
begun_to c s i item xs0 ys0 (here t it zs n) y j = elim j [ inl e ↦ inr (rw e refl, rw e refl, rw e refl) | inr l ↦ inl (inr l) ]
begun_to c s i item xs0 ys0 (there x b) y j = elim j [ inl e ↦ inl (inl e) | inr l ↦ elim (begun_to c s _ _ _ _ b y l) [ inl k ↦ inl (inr k) | inr k ↦ inr k ] ]

started_queued : (u : ℕ) → Queued ≡ Started u → ⊥
started_queued u h = cc

-- Each copy that started earlier stays in the list.
pub begun_from : {X : Type 0} (c s i : ℕ) (item : X) (xs ys : List (Copy X)) → StartsOldest c s i item xs ys → (y : Copy X) (u : ℕ) → y.fate ≡ Started u → IsMember y xs → IsMember y ys
begun_from c s i item xs0 ys0 (here t it zs n) y u f j = elim j [ inl e ↦ absurd (started_queued u (ap (λ (v : Copy _). v.fate) (sym e) ∙ f)) | inr l ↦ inr l ]
begun_from c s i item xs0 ys0 (there x b) y u f j = elim j [ inl e ↦ inl e | inr l ↦ inr (begun_from c s _ _ _ _ b y u f l) ]

-- The started copy is in the list.
pub begun_there : {X : Type 0} (c s i : ℕ) (item : X) (xs ys : List (Copy X)) → StartsOldest c s i item xs ys → (y : Copy X) × IsMember y ys × (y.fate ≡ Started s) × (y.item ≡ item) × (y.class ≡ c)
begun_there c s i item xs0 ys0 (here t it zs n) = (record { at = t; class = c; item = it; fate = Started s }, inl refl, refl, refl, refl)
begun_there c s i item xs0 ys0 (there x b) = let z = begun_there c s _ _ _ _ b in (z.0, inr z.1, z.2, z.3, z.4)

-- Each copy that isn't queued stays in the list.
pub begun_kept : {X : Type 0} (c s i : ℕ) (item : X) (xs ys : List (Copy X)) → StartsOldest c s i item xs ys → (y : Copy X) → (y.fate ≡ Queued → ⊥) → IsMember y xs → IsMember y ys
begun_kept c s i item xs0 ys0 (here t it zs n) y f j = elim j [ inl e ↦ absurd (f (ap (λ (v : Copy _). v.fate) e)) | inr l ↦ inr l ]
begun_kept c s i item xs0 ys0 (there x b) y f j = elim j [ inl e ↦ inl e | inr l ↦ inr (begun_kept c s _ _ _ _ b y f l) ]

-- A fate has only one start time.
pub same_start : (s t : ℕ) → Started s ≡ Started t → s ≡ t
same_start s t h = cc

-- The answer to an offer isn't a start.
pub not_started : (o : Option Refusal) (k : ℕ) → refusal_fate o ≡ Started k → ⊥
not_started None k h = cc
not_started (Some refusal.NeverFits) k h = cc
not_started (Some refusal.Full) k h = cc
