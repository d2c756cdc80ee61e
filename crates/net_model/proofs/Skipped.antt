-- Entries that give no frames to a hop, or to the sender's filter.
use Rattle.std.proofs.Common.{◌≡◌, ℕ, Bool, true, false, ◌&&◌, List, [], ◌∷◌, Option, Some, None, nat_eq, refl, sym, ◌∙◌}
use Rattle.std.specs.List.{list_all}
use Rattle.std.proofs.lemmas.Bool.{and_parts, false≢true}
use Rattle.bridge_limits.proofs.Cases.{by_bool}
use Rattle.bridge_limits.proofs.Orders.{same_eq}
use Rattle.bridge_frame.specs.declared.Tag.{Tag}
use Rattle.bridge_ident.specs.declared.StreamEntry.{StreamEntry}
use Rattle.bridge_ident.specs.Identification.{accepts_tag}
use Rattle.bridge_filter.specs.OwnEvents.{is_filter_number}
use Rattle.bridge_filter.proofs.Owned.{differs}
use Rattle.bridge_config.specs.declared.ports.PortPlan.{PortPlan}
use Rattle.bridge_config.specs.Model.{Plan}
use Rattle.bridge_config.specs.Rules.{IsPlan, find_port}
use Rattle.bridge_check.specs.FrameInput.{frame_vid, frame_priority}
use Rattle.net_model.specs.declared.taking_filter.TakingFilter.{TakingFilter}
use Rattle.net_model.specs.declared.handing.Handing.{Handing}
use Rattle.net_model.specs.LinkFrames.{matching_filter, is_feeding_entry, possible_tags}
use Rattle.net_model.specs.Faults.{protected_handle}
use Rattle.net_model.specs.Handed.{IsHanding, hands_entry, hands_tag, is_other_handle}
use Rattle.net_model.specs.Handing as handing
use Rattle.net_model.specs.FrameSearch.{find_first}
use Rattle.net_model.specs.SearchState.{IsTakingFilter, first_frame_with_tag}
use Rattle.net_model.proofs.Firsts.{none_in}
use Rattle.net_model.proofs.Handles.{names_handle}

-- An entry of another port.
pub other_port : {A : Type 0} (t : TakingFilter A) (e : StreamEntry) (tags : List (Option Tag)) → ¬ (e.port ≡ t.on.now.number) → find_first (first_frame_with_tag t e) tags ≡ None
other_port t e tags h = none_in (first_frame_with_tag t e) tags (λ tag. let k : nat_eq e.port t.on.now.number ≡ false = differs e.port t.on.now.number h in rw k refl)

-- An entry with another handle.
pub other_handle : {A : Type 0} (t : TakingFilter A) (e : StreamEntry) (tags : List (Option Tag)) → IsTakingFilter t → ¬ (e.handle ≡ t.handle) → find_first (first_frame_with_tag t e) tags ≡ None
other_handle t e tags taking h = none_in (first_frame_with_tag t e) tags (λ tag.
    by_bool (is_feeding_entry t.next.now t.on.now t.filter e tag)
    (λ k.
    let (before, number) = and_parts (nat_eq e.port t.on.now.number && nat_eq e.vid (frame_vid t.on.now tag) && accepts_tag e.tag tag) (is_filter_number t.filter (matching_filter t.next.now (Some e.handle) (frame_priority t.on.now tag))) k in
    absurd (h (taking.names e.handle (frame_priority t.on.now tag) number)))
    (λ k. rw k refl))

-- THE SENDER'S FILTER

-- The sender's filter gets only frames with its handle, if this handle is known.
pub others_by : {A : Type 0} (p : Plan A) (m : ℕ) (own : Option ℕ) → IsPlan p → protected_handle p.filters m ≡ own → (n k : ℕ) → is_filter_number m (matching_filter p (Some n) k) ≡ true → is_other_handle own n ≡ false
others_by p m None plan e n k is = refl
others_by p m (Some h) plan e n k is = let same : n ≡ h = names_handle p m h plan e n k is in rw (same, same_eq h) refl

all_of : {X : Type 0} (test : X → Bool) (xs : List X) → ((x : X) → test x ≡ true) → list_all test xs ≡ true
all_of test [] h = refl
all_of test (x ∷ xs) h = rw (h x) (all_of test xs h)

-- An entry with another handle gives the sender's filter no frames.
pub other_entry : {A : Type 0} (x : Handing A) (e : StreamEntry) → IsHanding x → is_other_handle x.handle e.handle ≡ true → hands_entry x e ≡ true
other_entry {A} x e own other = by_port (find_port x.plan.now.ports e.port)
  where
    each : (from : PortPlan A) (tag : Option Tag) → hands_tag x e from tag ≡ true
    each from tag = by_bool (is_feeding_entry x.plan.now from x.filter e tag)
        (λ k.
        let (before, number) = and_parts (nat_eq e.port from.number && nat_eq e.vid (frame_vid from tag) && accepts_tag e.tag tag) (is_filter_number x.filter (matching_filter x.plan.now (Some e.handle) (frame_priority from tag))) k in
        absurd (false≢true (sym (own.names e.handle (frame_priority from tag) number) ∙ other)))
        (λ k. rw k refl)

    by_port : (o : Option (PortPlan A)) → handing.hands_entry x.plan.now x.filter x.port x.taker.plan.now x.taker.on.now x.taker.filter e o ≡ true
    by_port None = refl
    by_port (Some from) = all_of (hands_tag x e from) (possible_tags e.vid) (each from)
