-- The stream handle that a protected filter names.
use Rattle.std.proofs.Common.{◌≡◌, ℕ, true, false, ◌&&◌, List, [], ◌∷◌, Some, nat_eq, sym, ap, ◌∙◌, subst, inl, inr}
use Rattle.std.specs.List.{list_any}
use Rattle.std.proofs.lemmas.Bool.{and_parts, eqb-true, false≢true}
use Rattle.std.proofs.lemmas.Option.{same_Some}
use Rattle.bridge_limits.specs.Members.{IsMember}
use Rattle.bridge_limits.proofs.Cases.{by_bool}
use Rattle.bridge_filter.specs.declared.FilterPlan.{FilterPlan}
use Rattle.bridge_filter.specs.OwnEvents.{is_filter_number}
use Rattle.bridge_filter.specs.Verdicts as verdicts
use Rattle.bridge_filter.proofs.Members.{one_number}
use Rattle.bridge_filter.proofs.Owned.{flow_listed}
use Rattle.bridge_filter.proofs.Taken.{flow_handle}
use Rattle.bridge_config.specs.Model.{Plan}
use Rattle.bridge_config.specs.Rules.{IsPlan}
use Rattle.bridge_check.specs.Acceptable.{IsAcceptable}
use Rattle.bridge_semantics.proofs.Safe.{alone}
use Rattle.net_model.specs.ClosedTest.{is_protected}
use Rattle.net_model.specs.LinkFrames.{matching_filter}
use Rattle.net_model.specs.Faults.{protected_handle}
use Rattle.net_model.proofs.Closed.{numbered}
use Rattle.net_model.proofs.Feeding.{number_of}

-- The protected filter with the handle.
record HasHandle (fs : List (ℕ × FilterPlan)) (m h : ℕ) : Type 0 where
  filter : FilterPlan
  listed : IsMember (m, filter) fs
  handle : filter.handle ≡ Some h

has_handle : (fs : List (ℕ × FilterPlan)) (m h : ℕ) → protected_handle fs m ≡ Some h → HasHandle fs m h
has_handle [] m h e = absurd (cc)
has_handle (f ∷ fs) m h e = by_bool (nat_eq f.0 m && f.1.protected)
    (λ k.
    let here : f.1.handle ≡ Some h = rw k at e in
    let number : f.0 ≡ m = eqb-true f.0 m (and_parts (nat_eq f.0 m) f.1.protected k).0 in
    record { filter = f.1; listed = inl (numbered f m number); handle = here })
    (λ k.
    let more : protected_handle fs m ≡ Some h = rw k at e in
    let r = has_handle fs m h more in
    record { filter = r.filter; listed = inr r.listed; handle = r.handle })

-- Frames that the filter accepts have its handle.
pub names_handle : {A : Type 0} (p : Plan A) (m h : ℕ) → IsPlan p → protected_handle p.filters m ≡ Some h → (g k : ℕ) → is_filter_number m (matching_filter p (Some g) k) ≡ true → g ≡ h
names_handle p m h plan e g k is =
    let f = has_handle p.filters m h e in
    let (x, flows, own) = number_of m (matching_filter p (Some g) k) is in
    let there : IsMember x p.filters = flow_listed p.filters (verdicts.filter_input 0 (Some g) k false 0 0) x flows in
    let same : f.filter ≡ x.1 = one_number p.filters m f.filter x.1 plan.filters.own f.listed (subst (λ (z : ℕ). IsMember (z, x.1) p.filters) own there) in
    same_Some g h (flow_handle p.filters (verdicts.filter_input 0 (Some g) k false 0 0) x h flows (ap (λ (z : FilterPlan). z.handle) (sym same) ∙ f.handle))

handle_there : (fs : List (ℕ × FilterPlan)) (m : ℕ) → ((f : FilterPlan) → IsMember (m, f) fs → f.protected ≡ true → (h : ℕ) × (f.handle ≡ Some h)) → list_any (λ (f : ℕ × FilterPlan). nat_eq f.0 m && f.1.protected) fs ≡ true → (h : ℕ) × (protected_handle fs m ≡ Some h)
handle_there [] m good e = absurd (false≢true e)
handle_there (f ∷ fs) m good e = by_bool (nat_eq f.0 m && f.1.protected)
    (λ k.
    let (number, protected) = and_parts (nat_eq f.0 m) f.1.protected k in
    let (h, handle) = good f.1 (inl (numbered f m (eqb-true f.0 m number))) protected in
    (h, rw k handle))
    (λ k.
    let rest : list_any (λ (f : ℕ × FilterPlan). nat_eq f.0 m && f.1.protected) fs ≡ true = rw k at e in
    let (h, found) = handle_there fs m (λ g i is. good g (inr i) is) rest in
    (h, rw k found))

-- A protected filter of an accepted plan names a handle.
pub protected_names : {A : Type 0} (p : Plan A) (m : ℕ) → IsPlan p → IsAcceptable p → is_protected p m ≡ true → (h : ℕ) × (protected_handle p.filters m ≡ Some h)
protected_names p m plan good e = handle_there p.filters m (λ f i is. (alone p m f (record { plan = plan; listed = i; passes = good m f i is })).handle) e
