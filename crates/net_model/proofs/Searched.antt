-- The search reaches exactly the ports to which steps lead.
use Rattle.std.proofs.Common.{◌≡◌, ◌∙◌, ◌<◌, ◌+◌, ◌↔◌, ◌⊎◌, ℕ, Bool, true, false, not, cond, List, [], ◌∷◌, ◌++◌, length, take, get_or, refl, sym, ap, subst, inl, inr}
use Rattle.std.specs.List.{filter}
use Rattle.std.proofs.lemmas.List.Elements.{filter_more}
use Rattle.std.proofs.lemmas.List.{map-append}
use Rattle.bridge_limits.specs.Members.{IsMember}
use Rattle.bridge_limits.proofs.Cases.{by_bool}
use Rattle.bridge_limits.proofs.Members.{in_either, in_left, in_right, passes_any, in_map}
use Rattle.net_model.specs.declared.links.BridgePort.{BridgePort}
use Rattle.net_model.specs.declared.step.Step.{Step}
use Rattle.net_model.specs.Walks.{IsWalk, IsOnLoop, HasWalk, step}
use Rattle.net_model.specs.Pruning.{has_port, is_same_port}
use Rattle.net_model.specs.Searching.{IsSearchState, is_reached, is_unexplored, reached_targets}
use Rattle.net_model.proofs.Filtered.{found, kept, of_map, was, whole}
use Rattle.net_model.proofs.Laid.{one_self, same_place}

-- WALKS

leads_more : (steps : List Step) (x y z : BridgePort) (zs : List BridgePort) → IsWalk steps x y zs → IsMember (step y z) steps → IsWalk steps x z (zs ++ y ∷ [])
leads_more steps x y z [] l i = (l, i)
leads_more steps x y z (w ∷ ws) l i = (l.0, leads_more steps w y z ws l.1 i)

IsFrom : BridgePort → List BridgePort → BridgePort → Type 0
IsFrom start reached a = (start ≡ a) ⊎ IsMember a reached

from_reached : (start : BridgePort) (reached : List BridgePort) (a : BridgePort) → is_reached start reached a ≡ true → (start ≡ a) ⊎ IsMember a reached
from_reached start reached a t = by_bool (is_same_port start a)
    (λ e. inl (same_place start a e))
    (λ e. let f = found (λ (y : BridgePort). is_same_port y a) reached (rw e at t) in inr (subst (λ y. IsMember y reached) (same_place f.item a f.passes) f.listed))

to_reached : (start : BridgePort) (reached : List BridgePort) (a : BridgePort) → (start ≡ a) ⊎ IsMember a reached → is_reached start reached a ≡ true
to_reached start reached a (inl e) = let one : is_same_port start a ≡ true = subst (λ z. is_same_port start z ≡ true) e (one_self start) in rw one refl
to_reached start reached a (inr i) = by_bool (is_same_port start a) (λ e. rw e refl) (λ e. rw e (passes_any (λ (y : BridgePort). is_same_port y a) reached a i (one_self a)))

-- ONE MORE STEP

-- The target of one more step.
pub targets_more : (start : BridgePort) (reached : List BridgePort) (steps : List Step) (i : ℕ) (d : Step) → i < length steps
    → reached_targets start reached (take (i + 1) steps) ≡ reached_targets start reached (take i steps) ++ cond (is_reached start reached (get_or steps i d).from) ((get_or steps i d).to ∷ []) []
targets_more start reached steps i d less = rw (filter_more (λ (s : Step). is_reached start reached s.from) steps i d less) (by_bool (is_reached start reached (get_or steps i d).from)
    (λ t. rw t (map-append _ (filter (λ (s : Step). is_reached start reached s.from) (take i steps)) (get_or steps i d ∷ [])))
    (λ f. rw f (map-append _ (filter (λ (s : Step). is_reached start reached s.from) (take i steps)) [])))

walk_on : (steps : List Step) (start : BridgePort) (reached : List BridgePort) (pending : List Step) → IsSearchState steps start reached pending → (s : Step) → IsMember s pending → is_reached start reached s.from ≡ true → HasWalk steps start s.to
walk_on steps start reached pending so s i t = elim (from_reached start reached s.from t) [
  | inl e ↦ ([], subst (λ a. IsMember (step a s.to) steps) (sym e) (so.within s i))
  | inr r ↦ let w = so.sound s.from r in (w.0 ++ s.from ∷ [], leads_more steps start s.from s.to w.0 w.1 (so.within s i))
]

pub searched_more : (steps : List Step) (start : BridgePort) (reached : List BridgePort) (pending : List Step) (grown : List BridgePort) (left : List Step)
    → IsSearchState steps start reached pending → grown ≡ reached ++ reached_targets start reached pending → left ≡ filter (is_unexplored start reached) pending → IsSearchState steps start grown left
searched_more steps start reached pending grown left so grew is = rw (grew, is) (record {
  within = λ s i. so.within s (was (is_unexplored start reached) pending s i).0;
  sound = λ y i. elim (in_either y reached (reached_targets start reached pending) i) [
    | inl r ↦ so.sound y r
    | inr t ↦
        let image = of_map (λ (s : Step). s.to) (filter (λ (s : Step). is_reached start reached s.from) pending) y t in
        let old = was (λ (s : Step). is_reached start reached s.from) pending image.item image.listed in
        subst (HasWalk steps start) (sym image.is) (walk_on steps start reached pending so image.item old.0 old.1)
  ];
  covered = λ a b i. elim (so.covered a b i) [
    | inl p ↦ by_bool (is_reached start reached a)
        (λ t. inr (in_right b reached (reached_targets start reached pending) (in_map (λ (s : Step). s.to) (filter (λ (s : Step). is_reached start reached s.from) pending) (step a b) (kept (λ (s : Step). is_reached start reached s.from) pending (step a b) p t))))
        (λ f. inl (kept (is_unexplored start reached) pending (step a b) p (rw f refl)))
    | inr r ↦ inr (in_left b reached (reached_targets start reached pending) r)
  ];
})

-- At first all steps are pending.
pub searched_first : (steps : List Step) (start : BridgePort) → IsSearchState steps start [] steps
searched_first steps start = record { within = λ s i. i; sound = λ y i. absurd i; covered = λ a b i. inl i }

-- AT THE END

true≢false : {A : Type 0} (b : Bool) → b ≡ true → not b ≡ true → A
true≢false true t f = absurd (cc)
true≢false false t f = absurd (cc)

step_reached : (steps : List Step) (start : BridgePort) (reached : List BridgePort) (pending : List Step) → IsSearchState steps start reached pending → length (filter (is_unexplored start reached) pending) ≡ length pending
    → (a y : BridgePort) → (start ≡ a) ⊎ IsMember a reached → IsMember (step a y) steps → IsMember y reached
step_reached steps start reached pending so none a y from l = elim (so.covered a y l) [
  | inl p ↦ true≢false (is_reached start reached a) (to_reached start reached a from) (whole (is_unexplored start reached) pending (step a y) none p)
  | inr r ↦ r
]

end_reached : (steps : List Step) (start : BridgePort) (reached : List BridgePort) (pending : List Step) → IsSearchState steps start reached pending → length (filter (is_unexplored start reached) pending) ≡ length pending
    → (a y : BridgePort) (zs : List BridgePort) → (start ≡ a) ⊎ IsMember a reached → IsWalk steps a y zs → IsMember y reached
end_reached steps start reached pending so none a y [] from l = step_reached steps start reached pending so none a y from l
end_reached steps start reached pending so none a y (z ∷ zs) from l =
    end_reached steps start reached pending so none z y zs (inr (step_reached steps start reached pending so none a z from l.0)) l.1

-- If no step is left to take, the reached ports contain the start exactly if the start is on a loop.
pub searched_last : (steps : List Step) (start : BridgePort) (reached : List BridgePort) (pending left : List Step) → IsSearchState steps start reached pending → left ≡ filter (is_unexplored start reached) pending → length left ≡ length pending
    → (has_port reached start ≡ true) ↔ IsOnLoop steps start
searched_last steps start reached pending left so is none = (
  (λ t. let f = found (λ (y : BridgePort). is_same_port y start) reached t in so.sound start (subst (λ y. IsMember y reached) (same_place f.item start f.passes) f.listed)),
  (λ round. passes_any (λ (y : BridgePort). is_same_port y start) reached start (end_reached steps start reached pending so (ap length (sym is) ∙ none) start start round.0 (inl refl) round.1) (one_self start)),
)
