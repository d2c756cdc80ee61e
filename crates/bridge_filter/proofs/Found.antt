use Rattle.std.proofs.Common.{◌≡◌, ℕ, Bool, true, false, List, [], ◌∷◌, arith, refl, ap, ◌∙◌, sym, Option, Some, None, min, ◌<◌, ◌≤◌}
use Rattle.std.proofs.lemmas.Bool.Decides.{nat_tests}
use Rattle.std.specs.Prelude.{◌&&◌, ◌||◌, if◌then◌else◌, nat_eq, nat_lt, is_none}
use Rattle.std.specs.Option.{option_map}
use Rattle.bridge_filter.specs.declared.FilterPlan.{FilterPlan}
use Rattle.bridge_filter.specs.declared.route.Route.{Route}
use Rattle.bridge_filter.specs.Verdicts.{FilterInput, filter_input, frame_filter, lesser_filter, is_match, is_handle_match, is_priority_match}
use Rattle.bridge_filter.specs.Routes.{lesser_number, least_passing, least_match, least_unnamed, least_named, is_named_handle, slot_number, IsDefaultRow, AreHandleRows, AreRouteRows}

-- Regroups and reorders arguments of `lesser_number`.

both_lesser : (n : ℕ) (a b : Option ℕ) → lesser_number (Some n) (lesser_number a b) ≡ lesser_number (lesser_number (Some n) a) (lesser_number (Some n) b)
both_lesser n None None = ap Some (omega arith)
both_lesser n None (Some b) = ap Some (omega arith)
both_lesser n (Some a) None = ap Some (omega arith)
both_lesser n (Some a) (Some b) = ap Some (omega arith)

pub first_lesser : (n : ℕ) (a b : Option ℕ) → lesser_number (Some n) (lesser_number a b) ≡ lesser_number (lesser_number (Some n) a) b
first_lesser n None None = refl
first_lesser n None (Some b) = refl
first_lesser n (Some a) None = refl
first_lesser n (Some a) (Some b) = ap Some (omega arith)

pub second_lesser : (n : ℕ) (a b : Option ℕ) → lesser_number (Some n) (lesser_number a b) ≡ lesser_number a (lesser_number (Some n) b)
second_lesser n None b = refl
second_lesser n (Some a) None = ap Some (omega arith)
second_lesser n (Some a) (Some b) = ap Some (omega arith)

step_either : (a b : Bool) (n : ℕ) (x y : Option ℕ) → (if a || b then lesser_number (Some n) (lesser_number x y) else lesser_number x y) ≡ lesser_number (if a then lesser_number (Some n) x else x) (if b then lesser_number (Some n) y else y)
step_either true true n x y = both_lesser n x y
step_either true false n x y = first_lesser n x y
step_either false true n x y = second_lesser n x y
step_either false false n x y = refl

-- The least number that passes one of two tests is the lesser of the two least numbers.
pub least_by-either : (a b : FilterPlan → Bool) (fs : List (ℕ × FilterPlan)) → least_passing (λ f. a f || b f) fs ≡ lesser_number (least_passing a fs) (least_passing b fs)
least_by-either a b [] = refl
least_by-either a b (f ∷ fs) = rw (least_by-either a b fs) (step_either (a f.1) (b f.1) f.0 (least_passing a fs) (least_passing b fs))

-- Equal tests have the same least number.
pub least_by-same : (a b : FilterPlan → Bool) (fs : List (ℕ × FilterPlan)) → ((f : FilterPlan) → a f ≡ b f) → least_passing a fs ≡ least_passing b fs
least_by-same a b [] h = refl
least_by-same a b (f ∷ fs) h = rw (h f.1, least_by-same a b fs h) refl

pub lesser_chosen : (b : Bool) (f g : ℕ × FilterPlan) → nat_lt g.0 f.0 ≡ b → option_map (λ (x : ℕ × FilterPlan). x.0) (if b then Some g else Some f) ≡ Some (min f.0 g.0)
lesser_chosen true f g h = let k : g.0 < f.0 = grind (arith, nat_tests) in ap Some (omega arith)
lesser_chosen false f g h = let k : f.0 ≤ g.0 = grind (arith, nat_tests) in ap Some (omega arith)

lesser-number : (f : ℕ × FilterPlan) (o : Option (ℕ × FilterPlan)) → option_map (λ (x : ℕ × FilterPlan). x.0) (lesser_filter f o) ≡ lesser_number (Some f.0) (option_map (λ (x : ℕ × FilterPlan). x.0) o)
lesser-number f None = refl
lesser-number f (Some g) = lesser_chosen (nat_lt g.0 f.0) f g refl

flow_step : (b : Bool) (f : ℕ × FilterPlan) (o : Option (ℕ × FilterPlan)) (n : Option ℕ) → option_map (λ (x : ℕ × FilterPlan). x.0) o ≡ n → option_map (λ (x : ℕ × FilterPlan). x.0) (if b then lesser_filter f o else o) ≡ (if b then lesser_number (Some f.0) n else n)
flow_step true f o n h = lesser-number f o ∙ ap (lesser_number (Some f.0)) h
flow_step false f o n h = h

-- The number of a frame's filter is the least number of the matching filters.
pub flow-number : (fs : List (ℕ × FilterPlan)) (c : FilterInput) → option_map (λ (x : ℕ × FilterPlan). x.0) (frame_filter fs c) ≡ least_passing (λ f. is_match f c) fs
flow-number [] c = refl
flow-number (f ∷ fs) c = flow_step (is_match f.1 c) f (frame_filter fs c) _ (flow-number fs c)

-- The number of a frame's filter is the least of the filters that match its handle and priority.
pub flow-least : (fs : List (ℕ × FilterPlan)) (at : ℕ) (handle : Option ℕ) (priority sdu octets : ℕ) (dei : Bool) → option_map (λ (x : ℕ × FilterPlan). x.0) (frame_filter fs (filter_input at handle priority dei sdu octets)) ≡ least_match handle priority fs
flow-least fs at handle priority sdu octets dei = flow-number fs (filter_input at handle priority dei sdu octets)

-- Row of a frame's handle.

any_takes : (asked : Option ℕ) → is_handle_match asked None ≡ is_none asked
any_takes None = refl
any_takes (Some m) = refl

any_found : (any : List (Option Route)) (fs : List (ℕ × FilterPlan)) → IsDefaultRow any fs → (k : ℕ) → k < 8 → slot_number any k ≡ least_match None k fs
any_found any fs is k l = is k l ∙ least_by-same (λ f. is_none f.handle && is_priority_match f.priority k) (λ f. is_handle_match f.handle None && is_priority_match f.priority k) fs (λ f. rw (any_takes f.handle) refl)

or_false : (b : Bool) → b || false ≡ b
or_false true = refl
or_false false = refl

own_takes : (h : ℕ) (asked : Option ℕ) (b : Bool) → (is_named_handle h asked && b) || (is_none asked && b) ≡ is_handle_match asked (Some h) && b
own_takes h None b = refl
own_takes h (Some m) b = or_false (nat_eq m h && b)

own_found : (h k : ℕ) (fs : List (ℕ × FilterPlan)) → lesser_number (least_named h k fs) (least_unnamed k fs) ≡ least_match (Some h) k fs
own_found h k fs =
    let own : FilterPlan → Bool = λ f. is_named_handle h f.handle && is_priority_match f.priority k in
    let any : FilterPlan → Bool = λ f. is_none f.handle && is_priority_match f.priority k in
    sym (least_by-either own any fs) ∙ least_by-same (λ f. own f || any f) (λ f. is_handle_match f.handle (Some h) && is_priority_match f.priority k) fs (λ f. own_takes h f.handle (is_priority_match f.priority k))

-- Rows made from filters with and without a handle give the right filter for each frame.
pub rows_found : (rows : List (ℕ × List (Option Route))) (any : List (Option Route)) (fs : List (ℕ × FilterPlan)) → IsDefaultRow any fs → AreHandleRows rows any fs → AreRouteRows rows any fs
rows_found rows any fs is own None k l = any_found any fs is k l
rows_found rows any fs is own (Some h) k l = own h k l ∙ (ap (lesser_number (least_named h k fs)) (is k l) ∙ own_found h k fs)
