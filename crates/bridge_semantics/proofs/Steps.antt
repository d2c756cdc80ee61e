-- Results of a filter's own events.
use Rattle.std.proofs.Common.{◌≡◌, ℕ, List, [], ◌∷◌, arith, refl, ap, ◌∙◌, Option, Some, None}
use Rattle.bridge_limits.proofs.Cases.{by_bool}
use Rattle.bridge_filter.specs.declared.FilterInput.{FilterInput}
use Rattle.bridge_filter.specs.declared.FilterPlan.{FilterPlan}
use Rattle.bridge_filter.specs.Verdicts as verdicts
use Rattle.bridge_filter.specs.OwnEvents.{is_filter_number, is_own_command, own_filter_events, own_steps, HasOwnInstances}
use Rattle.bridge_filter.proofs.Owned.{told_own}
use Rattle.bridge_config.specs.Model.{Plan}
use Rattle.bridge_semantics.specs.Events.{Arrival, Event, Arrived, Cleared, arrival_input, filter_inputs, plan_police, police_steps, arrival_filter, own_events, count_filter_frames}

-- The filter inputs of the own events are the filter's own among all inputs.
came_own : {A : Type 0} (p : Plan A) (s : ℕ) (f : FilterPlan) (a : Arrival) (es : List Event) (o : Option FilterInput) → arrival_input p a ≡ o → filter_inputs p (own_events p s f es) ≡ own_filter_events (plan_police p) s f (filter_inputs p es) → filter_inputs p (own_events p s f (Arrived a ∷ es)) ≡ own_filter_events (plan_police p) s f (filter_inputs p (Arrived a ∷ es))
came_own p s f a es None q ih = rw q ih
came_own p s f a es (Some c) q ih = by_bool (is_filter_number s (verdicts.frame_filter p.filters c))
    (λ k. rw (q, k, q, ih) refl)
    (λ k. rw (q, k) ih)

calls_own : {A : Type 0} (p : Plan A) (s : ℕ) (f : FilterPlan) (es : List Event) → filter_inputs p (own_events p s f es) ≡ own_filter_events (plan_police p) s f (filter_inputs p es)
calls_own p s f [] = refl
calls_own p s f (Arrived a ∷ es) = came_own p s f a es (arrival_input p a) refl (calls_own p s f es)
calls_own p s f (Cleared c n ∷ es) = by_bool (is_own_command s f c n) (λ k. rw (k, calls_own p s f es) refl) (λ k. rw k (calls_own p s f es))

-- The results of the own events are the filter's part of all results.
pub steps_own : {A : Type 0} (p : Plan A) (s : ℕ) (f : FilterPlan) → HasOwnInstances (plan_police p) s f → (es : List Event) → police_steps p (own_events p s f es) ≡ own_steps s f (police_steps p es)
steps_own p s f a es = ap (verdicts.filter_steps (plan_police p)) (calls_own p s f es) ∙ told_own (plan_police p) s f a (filter_inputs p es)

-- The own events have as many frames of the filter as all events.
pub count_own : {A : Type 0} (p : Plan A) (s : ℕ) (f : FilterPlan) (es : List Event) → count_filter_frames p s (own_events p s f es) ≡ count_filter_frames p s es
count_own p s f [] = refl
count_own p s f (Arrived a ∷ es) = by_bool (is_filter_number s (arrival_filter p a))
    (λ k. rw (k, k, count_own p s f es) refl)
    (λ k. rw k (let ih = count_own p s f es in omega (arith, ih)))
count_own p s f (Cleared clear n ∷ es) = by_bool (is_own_command s f clear n) (λ k. rw k (count_own p s f es)) (λ k. rw k (count_own p s f es))
