-- The number of the filter that was found.
use Rattle.std.proofs.Common.{◌≡◌, ℕ, List, Option, Some, None, true, subst, sym}
use Rattle.std.specs.Prelude.{IfSome, IsTrue}
use Rattle.std.specs.Option.{option_map}
use Rattle.bridge_filter.specs.declared.FilterPlan.{FilterPlan}
use Rattle.bridge_filter.specs.declared.route.Route.{Route}
use Rattle.bridge_filter.specs.Plans.{is_listed}

there : (fs : List (ℕ × FilterPlan)) (o : Option Route) → IfSome o (λ r. is_listed r.number fs ≡ true) → IfSome (option_map (λ (r : Route). r.number) o) (λ k. IsTrue (is_listed k fs))
there fs None h = tt
there fs (Some r) h = h

-- The filter of a route exists.
pub number_there : (fs : List (ℕ × FilterPlan)) (o : Option Route) (n : Option ℕ) → n ≡ option_map (λ (r : Route). r.number) o → IfSome o (λ r. is_listed r.number fs ≡ true) → IfSome n (λ k. IsTrue (is_listed k fs))
number_there fs o n e h = subst (λ (x : Option ℕ). IfSome x (λ k. IsTrue (is_listed k fs))) (sym e) (there fs o h)
