-- Bounds of classes and ports, one more at a time.
use Rattle.std.proofs.Common.{◌≡◌, ◌∙◌, inl, inr, ℕ, ◌+◌, List, [], ◌∷◌, ◌++◌, Option, None, Some, length, slice_get, ap, sym, subst, refl, arith, fold}
use Rattle.std.proofs.lemmas.List.{length-append}
use Rattle.bridge_limits.proofs.Lists.{pushed}
use Rattle.bridge_config.specs.Model.{Plan}
use Rattle.bridge_groups.specs.declared.shared_queues.SharedQueue.{SharedQueue}
use Rattle.show_tables.specs.GroupBounds.{AreGroupBoundsByPort, group_bound}
use Rattle.show_tables.specs.PortBounds.{AreBoundsByPort, IsClassBound, IsGreatestBound, IsPortBound, greater_bound}

folded : (bounds : List (Option ℕ)) (a b : Option ℕ) → fold greater_bound a (bounds ++ b ∷ []) ≡ greater_bound (fold greater_bound a bounds) b
folded [] a b = refl
folded (x ∷ xs) a b = folded xs (greater_bound a x) b

-- Without classes there is no bound.
pub none_greatest : {A : Type 0} (p : Plan A) (n q : ℕ) → IsGreatestBound p n q 0 None
none_greatest p n q = record { bounds = []; are = record { many = refl; each = λ c b e. absurd (cc) }; is = refl }

-- The greatest bound with one class more.
pub class_more : {A : Type 0} (p : Plan A) (n q c : ℕ) (bound b new : Option ℕ) → IsGreatestBound p n q c bound → IsClassBound p n q c b → new ≡ greater_bound bound b → IsGreatestBound p n q (c + 1) new
class_more p n q c bound b new before this is = record {
  bounds = before.bounds ++ b ∷ [];
  are = record {
    many = length-append before.bounds (b ∷ []) ∙ ap (λ m. m + 1) before.are.many;
    each = λ d x e. elim (pushed before.bounds b x d e) [
      | inl there ↦ before.are.each d x there
      | inr here ↦ subst (IsClassBound p n q d) here.1 (subst (λ m. IsClassBound p n q m b) (sym (here.0 ∙ before.are.many)) this)
    ];
  };
  is = is ∙ (ap (λ a. greater_bound a b) before.is ∙ sym (folded before.bounds None b));
}

-- A property of the values by position from 1, with one value more.
value_more : (P : ℕ → Option ℕ → Type 0) (q : ℕ) (bounds : List (Option ℕ)) (b : Option ℕ) → length bounds + 1 ≡ q → P q b
    → ((i : ℕ) (x : Option ℕ) → slice_get bounds i ≡ Some x → P (i + 1) x) → (i : ℕ) (x : Option ℕ) → slice_get (bounds ++ b ∷ []) i ≡ Some x → P (i + 1) x
value_more P q bounds b at this are i x e = elim (pushed bounds b x i e) [
  | inl there ↦ are i x there
  | inr here ↦ subst (P (i + 1)) here.1 (subst (λ m. P m b) (let last = here.0 in omega (arith, at, last)) this)
]

-- The bounds with one port more.
pub port_more : {A : Type 0} (p : Plan A) (n q : ℕ) (bounds : List (Option ℕ)) (b : Option ℕ) → length bounds + 1 ≡ q → IsPortBound p n q b → AreBoundsByPort p n bounds → AreBoundsByPort p n (bounds ++ b ∷ [])
port_more p n = value_more (IsPortBound p n)

-- The bounds of a group with one port more.
pub group_port_more : (queues : List SharedQueue) (group q : ℕ) (bounds : List (Option ℕ)) (b : Option ℕ) → length bounds + 1 ≡ q → b ≡ group_bound queues group q → AreGroupBoundsByPort queues group bounds → AreGroupBoundsByPort queues group (bounds ++ b ∷ [])
group_port_more queues group = value_more (λ q b. b ≡ group_bound queues group q)
