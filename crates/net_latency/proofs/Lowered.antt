-- Least bounds of a plan's queues, from their bounds by capacity.
use Rattle.std.proofs.Common.{◌≡◌, ◌<◌, ◌≤◌, ℕ, true, List, [], ◌∷◌, ◌++◌, All, Some, ap, sym, subst, ◌∙◌, inl, inr, refl, arith}
use Rattle.std.specs.Prelude.{nat_eq}
use Rattle.std.specs.Map.{lookup}
use Rattle.std.proofs.lemmas.List.Elements.{All-cons, All-head, All-nil, All-tail}
use Rattle.bridge_limits.specs.Members.{IsMember}
use Rattle.bridge_filter.specs.declared.FilterPlan.{FilterPlan}
use Rattle.bridge_config.specs.Model.{Plan}
use Rattle.bridge_check.specs.Reach.{reaches_queue}
use Rattle.bridge_groups.specs.GateBounds.{IsLeastBound}
use Rattle.net_latency.specs.declared.bounds.QueueBound.{QueueBound}
use Rattle.net_latency.specs.Bounds.{AreLeastBounds, AreLowered, HasLeastBound, HasValidPort, queue_bound}

-- The least bound of one queue more.
pub lower_more : {A : Type 0} (p : Plan A) (r t : QueueBound) (rs ts : List QueueBound) → HasLeastBound p r t → AreLowered p rs ts → AreLowered p (rs ++ r ∷ []) (ts ++ t ∷ [])
lower_more p r t [] [] is h = (is, tt)
lower_more p r t [] (y ∷ ts) is h = absurd h
lower_more p r t (x ∷ rs) [] is h = absurd h
lower_more p r t (x ∷ rs) (y ∷ ts) is h = (h.0, lower_more p r t rs ts is h.1)

-- The queues of least bounds are queues of ports.
pub lowered_placed : {A : Type 0} (p : Plan A) (rs ts : List QueueBound) → AreLowered p rs ts → All HasValidPort rs → All HasValidPort ts
lowered_placed p [] [] h placed = All-nil HasValidPort
lowered_placed p [] (t ∷ ts) h placed = absurd h
lowered_placed p (r ∷ rs) [] h placed = absurd h
lowered_placed p (r ∷ rs) (t ∷ ts) h placed =
    let at = All-head HasValidPort r rs placed in
    let from = at.from in
    let to = at.to in
    let few = at.class in
    let port = h.0.port in
    let class = h.0.class in
    All-cons HasValidPort t ts (record { from = omega (arith, from, port); to = omega (arith, to, port); class = omega (arith, few, class) }) (lowered_placed p rs ts h.1 (All-tail HasValidPort r rs placed))

-- Each row has a row with its least bound.
lowered_at : {A : Type 0} (p : Plan A) (rs ts : List QueueBound) (r : QueueBound) → AreLowered p rs ts → IsMember r rs → (t : QueueBound) × IsMember t ts × HasLeastBound p r t
lowered_at p [] ts r h i = absurd i
lowered_at p (x ∷ rs) [] r h i = absurd h
lowered_at p (x ∷ rs) (t ∷ ts) r h (inl same) = (t, inl refl, subst (λ (z : QueueBound). HasLeastBound p z t) (sym same) h.0)
lowered_at p (x ∷ rs) (t ∷ ts) r h (inr i) = let (y, there, is) = lowered_at p rs ts r h.1 i in (y, inr there, is)

row_is : (t : QueueBound) (n q c : ℕ) → t.filter ≡ n → t.port ≡ q → t.class ≡ c → t ≡ queue_bound n q c t.bound
row_is t n q c filter port class =
    ap (λ (z : ℕ). queue_bound z t.port t.class t.bound) filter ∙ (ap (λ (z : ℕ). queue_bound n z t.class t.bound) port ∙ ap (λ (z : ℕ). queue_bound n q z t.bound) class)

-- Each reachable queue of a protected filter has a row with its least bound.
pub least_at : {A : Type 0} (p : Plan A) (least : List QueueBound) (n q c : ℕ) (f : FilterPlan) → AreLeastBounds p least → lookup (nat_eq n) p.filters ≡ Some f → f.protected ≡ true → 1 ≤ q → q ≤ 16 → c < 8 → reaches_queue p f q c ≡ true
    → (b : ℕ) × IsMember (queue_bound n q c b) least × IsLeastBound p n q c b
least_at p least n q c f (rows, are, lowered) found protected from to few reach =
    let (a, listed) = are.all n q c f found protected from to few reach in
    let (t, there, is) = lowered_at p rows least (queue_bound n q c a) lowered listed in
    (t.bound, subst (λ (z : QueueBound). IsMember z least) (row_is t n q c is.filter is.port is.class) there, is.bound)
