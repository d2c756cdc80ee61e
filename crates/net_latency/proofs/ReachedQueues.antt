-- The queues of a stream that the program collects from the delay bounds include each queue that a hop can reach.
use Rattle.std.proofs.Common.{◌≡◌, ℕ, zero, suc, List, [], ◌∷◌, Some, Vec, subst, inl, inr}
use Rattle.std.specs.Prelude.{filter, flat_map, slice_get}
use Rattle.std.proofs.lemmas.Option.{none-some, same_Some}
use Rattle.bridge_limits.specs.Members.{IsMember}
use Rattle.bridge_limits.proofs.Members as members
use Rattle.bridge_limits.proofs.Orders.{same_eq}
use Rattle.bridge_config.specs.Model.{Plan}
use Rattle.net_model.specs.declared.links.StreamHop.{StreamHop}
use Rattle.net_latency.specs.declared.bounds.QueueBound.{QueueBound}
use Rattle.net_latency.specs.Bounds.{AreLeastBounds}
use Rattle.net_latency.specs.Delivered.{HasReachableQueues}
use Rattle.net_latency.specs.Streams.{AreQueueBoundsOfPlans, bounds_if_any}
use Rattle.net_latency.specs.Talkers.{hop_queue, hop_queues, is_queue_of_hop, queues_of_hop}
use Rattle.net_latency.proofs.Lowered.{least_at}
use Rattle.net_latency.proofs.Within.{in_filter}

in_flat_map : {X Y : Type 0} (f : X → List Y) (x : X) (y : Y) (xs : List X) → IsMember x xs → IsMember y (f x) → IsMember y (flat_map f xs)
in_flat_map f x y [] i j = absurd i
in_flat_map {X} {Y} f x y (z ∷ zs) (inl same) j = members.in_left y (f z) (flat_map f zs) (subst (λ (v : X). IsMember y (f v)) same j)
in_flat_map f x y (z ∷ zs) (inr i) j = members.in_right y (f z) (flat_map f zs) (in_flat_map f x y zs i j)

-- The bounds of a bridge are the bounds of its plan.
bounds_at : {A : Type 0} (plans : List (Plan A)) (bounds : List (Vec QueueBound A)) (b : ℕ) (p : Plan A) → AreQueueBoundsOfPlans plans bounds → slice_get plans b ≡ Some p → AreLeastBounds p (bounds_if_any (slice_get bounds b))
bounds_at [] bounds b p are at = absurd (none-some p at)
bounds_at (q ∷ qs) [] b p are at = absurd are
bounds_at {A} (q ∷ qs) (v ∷ vs) zero p (here, more) at = subst (λ (z : Plan A). AreLeastBounds z v.items) (same_Some q p at) here
bounds_at (q ∷ qs) (v ∷ vs) (suc b) p (here, more) at = bounds_at qs vs b p more at

pub all_reached : {A : Type 0} (plans : List (Plan A)) (bounds : List (Vec QueueBound A)) (hops : List StreamHop) → AreQueueBoundsOfPlans plans bounds → HasReachableQueues plans hops (hop_queues bounds hops)
all_reached plans bounds hops are h p f q c i at found is from to class reach =
    let rows = bounds_if_any (slice_get bounds h.bridge) in
    let (b, listed, least) = least_at p rows h.filter q c f (bounds_at plans bounds h.bridge p are at) found is from to class reach in
    let row : QueueBound = record { filter = h.filter; port = q; class = c; bound = b } in
    let among = in_filter (is_queue_of_hop h) row rows listed (same_eq h.filter) in
    in_flat_map (queues_of_hop bounds) h (hop_queue h row) hops i (members.in_map (hop_queue h) (filter (is_queue_of_hop h) rows) row among)
