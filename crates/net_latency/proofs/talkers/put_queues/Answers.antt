use Rattle.std.proofs.Common.{◌≡◌, ℕ, ◌++◌, All, List, Option, Some, None, refl, subst, sym}
use Rattle.std.specs.Prelude.{OnOk, Vec, slice_get}
use Rattle.std.proofs.lemmas.List.Elements.{All-nil}
use Rattle.std.proofs.lemmas.Option.{get_or_from_slice_get, slice_get_within}
use Rattle.net_latency.specs.declared.bounds.QueueBound.{QueueBound}
use Rattle.net_latency.specs.Bounds.{HasValidPort}
use Rattle.net_latency.specs.Streams.{bounds_if_any}
use Rattle.net_latency.specs.Talkers.{filter_queues}
use Rattle.net_latency.proofs.talkers.put_queues.Goals as goal

-- The queues of an optional list of bounds have valid ports.
placed_at : {A : Type 0} (bounds : List (Vec QueueBound A)) (b : ℕ) → All (λ (v : Vec QueueBound A). All HasValidPort v.items) bounds → (o : Option (Vec QueueBound A)) → slice_get bounds b ≡ o → All HasValidPort (bounds_if_any o)
placed_at bounds b each None is = All-nil HasValidPort
placed_at {A} bounds b each (Some v) is = subst (λ (w : Vec QueueBound A). All HasValidPort w.items) (get_or_from_slice_get bounds b v v is) (each b v (slice_get_within bounds b v is))

pub put_filter_queues-requires-clause-rows : goal.put_filter_queues-requires-clause-rows
put_filter_queues-requires-clause-rows g c =
    subst (λ rows. All HasValidPort rows) (sym c.bounds_of_bridge.ensures) (placed_at c.args.bounds.now c.args.hop.bridge c.requires.rows (slice_get c.args.bounds.now c.args.hop.bridge) refl)

pub returns-clause-more : goal.returns-clause-more
returns-clause-more g c =
    subst (λ rows. OnOk c.put_filter_queues.result (c.put_filter_queues.new.queues.items ≡ c.args.queues.now.items ++ filter_queues rows c.args.hop)) c.bounds_of_bridge.ensures c.put_filter_queues.ensures.more
