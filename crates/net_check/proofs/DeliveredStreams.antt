-- The streams of an accepted network file are delivered if their lines have delays without `refusable`.
use Rattle.std.proofs.Common.{◌≡◌, None, List, [], ◌∷◌, Vec, inl, inr, map, refl, subst, sym}
use Rattle.std.specs.Option.{ForSome}
use Rattle.bridge_limits.specs.Members.{IsMember}
use Rattle.bridge_limits.proofs.Members.{each_in, in_map}
use Rattle.bridge_config.specs.Model.{Plan}
use Rattle.net_file.specs.Model.{Stream}
use Rattle.net_file.specs.Model as file
use Rattle.net_file.specs.Rules as rules
use Rattle.net_file.specs.Rules.{IsTalker}
use Rattle.net_model.specs.declared.links.StreamHop.{StreamHop}
use Rattle.net_model.specs.Checked.{AreClosed}
use Rattle.net_model.specs.Faults.{first_fault}
use Rattle.net_model.specs.NetworkParts.{NetworkParts, network_value}
use Rattle.net_model.specs.Networks.{IsNetwork}
use Rattle.net_latency.specs.declared.bounds.QueueBound.{QueueBound}
use Rattle.net_latency.specs.Delivered.{IsStreamOfNetwork}
use Rattle.net_latency.specs.DeliveredStreams.{DeliversStreams}
use Rattle.net_latency.specs.Streams.{AreQueueBoundsOfPlans, stream_hop_value}
use Rattle.net_latency.proofs.PrintedStream.{printed_streams_delivered}
use Rattle.net_check.specs.Networks.{IsNetworkOfFile}

-- A member of a mapped list comes from a member of the list.
in_mapped : {X Y : Type 0} (f : X → Y) (xs : List X) (y : Y) → IsMember y (map f xs) → (x : X) × IsMember x xs × (f x ≡ y)
in_mapped f [] y i = absurd i
in_mapped f (x ∷ xs) y (inl same) = (x, inl refl, sym same)
in_mapped f (x ∷ xs) y (inr i) = let (z, at, same) = in_mapped f xs y i in (z, inr at, same)

-- Each stream of the file is a stream of the network.
is_stream : {A : Type 0} (f : file.Network) (plans : List (Plan A)) (n : NetworkParts A) (s : Stream) → IsNetworkOfFile f plans n → IsMember s f.streams → IsStreamOfNetwork n (map stream_hop_value s.hops)
is_stream {A} f plans n s made i =
    let there = in_map (λ (x : Stream). map stream_hop_value x.hops) f.streams s i in
    let here : IsMember (map stream_hop_value s.hops) (map (λ (v : Vec StreamHop A). v.items) n.streams) = subst (IsMember (map stream_hop_value s.hops)) (sym made.streams) there in
    in_mapped (λ (v : Vec StreamHop A). v.items) n.streams (map stream_hop_value s.hops) here

pub network_delivers : {A : Type 0} (f : file.Network) (plans : List (Plan A)) (n : NetworkParts A) (bounds : List (Vec QueueBound A))
    → rules.IsNetwork f → IsNetwork (network_value n) → AreClosed n → IsNetworkOfFile f plans n → first_fault n ≡ None → AreQueueBoundsOfPlans n.plans bounds
    → DeliversStreams n bounds f.streams
network_delivers f plans n bounds valid network closed made accepted are =
    printed_streams_delivered n bounds f.streams (record { checked = record { network = network; closed = closed }; without_fault = accepted }) are
    (λ s i. is_stream f plans n s made i)
    (λ s i. each_in (λ (x : Stream). ForSome x.talker IsTalker) f.streams s (λ k d less. (valid.streams.each k d less).talker) i)
