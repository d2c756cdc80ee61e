-- The promise of printed delays: each frame of a talker is delivered in every complete run of the network.
use Rattle.std.specs.Prelude.{◌≡◌, ℕ, true, List, Some, Vec, map, slice_get}
use Rattle.bridge_limits.specs.Members.{IsMember}
use Rattle.bridge_capture.specs.Grammar.{CapturedFrame}
use Rattle.bridge_semantics.specs.declared.outcome.Outcome.{Outcome}
use Rattle.bridge_semantics.specs.Events.{Arrival, Arrived, own_events}
use Rattle.bridge_semantics.specs.Merge.{Input, capture_inputs, input_events}
use Rattle.net_file.specs.declared.talker.Talker.{Talker}
use Rattle.net_file.specs.Model.{Stream}
use Rattle.net_model.specs.declared.links.StreamHop.{StreamHop}
use Rattle.net_model.specs.NetworkParts.{NetworkParts, network_value}
use Rattle.net_model.specs.Networks.{IsNetworkRun}
use Rattle.net_latency.specs.declared.bounds.QueueBound.{QueueBound}
use Rattle.net_latency.specs.declared.latency.StreamLatency.{StreamLatency}
use Rattle.net_latency.specs.Delivered.{AreCommands, IsDeliveredAlong, IsForwardedAlong, KeepsTalkerTraffic}
use Rattle.net_latency.specs.Streams.{is_passing, stream_hop_value}
use Rattle.net_latency.specs.Talkers.{IsTalkerLatency, hop_queues, talker_traffic}

-- Holds if each frame of the talker is delivered with the delays `r` along each path that forwards it. The talker must
-- keep its traffic; anything may arrive at other ports.
abbrev pub DeliversStream : {A : Type 0} → NetworkParts A → List (Vec QueueBound A) → List StreamHop → Talker → StreamLatency → Type 0
DeliversStream {A} n bounds hops talker r =
    (first : StreamHop) (q : ℕ) (commands : ℕ → List Input) (captures : ℕ → ℕ → List CapturedFrame) (o : ℕ → Outcome A)
    (run : IsNetworkRun (network_value n) commands captures o) (a : Arrival) (out : ℕ) (ports : List ℕ)
    → AreCommands commands
    → slice_get hops 0 ≡ Some first
    → (sent : KeepsTalkerTraffic n captures (talker_traffic talker) first q)
    → IsMember (Arrived a) (own_events sent.plan first.filter sent.filter (input_events (capture_inputs q (captures first.bridge q))))
    → IsForwardedAlong n.plans n.links hops a.octets a.len first.bridge a.port out ports
    → IsDeliveredAlong n hops (hop_queues bounds hops) run.lists (talker_traffic talker) r first a out ports

-- Holds if `DeliversStream` holds for each stream whose printed line has `arrives`.
abbrev pub DeliversStreams : {A : Type 0} → NetworkParts A → List (Vec QueueBound A) → List Stream → Type 0
DeliversStreams {A} n bounds streams =
    (s : Stream) (talker : Talker) (r : StreamLatency)
    → IsMember s streams
    → s.talker ≡ Some talker
    → IsTalkerLatency n.plans n.links bounds (Some talker) (map stream_hop_value s.hops) (Some r)
    → is_passing (Some talker) (Some r) ≡ true
    → DeliversStream n bounds (map stream_hop_value s.hops) talker r
