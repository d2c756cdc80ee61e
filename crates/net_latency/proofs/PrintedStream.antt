-- The frames of a talker whose stream has a printed line with delays and without `refusable` are delivered.
use Rattle.std.proofs.Common.{◌≡◌, ℕ, true, List, Some, Vec, map}
use Rattle.std.specs.Prelude.{slice_get}
use Rattle.std.specs.Option.{ForSome}
use Rattle.bridge_limits.specs.Members.{IsMember}
use Rattle.bridge_capture.specs.Grammar.{CapturedFrame}
use Rattle.bridge_semantics.specs.declared.outcome.Outcome.{Outcome}
use Rattle.bridge_semantics.specs.Events.{Arrival, Arrived, own_events}
use Rattle.bridge_semantics.specs.Merge.{Input, capture_inputs, input_events}
use Rattle.bridge_bounds.specs.declared.traffic.Traffic.{Traffic}
use Rattle.bridge_bounds.specs.Traffic.{IsTraffic}
use Rattle.net_file.specs.declared.talker.Talker.{Talker}
use Rattle.net_file.specs.Model.{Stream}
use Rattle.net_file.specs.Rules.{IsTalker}
use Rattle.net_model.specs.declared.links.StreamHop.{StreamHop}
use Rattle.net_model.specs.NetworkParts.{NetworkParts, network_value}
use Rattle.net_model.specs.Networks.{IsNetworkRun}
use Rattle.net_latency.specs.declared.bounds.QueueBound.{QueueBound}
use Rattle.net_latency.specs.declared.latency.StreamLatency.{StreamLatency}
use Rattle.net_latency.specs.declared.tree.HopQueue.{HopQueue}
use Rattle.net_latency.specs.Delivered.{AreCommands, IsAcceptedNetwork, IsDeliveredAlong, IsForwardedAlong, IsStreamOfNetwork, KeepsTalkerTraffic}
use Rattle.net_latency.specs.DeliveredStreams.{DeliversStreams}
use Rattle.net_latency.specs.Streams.{AreQueueBoundsOfPlans, stream_hop_value}
use Rattle.net_latency.specs.Talkers.{IsTalkerLatency, hop_queues, talker_traffic}
use Rattle.net_latency.proofs.ReachedQueues.{all_reached}
use Rattle.net_latency.proofs.StreamKept.{course_of, hop_course}
use Rattle.net_latency.proofs.TalkerDelivered.{delivered}
use Rattle.net_latency.proofs.TalkerPort.{talker_frame, talker_keeps}

talker_is : (t : Talker) → IsTalker t → IsTraffic (talker_traffic t)
talker_is t is = record { phases = is.phases; within = is.within; period = is.period; some = is.some; lengths = is.lengths; longest = is.longest }

pub printed_delivered : {A : Type 0} (n : NetworkParts A) (bounds : List (Vec QueueBound A)) (hops : List StreamHop) (talker : Talker) (r : StreamLatency) (first : StreamHop) (q : ℕ) (commands : ℕ → List Input) (captures : ℕ → ℕ → List CapturedFrame) (o : ℕ → Outcome A) (run : IsNetworkRun (network_value n) commands captures o) (a : Arrival) (out : ℕ) (ports : List ℕ)
    → IsAcceptedNetwork n → IsStreamOfNetwork n hops → AreQueueBoundsOfPlans n.plans bounds → IsTalker talker → IsTalkerLatency n.plans n.links bounds (Some talker) hops (Some r) → r.passes ≡ true → AreCommands commands → slice_get hops 0 ≡ Some first
    → (sent : KeepsTalkerTraffic n captures (talker_traffic talker) first q) → IsMember (Arrived a) (own_events sent.plan first.filter sent.filter (input_events (capture_inputs q (captures first.bridge q)))) → IsForwardedAlong n.plans n.links hops a.octets a.len first.bridge a.port out ports
    → IsDeliveredAlong n hops (hop_queues bounds hops) run.lists (talker_traffic talker) r first a out ports
printed_delivered n bounds hops talker r first q commands captures o run a out ports accepted known are valid is pass commanded begins sent i way =
    let t : Traffic = talker_traffic talker in
    let queues : List HopQueue = hop_queues bounds hops in
    let all = all_reached n.plans bounds hops are in
    let c = course_of n.plans n.links hops queues t r is in
    let h = hop_course n.plans n.links hops queues t first c.course begins c.is in
    let keeps = talker_keeps n hops queues first commands captures o accepted known all commanded begins c.once h.tree run t q sent in
    let frame = talker_frame n hops queues first commands captures o accepted known all commanded begins c.once h.tree run t q a sent i in
    delivered n hops queues t r first commands captures o run a out ports accepted known all commanded (talker_is talker valid) begins keeps is pass frame way

-- Each stream of an accepted network whose line has delays without `refusable` is delivered.
pub printed_streams_delivered : {A : Type 0} (n : NetworkParts A) (bounds : List (Vec QueueBound A)) (streams : List Stream)
    → IsAcceptedNetwork n
    → AreQueueBoundsOfPlans n.plans bounds
    → ((s : Stream) → IsMember s streams → IsStreamOfNetwork n (map stream_hop_value s.hops))
    → ((s : Stream) → IsMember s streams → ForSome s.talker IsTalker)
    → DeliversStreams n bounds streams
printed_streams_delivered n bounds streams accepted are known valid = λ s talker r i talks is pass first q commands captures o run a out ports commanded begins sent frame way.
    printed_delivered n bounds (map stream_hop_value s.hops) talker r first q commands captures o run a out ports accepted (known s i) are ((valid s i) talker talks) is pass commanded begins sent frame way
