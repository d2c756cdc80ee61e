-- The printed delays of a stream hold for each frame of its talker, whatever all others send.
use Rattle.std.proofs.Common.{◌≡◌, ℕ, Bool, true, false, List, Option, Some, None, refl, sym, subst}
use Rattle.std.specs.Prelude.{length, slice_get}
use Rattle.std.proofs.lemmas.Option.{same_Some}
use Rattle.bridge_limits.proofs.Cases.{by_bool}
use Rattle.bridge_limits.proofs.Options.{some_is_none}
use Rattle.bridge_config.specs.Model.{Plan}
use Rattle.bridge_semantics.specs.declared.outcome.Outcome.{Outcome}
use Rattle.bridge_semantics.specs.Merge.{Input}
use Rattle.bridge_capture.specs.Grammar.{CapturedFrame}
use Rattle.bridge_bounds.specs.declared.traffic.Traffic.{Traffic}
use Rattle.bridge_bounds.specs.Traffic.{IsTraffic}
use Rattle.net_model.specs.declared.links.Link.{Link}
use Rattle.net_model.specs.declared.links.StreamHop.{StreamHop}
use Rattle.net_model.specs.NetworkParts.{NetworkParts, network_value}
use Rattle.net_model.specs.Networks.{IsNetworkRun}
use Rattle.net_latency.specs.declared.latency.StreamLatency.{StreamLatency}
use Rattle.net_latency.specs.declared.tree.HopQueue.{HopQueue}
use Rattle.net_latency.specs.Delivered.{AreCommands, HasReachableQueues, IsAcceptedNetwork, IsStreamOfNetwork}
use Rattle.net_latency.specs.Entering.{IsStreamCourse, are_received_by_next_hops, come_in_once, handed_course, tested_course}
use Rattle.net_latency.specs.Phased.{IsRouteOfStream, KeepsStreamLatency, KeepsTrafficAtHop, stream_hop}
use Rattle.net_latency.specs.StreamLatency.{IfElse, IsHopLatency, IsLatencyWithinOther, IsStreamLatency, IsStreamLatencyFromHop, StreamModel, first_hop_arrival}
use Rattle.net_latency.specs.Trees.{is_tree}
use Rattle.net_latency.specs.Ways.{IsRoute, RouteHop}
use Rattle.net_latency.proofs.FedInTurn.{fed_in_turn}
use Rattle.net_latency.proofs.Phased.{way_in_phases}
use Rattle.net_latency.proofs.WaysOf.{figures_of_way}

-- The known delays of a stream, before the test of handed frames.
pub record HasCourse {A : Type 0} (plans : List (Plan A)) (links : List Link) (hops : List StreamHop) (queues : List HopQueue) (t : Traffic) (r : StreamLatency) : Type 0 where
  pub course : StreamLatency
  pub is : IsStreamLatency plans links hops queues t (Some course)
  pub once : come_in_once plans links true hops ≡ true
  pub same : handed_course (are_received_by_next_hops plans links hops queues) course ≡ r

course_by : {A : Type 0} (plans : List (Plan A)) (links : List Link) (hops : List StreamHop) (queues : List HopQueue) (t : Traffic) (r : StreamLatency) (c : Option StreamLatency) (once : Bool)
    → IsStreamLatency plans links hops queues t c → come_in_once plans links true hops ≡ once → Some r ≡ tested_course once (are_received_by_next_hops plans links hops queues) c → HasCourse plans links hops queues t r
course_by plans links hops queues t r None once is test e = absurd (some_is_none r e)
course_by plans links hops queues t r (Some x) true is test e = record { course = x; is = is; once = test; same = sym (same_Some r _ e) }
course_by plans links hops queues t r (Some x) false is test e = absurd (some_is_none r e)

pub course_of : {A : Type 0} (plans : List (Plan A)) (links : List Link) (hops : List StreamHop) (queues : List HopQueue) (t : Traffic) (r : StreamLatency) → IsStreamCourse plans links hops queues t (Some r) → HasCourse plans links hops queues t r
course_of plans links hops queues t r (c, is, e) = course_by plans links hops queues t r c (come_in_once plans links true hops) is refl e

-- The delays of all routes from the first hop. The hops are a tree.
pub record HasHopCourse {A : Type 0} (plans : List (Plan A)) (links : List Link) (hops : List StreamHop) (queues : List HopQueue) (t : Traffic) (first : StreamHop) (x : StreamLatency) : Type 0 where
  pub tree : is_tree links hops queues first ≡ true
  pub told : IsHopLatency {A = A} (record { plans = plans; links = links; hops = hops; queues = queues; from = t.from }) (length hops) first (first_hop_arrival t) (Some x)

pub hop_course : {A : Type 0} (plans : List (Plan A)) (links : List Link) (hops : List StreamHop) (queues : List HopQueue) (t : Traffic) (first : StreamHop) (x : StreamLatency) → slice_get hops 0 ≡ Some first → IsStreamLatency plans links hops queues t (Some x) → HasHopCourse plans links hops queues t first x
hop_course {A} plans links hops queues t first x begins is =
    let parts : StreamModel A = record { plans = plans; links = links; hops = hops; queues = queues; from = t.from } in
    let here : IsStreamLatencyFromHop parts t (Some first) (Some x) = subst (λ (o : Option StreamHop). IsStreamLatencyFromHop parts t o (Some x)) begins is in
    let P : Bool → Type 0 = λ b. IfElse b (IsHopLatency parts (length hops) first (first_hop_arrival t) (Some x)) (Some x ≡ None) in
    by_bool (is_tree links hops queues first)
    (λ k. record { tree = k; told = subst P k here })
    (λ k. absurd (some_is_none x (subst P k here)))

same_within : (h : Bool) (x y r : StreamLatency) → handed_course h y ≡ r → IsLatencyWithinOther x y → IsLatencyWithinOther x r
same_within h x y r same is = subst (IsLatencyWithinOther x) same (record { worst = is.worst; best = is.best; from = is.from; to = is.to })

pub kept : {A : Type 0} (n : NetworkParts A) (hops : List StreamHop) (queues : List HopQueue) (t : Traffic) (r : StreamLatency) (commands : ℕ → List Input) (captures : ℕ → ℕ → List CapturedFrame) (o : ℕ → Outcome A) (run : IsNetworkRun (network_value n) commands captures o) (leg : RouteHop A) (more : List (ℕ × RouteHop A))
    → IsAcceptedNetwork n → IsStreamOfNetwork n hops → HasReachableQueues n.plans hops queues → AreCommands commands → IsTraffic t → IsStreamCourse n.plans n.links hops queues t (Some r) → slice_get hops 0 ≡ Some (stream_hop leg)
    → IsRoute (network_value n) run.lists leg more → IsRouteOfStream n.links hops queues leg more → KeepsTrafficAtHop run.inputs t leg → KeepsStreamLatency t leg more r
kept n hops queues t r commands captures o run leg more accepted listed all commanded traffic is begins way of keeps =
    let c = course_of n.plans n.links hops queues t r is in
    let h = hop_course n.plans n.links hops queues t (stream_hop leg) c.course begins c.is in
    let fed = fed_in_turn n hops queues (stream_hop leg) commands captures o accepted listed all commanded begins c.once h.tree run leg more way of in
    let f = figures_of_way (network_value n) run.lists n.links hops queues t leg more c.course way begins of c.is in
    let held = way_in_phases (network_value n) commands captures o accepted.checked.network run leg more t f.figures f.done way fed traffic keeps f.are in
    record { figures = f.figures; done = f.done; are = f.are; within = same_within (are_received_by_next_hops n.plans n.links hops queues) f.figures c.course r c.same f.within; keeps = held }
