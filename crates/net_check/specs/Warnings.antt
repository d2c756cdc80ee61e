-- All warnings of an accepted network: the warnings of `Telling`, then the warnings of its streams.
use Rattle.std.specs.Prelude.{◌≡◌, ℕ, suc, ◌+◌, Bool, true, false, not, ◌&&◌, List, [], ◌∷◌, ◌++◌, Option, Some, None, Vec, flat_map, is_some, length, map, nat_eq, slice_get, codes, decimal, if◌then◌else◌}
use Rattle.std.specs.List.{list_any}
use Rattle.bridge_config.specs.declared.ports.PortPlan.{PortPlan}
use Rattle.bridge_config.specs.Model.{Plan}
use Rattle.net_file.specs.Model.{Stream}
use Rattle.net_file.specs.Model as file
use Rattle.net_model.specs.declared.links.StreamHop.{StreamHop}
use Rattle.net_model.specs.NetworkParts.{NetworkParts}
use Rattle.net_model.specs.LoopSteps.{collect_below}
use Rattle.net_latency.specs.Entering.{may_come_in}
use Rattle.net_latency.specs.declared.bounds.QueueBound.{QueueBound}
use Rattle.net_check.specs.Naming.{bridge_name}
use Rattle.net_latency.specs.Streams.{AreQueueBoundsOfPlans, stream_hop_value, bounds_if_any}
use Rattle.net_latency.specs.Talkers.{is_queue_of_hop}
use Rattle.net_check.specs.Telling.{AreNetworkWarnings}

-- FRAMES OF OTHER TALKERS

-- The warning that frames of other talkers can arrive at hop `k` of stream `i` on port `port` of bridge `name`. Both are indexes from 0;
-- the line counts from 1.
unfoldable pub entering_line : ℕ → ℕ → List ℕ → ℕ → List ℕ
entering_line i k name port =
    codes "may also come in: stream " ++ (decimal (i + 1) ++ (codes " hop " ++ (decimal (k + 1) ++ (codes " " ++ (name ++ (codes "." ++ (decimal port ++ codes "\n")))))))

-- The warning about port `on` of plan `p`, if other devices' frames can get the handle of hop `h` there; otherwise empty. `h` is hop `k` of
-- stream `i`.
abbrev pub entering_text : {A : Type 0} → file.Network → NetworkParts A → ℕ → ℕ → StreamHop → Plan A → PortPlan A → List ℕ
entering_text f n i k h p on =
    if may_come_in n.links (nat_eq k 0) h p on then entering_line i k (bridge_name f.bridges h.bridge) on.number else []

-- The warnings about ports at which other devices' frames can get the handle of hop `h`, hop `k` of stream `i`. Empty if the optional plan
-- of the hop's bridge is missing.
abbrev pub entering_at : {A : Type 0} → file.Network → NetworkParts A → ℕ → ℕ → StreamHop → Option (Plan A) → List ℕ
entering_at f n i k h None = []
entering_at f n i k h (Some p) = flat_map (entering_text f n i k h p) p.ports

-- The warnings `may also come in` about hop `k` of stream `i`, if the talker is periodic (`true`). Otherwise the stream has no delays that
-- other devices' frames could spoil.
abbrev pub entering_if : {A : Type 0} → file.Network → NetworkParts A → ℕ → Bool → ℕ → StreamHop → List ℕ
entering_if f n i false k h = []
entering_if f n i true k h = entering_at f n i k h (slice_get n.plans h.bridge)

-- HOPS WITHOUT REACHABLE QUEUE

-- True if one of these bounds, listed by bridge, belongs to a queue of hop `h`. Then the hop's frames can leave the bridge.
abbrev pub has_queue : {A : Type 0} → List (Vec QueueBound A) → StreamHop → Bool
has_queue bounds h = list_any (is_queue_of_hop h) (bounds_if_any (slice_get bounds h.bridge))

-- The warning that frames of hop `k` of stream `i` have no reachable queue. Both are indexes from 0; the line counts from 1.
unfoldable pub nowhere_line : ℕ → ℕ → List ℕ
nowhere_line i k = codes "leads nowhere: stream " ++ (decimal (i + 1) ++ (codes " hop " ++ (decimal (k + 1) ++ codes "\n")))

-- The warning about hop `k` of stream `i` if the hop has no reachable queue; otherwise empty.
abbrev pub nowhere_text : {A : Type 0} → List (Vec QueueBound A) → ℕ → ℕ → StreamHop → List ℕ
nowhere_text bounds i k h = if has_queue bounds h then [] else nowhere_line i k

-- ALL WARNINGS

-- The warnings about hop `k` of stream `i`: ports where other devices' frames can enter, if the talker is `periodic`, and no reachable
-- queue.
abbrev pub hop_text : {A : Type 0} → file.Network → NetworkParts A → List (Vec QueueBound A) → ℕ → Bool → ℕ → StreamHop → List ℕ
hop_text f n bounds i periodic k h = entering_if f n i periodic k h ++ nowhere_text bounds i k h

-- The warnings about hop `k` of stream `i`, whose talker may be `periodic`; empty if the hop is missing.
abbrev pub place_text : {A : Type 0} → file.Network → NetworkParts A → List (Vec QueueBound A) → ℕ → Bool → ℕ → Option StreamHop → List ℕ
place_text f n bounds i periodic k None = []
place_text f n bounds i periodic k (Some h) = hop_text f n bounds i periodic k h

-- The warnings about all hops of stream `i`, in order. `periodic` is true if its talker is periodic.
abbrev pub hops_text : {A : Type 0} → file.Network → NetworkParts A → List (Vec QueueBound A) → ℕ → Bool → List StreamHop → List ℕ
hops_text f n bounds i periodic hops =
    collect_below (length hops) (λ (k : ℕ). place_text f n bounds i periodic k (slice_get hops k))

-- The warnings about stream `i`: the warnings of its hops, in order.
abbrev pub stream_text : {A : Type 0} → file.Network → NetworkParts A → List (Vec QueueBound A) → ℕ → Stream → List ℕ
stream_text f n bounds i s =
    hops_text f n bounds i (is_some s.talker) (map stream_hop_value s.hops)

-- The warnings of all streams. The first stream has index `i`.
abbrev pub streams_text : {A : Type 0} → file.Network → NetworkParts A → List (Vec QueueBound A) → ℕ → List Stream → List ℕ
streams_text f n bounds i [] = []
streams_text f n bounds i (s ∷ ss) = stream_text f n bounds i s ++ streams_text f n bounds (suc i) ss

-- Holds if `text` has all warnings of an accepted network: warnings that need no delays, then warnings of its streams' hops.
pub record AreWarnings {A : Type 0} (f : file.Network) (n : NetworkParts A) (text : List ℕ) : Type 0 where
  pub bounds : List (Vec QueueBound A)
  pub are_bounds : AreQueueBoundsOfPlans n.plans bounds
  pub told : List ℕ
  pub are_told : AreNetworkWarnings f n told
  pub text_is : text ≡ told ++ streams_text f n bounds 0 f.streams
