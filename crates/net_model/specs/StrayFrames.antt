-- Stray frames: a hop accepts them over a link, but they belong to no hop of its stream. A stream with stray frames
-- isn't closed.
use Rattle.std.specs.Prelude.{◌≡◌, ℕ, Bool, false, ◌&&◌, List, [], Option, None, Some, is_some, slice_get}
use Rattle.bridge_config.specs.declared.ports.PortPlan.{PortPlan}
use Rattle.bridge_config.specs.Model.{Plan}
use Rattle.bridge_config.specs.Rules.{find_port}
use Rattle.net_model.specs.declared.links.Link.{Link}
use Rattle.net_model.specs.declared.links.StreamHop.{StreamHop}
use Rattle.net_model.specs.declared.sending_port.FoundFrames.{FoundFrames}
use Rattle.net_model.specs.declared.sending_port.FrameQuery.TheVariants.{Strays}
use Rattle.net_model.specs.declared.stray.StrayFrame.{StrayFrame}
use Rattle.net_model.specs.declared.taking_filter.TakingFilter.{TakingFilter}
use Rattle.net_model.specs.Networks.{End}
use Rattle.net_model.specs.ClosedTest.{has_hop}
use Rattle.net_model.specs.FrameSearch as finding
use Rattle.net_model.specs.Faults.{protected_handle, first_taken_at_port_number, first_taken_at_port}
use Rattle.net_model.specs.SearchState as walking
use Rattle.net_model.specs.NetworkParts.{NetworkParts, peer_port, stream_value}

-- Holds if the hop's filter accepts frames `s` at its port, and the search looks for them.
abbrev pub IsSample : {A : Type 0} → TakingFilter A → StrayFrame → Type 0
IsSample t s = (f : FoundFrames) × (walking.first_frame_with_tag t s.entry s.tag ≡ Some f)

-- Holds if the optional bridge may send frames `s` from `e`, and filter `n` accepts them at port `on`. The frames belong to no hop of the
-- stream.
abbrev pub IsStrayOfSender : {A : Type 0} → List StreamHop → End → Plan A → PortPlan A → ℕ → Option (Plan A) → StrayFrame → Type 0
IsStrayOfSender hops e next on n None s = ⊥
IsStrayOfSender hops e next on n (Some p) s = (f : FoundFrames) × (finding.first_taken_with_tag Strays p (has_hop (stream_value hops) e.bridge) e.port next on n s.entry s.tag ≡ Some f)

-- Holds if filter `n` accepts stray frames `s` at port `on` over a link from the optional end.
abbrev pub IsStrayOfPeer : {A : Type 0} → List (Plan A) → List StreamHop → Plan A → PortPlan A → ℕ → Option End → StrayFrame → Type 0
IsStrayOfPeer plans hops next on n None s = ⊥
IsStrayOfPeer plans hops next on n (Some e) s = IsStrayOfSender hops e next on n (slice_get plans e.bridge) s

-- Holds if hop `h` accepts stray frames `s` over the link of the optional port of its bridge.
abbrev pub IsStrayAtPort : {A : Type 0} → List (Plan A) → List Link → List StreamHop → StreamHop → Plan A → Option (PortPlan A) → StrayFrame → Type 0
IsStrayAtPort plans links hops h next None s = ⊥
IsStrayAtPort plans links hops h next (Some on) s = IsStrayOfPeer plans hops next on h.filter (peer_port links h.bridge on.number) s

-- Holds if hop `h` accepts stray frames `s` over the link of port `port`. The optional plan is the plan of the hop's bridge.
abbrev pub IsStrayAtPortNumber : {A : Type 0} → List (Plan A) → List Link → List StreamHop → StreamHop → ℕ → Option (Plan A) → StrayFrame → Type 0
IsStrayAtPortNumber plans links hops h port None s = ⊥
IsStrayAtPortNumber plans links hops h port (Some next) s = IsStrayAtPort plans links hops h next (find_port next.ports port) s

-- Holds if hop `h` accepts frames `s` over the link of port `port`, although they belong to no hop of the stream.
abbrev pub IsStray : {A : Type 0} → List (Plan A) → List Link → List StreamHop → StreamHop → ℕ → StrayFrame → Type 0
IsStray plans links hops h port s = IsStrayAtPortNumber plans links hops h port (slice_get plans h.bridge) s

-- EXISTENCE OF STRAY FRAMES

-- The parts of a network with these plans and links, without streams.
abbrev pub wired : {A : Type 0} → List (Plan A) → List Link → NetworkParts A
wired plans links = record { plans = plans; links = links; streams = [] }

-- True if the search finds stray frames that hop `h` may accept over the link of the optional port. The hop's protected filter must name a stream handle.
abbrev pub has_stray_on : {A : Type 0} → List (Plan A) → List Link → List StreamHop → StreamHop → Plan A → Option (PortPlan A) → Bool
has_stray_on plans links hops h next on = is_some (protected_handle next.filters h.filter) && is_some (first_taken_at_port Strays (wired plans links) hops h next on)

-- True if the hop test Closed finds stray frames for hop `h` at port `q`. The optional plan is the plan of the hop's bridge.
abbrev pub has_stray_in : {A : Type 0} → List (Plan A) → List Link → List StreamHop → StreamHop → ℕ → Option (Plan A) → Bool
has_stray_in plans links hops h q None = false
has_stray_in plans links hops h q (Some next) = is_some (protected_handle next.filters h.filter) && is_some (first_taken_at_port_number Strays (wired plans links) hops h next q)

-- True if the hop test Closed finds stray frames for hop `h` at port `q`. Over this port's link, the hop may accept frames of no hop of the stream.
abbrev pub has_stray_at : {A : Type 0} → List (Plan A) → List Link → List StreamHop → StreamHop → ℕ → Bool
has_stray_at plans links hops h q = has_stray_in plans links hops h q (slice_get plans h.bridge)
