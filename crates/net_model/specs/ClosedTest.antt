-- A test on plans and links which shows that a stream is closed: over links, its hops accept only frames of the
-- stream's hops (`IsClosed`).
use Rattle.std.specs.Prelude.{ℕ, Bool, true, false, ◌&&◌, nat_eq, List, Option, Some, None, slice_get}
use Rattle.std.specs.List.{list_any, list_all}
use Rattle.bridge_filter.specs.declared.FilterPlan.{FilterPlan}
use Rattle.bridge_config.specs.declared.ports.PortPlan.{PortPlan}
use Rattle.bridge_config.specs.Model.{Plan}
use Rattle.net_model.specs.Networks.{Network, Sender, sender}
use Rattle.net_model.specs.LinkFrames.{takes_only}

-- True if the stream, a list of pairs, contains the bridge index `b` paired with the filter number `m`.
abbrev pub has_hop : List (ℕ × ℕ) → ℕ → ℕ → Bool
has_hop stream b m = list_any (λ (x : ℕ × ℕ). nat_eq x.0 b && nat_eq x.1 m) stream

-- True if plan `p` has a protected filter with number `m`.
abbrev pub is_protected : {A : Type 0} → Plan A → ℕ → Bool
is_protected p m = list_any (λ (f : ℕ × FilterPlan). nat_eq f.0 m && f.1.protected) p.filters

-- True if filter `m` of plan `next`, at port `on`, accepts from sender `s` only frames of the stream. False if the sending bridge is
-- missing.
abbrev pub takes_only_from_sender : {A : Type 0} → Option (Plan A) → List (ℕ × ℕ) → Sender → Plan A → PortPlan A → ℕ → Bool
takes_only_from_sender None stream s next on m = false
takes_only_from_sender (Some p) stream s next on m = takes_only p (has_hop stream s.from.bridge) s.from.port next on m

-- True if filter `m` of plan `next`, at port `on`, accepts from the optional sender only frames of the stream. True without a sender, as on
-- an open port.
abbrev pub takes_only_on_port : {A : Type 0} → Network A → List (ℕ × ℕ) → Option Sender → Plan A → PortPlan A → ℕ → Bool
takes_only_on_port n stream None next on m = true
takes_only_on_port n stream (Some s) next on m = takes_only_from_sender (slice_get n.bridges s.from.bridge) stream s next on m

-- True if filter `m` of bridge `b` is protected and accepts over links only frames of the stream. False if the bridge is missing.
abbrev pub hop_passes : {A : Type 0} → Network A → List (ℕ × ℕ) → ℕ → ℕ → Option (Plan A) → Bool
hop_passes {A} n stream b m None = false
hop_passes {A} n stream b m (Some p) =
    is_protected p m
    && list_all (λ (on : PortPlan A). takes_only_on_port n stream (sender n.links b on.number) p on m) p.ports

-- True if each hop of the stream is protected and accepts over links only frames of the stream.
abbrev pub stream_passes : {A : Type 0} → Network A → List (ℕ × ℕ) → Bool
stream_passes n stream = list_all (λ (x : ℕ × ℕ). hop_passes n stream x.0 x.1 (slice_get n.bridges x.0)) stream
