-- The state of a port after offers and starts.
use Rattle.std.specs.Prelude.{ℕ, ◌+◌, Option, Some, None, Result, Ok, Err}
use Rattle.bridge_port.specs.declared.item.Item.{Item}
use Rattle.bridge_port.specs.declared.item.Refusal.{Refusal}
use Rattle.bridge_port.specs.StandsFor.{offer_refusal, offered_state, started_state}
use Rattle.bridge_semantics.specs.declared.queued_frame.QueuedFrame.{QueuedFrame}
use Rattle.bridge_semantics.specs.declared.outcome.PortCount.{PortCount}
use Rattle.bridge_relay.specs.declared.port_state.PortState.{PortState}
use Rattle.bridge_relay.specs.declared.port_state.Ingress.{Ingress}
use Rattle.bridge_relay.specs.declared.port_state.Ingress.TheVariants as came

-- The counts after one more copy: queued if there is no refusal (`None`), otherwise dropped.
abbrev pub count_copy : PortCount → Option Refusal → PortCount
count_copy c None = record c { sent = c.sent + 1 }
count_copy c (Some r) = record c { dropped = c.dropped + 1 }

-- Port `s` after the offer of item `x` for class `c` at time `t` in ns.
abbrev pub offered_port : {A : Type 0} → PortState A → ℕ → ℕ → Item (QueuedFrame A) → PortState A
offered_port s t c x = record s { port = offered_state s.port t c x; count = count_copy s.count (offer_refusal s.port c x) }

-- Port `s` after the start of item `x` of class `c` at time `k` in ns.
abbrev pub started_port : {A : Type 0} → PortState A → ℕ → ℕ → Item (QueuedFrame A) → PortState A
started_port s k c x = record s { port = started_state s.port k c x }

-- The answer to an offer: `Ok` if the port queued the copy, otherwise the refusal.
abbrev pub refusal_result : Option Refusal → Result (Unit {0}) Refusal
refusal_result None = Ok tt
refusal_result (Some r) = Err r

-- The answer of port `s` to an offer of item `x` for class `c`.
abbrev pub offer_result : {A : Type 0} → PortState A → ℕ → Item (QueuedFrame A) → Result (Unit {0}) Refusal
offer_result s c x = refusal_result (offer_refusal s.port c x)

-- The counts of a port after one more arriving frame, which the bridge handled as `came` shows.
abbrev pub count_ingress : PortCount → Ingress → PortCount
count_ingress c came.Malformed = record c { frames = c.frames + 1; malformed = c.malformed + 1 }
count_ingress c came.Nowhere = record c { frames = c.frames + 1; nowhere = c.nowhere + 1 }
count_ingress c came.Unfiltered = record c { frames = c.frames + 1; unfiltered = c.unfiltered + 1 }
count_ingress c came.Policed = record c { frames = c.frames + 1 }
