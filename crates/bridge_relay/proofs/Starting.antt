-- A start of a port of a relay.
use Rattle.std.proofs.Common.{◌≡◌, ℕ, ◌+◌, ◌-◌, ap, ◌∙◌, arith, Some}
use Rattle.bridge_frame.specs.declared.Speed.{Speed}
use Rattle.bridge_frame.specs.Link.{transmission_time}
use Rattle.bridge_port.specs.declared.item.Item.{Item}
use Rattle.bridge_port.specs.StandsFor.{EgressState, started_state, IsNextStart, IsNextStartTime}
use Rattle.bridge_semantics.specs.declared.queued_frame.QueuedFrame.{QueuedFrame}
use Rattle.bridge_relay.specs.declared.port_state.PortState.{PortState}
use Rattle.bridge_relay.specs.PortStates.{started_port}

pub start_is : {T : Type 0} (old new : EgressState T) (start c : ℕ) (x : Item T) → IsNextStartTime old (Some start) → ((k d : ℕ) (y : Item T) → IsNextStart old k d y → (new.earliest ≡ k + 1) × (c ≡ d) × (x ≡ y)) → new.earliest - 1 ≡ start
start_is old new start c x due which = let z = (which start due.0 due.1 due.2).0 in omega arith

pub moved_is : {A : Type 0} (s : PortState A) (new : EgressState (QueuedFrame A)) (start c : ℕ) (x : Item (QueuedFrame A)) → new.earliest - 1 ≡ start → new ≡ started_state s.port (new.earliest - 1) c x → record s { port = new } ≡ started_port s start c x
moved_is {A} s new start c x k moved = ap (λ (p : EgressState (QueuedFrame A)). record s { port = p }) (moved ∙ ap (λ (n : ℕ). started_state s.port n c x) k)

pub done_is : {T : Type 0} (old new : EgressState T) (start c : ℕ) (x : Item T) (speed : Speed) (done : ℕ) → new.earliest - 1 ≡ start → new ≡ started_state old (new.earliest - 1) c x → old.speed ≡ speed → done ≡ new.free → done ≡ start + transmission_time x.len speed
done_is {T} old new start c x speed done k moved same free = free ∙ (ap (λ (p : EgressState T). p.free) moved ∙ (ap (λ (n : ℕ). n + transmission_time x.len old.speed) k ∙ ap (λ (v : Speed). start + transmission_time x.len v) same))
