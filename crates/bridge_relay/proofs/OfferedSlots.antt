-- An offer to a port of a relay.
use Rattle.std.proofs.Common.{◌≡◌, ℕ, ◌∙◌, ap, sym, refl, Option, Some, None}
use Rattle.std.specs.Prelude.{Result, Ok, Err}
use Rattle.bridge_port.specs.declared.item.Item.{Item}
use Rattle.bridge_port.specs.declared.item.Refusal.{Refusal}
use Rattle.bridge_port.specs.StandsFor.{EgressState, offer_answer, offered_state, offer_refusal}
use Rattle.bridge_semantics.specs.declared.queued_frame.QueuedFrame.{QueuedFrame}
use Rattle.bridge_relay.specs.declared.port_state.PortState.{PortState}
use Rattle.bridge_relay.specs.PortStates.{count_copy, offered_port}

pub queued_none : {X : Type 0} (r : Option Refusal) (x : X) (o : Result (Unit {0}) (X × Refusal)) → o ≡ Ok tt → o ≡ offer_answer r x → r ≡ None
queued_none None x o is answer = refl
queued_none {X} (Some q) x o is answer = absurd (let e : ◌≡◌ {A = Result (Unit {0}) (X × Refusal)} (Ok tt) (Err (x, q)) = sym is ∙ answer in cc)

pub refused_some : {X : Type 0} (r : Option Refusal) (x y : X) (q : Refusal) (o : Result (Unit {0}) (X × Refusal)) → o ≡ Err (y, q) → o ≡ offer_answer r x → r ≡ Some q
refused_some {X} None x y q o is answer = absurd (let e : ◌≡◌ {A = Result (Unit {0}) (X × Refusal)} (Err (y, q)) (Ok tt) = sym is ∙ answer in cc)
refused_some {X} (Some p) x y q o is answer = let e : ◌≡◌ {A = Result (Unit {0}) (X × Refusal)} (Err (y, q)) (Err (x, p)) = sym is ∙ answer in let k : ◌≡◌ {A = X × Refusal} (x, p) (y, q) = cc in ap (λ (z : X × Refusal). Some z.1) k

-- The port's state after an offer, by the answer.
pub moved_by : {A : Type 0} (s : PortState A) (new : EgressState (QueuedFrame A)) (t c : ℕ) (x : Item (QueuedFrame A)) (r : Option Refusal) → offer_refusal s.port c x ≡ r → new ≡ offered_state s.port t c x → record s { port = new; count = count_copy s.count r } ≡ offered_port s t c x
moved_by {A} s new t c x r is moved =
    ap (λ (p : EgressState (QueuedFrame A)). record s { port = p; count = count_copy s.count r }) moved
    ∙ ap (λ (o : Option Refusal). record s { port = offered_state s.port t c x; count = count_copy s.count o }) (sym is)
