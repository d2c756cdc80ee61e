use Rattle.std.proofs.Common.{◌≡◌, ℕ, List, sym, subst, ap, ◌∙◌}
use Rattle.bridge_relay.specs.Recorders.{RecorderState, update_number, without_room}
use Rattle.bridge_relay.specs.Ports.{count_outputs}
use Rattle.bridge_relay.specs.RelayState.{RelayState, IsSound}
use Rattle.bridge_relay.specs.RelayedFrames.{AwaitsCopies, relay_with_release}
use Rattle.bridge_relay.proofs.Spares.{sound_released}
use Rattle.bridge_relay.proofs.relay.Relay.release_room.Goals as goal

pub invariant_of-self : goal.invariant_of-self
invariant_of-self g c =
    let b = c.self.inside in
    let old : RelayState _ _ = record { plan = b.plan.now; streams = b.ident; police = b.police; ports = b.ports; tables = b.tables.entries; arrived = b.arrived; earliest = b.earliest } in
    let pending = subst (λ (v : RelayState _ _). AwaitsCopies v (count_outputs v.ports.slots c.args.set 16) c.requires.0 1 c.args.filter) (sym c.self.view_is) c.requires.1 in
    let exact = subst (λ (n : ℕ). AwaitsCopies old n c.requires.0 1 c.args.filter) (sym c.count_outputs-count.ensures.count) pending in
    subst (λ (z : List (ℕ × RecorderState)). IsSound g.G.Agenda.held (record old { tables = z })) (sym c.release_room.ensures) (sound_released g.G.Agenda.held old c.requires.0 c.count_outputs-count.result.0 c.args.filter c.self.invariant exact)

pub returns-clause-sound : goal.returns-clause-sound
returns-clause-sound g c =
    let b = c.self.inside in
    let old : RelayState _ _ = record { plan = b.plan.now; streams = b.ident; police = b.police; ports = b.ports; tables = b.tables.entries; arrived = b.arrived; earliest = b.earliest } in
    let pending = subst (λ (v : RelayState _ _). AwaitsCopies v (count_outputs v.ports.slots c.args.set 16) c.requires.0 1 c.args.filter) (sym c.self.view_is) c.requires.1 in
    let exact = subst (λ (n : ℕ). AwaitsCopies old n c.requires.0 1 c.args.filter) (sym c.count_outputs-count.ensures.count) pending in
    subst (λ (z : List (ℕ × RecorderState)). IsSound g.G.Agenda.held (record old { tables = z })) (sym c.release_room.ensures) (sound_released g.G.Agenda.held old c.requires.0 c.count_outputs-count.result.0 c.args.filter c.self.invariant exact)

pub returns-clause-state : goal.returns-clause-state
returns-clause-state g c =
    let b = c.self.inside in
    let old : RelayState _ _ = record { plan = b.plan.now; streams = b.ident; police = b.police; ports = b.ports; tables = b.tables.entries; arrived = b.arrived; earliest = b.earliest } in
    let told = c.release_room.ensures ∙ ap (λ (n : ℕ). update_number c.args.filter (λ (t : RecorderState). without_room t n) b.tables.entries) c.count_outputs-count.ensures.count in
    subst (λ (v : RelayState _ _). record old { tables = c.release_room.new.tables.entries } ≡ relay_with_release v c.args.filter (count_outputs v.ports.slots c.args.set 16)) c.self.view_is (ap (λ (z : List (ℕ × RecorderState)). record old { tables = z }) told)

pub count_outputs-count-requires : goal.count_outputs-count-requires
count_outputs-count-requires g c κs h = (h.0, h.1)
