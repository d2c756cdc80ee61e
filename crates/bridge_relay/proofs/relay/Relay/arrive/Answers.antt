use Rattle.bridge_limits.specs.declared.TheConstants.{MAX_CAPTURED_OCTETS}
use Rattle.bridge_limits.proofs.Members.{each_in}
use contract.BorrowLft.{⊑_static}
use Rattle.std.proofs.Common.{◌≡◌, ℕ, ◌+◌, ◌≤◌, List, ◌∷◌, length, arith, sym, subst, ap, ◌∙◌, refl, Option, Some, false}
use Rattle.std.specs.Prelude.{IfSome, IsTrue, Vec}
use Rattle.std.specs.Option.{option_map}
use Rattle.bridge_filter.specs.declared.FilterInput.{FilterInput}
use Rattle.bridge_filter.specs.declared.FilterPlan.{FilterPlan}
use Rattle.bridge_filter.specs.Plans.{is_listed}
use Rattle.bridge_filter.specs.Routes.{IsFoundRoute}
use Rattle.bridge_filter.specs.Verdicts.{frame_filter}
use Rattle.bridge_config.specs.Rules.{find_port}
use Rattle.bridge_semantics.specs.Events.{Arrived, arrival, frame_destination}
use Rattle.bridge_relay.specs.declared.port_state.PortState.{PortState}
use Rattle.bridge_relay.specs.Recorders.{AwaitsVerdict}
use Rattle.bridge_relay.specs.Ports.{port_state, count_outputs, StartsNoEarlier}
use Rattle.bridge_relay.specs.RelayState.{RelayState, IsSound, OwesSpareCopies, RelayStandsFor, is_filter_unknown}
use Rattle.bridge_relay.specs.RelayedFrames.{HasCopies, HasUncountedFrame, input_filter_number, relay_before_frame}
use Rattle.bridge_semantics.proofs.Offering.{going}
use Rattle.bridge_relay.proofs.Found.{number_there}
use Rattle.bridge_relay.proofs.Offered.{stray_not}
use Rattle.bridge_relay.proofs.Relayed.{port_is}
use Rattle.bridge_relay.proofs.Spares.{fresh_promised, open_promised, promising, spare_promised, stands_promised}
use Rattle.bridge_relay.proofs.Ways.{slot_of}
use Rattle.bridge_relay.proofs.relay.Relay.arrive.Goals as goal
use Rattle.bridge_relay.proofs.relay.Relay.arrive.Goals.{in-Malformed, in-Nowhere, in-Forwarded+in-Ok}

pub find_destination-requires-clause-from : goal.find_destination-requires-clause-from
find_destination-requires-clause-from g c =
    let b = c.self.inside in
    let port = c.args.port in
    let now = c.args.self.now in
    let sound : IsSound g.G.Agenda.held now = subst (IsSound g.G.Agenda.held) c.self.view_is c.self.invariant in
    let is = port_is now.plan.ports port c.requires.known.0 sound.rules.ports.each c.requires.known.1 in
    let from = is.0.number_from in
    let number = is.1 in
    let low : 1 ≤ port = omega (arith, from, number) in
    low

pub find_destination-requires-clause-to : goal.find_destination-requires-clause-to
find_destination-requires-clause-to g c =
    let b = c.self.inside in
    let port = c.args.port in
    let now = c.args.self.now in
    let sound : IsSound g.G.Agenda.held now = subst (IsSound g.G.Agenda.held) c.self.view_is c.self.invariant in
    let is = port_is now.plan.ports port c.requires.known.0 sound.rules.ports.each c.requires.known.1 in
    let from = is.0.number_from in
    let number = is.1 in
    let low : 1 ≤ port = omega (arith, from, number) in
    let to = is.0.number_to in
    omega (arith, to, number)

pub count_unforwarded-requires-clause-known : goal.count_unforwarded-requires-clause-known
count_unforwarded-requires-clause-known g c =
    let b = c.self.inside in
    let port = c.args.port in
    let now = c.args.self.now in
    let sound : IsSound g.G.Agenda.held now = subst (IsSound g.G.Agenda.held) c.self.view_is c.self.invariant in
    let is = port_is now.plan.ports port c.requires.known.0 sound.rules.ports.each c.requires.known.1 in
    let from = is.0.number_from in
    let number = is.1 in
    let low : 1 ≤ port = omega (arith, from, number) in
    let slot = slot_of (find_port now.plan.ports port) (port_state now.ports port) c.requires.known.0 (sound.alike port low) c.requires.known.1 in
    slot

pub count_unforwarded-requires-clause-from : goal.count_unforwarded-requires-clause-from
count_unforwarded-requires-clause-from g c =
    let b = c.self.inside in
    let port = c.args.port in
    let now = c.args.self.now in
    let sound : IsSound g.G.Agenda.held now = subst (IsSound g.G.Agenda.held) c.self.view_is c.self.invariant in
    let is = port_is now.plan.ports port c.requires.known.0 sound.rules.ports.each c.requires.known.1 in
    let from = is.0.number_from in
    let number = is.1 in
    let low : 1 ≤ port = omega (arith, from, number) in
    low

pub count_unforwarded-requires-in-Nowhere-clause-known : goal.count_unforwarded-requires-in-Nowhere-clause-known
count_unforwarded-requires-in-Nowhere-clause-known g c =
    let b = c.self.inside in
    let port = c.args.port in
    let now = c.args.self.now in
    let sound : IsSound g.G.Agenda.held now = subst (IsSound g.G.Agenda.held) c.self.view_is c.self.invariant in
    let is = port_is now.plan.ports port c.requires.known.0 sound.rules.ports.each c.requires.known.1 in
    let from = is.0.number_from in
    let number = is.1 in
    let low : 1 ≤ port = omega (arith, from, number) in
    let slot = slot_of (find_port now.plan.ports port) (port_state now.ports port) c.requires.known.0 (sound.alike port low) c.requires.known.1 in
    slot

pub count_unforwarded-requires-in-Nowhere-clause-from : goal.count_unforwarded-requires-in-Nowhere-clause-from
count_unforwarded-requires-in-Nowhere-clause-from g c =
    let b = c.self.inside in
    let port = c.args.port in
    let now = c.args.self.now in
    let sound : IsSound g.G.Agenda.held now = subst (IsSound g.G.Agenda.held) c.self.view_is c.self.invariant in
    let is = port_is now.plan.ports port c.requires.known.0 sound.rules.ports.each c.requires.known.1 in
    let from = is.0.number_from in
    let number = is.1 in
    let low : 1 ≤ port = omega (arith, from, number) in
    low

pub relay_frame-requires : goal.relay_frame-requires
relay_frame-requires g c =
    let b = c.self.inside in
    let port = c.args.port in
    let now = c.args.self.now in
    let sound : IsSound g.G.Agenda.held now = subst (IsSound g.G.Agenda.held) c.self.view_is c.self.invariant in
    let is = port_is now.plan.ports port c.requires.known.0 sound.rules.ports.each c.requires.known.1 in
    let from = is.0.number_from in
    let number = is.1 in
    let low : 1 ≤ port = omega (arith, from, number) in
    let filter = c.route_number-filter.result in
    let set = c.in-Forwarded.set in
    let k = count_outputs now.ports.slots set 16 in
    let call = c.in-Forwarded.call in
    let came = arrival c.args.packet.time port c.deref.result.now c.args.packet.len in
    let goes = going now.plan came set call (sym c.find_destination.ensures.way ∙ c.in-Forwarded.is) in
    let same : c.prepare_copies.new.self ≡ promising now filter k = c.in-Ok.ensures.ok in
    let there : IfSome filter (λ n. IsTrue (is_listed n now.plan.filters)) = subst (λ (v : RelayState _ _). IfSome filter (λ n. IsTrue (is_listed n v.plan.filters))) c.self.view_is (subst (λ (fs : _). IfSome filter (λ n. IsTrue (is_listed n fs))) c.self.invariant.filters (number_there _ _ _ c.route_number-filter.ensures c.find_route-found.ensures.there)) in
    let numbered : filter ≡ input_filter_number now.plan call = (c.route_number-filter.ensures ∙ c.find_route-found.ensures.found.number call.at call.sdu call.octets call.dei) ∙ (ap (λ (fs : _). option_map (λ (f : ℕ × FilterPlan). f.0) (frame_filter fs call)) c.self.invariant.filters ∙ ap (λ (v : RelayState _ _). input_filter_number v.plan call) c.self.view_is) in
    let made = c.in-Ok.ensures.copies in
    let count = made.0 in
    let slot = slot_of (find_port now.plan.ports port) (port_state now.ports port) c.requires.known.0 (sound.alike port low) c.requires.known.1 in
    record {
      known = subst (λ (v : RelayState _ _). (s : PortState _) × (port_state v.ports port ≡ Some s)) (sym same) slot;
      from = low;
      at = sym (ap (λ (z : FilterInput). z.at) goes.call_is);
      time = (subst (λ (v : RelayState _ _). v.earliest ≤ c.args.packet.time) (sym c.in-Ok.ensures.ok) c.requires.time.0, c.requires.time.1);
      due = subst (λ (v : RelayState _ _). StartsNoEarlier (g.G.Agenda.held v.ports.agenda) c.args.packet.time) (sym same) c.requires.due;
      sound = c.in-Ok.ensures.sound;
      fresh = subst (λ (v : RelayState _ _). HasUncountedFrame v) (sym same) (fresh_promised g.G.Agenda.held now filter k sound);
      awaited = subst (λ (v : RelayState _ _). IfSome (input_filter_number v.plan call) (AwaitsVerdict v.tables)) (sym same) (subst (λ (o : Option ℕ). IfSome o (AwaitsVerdict (promising now filter k).tables)) numbered (open_promised g.G.Agenda.held now filter k sound there));
      spare = subst (λ (v : RelayState _ _). IfSome (input_filter_number v.plan call) (OwesSpareCopies v (count_outputs v.ports.slots set 16))) (sym same) (subst (λ (o : Option ℕ). IfSome o (OwesSpareCopies (promising now filter k) k)) numbered (spare_promised g.G.Agenda.held now filter k sound there));
      right = subst (λ (v : RelayState _ _). is_filter_unknown v.plan.filters (input_filter_number v.plan call) ≡ false) (sym same) (subst (λ (o : Option ℕ). is_filter_unknown now.plan.filters o ≡ false) numbered (stray_not now.plan.filters filter there));
      short = (c.in-Forwarded.ensures.length tt, c.requires.octets.1);
      priority = c.in-Forwarded.ensures.priority;
      found = subst (λ (v : RelayState _ _). IsFoundRoute v.police call.handle call.priority c.find_route-found.result) (sym same) (subst (λ (v : RelayState _ _). IsFoundRoute v.police call.handle call.priority c.find_route-found.result) c.self.view_is c.find_route-found.ensures.found);
      copies = subst (λ (v : RelayState _ _). HasCopies v.ports.slots set 1 c.args.packet.octets.items c.in-Ok.copies.items) (sym same)
          (record { count = omega (arith, count); alike = λ v i. each_in (λ (w : Vec ℕ _). w.items ≡ c.deref-in-Forwarded.result.now) c.in-Ok.copies.items v made.1 i ∙ c.deref-in-Forwarded.ensures.value });
    }

pub returns-clause-stands : goal.returns-clause-stands
returns-clause-stands g c = λ p es left st.
    let now = c.args.self.now in
    let a = arrival c.args.packet.time c.args.port c.args.packet.octets.items c.args.packet.len in
    let way : frame_destination p a ≡ c.find_destination.result = ap (λ (v : _). frame_destination v a) (sym st.plan) ∙ (ap (λ (z : List ℕ). frame_destination now.plan (arrival c.args.packet.time c.args.port z c.args.packet.len)) (sym c.deref.ensures.value) ∙ sym c.find_destination.ensures.way) in
    elim c.match-find_destination.branch [
      | in-Malformed w ↦ subst (λ (v : RelayState _ _). RelayStandsFor p v (Arrived a ∷ es) left) (sym w.self-is) (w.count_unforwarded.ensures.stands p es a left refl (way ∙ w.in-Malformed.is) st)
      | in-Nowhere w ↦ subst (λ (v : RelayState _ _). RelayStandsFor p v (Arrived a ∷ es) left) (sym w.self-is) (w.count_unforwarded-in-Nowhere.ensures.stands p es a left refl (way ∙ w.in-Nowhere.is) st)
      | in-Forwarded+in-Ok w ↦
          let filter = w.route_number-filter.result in
          let set = w.in-Forwarded.set in
          let k = count_outputs now.ports.slots set 16 in
          let same : w.prepare_copies.new.self ≡ promising now filter k = w.in-Ok.ensures.ok in
          subst (λ (v : RelayState _ _). RelayStandsFor p v (Arrived a ∷ es) left) (sym w.self-is)
          (w.relay_frame.ensures.stands p es left (way ∙ w.in-Forwarded.is) (subst (λ (v : RelayState _ _). RelayStandsFor p (relay_before_frame v) es left) (sym same) (stands_promised p now filter k es left st)))
    ]

pub returns-clause-waits : goal.returns-clause-waits
returns-clause-waits g c =
    let t = c.args.packet.time in
    elim c.match-find_destination.branch [
      | in-Malformed w ↦ subst (λ (v : RelayState _ _). StartsNoEarlier (g.G.Agenda.held v.ports.agenda) t) (sym w.self-is) (subst (λ (d : _). StartsNoEarlier (g.G.Agenda.held d) t) (sym w.count_unforwarded.ensures.passed.2.agenda) c.requires.due)
      | in-Nowhere w ↦ subst (λ (v : RelayState _ _). StartsNoEarlier (g.G.Agenda.held v.ports.agenda) t) (sym w.self-is) (subst (λ (d : _). StartsNoEarlier (g.G.Agenda.held d) t) (sym w.count_unforwarded-in-Nowhere.ensures.passed.2.agenda) c.requires.due)
      | in-Forwarded+in-Ok w ↦ subst (λ (v : RelayState _ _). StartsNoEarlier (g.G.Agenda.held v.ports.agenda) t) (sym w.self-is) w.relay_frame.ensures.due
    ]

pub prepare_copies-requires-clause-there : goal.prepare_copies-requires-clause-there
prepare_copies-requires-clause-there g c =
    let filter = c.route_number-filter.result in
    subst (λ (v : RelayState _ _). IfSome filter (λ n. IsTrue (is_listed n v.plan.filters))) c.self.view_is (subst (λ (fs : _). IfSome filter (λ n. IsTrue (is_listed n fs))) c.self.invariant.filters (number_there _ _ _ c.route_number-filter.ensures c.find_route-found.ensures.there))

pub returns-clause-moved : goal.returns-clause-moved
returns-clause-moved g c =
    let now = c.args.self.now in
    elim c.match-find_destination.branch [
      | in-Malformed w ↦
          let passed = w.count_unforwarded.ensures.passed.2 in
          subst (λ (v : RelayState _ _). (v.arrived ≡ now.arrived + 1) × (v.earliest ≡ c.args.packet.time) × (v.plan ≡ now.plan)) (sym w.self-is) (passed.arrived, passed.earliest, passed.plan)
      | in-Nowhere w ↦
          let passed = w.count_unforwarded-in-Nowhere.ensures.passed.2 in
          subst (λ (v : RelayState _ _). (v.arrived ≡ now.arrived + 1) × (v.earliest ≡ c.args.packet.time) × (v.plan ≡ now.plan)) (sym w.self-is) (passed.arrived, passed.earliest, passed.plan)
      | in-Forwarded+in-Ok w ↦
          let k = count_outputs now.ports.slots w.in-Forwarded.set 16 in
          let same : w.prepare_copies.new.self ≡ promising now w.route_number-filter.result k = w.in-Ok.ensures.ok in
          let moved = w.relay_frame.ensures.moved in
          subst (λ (v : RelayState _ _). (v.arrived ≡ now.arrived + 1) × (v.earliest ≡ c.args.packet.time) × (v.plan ≡ now.plan)) (sym w.self-is) (moved.0 ∙ ap (λ (v : RelayState _ _). v.arrived) same, moved.2, moved.1 ∙ ap (λ (v : RelayState _ _). v.plan) same)
    ]

pub same-self : goal.same-self
same-self g c = refl

pub same-self-in-Forwarded : goal.same-self-in-Forwarded
same-self-in-Forwarded g c = refl

pub same-self-in-Nowhere : goal.same-self-in-Nowhere
same-self-in-Nowhere g c = refl

pub returns-in-Err-clause-err : goal.returns-in-Err-clause-err
returns-in-Err-clause-err g c = (c.in-Err.ensures.err, refl)

pub deref-requires : goal.deref-requires
deref-requires g c κs h = (⊑_static _, h)

pub deref-requires-in-Forwarded : goal.deref-requires-in-Forwarded
deref-requires-in-Forwarded g c κs h = (⊑_static _, h)

pub find_route-found-requires : goal.find_route-found-requires
find_route-found-requires g c κs h = h

pub put-requires : goal.put-requires
put-requires g c κs h = h

pub put-requires-in-Nowhere : goal.put-requires-in-Nowhere
put-requires-in-Nowhere g c κs h = h

pub count_unforwarded-requires-clause-few : goal.count_unforwarded-requires-clause-few
count_unforwarded-requires-clause-few g c = c.requires.few

pub count_unforwarded-requires-clause-time : goal.count_unforwarded-requires-clause-time
count_unforwarded-requires-clause-time g c = c.requires.time.0

pub count_unforwarded-requires-in-Nowhere-clause-few : goal.count_unforwarded-requires-in-Nowhere-clause-few
count_unforwarded-requires-in-Nowhere-clause-few g c = c.requires.few

pub count_unforwarded-requires-in-Nowhere-clause-time : goal.count_unforwarded-requires-in-Nowhere-clause-time
count_unforwarded-requires-in-Nowhere-clause-time g c = c.requires.time.0

pub prepare_copies-requires-clause-few : goal.prepare_copies-requires-clause-few
prepare_copies-requires-clause-few g c = c.requires.few

pub find_destination-requires-clause-captured : goal.find_destination-requires-clause-captured
find_destination-requires-clause-captured g c = subst (λ (l : List ℕ). (length l ≤ MAX_CAPTURED_OCTETS) × (length l ≤ c.args.packet.len)) (sym c.deref.ensures.value) c.requires.octets
