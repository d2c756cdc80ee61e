use Rattle.std.proofs.Common.{◌≡◌, ℕ, Bool, ◌≤◌, ◌<◌, List, [], ◌∷◌, length, arith, sym, subst, ap, ◌∙◌, refl, Option, Some, None, false}
use Rattle.std.specs.Prelude.{IfSome}
use Rattle.bridge_limits.specs.declared.TheConstants.{END_OF_TIME}
use Rattle.bridge_filter.specs.declared.Ruling.{Ruling}
use Rattle.bridge_filter.specs.declared.Verdict.{Verdict}
use Rattle.bridge_filter.specs.declared.Verdict.TheVariants as verdict
use Rattle.bridge_semantics.specs.Events.{Arrived, arrival, filter_inputs, plan_police}
use Rattle.bridge_semantics.specs.Offers.{leaving_octets}
use Rattle.bridge_relay.specs.Ports.{count_outputs, StartsNoEarlier}
use Rattle.bridge_relay.specs.RelayState.{IsSound, RelayState, OwesSpareCopies, RelayStandsFor, is_filter_unknown}
use Rattle.bridge_relay.specs.RelayedFrames.{HasPoliced, AwaitsCopies, leaving_frame, priority_offer, relay_with_release}
use Rattle.bridge_relay.proofs.Offered.{leaving_length, refused_by, may_offer, numbered_none, numbered_some, offers_passed, offers_refused, offers_unfiltered, own_is, stands_let_go, stands_offered}
use Rattle.bridge_relay.proofs.Policed.{IsPoliced}
use Rattle.bridge_relay.proofs.Spares.{copies_ruled, outs_ruled, pending_ruled}
use Rattle.bridge_relay.proofs.relay.Relay.relay_frame.Goals as goal

pub offer_copies-requires-clause-along : goal.offer_copies-requires-clause-along
offer_copies-requires-clause-along g c =
    let old = c.args.self.now in
    let now = c.police_frame.new.self in
    let z = c.in-None.ensures.ruled in
    let s = z.0 in
    let call = c.args.call in
    let none = numbered_none old.tables z.2.0 z.2.2 in
    let h : HasPoliced old now c.args.port s call None = subst (HasPoliced old now c.args.port s call) none z.2.1 in
    may_offer g.G.Agenda.held old now c.args.port s call None c.args.set call.priority (leaving_frame (record { at = c.args.packet.time; flow = None; own = 0; recorder = 0; octets = c.args.packet.octets }) c.args.packet.len false) c.requires.sound c.police_frame.ensures.sound c.requires.fresh h z.1 c.requires.from refl c.requires.short.0 c.requires.short.1 c.requires.time.1 c.requires.at c.requires.due tt

pub offer_copies-requires-clause-copies : goal.offer_copies-requires-clause-copies
offer_copies-requires-clause-copies g c =
    let old = c.args.self.now in
    let now = c.police_frame.new.self in
    let z = c.in-None.ensures.ruled in
    let s = z.0 in
    let call = c.args.call in
    let none = numbered_none old.tables z.2.0 z.2.2 in
    let h : HasPoliced old now c.args.port s call None = subst (HasPoliced old now c.args.port s call) none z.2.1 in
    copies_ruled old now c.args.port s call None c.args.set 1 c.args.packet.octets.items c.args.copies.items h z.1 c.requires.from c.requires.copies

pub returns-in-None-clause-stands : goal.returns-in-None-clause-stands
returns-in-None-clause-stands g c = λ p es left way st.
    let old = c.args.self.now in
    let now = c.police_frame.new.self in
    let z = c.in-None.ensures.ruled in
    let s = z.0 in
    let call = c.args.call in
    let none = numbered_none old.tables z.2.0 z.2.2 in
    let h : HasPoliced old now c.args.port s call None = subst (HasPoliced old now c.args.port s call) none z.2.1 in
    let a = arrival c.args.packet.time c.args.port c.args.packet.octets.items c.args.packet.len in
    let po : IsPoliced p es a c.args.set call None = record { way = way; answer = h.answer (plan_police p) (filter_inputs p es) st.police } in
    let came = c.requires.fresh.calls in
    stands_offered g.G.Agenda.held p es left a old now c.offer_copies.new.self s c.args.set call None call.priority (leaving_frame (record { at = c.args.packet.time; flow = None; own = 0; recorder = 0; octets = c.args.packet.octets }) c.args.packet.len false) c.requires.sound st po h z.1 c.requires.from (omega (arith, came)) c.offer_copies.ensures.offered (λ out. offers_unfiltered p out a es c.args.set call po)

pub offer_copies-requires-in-Pass-clause-along : goal.offer_copies-requires-in-Pass-clause-along
offer_copies-requires-in-Pass-clause-along g c =
    let old = c.args.self.now in
    let now = c.police_frame.new.self in
    let z = c.in-Some.ensures.ruled in
    let s = z.0 in
    let call = c.args.call in
    let r = c.in-Some.field-0-0 in
    let own = c.in-Some.own in
    let j = numbered_some old.tables z.2.0 (r, own) z.2.2 in
    let h : HasPoliced old now c.args.port s call (Some r) = subst (HasPoliced old now c.args.port s call) j.0 z.2.1 in
    let outward = count_outputs old.ports.slots c.args.set 16 in
    let spare : OwesSpareCopies old outward r.filter = subst (λ (o : Option ℕ). IfSome o (OwesSpareCopies old outward)) (sym h.number) c.requires.spare in
    let right : is_filter_unknown old.plan.filters (Some r.filter) ≡ false = subst (λ (o : Option ℕ). is_filter_unknown old.plan.filters o ≡ false) (sym h.number) c.requires.right in
    may_offer g.G.Agenda.held old now c.args.port s call (Some r) c.args.set c.unwrap_or.result (leaving_frame (record { at = c.args.packet.time; flow = Some r.filter; own = own; recorder = 0; octets = c.args.packet.octets }) c.args.packet.len c.in-Pass.eligible) c.requires.sound c.police_frame.ensures.sound c.requires.fresh h z.1 c.requires.from right c.requires.short.0 (within c.in-Pass.eligible c.args.packet.octets.items c.args.packet.len c.requires.short.1) c.requires.time.1 c.requires.at c.requires.due
    (pending_ruled g.G.Agenda.held old now c.args.port s call r outward own c.requires.sound h z.1 spare j.1) where
      within : (b : Bool) (octets : List ℕ) (len : ℕ) → length octets ≤ len → length (leaving_octets b octets) ≤ len
      within b octets len l = let e = leaving_length b octets in omega (arith, l, e)

pub offer_copies-requires-in-Pass-clause-copies : goal.offer_copies-requires-in-Pass-clause-copies
offer_copies-requires-in-Pass-clause-copies g c =
    let old = c.args.self.now in
    let now = c.police_frame.new.self in
    let z = c.in-Some.ensures.ruled in
    let s = z.0 in
    let call = c.args.call in
    let r = c.in-Some.field-0-0 in
    let own = c.in-Some.own in
    let j = numbered_some old.tables z.2.0 (r, own) z.2.2 in
    let h : HasPoliced old now c.args.port s call (Some r) = subst (HasPoliced old now c.args.port s call) j.0 z.2.1 in
    let outward = count_outputs old.ports.slots c.args.set 16 in
    let spare : OwesSpareCopies old outward r.filter = subst (λ (o : Option ℕ). IfSome o (OwesSpareCopies old outward)) (sym h.number) c.requires.spare in
    copies_ruled old now c.args.port s call (Some r) c.args.set 1 c.args.packet.octets.items c.args.copies.items h z.1 c.requires.from c.requires.copies

pub returns-in-Pass-clause-stands : goal.returns-in-Pass-clause-stands
returns-in-Pass-clause-stands g c = λ p es left way st.
    let old = c.args.self.now in
    let now = c.police_frame.new.self in
    let z = c.in-Some.ensures.ruled in
    let s = z.0 in
    let call = c.args.call in
    let r = c.in-Some.field-0-0 in
    let own = c.in-Some.own in
    let j = numbered_some old.tables z.2.0 (r, own) z.2.2 in
    let h : HasPoliced old now c.args.port s call (Some r) = subst (HasPoliced old now c.args.port s call) j.0 z.2.1 in
    let outward = count_outputs old.ports.slots c.args.set 16 in
    let spare : OwesSpareCopies old outward r.filter = subst (λ (o : Option ℕ). IfSome o (OwesSpareCopies old outward)) (sym h.number) c.requires.spare in
    let a = arrival c.args.packet.time c.args.port c.args.packet.octets.items c.args.packet.len in
    let ipv = c.in-Pass.ipv in
    let eligible = c.in-Pass.eligible in
    let po : IsPoliced p es a c.args.set call (Some r) = record { way = way; answer = h.answer (plan_police p) (filter_inputs p es) st.police } in
    let is : r ≡ record { filter = r.filter; verdict = verdict.Pass ipv eligible } = ap (λ (v : Verdict). record { filter = r.filter; verdict = v }) c.in-Pass.is in
    let passed : IsPoliced p es a c.args.set call (Some (record { filter = r.filter; verdict = verdict.Pass ipv eligible })) = subst (λ (x : Ruling). IsPoliced p es a c.args.set call (Some x)) is po in
    let came = c.requires.fresh.calls in
    stands_offered g.G.Agenda.held p es left a old now c.offer_copies-in-Pass.new.self s c.args.set call (Some r) c.unwrap_or.result (leaving_frame (record { at = c.args.packet.time; flow = Some r.filter; own = own; recorder = 0; octets = c.args.packet.octets }) c.args.packet.len c.in-Pass.eligible) c.requires.sound st po h z.1 c.requires.from (omega (arith, came)) c.offer_copies-in-Pass.ensures.offered
    (λ out. offers_passed p out a es c.args.set call r.filter own ipv eligible passed (own_is p old es left r.filter own outward st spare j.1)
    ∙ ap (λ (k : ℕ). priority_offer out k (leaving_frame (record { at = c.args.packet.time; flow = Some r.filter; own = own; recorder = 0; octets = c.args.packet.octets }) c.args.packet.len c.in-Pass.eligible) ∷ []) (sym c.unwrap_or.ensures))

pub release_room-requires : goal.release_room-requires
release_room-requires g c =
    let old = c.args.self.now in
    let now = c.police_frame.new.self in
    let z = c.in-Some.ensures.ruled in
    let s = z.0 in
    let call = c.args.call in
    let r = c.in-Some.field-0-0 in
    let own = c.in-Some.own in
    let j = numbered_some old.tables z.2.0 (r, own) z.2.2 in
    let h : HasPoliced old now c.args.port s call (Some r) = subst (HasPoliced old now c.args.port s call) j.0 z.2.1 in
    let outward = count_outputs old.ports.slots c.args.set 16 in
    let spare : OwesSpareCopies old outward r.filter = subst (λ (o : Option ℕ). IfSome o (OwesSpareCopies old outward)) (sym h.number) c.requires.spare in
    let pending = pending_ruled g.G.Agenda.held old now c.args.port s call r outward own c.requires.sound h z.1 spare j.1 in
    (own, subst (λ (n : ℕ). AwaitsCopies now n own 1 r.filter) (sym (outs_ruled old now c.args.port s call (Some r) c.args.set 16 h z.1 c.requires.from)) pending)

pub returns-in_default : goal.returns-in_default
returns-in_default g c =
    let old = c.args.self.now in
    let now = c.police_frame.new.self in
    let z = c.in-Some.ensures.ruled in
    let s = z.0 in
    let call = c.args.call in
    let r = c.in-Some.field-0-0 in
    let own = c.in-Some.own in
    let j = numbered_some old.tables z.2.0 (r, own) z.2.2 in
    let h : HasPoliced old now c.args.port s call (Some r) = subst (HasPoliced old now c.args.port s call) j.0 z.2.1 in
    let outward = count_outputs old.ports.slots c.args.set 16 in
    let spare : OwesSpareCopies old outward r.filter = subst (λ (o : Option ℕ). IfSome o (OwesSpareCopies old outward)) (sym h.number) c.requires.spare in
    let last = c.keep_copies.new.self in
    let k = count_outputs now.ports.slots c.args.set 16 in
    let same : last ≡ c.release_room.new.self = c.keep_copies.ensures.same in
    let state : last ≡ relay_with_release now r.filter k = same ∙ c.release_room.ensures.state in
    let came = c.requires.fresh.calls in
    record {
      stands = λ p es left way st.
          let a = arrival c.args.packet.time c.args.port c.args.packet.octets.items c.args.packet.len in
          let po : IsPoliced p es a c.args.set call (Some r) = record { way = way; answer = h.answer (plan_police p) (filter_inputs p es) st.police } in
          subst (λ (v : RelayState _ _). RelayStandsFor p v (Arrived a ∷ es) left) (sym state)
          (stands_let_go g.G.Agenda.held p es left a old now s c.args.set call (Some r) r.filter k c.requires.sound st po h z.1 c.requires.from (omega (arith, came))
          (λ out. offers_refused p out a es c.args.set call r (refused_by r.verdict c.in_default.not-Pass) po));
      due = subst (λ (v : RelayState _ _). StartsNoEarlier (g.G.Agenda.held v.ports.agenda) c.args.packet.time) (sym state) (subst (λ (a : _). StartsNoEarlier (g.G.Agenda.held a) c.args.packet.time) (sym h.agenda) c.requires.due);
      moved = (ap (λ (v : RelayState _ _). v.arrived) state ∙ h.arrived, ap (λ (v : RelayState _ _). v.plan) state ∙ h.plan, ap (λ (v : RelayState _ _). v.earliest) state ∙ (h.earliest ∙ c.requires.at));
      sound = subst (λ (v : RelayState _ _). IsSound g.G.Agenda.held v) (sym same) c.release_room.ensures.sound;
    }

pub way_copy_out-filter : goal.way_copy_out-filter
way_copy_out-filter g c = refl

pub way_copy_out-own : goal.way_copy_out-own
way_copy_out-own g c = refl

pub way_copy_out-verdict : goal.way_copy_out-verdict
way_copy_out-verdict g c = refl

pub returns-in-None-clause-due : goal.returns-in-None-clause-due
returns-in-None-clause-due g c = c.offer_copies.ensures.offered.due

pub put-requires : goal.put-requires
put-requires g c κs h = h

pub returns-in-None-clause-sound : goal.returns-in-None-clause-sound
returns-in-None-clause-sound g c = c.offer_copies.ensures.offered.sound

pub returns-in-Pass-clause-due : goal.returns-in-Pass-clause-due
returns-in-Pass-clause-due g c = c.offer_copies-in-Pass.ensures.offered.due

pub returns-in-Pass-clause-sound : goal.returns-in-Pass-clause-sound
returns-in-Pass-clause-sound g c = c.offer_copies-in-Pass.ensures.offered.sound

pub offer_copies-requires-clause-priority : goal.offer_copies-requires-clause-priority
offer_copies-requires-clause-priority g c = c.requires.priority

pub police_frame-requires-clause-found : goal.police_frame-requires-clause-found
police_frame-requires-clause-found g c = c.requires.found

pub police_frame-requires-clause-fresh : goal.police_frame-requires-clause-fresh
police_frame-requires-clause-fresh g c = c.requires.fresh

pub police_frame-requires-clause-from : goal.police_frame-requires-clause-from
police_frame-requires-clause-from g c = c.requires.from

pub police_frame-requires-clause-known : goal.police_frame-requires-clause-known
police_frame-requires-clause-known g c = c.requires.known

pub police_frame-requires-clause-open : goal.police_frame-requires-clause-open
police_frame-requires-clause-open g c = c.requires.awaited

pub police_frame-requires-clause-time : goal.police_frame-requires-clause-time
police_frame-requires-clause-time g c = subst (λ (t : ℕ). (c.args.self.now.earliest ≤ t) × (t < END_OF_TIME)) (sym c.requires.at) c.requires.time
