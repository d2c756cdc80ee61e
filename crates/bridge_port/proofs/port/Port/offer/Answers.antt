use Rattle.std.proofs.Common.{◌≡◌, ◌∙◌, ◌+◌, ap, sym, None, subst, rules, ◌<◌, ◌≤◌}
use Rattle.std.specs.Prelude.{length, slice_index_or}
use Rattle.bridge_limits.specs.declared.TheConstants.{MAX_ARRIVALS}
use Rattle.bridge_frame.specs.Link.{transmission_time}
use Rattle.bridge_port.specs.StandsFor.{EgressState, egress_state, offer_refusal, IsStateSound, class_queue, queues_after_offer, HasNoStartEarlier}
use Rattle.bridge_port.proofs.Keeping.{admitted, kept_offered, offered_stands, offered_counts}
use Rattle.bridge_port.proofs.Renewing.{heads_offered, heads_refused}
use Rattle.bridge_port.proofs.port.Port.offer.Goals as goal

pub push_item-requires-clause-room : goal.push_item-requires-clause-room
push_item-requires-clause-room g c =
    let S : EgressState _ → Type 0 = λ q. c.occupation-occ.result ≡ transmission_time c.args.item.len q.speed in
    let exact : c.occupation-occ.result ≡ transmission_time c.args.item.len c.args.self.now.speed = subst S c.self.view_is c.occupation-occ.ensures.exact in
    let P : EgressState _ → Type 0 = λ q. length (class_queue q c.args.class) < slice_index_or q.rooms c.args.class 0 in
    subst P (sym c.self.view_is) (admitted c.args.self.now c.args.class c.args.item (sym (c.in-None.ensures c.args.item exact))).1

pub invariant_of-self-in-None : goal.invariant_of-self-in-None
invariant_of-self-in-None g c =
    let S : EgressState _ → Type 0 = λ q. c.occupation-occ.result ≡ transmission_time c.args.item.len q.speed in
    let exact : c.occupation-occ.result ≡ transmission_time c.args.item.len c.args.self.now.speed = subst S c.self.view_is c.occupation-occ.ensures.exact in
    let f = c.self.inside in
    let p = egress_state f.speed f.gates f.rings.items f.free f.earliest f.offered f.started in
    let P : EgressState _ → Type 0 = λ q. offer_refusal q c.args.class c.args.item ≡ None in
    let none : offer_refusal p c.args.class c.args.item ≡ None = subst P (sym c.self.view_is) (sym (c.in-None.ensures c.args.item exact)) in
    let Q : EgressState _ → Type 0 = λ q. q.offered < MAX_ARRIVALS in
    let kept = kept_offered p c.args.t c.args.class c.args.item c.self.invariant.kept c.requires.class none c.requires.length c.requires.time.1 (subst Q (sym c.self.view_is) c.requires.few) in
    let E : EgressState _ → Type 0 = λ q. q.earliest ≤ c.args.t in
    let N : EgressState _ → Type 0 = λ q. HasNoStartEarlier q c.args.t in
    let later : p.earliest ≤ c.args.t = subst E (sym c.self.view_is) c.requires.time.0 in
    let calm : HasNoStartEarlier p c.args.t = subst N (sym c.self.view_is) c.requires.not_late in
    let gained = rw c.occupation-occ.ensures.exact at c.add_item_fit-self-inside.ensures.gained in
    rw (c.add_item_fit-self-inside.ensures.same, c.push_item.ensures.queues, c.push_item.ensures.rooms) (heads_offered p c.args.t c.args.class c.max-from.result f.queued c.args.item f.fits c.add_item_fit-self-inside.new.fits f.best c.add_item_fit-self-inside.result c.self.invariant c.requires.class (search rules) later calm c.max-from.ensures c.add_item_fit-self-inside.ensures.behind gained kept)

pub invariant_of-self : goal.invariant_of-self
invariant_of-self g c =
    let f = c.self.inside in
    let p = egress_state f.speed f.gates f.rings.items f.free f.earliest f.offered f.started in
    let E : EgressState _ → Type 0 = λ q. q.earliest ≤ c.args.t in
    let N : EgressState _ → Type 0 = λ q. HasNoStartEarlier q c.args.t in
    let Q : EgressState _ → Type 0 = λ q. q.offered < MAX_ARRIVALS in
    heads_refused p c.args.t f.queued f.fits f.best c.self.invariant (subst E (sym c.self.view_is) c.requires.time.0) (subst N (sym c.self.view_is) c.requires.not_late) c.requires.time.1 (subst Q (sym c.self.view_is) c.requires.few)

pub returns-in-Some-clause-moved : goal.returns-in-Some-clause-moved
returns-in-Some-clause-moved g c =
    let now = c.args.self.now in
    let S : EgressState _ → Type 0 = λ q. c.occupation-occ.result ≡ transmission_time c.args.item.len q.speed in
    let exact : c.occupation-occ.result ≡ transmission_time c.args.item.len now.speed = subst S c.self.view_is c.occupation-occ.ensures.exact in
    let some = c.in-Some.ensures c.args.item exact in
    ap (λ (q : EgressState _). record q { earliest = c.args.t; offered = q.offered + 1 }) c.self.view_is
    ∙ ap (λ r. record now { queues = queues_after_offer r now.queues c.args.class c.args.item; earliest = c.args.t; offered = now.offered + 1 }) some

pub returns-in-None-clause-moved : goal.returns-in-None-clause-moved
returns-in-None-clause-moved g c =
    let now = c.args.self.now in
    let S : EgressState _ → Type 0 = λ q. c.occupation-occ.result ≡ transmission_time c.args.item.len q.speed in
    let exact : c.occupation-occ.result ≡ transmission_time c.args.item.len now.speed = subst S c.self.view_is c.occupation-occ.ensures.exact in
    let none = c.in-None.ensures c.args.item exact in
    rw (c.add_item_fit-self-inside.ensures.same, c.push_item.ensures.queues, c.push_item.ensures.rooms)
    (ap (λ (q : EgressState _). record q { queues = queues_after_offer None q.queues c.args.class c.args.item; earliest = c.args.t; offered = q.offered + 1 }) c.self.view_is
    ∙ ap (λ r. record now { queues = queues_after_offer r now.queues c.args.class c.args.item; earliest = c.args.t; offered = now.offered + 1 }) none)

pub returns-in-Some-clause-stands : goal.returns-in-Some-clause-stands
returns-in-Some-clause-stands g c =
    let kept : IsStateSound c.args.self.now = subst IsStateSound c.self.view_is c.self.invariant.kept in
    offered_stands c.args.self.now _ c.args.t c.args.class c.args.item kept (returns-in-Some-clause-moved g c) c.requires.class c.requires.time.0 c.requires.not_late

pub returns-in-None-clause-stands : goal.returns-in-None-clause-stands
returns-in-None-clause-stands g c =
    let kept : IsStateSound c.args.self.now = subst IsStateSound c.self.view_is c.self.invariant.kept in
    offered_stands c.args.self.now _ c.args.t c.args.class c.args.item kept (returns-in-None-clause-moved g c) c.requires.class c.requires.time.0 c.requires.not_late

pub returns-in-None-clause-counts : goal.returns-in-None-clause-counts
returns-in-None-clause-counts g c =
    let S : EgressState _ → Type 0 = λ q. c.occupation-occ.result ≡ transmission_time c.args.item.len q.speed in
    let exact : c.occupation-occ.result ≡ transmission_time c.args.item.len c.args.self.now.speed = subst S c.self.view_is c.occupation-occ.ensures.exact in
    let kept : IsStateSound c.args.self.now = subst IsStateSound c.self.view_is c.self.invariant.kept in
    offered_counts c.args.self.now _ c.args.t c.args.class c.args.item kept (returns-in-None-clause-moved g c) (sym (c.in-None.ensures c.args.item exact)) c.requires.class
