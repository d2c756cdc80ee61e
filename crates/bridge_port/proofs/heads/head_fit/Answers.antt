use Rattle.std.proofs.Common.{◌≡◌, ◌≤◌, ℕ, [], ◌∷◌, ap, sym, ◌∙◌, subst, arith, slice_index_or}
use Rattle.std.specs.Prelude.{drop}
use Rattle.bridge_frame.specs.Link.{transmission_time}
use Rattle.bridge_cycle.specs.Fits.{IsFirstFit}
use Rattle.bridge_port.specs.Rings.{ring_queues}
use Rattle.bridge_port.specs.GateSchedule.{can_fit, opens}
use Rattle.bridge_port.proofs.Best.{fit_is, fit_none, head_some, head_none, startable_head}
use Rattle.bridge_port.proofs.heads.head_fit.Goals as goal

pub returns-in-None-clause-fit : goal.returns-in-None-clause-fit
returns-in-None-clause-fit g c =
    let queue = slice_index_or (ring_queues c.args.rings.now.items) c.args.class [] in
    fit_none c.args.gates.now c.args.speed c.args.from c.args.class queue (head_none queue (sym c.in-None.ensures))

pub earliest_fit-requires : goal.earliest_fit-requires
earliest_fit-requires g c =
    let queue = slice_index_or (ring_queues c.args.rings.now.items) c.args.class [] in
    let item = c.in-Some.item.now in
    let can = startable_head c.args.gates.now c.args.speed c.args.class queue item (sym c.in-Some.ensures) c.requires.startable in
    let bounded : c.occupation-occ.result ≤ 7392000 = c.occupation-occ.ensures.bounded can.1 in
    record { class = c.requires.class; occ = omega arith; from = c.requires.from; ever = ap (λ n. can_fit c.args.gates.now c.args.class n) c.occupation-occ.ensures.exact ∙ can.0 }

pub returns-in-Some-clause-fit : goal.returns-in-Some-clause-fit
returns-in-Some-clause-fit g c =
    let list = c.args.gates.now in
    let queue = slice_index_or (ring_queues c.args.rings.now.items) c.args.class [] in
    let item = c.in-Some.item.now in
    let is : queue ≡ item ∷ drop 1 queue = head_some queue item (sym c.in-Some.ensures) in
    let first : IsFirstFit (opens list c.args.class) (transmission_time item.len c.args.speed) c.args.from c.earliest_fit.result = subst (λ (n : ℕ). IsFirstFit (opens list c.args.class) n c.args.from c.earliest_fit.result) c.occupation-occ.ensures.exact c.earliest_fit.ensures.first in
    fit_is list c.args.speed c.args.from c.args.class c.earliest_fit.result queue item (drop 1 queue) is first c.earliest_fit.ensures.soon
