use Rattle.std.proofs.Common.{◌≡◌, ◌+◌, ◌/◌, ◌%◌, List, Some, refl, ap, sym, subst, ◌∙◌}
use Rattle.bridge_config.specs.Model.{Plan}
use Rattle.bridge_config.specs.Rules.{find_port}
use Rattle.bridge_groups.specs.Sharers.{has_sharer}
use Rattle.bridge_groups.specs.GroupRows.{AreRowsSoFar}
use Rattle.bridge_groups.specs.declared.shared_queues.SharedQueue.{SharedQueue}
use Rattle.bridge_groups.proofs.Rows.{found_port, rows_more, rows_past, shares, shares_not}
use Rattle.bridge_groups.proofs.group_rows.put_row.Goals as goal

pub is_group_queue-requires-clause-from : goal.is_group_queue-requires-clause-from
is_group_queue-requires-clause-from g c =
    let p = c.args.accepted.now in
    let found = found_port p (c.args.place / 8 + 1) c.in-Some.port.now c.plan-plan.ensures.rules (subst (λ (z : Plan _). find_port z.ports (c.args.place / 8 + 1) ≡ Some c.in-Some.port.now) c.plan-plan.ensures.plan (sym c.in-Some.ensures.port)) in
    found.from

pub is_group_queue-requires-clause-to : goal.is_group_queue-requires-clause-to
is_group_queue-requires-clause-to g c =
    let p = c.args.accepted.now in
    let found = found_port p (c.args.place / 8 + 1) c.in-Some.port.now c.plan-plan.ensures.rules (subst (λ (z : Plan _). find_port z.ports (c.args.place / 8 + 1) ≡ Some c.in-Some.port.now) c.plan-plan.ensures.plan (sym c.in-Some.ensures.port)) in
    found.to

pub is_group_queue-requires-clause-port : goal.is_group_queue-requires-clause-port
is_group_queue-requires-clause-port g c =
    let p = c.args.accepted.now in
    let found = found_port p (c.args.place / 8 + 1) c.in-Some.port.now c.plan-plan.ensures.rules (subst (λ (z : Plan _). find_port z.ports (c.args.place / 8 + 1) ≡ Some c.in-Some.port.now) c.plan-plan.ensures.plan (sym c.in-Some.ensures.port)) in
    subst (λ (z : Plan _). find_port z.ports c.in-Some.port.now.number ≡ Some c.in-Some.port.now) (sym c.plan-plan.ensures.plan) found.at

pub returns-then-not-is_group_queue : goal.returns-then-not-is_group_queue
returns-then-not-is_group_queue g c =
    let p = c.args.accepted.now in
    let found = found_port p (c.args.place / 8 + 1) c.in-Some.port.now c.plan-plan.ensures.rules (subst (λ (z : Plan _). find_port z.ports (c.args.place / 8 + 1) ≡ Some c.in-Some.port.now) c.plan-plan.ensures.plan (sym c.in-Some.ensures.port)) in
    let has : c.is_group_queue.result ≡ has_sharer p c.args.group c.in-Some.port.now.number (c.args.place % 8) p.filters = c.is_group_queue.ensures ∙ ap (λ (z : Plan _). has_sharer z c.args.group c.in-Some.port.now.number (c.args.place % 8) z.filters) c.plan-plan.ensures.plan in
    let none = shares_not p c.args.group c.in-Some.port.now.number (c.args.place % 8) (sym has ∙ c.if-not-is_group_queue.true) in
    record { one_more = rows_past p c.args.group c.args.place c.in-Some.port.now.number (c.args.place % 8) c.args.rows.now.items found.number refl none c.requires.so_far }

pub shared_queue-requires-clause-from : goal.shared_queue-requires-clause-from
shared_queue-requires-clause-from g c =
    let p = c.args.accepted.now in
    let found = found_port p (c.args.place / 8 + 1) c.in-Some.port.now c.plan-plan.ensures.rules (subst (λ (z : Plan _). find_port z.ports (c.args.place / 8 + 1) ≡ Some c.in-Some.port.now) c.plan-plan.ensures.plan (sym c.in-Some.ensures.port)) in
    found.from

pub shared_queue-requires-clause-to : goal.shared_queue-requires-clause-to
shared_queue-requires-clause-to g c =
    let p = c.args.accepted.now in
    let found = found_port p (c.args.place / 8 + 1) c.in-Some.port.now c.plan-plan.ensures.rules (subst (λ (z : Plan _). find_port z.ports (c.args.place / 8 + 1) ≡ Some c.in-Some.port.now) c.plan-plan.ensures.plan (sym c.in-Some.ensures.port)) in
    found.to

pub shared_queue-requires-clause-port : goal.shared_queue-requires-clause-port
shared_queue-requires-clause-port g c =
    let p = c.args.accepted.now in
    let found = found_port p (c.args.place / 8 + 1) c.in-Some.port.now c.plan-plan.ensures.rules (subst (λ (z : Plan _). find_port z.ports (c.args.place / 8 + 1) ≡ Some c.in-Some.port.now) c.plan-plan.ensures.plan (sym c.in-Some.ensures.port)) in
    found.at

pub shared_queue-requires-clause-reached : goal.shared_queue-requires-clause-reached
shared_queue-requires-clause-reached g c =
    let p = c.args.accepted.now in
    let has : c.is_group_queue.result ≡ has_sharer p c.args.group c.in-Some.port.now.number (c.args.place % 8) p.filters = c.is_group_queue.ensures ∙ ap (λ (z : Plan _). has_sharer z c.args.group c.in-Some.port.now.number (c.args.place % 8) z.filters) c.plan-plan.ensures.plan in
    shares p c.args.group c.in-Some.port.now.number (c.args.place % 8) (sym has ∙ c.if-not-is_group_queue.false)

pub returns : goal.returns
returns g c =
    let p = c.args.accepted.now in
    let found = found_port p (c.args.place / 8 + 1) c.in-Some.port.now c.plan-plan.ensures.rules (subst (λ (z : Plan _). find_port z.ports (c.args.place / 8 + 1) ≡ Some c.in-Some.port.now) c.plan-plan.ensures.plan (sym c.in-Some.ensures.port)) in
    let more = rows_more p c.args.group c.args.place c.in-Some.port.now.number (c.args.place % 8) c.args.rows.now.items c.in-Ok.row found.number refl c.in-Ok.ensures c.requires.so_far in
    record { one_more = subst (λ (rows : List SharedQueue). AreRowsSoFar p c.args.group (c.args.place + 1) rows) (sym c.in_ok-push.ensures.items) more }
