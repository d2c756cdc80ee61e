use Rattle.std.proofs.Common.{◌≡◌, ◌∙◌, ◌++◌, OnOk, false, string_bytes, subst, sym, true}
use Rattle.net_latency.proofs.MarkedQueues.{without_meters}
use Rattle.net_latency.proofs.marked_queues.push_shared_warning.Goals as goal

pub returns-then-is_bounded_by_gates : goal.returns-then-is_bounded_by_gates
returns-then-is_bounded_by_gates g c =
    subst (λ w. OnOk c.push_queue_warning.result (string_bytes c.push_queue_warning.new.text ≡ string_bytes c.args.text.now ++ w))
    (sym (without_meters c.args.row.now true c.if-not-row.true (sym c.is_bounded_by_gates.ensures ∙ c.if-is_bounded_by_gates.true)))
    c.push_queue_warning.ensures

pub returns-else-is_bounded_by_gates : goal.returns-else-is_bounded_by_gates
returns-else-is_bounded_by_gates g c =
    subst (λ w. OnOk c.push_queue_warning-else-is_bounded_by_gates.result (string_bytes c.push_queue_warning-else-is_bounded_by_gates.new.text ≡ string_bytes c.args.text.now ++ w))
    (sym (without_meters c.args.row.now false c.if-not-row.true (sym c.is_bounded_by_gates.ensures ∙ c.if-is_bounded_by_gates.false)))
    c.push_queue_warning-else-is_bounded_by_gates.ensures
