use Rattle.std.proofs.Common.{◌≡◌, true, arith, rules, subst}
use Rattle.bridge_cycle.specs.Cyclic.{turn_by_time}
use Rattle.bridge_cycle.specs.Opens.{turn_opens}
use Rattle.bridge_cycle.specs.Runs.{IsLongestRun}
use Rattle.bridge_cycle.proofs.Changes.{allowed_over}
use Rattle.gate_parts.proofs.lists.changing_list_fit.Goals as goal

pub first_fit-requires-clause-some : goal.first_fit-requires-clause-some
first_fit-requires-clause-some c =
    let before = c.longest_run-before.result in
    let after = c.longest_run-after.result in
    let one : c.allows.result ≡ true = search rules in
    let other : c.allows-2.result ≡ true = search rules in
    let old = subst (λ l. IsLongestRun (λ v. turn_opens (turn_by_time l v) c.args.asked.class) before) c.lists.ensures.old c.longest_run-before.ensures.longest in
    let new = subst (λ l. IsLongestRun (λ v. turn_opens (turn_by_time l v) c.args.asked.class) after) c.lists.ensures.new c.longest_run-after.ensures.longest in
    let s = allowed_over c.args.joined.now c.args.asked.class before after c.lists.ensures.lawful old new c.args.asked.occupied c.args.asked.from (c.allows.ensures.0 one) (c.allows-2.ensures.0 other) in
    let near = s.2 in
    (s.0, s.1, omega arith, s.3)
