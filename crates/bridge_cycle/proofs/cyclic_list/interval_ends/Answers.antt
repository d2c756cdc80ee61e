use Rattle.std.proofs.Common.{◌≡◌, ℕ, ◌+◌, arith, ◌++◌, ◌∷◌, [], take, ap, ◌∙◌, sym}
use Rattle.std.proofs.lemmas.Grind.{common_steps}
use Rattle.bridge_cycle.specs.Cyclic as cyclic
use Rattle.bridge_cycle.proofs.Totals.{total-take-le, total-take-more, sums_push}
use Rattle.bridge_cycle.proofs.cyclic_list.interval_ends.Goals as goal

pub overflow_add-end : goal.overflow_add-end
overflow_add-end g c =
    let more : cyclic.interval_sum (take (c.loop-entry.entry-index + 1) c.args.entries.now) ≡ cyclic.interval_sum (take c.loop-entry.entry-index c.args.entries.now) + c.entry-item.result.1 = total-take-more _ _ c.entry-item.result c.loop-entry-test.true ∙ ap (λ (e : _ × ℕ). cyclic.interval_sum (take c.loop-entry.entry-index c.args.entries.now) + e.1) (sym c.entry-item.is) in
    let most = total-take-le c.args.entries.now (c.loop-entry.entry-index + 1) in
    omega arith

pub loop-entry-preserved : goal.loop-entry-preserved
loop-entry-preserved g c =
    let more : cyclic.interval_sum (take (c.loop-entry.entry-index + 1) c.args.entries.now) ≡ cyclic.interval_sum (take c.loop-entry.entry-index c.args.entries.now) + c.entry-item.result.1 = total-take-more _ _ c.entry-item.result c.loop-entry-test.true ∙ ap (λ (e : _ × ℕ). cyclic.interval_sum (take c.loop-entry.entry-index c.args.entries.now) + e.1) (sym c.entry-item.is) in
    let sum : c.loop-entry.end + c.entry-item.result.1 ≡ cyclic.interval_sum (take (c.loop-entry.entry-index + 1) c.args.entries.now) = omega arith in
    let pushed : c.push.new.self.items ≡ c.loop-entry.ends.items ++ (c.loop-entry.end + c.entry-item.result.1) ∷ [] = grind (arith, common_steps) in
    record {
      sum = sum;
      as_many = grind (arith, common_steps);
      sums = λ k below. rw pushed (sums_push c.args.entries.now c.loop-entry.ends.items c.loop-entry.entry-index _ c.loop-entry.invariant.as_many c.loop-entry.invariant.sums sum k below);
    }
