use Rattle.std.proofs.Common.{get_or, max, ap, sym, ◌∙◌}
use Rattle.std.proofs.lemmas.List.Sums.{fold_more}
use Rattle.bridge_report.proofs.figures.greatest_delay.Goals as goal

pub loop-delay-preserved : goal.loop-delay-preserved
loop-delay-preserved c =
    let delays = c.args.delays.now in
    let i = c.loop-delay.delay-index in
    c.max-greatest.ensures ∙ (ap (λ n. max n (get_or delays i 0)) c.loop-delay.invariant ∙ sym (fold_more max 0 delays i 0 c.loop-delay-test.true))
