use Rattle.std.proofs.Common.{◌≡◌, ◌∙◌, ◌++◌, ap, arith, length, string_bytes}
use Rattle.net_model.specs.LoopSteps.{collect_below}
use Rattle.net_model.proofs.Stepping.{next_below}
use Rattle.net_check.specs.Telling.{sdu_fall_text}
use Rattle.net_check.proofs.warning_lines.push_stream_sdu_falls.Goals as goal

pub loop-k-preserved : goal.loop-k-preserved
loop-k-preserved g c = next_below (sdu_fall_text c.args.plans.now c.args.i c.args.hops.now) c.loop-k.k (string_bytes c.args.text.now) (string_bytes c.loop-k.text) _ c.loop-k.invariant c.in-Ok.ensures

pub returns : goal.returns
returns g c =
    let most = c.loop-k.auto.k-end in
    let least = c.loop-k-test.false in
    let all : c.loop-k.k ≡ length c.args.hops.now = omega (arith, most, least) in
    c.loop-k.invariant ∙ ap (λ n. string_bytes c.args.text.now ++ collect_below n (sdu_fall_text c.args.plans.now c.args.i c.args.hops.now)) all
