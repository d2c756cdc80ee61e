use Rattle.std.proofs.Common.{◌∙◌, ap, length, sym}
use Rattle.bridge_report.specs.Losses.{line_if, losses_of}
use Rattle.bridge_text.proofs.Puts.{put_as}
use Rattle.bridge_report.proofs.losses.put_lost.Goals as goal

pub returns : goal.returns
returns g c =
    let view = c.args.view.now in
    let frames = c.len.ensures ∙ sym c.deref.ensures.len ∙ ap length c.deref.ensures.value in
    let losses = c.count_losses-losses.ensures ∙ ap (λ v. losses_of v c.deref-2.result.now) c.deref.ensures.value ∙ ap (losses_of view.verdicts.items) c.deref-2.ensures.value in
    put_as _ _ _ _ c.put_if.ensures (ap (λ n. line_if view.protected c.args.filter n c.count_losses-losses.result) frames ∙ ap (line_if view.protected c.args.filter (length view.verdicts.items)) losses)
