use Rattle.std.proofs.Common.{◌≡◌, ℕ, ◌++◌, List, ap, append_assoc, string_bytes, subst, ◌∙◌}
use Rattle.std.specs.Prelude.{flat_map}
use Rattle.net_model.specs.ForwardingLoops.{AreForwardingLoops}
use Rattle.net_check.specs.Telling.{sdu_falls, unlisted_filters, loop_line}
use Rattle.net_check.proofs.warning_lines.network_warnings.Goals as goal

pub returns : goal.returns
returns g c =
    let f = c.args.file.now in
    let n = c.args.network.now in
    let rows = c.in-Ok.rows.items in
    let rounds : List ℕ = flat_map (loop_line f.bridges) rows in
    let left : List ℕ = unlisted_filters f 0 n.plans in
    let are = subst (λ ps. AreForwardingLoops ps n.links rows) c.plans.ensures.plans (subst (λ ls. AreForwardingLoops c.plans.result.now ls rows) c.links.ensures c.in-Ok.ensures) in
    let first : string_bytes c.push_loops.new.text ≡ rounds = c.in-Ok-push_loops.ensures
    ∙ ap (λ l. l ++ flat_map (loop_line c.bridges.result.now) c.deref.result.now) c.new-text.ensures.bytes
    ∙ ap (λ l. flat_map (loop_line c.bridges.result.now) l) c.deref.ensures.value
    ∙ ap (λ b. flat_map (loop_line b) rows) c.bridges.ensures.bridges in
    let second : string_bytes c.push_unlisted_filters.new.text ≡ rounds ++ left = c.in-Ok-push_unlisted_filters.ensures
    ∙ ap (λ l. l ++ unlisted_filters f 0 c.plans-2.result.now) first
    ∙ ap (λ ps. rounds ++ unlisted_filters f 0 ps) c.plans-2.ensures.plans in (
      rows,
      are,
      c.in-Ok-push_file_sdu_falls.ensures
          ∙ ap (λ l. l ++ sdu_falls c.plans-3.result.now 0 f.streams) second
          ∙ ap (λ ps. (rounds ++ left) ++ sdu_falls ps 0 f.streams) c.plans-3.ensures.plans
          ∙ append_assoc rounds left (sdu_falls n.plans 0 f.streams),
    )
