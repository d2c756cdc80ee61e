use Rattle.std.proofs.Common.{◌∙◌, ◌<◌, ◌≤◌, ap, length, rules, sym}
use Rattle.std.specs.List.{list_any}
use Rattle.std.specs.Str.{bytes_eq}
use Rattle.app_cli.proofs.Usages.{all_names, named_after, named_at}
use Rattle.app_cli.proofs.usage.find_usage.Goals as goal

pub returns-then-eq-clause-known : goal.returns-then-eq-clause-known
returns-then-eq-clause-known c =
    let within : c.loop-command.command-index < length c.all_descriptions-command-items.result = search rules in
    sym (named_at (λ d. d.now.name.now) c.args.name.now c.all_descriptions-command-items.result c.loop-command.command-index _ within (sym c.eq.ensures ∙ c.if-eq.true))
    ∙ (sym c.loop-command.invariant
    ∙ ap (list_any (λ known. bytes_eq known c.args.name.now)) (all_names (λ d. d.now) c.all_descriptions-command-items.result c.all_descriptions-command-items.ensures))

pub returns-clause-known : goal.returns-clause-known
returns-clause-known c =
    let over : length c.all_descriptions-command-items.result ≤ c.loop-command.command-index = search rules in
    sym (named_after (λ d. d.now.name.now) c.args.name.now c.all_descriptions-command-items.result c.loop-command.command-index over)
    ∙ (sym c.loop-command.invariant
    ∙ ap (list_any (λ known. bytes_eq known c.args.name.now)) (all_names (λ d. d.now) c.all_descriptions-command-items.result c.all_descriptions-command-items.ensures))
