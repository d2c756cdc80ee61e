use Rattle.std.proofs.Common.{◌∙◌, ◌<◌, ◌≤◌, ap, length, rules, sym}
use Rattle.app_cli.specs.Usages.{option_value}
use Rattle.app_cli.proofs.Usages.{all_of_rules, found_after, found_at, skipped_at}
use Rattle.app_cli.proofs.usage.has_value.Goals as goal

pub returns-then-is_some : goal.returns-then-is_some
returns-then-is_some c =
    let within : c.loop-command.command-index < length c.all_descriptions-command-items.result = search rules in
    sym (found_at (λ d. d.now) c.args.name.now c.all_descriptions-command-items.result c.loop-command.command-index _ _ within c.find_option-found.ensures (search rules))
    ∙ (sym c.loop-command.invariant ∙ ap (option_value c.args.name.now) (all_of_rules (λ d. d.now) c.all_descriptions-command-items.result c.all_descriptions-command-items.ensures))

pub loop-command-preserved : goal.loop-command-preserved
loop-command-preserved c =
    let within : c.loop-command.command-index < length c.all_descriptions-command-items.result = search rules in
    c.loop-command.invariant
    ∙ skipped_at (λ d. d.now) c.args.name.now c.all_descriptions-command-items.result c.loop-command.command-index _ _ within c.find_option-found.ensures (search rules)

pub returns : goal.returns
returns c =
    let over : length c.all_descriptions-command-items.result ≤ c.loop-command.command-index = search rules in
    sym (found_after (λ d. d.now) c.args.name.now c.all_descriptions-command-items.result c.loop-command.command-index over)
    ∙ (sym c.loop-command.invariant ∙ ap (option_value c.args.name.now) (all_of_rules (λ d. d.now) c.all_descriptions-command-items.result c.all_descriptions-command-items.ensures))
