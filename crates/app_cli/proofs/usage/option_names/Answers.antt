use Rattle.std.proofs.Common.{◌∙◌, ap, map, rules, sym}
use Rattle.std.proofs.lemmas.List.{take_all}
use Rattle.std.proofs.lemmas.List.Sorted.{IsPermutation-map, list_any-IsPermutation}
use Rattle.std.specs.Str.{bytes_eq}
use Rattle.app_cli.specs.Usages.{has_option}
use Rattle.app_cli.proofs.Usages.{all_of_rules, rules_of_all}
use Rattle.app_cli.proofs.usage.option_names.Goals as goal

pub returns : goal.returns
returns c = λ name.
    sym (list_any-IsPermutation (λ known. bytes_eq known name) (map (λ known. known.now) c.loop-command.names.items) (map (λ known. known.now) c.sort.new.self.items)
    (IsPermutation-map (λ known. known.now) _ _ c.sort.ensures.permutation))
    ∙ (c.loop-command.invariant name
    ∙ (ap (λ l. has_option name (rules_of_all (λ d. d.now) l)) (take_all c.loop-command.command-index c.all_descriptions-command-items.result (search rules))
    ∙ ap (has_option name) (all_of_rules (λ d. d.now) c.all_descriptions-command-items.result c.all_descriptions-command-items.ensures)))
