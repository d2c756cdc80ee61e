use Rattle.std.proofs.Common.{◌≡◌, ◌∙◌, ap, map, rules, subst}
use Rattle.std.proofs.lemmas.List.{take_all}
use Rattle.std.proofs.lemmas.List.Sorted.{IsPermutation-map, IsPermutation-sym}
use Rattle.std.specs.List.Sorted.{IsPermutation}
use Rattle.app_cli.specs.Usages.{command_names}
use Rattle.app_cli.proofs.Usages.{all_names}
use Rattle.app_cli.proofs.usage.command_names.Goals as goal

pub returns : goal.returns
returns c =
    let pushed : map (λ name. name.now) c.loop-command.names.items ≡ map (λ d. d.now.name.now) c.all_descriptions-command-items.result =
    c.loop-command.invariant ∙ ap (map (λ d. d.now.name.now)) (take_all c.loop-command.command-index c.all_descriptions-command-items.result (search rules)) in
    let are : map (λ name. name.now) c.loop-command.names.items ≡ command_names =
    pushed ∙ all_names (λ d. d.now) c.all_descriptions-command-items.result c.all_descriptions-command-items.ensures in
    subst (λ l. IsPermutation (map (λ name. name.now) c.sort.new.self.items) l) are (IsPermutation-sym _ _ (IsPermutation-map (λ name. name.now) _ _ c.sort.ensures.permutation))
