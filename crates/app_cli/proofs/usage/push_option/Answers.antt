use Rattle.std.proofs.Common.{◌≡◌, rules, true}
use Rattle.std.specs.List.{list_any}
use Rattle.std.specs.Str.{bytes_eq}
use Rattle.app_cli.proofs.Usages.{known_option, no_option}
use Rattle.app_cli.proofs.usage.push_option.Goals.{else-is_option-via-then-is_option+else-not-contains, else-is_option-via-else-is_option}
use Rattle.app_cli.proofs.usage.push_option.Goals as goal

pub returns-else-is_option : goal.returns-else-is_option
returns-else-is_option c = λ name. elim c.else-is_option.branch [
  | else-is_option-via-then-is_option+else-not-contains w ↦
      let among : list_any (λ known. bytes_eq known.now c.args.word.now.id.now) c.args.names.now.items ≡ true = search rules in
      known_option (λ known. known.now) name c.args.word.now c.args.names.now.items among
  | else-is_option-via-else-is_option w ↦ no_option name c.args.word.now _ (search rules)
]
