-- The names of the commands and of their options, for explanations of refused arguments.
use Rattle.std.specs.Prelude.{◌≡◌, ◌&&◌, Bool, List, [], ◌∷◌, Option, Some, None, codes, false, flat_map, if◌then◌else◌, map, nat_eq, refl, true}
use Rattle.std.specs.Option.{is_some}
use Rattle.std.specs.List.{list_any}
use Rattle.std.specs.Str.{bytes_eq}
use Rattle.clap.specs.Words.{Rule, Text}
use Rattle.app_cli.specs.declared.command.Argument.{Argument}
use Rattle.app_cli.specs.CommandLine.{command_list, rule_in}

-- The names of the commands, in the order of the help.
abbrev pub command_names : List Text
command_names = map (λ command. command.top.name) command_list

-- The rules of the arguments and options of all commands.
abbrev pub all_rules : List Rule
all_rules = flat_map (λ command. command.top.rules) command_list

-- The rule by which `clap` reads an argument of the table of commands.
abbrev pub rule_of_word : Argument → Rule
rule_of_word word = rule_in word.form word.id.now

-- True if the rule is of the option with this name, without its `--`.
abbrev pub is_option_named : Text → Rule → Bool
is_option_named name rule = is_some rule.long && bytes_eq rule.id name

-- True if a rule is of the option with this name.
abbrev pub has_option : Text → List Rule → Bool
has_option name rules = list_any (is_option_named name) rules

-- True if the name is among these names.
abbrev pub is_among : Text → List Text → Bool
is_among name names = list_any (λ known. bytes_eq known name) names

-- `Some true` if the first option with this name has a value, `Some false` if it has none; `None` without such an option.
abbrev pub option_value : Text → List Rule → Option Bool
option_value name [] = None
option_value name (rule ∷ rest) = if is_option_named name rule then Some (nat_eq rule.value_names 1) else option_value name rest

-- `--traffic` has a value, `--strict` has none, and no command has an option `--plan`.
pub traffic_has_value : option_value (codes "traffic") all_rules ≡ Some true
traffic_has_value = refl

pub strict_has_none : option_value (codes "strict") all_rules ≡ Some false
strict_has_none = refl

pub plan_is_no_option : option_value (codes "plan") all_rules ≡ None
plan_is_no_option = refl
