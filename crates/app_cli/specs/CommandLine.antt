-- The arguments as `clap` reads them, and the command that they request.
use Rattle.std.specs.Prelude.{◌≡◌, ◌≤◌, ℕ, List, [], ◌∷◌, Option, None, Some, true, codes, fold, option_map, string_bytes}
use Rattle.std.specs.Str.Parse.{digits_value}
use Rattle.bridge_frame.specs.declared.Speed.{Speed}
use Rattle.bridge_port.specs.declared.queues.TheConstants.{LARGEST_ROOM}
use Rattle.clap.specs.Words.{App, Row, Rule, Text, fault_of, first_of, new_app, new_rule, subcommand_of, with_rule, with_subcommand}
use Rattle.clap.specs.Simple.{on_top}
use Rattle.clap.specs.declared.builder.action.ArgAction.TheVariants as action
use Rattle.clap.specs.declared.error.kind.ErrorKind.{ErrorKind}
use Rattle.clap.specs.declared.error.kind.ErrorKind.TheVariants as kind
use Rattle.app_cli.specs.declared.command.Description.{Description}
use Rattle.app_cli.specs.declared.command.Form.{Form}
use Rattle.app_cli.specs.declared.command.Form.TheVariants as form
use Rattle.app_cli.specs.declared.command.Argument.{Argument}
use Rattle.app_cli.specs.declared.words_fault.ArgumentsFault.{ArgumentsFault}
use Rattle.app_cli.specs.declared.words_fault.ArgumentsFault.TheVariants as fault
use Rattle.app_cli.specs.declared.job.Command.{Command}
use Rattle.app_cli.specs.declared.job.Command.TheVariants as job
use Rattle.app_cli.specs.Numbers.{IsRoom, IsSpeed}

-- The rule by which `clap` reads a required argument with the name `name`.
abbrev pub word_named : Text → Rule
word_named name = record (new_rule name) { required = true; value_names = 1 }

-- The rule of an optional argument with this name, after the required ones.
abbrev pub extra_named : Text → Rule
extra_named name = record (new_rule name) { value_names = 1 }

-- The rule of an option with this name and a value.
abbrev pub option_named : Text → Rule
option_named name = record (new_rule name) { long = Some name; value_names = 1 }

-- The rule of an option with this name and without a value.
abbrev pub flag_named : Text → Rule
flag_named name = record (new_rule name) { long = Some name; action = Some action.SetTrue }

-- The command `wire MBPS ROOM IN OUT`.
abbrev pub wire_command : App
wire_command = with_rule (with_rule (with_rule (with_rule (with_rule (new_app (codes "wire"))
    (word_named (codes "mbps"))) (word_named (codes "room"))) (word_named (codes "input"))) (word_named (codes "output")))
    (flag_named (codes "explain"))

-- The command `check PLAN`.
abbrev pub check_command : App
check_command = with_rule (with_rule (with_rule (new_app (codes "check")) (word_named (codes "plan"))) (flag_named (codes "strict"))) (flag_named (codes "explain"))

-- The command `run PLAN IN OUT`, with options for commands, tables and a picture.
abbrev pub run_command : App
run_command = with_rule (with_rule (with_rule (with_rule (with_rule (with_rule (with_rule (with_rule (with_rule (with_rule (with_rule (with_rule (with_rule (new_app (codes "run"))
    (word_named (codes "plan"))) (word_named (codes "input"))) (word_named (codes "output"))) (option_named (codes "commands")))
    (option_named (codes "delays"))) (option_named (codes "frames")))
    (option_named (codes "picture"))) (option_named (codes "from"))) (option_named (codes "to"))) (option_named (codes "ports"))) (option_named (codes "filters")))
    (flag_named (codes "strict")))
    (flag_named (codes "explain"))

-- The command `picture PLAN FILE`, with options for a part.
abbrev pub picture_command : App
picture_command = with_rule (with_rule (with_rule (with_rule (with_rule (with_rule (new_app (codes "picture")) (word_named (codes "plan"))) (word_named (codes "file")))
    (option_named (codes "from"))) (option_named (codes "to"))) (option_named (codes "ports"))) (flag_named (codes "explain"))

-- The command `bounds PLAN`, with the option `--traffic FILE`.
abbrev pub bounds_command : App
bounds_command = with_rule (with_rule (with_rule (with_rule (new_app (codes "bounds")) (word_named (codes "plan"))) (option_named (codes "traffic")))
    (flag_named (codes "strict"))) (flag_named (codes "explain"))

-- The command `net`: `net check NET` has two arguments, `net NET IN OUT` has three.
abbrev pub net_command : App
net_command = with_rule (with_rule (with_rule (with_rule (with_rule (with_rule (new_app (codes "net"))
    (word_named (codes "first"))) (word_named (codes "second"))) (extra_named (codes "output"))) (option_named (codes "picture")))
    (flag_named (codes "strict"))) (flag_named (codes "explain"))

-- The commands in the order of the help.
abbrev pub command_list : List App
command_list = wire_command ∷ check_command ∷ run_command ∷ picture_command ∷ bounds_command ∷ net_command ∷ []

-- The program without commands. Its arguments don't begin with its name, and it and each command have a version.
abbrev pub program : App
program = on_top (λ s. record s { no_binary_name = true; has_version = true; propagate_version = true }) (new_app (codes "tsnbridge"))

-- The `clap` program with the command `wire`; `commands` adds the others, one after another.
abbrev pub wiring : App
wiring = with_subcommand program wire_command.top

-- The `clap` program with the commands `wire` and `check`.
abbrev pub plain_jobs : App
plain_jobs = with_subcommand wiring check_command.top

-- The `clap` program with the commands `wire`, `check` and `run`.
abbrev pub jobs : App
jobs = with_subcommand plain_jobs run_command.top

-- The `clap` program with the commands `wire`, `check`, `run` and `picture`.
abbrev pub drawing_jobs : App
drawing_jobs = with_subcommand jobs picture_command.top

-- The `clap` program with the commands for one bridge: all except `net`.
abbrev pub bridge_jobs : App
bridge_jobs = with_subcommand drawing_jobs bounds_command.top

-- The `clap` program with all commands, by which the arguments are read.
abbrev pub commands : App
commands = with_subcommand bridge_jobs net_command.top

-- The rule by which `clap` reads an argument of this form.
abbrev pub rule_in : Form → Text → Rule
rule_in form.Place name = word_named name
rule_in form.Extra name = extra_named name
rule_in form.Choice name = option_named name
rule_in form.Flag name = flag_named name

-- The `clap` command `command` with the rule of argument `word` added.
abbrev pub with_word : App → Argument → App
with_word command word = with_rule command (rule_in word.form word.id.now)

-- The `clap` command of a description: its name and the rules of its arguments.
abbrev pub described : Description → App
described d = fold with_word (new_app d.name.now) d.words.now

-- The fault of arguments that `clap` refuses with an error of kind `kind`: `NoMemory` if memory ran out, otherwise
-- `Words`.
abbrev pub fault_of_kind : ErrorKind → ArgumentsFault
fault_of_kind kind.OutOfMemory = fault.NoMemory
fault_of_kind _ = fault.Words

-- Holds if the arguments are valid, and `clap` finds the command `name` with the values `values` in them.
pub record Names (words : List Text) (name : Text) (values : List Row) : Type 0 where
  pub faultless : fault_of commands words ≡ []
  pub named : subcommand_of commands words ≡ Some (name, values)

-- Holds if the values of `wire` give this speed, this queue capacity and these two paths.
pub record AsksForWire (values : List Row) (speed : Speed) (room : ℕ) (input output : Text) : Type 0 where
  pub mbps_word : Text
  pub mbps_is : first_of (codes "mbps") values ≡ Some mbps_word
  pub speed_is : IsSpeed mbps_word speed
  pub room_word : Text
  pub room_is : first_of (codes "room") values ≡ Some room_word
  pub is_room : IsRoom room_word
  pub value_is : digits_value 10 room_word ≡ room
  pub input_is : first_of (codes "input") values ≡ Some input
  pub output_is : first_of (codes "output") values ≡ Some output

-- Holds if the values that `clap` found give `plan` as the path of the plan for `check`.
abbrev pub AsksForCheck : List Row → Text → Type 0
AsksForCheck values plan = first_of (codes "plan") values ≡ Some plan

-- Holds if the values of `run` are these paths of a plan, two folders, and commands if present.
pub record AsksForRun (values : List Row) (plan input output : Text) (commands : Option Text) : Type 0 where
  pub plan_is : first_of (codes "plan") values ≡ Some plan
  pub input_is : first_of (codes "input") values ≡ Some input
  pub output_is : first_of (codes "output") values ≡ Some output
  pub commands_are : first_of (codes "commands") values ≡ commands

-- Holds if the values of `picture` are these paths of a plan and a picture.
abbrev pub AsksForPicture : List Row → Text → Text → Type 0
AsksForPicture values plan file = (first_of (codes "plan") values ≡ Some plan) × (first_of (codes "file") values ≡ Some file)

-- Holds if the values of `bounds` are these paths of a plan, and of traffic if present.
pub record AsksForBounds (values : List Row) (plan : Text) (traffic : Option Text) : Type 0 where
  pub plan_is : first_of (codes "plan") values ≡ Some plan
  pub traffic_is : first_of (codes "traffic") values ≡ traffic

-- Holds if the values of `net` are `check` and this path of a network, without a third argument and without a picture.
pub record AsksForNetwork (values : List Row) (network : Text) : Type 0 where
  pub task_is : first_of (codes "first") values ≡ Some (codes "check")
  pub network_is : first_of (codes "second") values ≡ Some network
  pub ends : first_of (codes "output") values ≡ None
  pub undrawn : first_of (codes "picture") values ≡ None

-- Holds if the values of `net` are these paths of a network, two folders, and a picture if present.
pub record AsksForNetworkRun (values : List Row) (network input output : Text) (picture : Option Text) : Type 0 where
  pub network_is : first_of (codes "first") values ≡ Some network
  pub input_is : first_of (codes "second") values ≡ Some input
  pub output_is : first_of (codes "output") values ≡ Some output
  pub picture_is : first_of (codes "picture") values ≡ picture

-- Holds if the command is `wire` with the values that `clap` found.
abbrev pub IsWireJob : List Row → Command → Type 0
IsWireJob values job.Text = ⊥
IsWireJob values (job.Bounds plan traffic) = ⊥
IsWireJob values (job.Network network) = ⊥
IsWireJob values (job.RunNetwork network input output picture) = ⊥
IsWireJob values (job.Picture plan file) = ⊥
IsWireJob values (job.Check plan) = ⊥
IsWireJob values (job.Run plan input output file) = ⊥
IsWireJob values (job.Wire speed room input output) = AsksForWire values speed room (string_bytes input) (string_bytes output)

-- Holds if the command is `check` with the values that `clap` found.
abbrev pub IsCheckJob : List Row → Command → Type 0
IsCheckJob values job.Text = ⊥
IsCheckJob values (job.Bounds plan traffic) = ⊥
IsCheckJob values (job.Network network) = ⊥
IsCheckJob values (job.RunNetwork network input output picture) = ⊥
IsCheckJob values (job.Picture plan file) = ⊥
IsCheckJob values (job.Wire speed room input output) = ⊥
IsCheckJob values (job.Run plan input output file) = ⊥
IsCheckJob values (job.Check plan) = AsksForCheck values (string_bytes plan)

-- Holds if the command is `run` with the values that `clap` found.
abbrev pub IsRunJob : List Row → Command → Type 0
IsRunJob values job.Text = ⊥
IsRunJob values (job.Bounds plan traffic) = ⊥
IsRunJob values (job.Network network) = ⊥
IsRunJob values (job.RunNetwork network input output picture) = ⊥
IsRunJob values (job.Picture plan file) = ⊥
IsRunJob values (job.Wire speed room input output) = ⊥
IsRunJob values (job.Check plan) = ⊥
IsRunJob values (job.Run plan input output file) = AsksForRun values (string_bytes plan) (string_bytes input) (string_bytes output) (option_map string_bytes file)

-- Holds if the command is `picture` with the values that `clap` found.
abbrev pub IsPictureJob : List Row → Command → Type 0
IsPictureJob values job.Text = ⊥
IsPictureJob values (job.Bounds plan traffic) = ⊥
IsPictureJob values (job.Network network) = ⊥
IsPictureJob values (job.RunNetwork network input output picture) = ⊥
IsPictureJob values (job.Wire speed room input output) = ⊥
IsPictureJob values (job.Check plan) = ⊥
IsPictureJob values (job.Run plan input output file) = ⊥
IsPictureJob values (job.Picture plan file) = AsksForPicture values (string_bytes plan) (string_bytes file)

-- Holds if the command is `bounds` with the values that `clap` found.
abbrev pub IsBoundsJob : List Row → Command → Type 0
IsBoundsJob values job.Text = ⊥
IsBoundsJob values (job.Wire speed room input output) = ⊥
IsBoundsJob values (job.Check plan) = ⊥
IsBoundsJob values (job.Run plan input output file) = ⊥
IsBoundsJob values (job.Picture plan file) = ⊥
IsBoundsJob values (job.Network network) = ⊥
IsBoundsJob values (job.RunNetwork network input output picture) = ⊥
IsBoundsJob values (job.Bounds plan traffic) = AsksForBounds values (string_bytes plan) (option_map string_bytes traffic)

-- Holds if the command is `net` with the values that `clap` found.
abbrev pub IsNetworkJob : List Row → Command → Type 0
IsNetworkJob values job.Text = ⊥
IsNetworkJob values (job.Wire speed room input output) = ⊥
IsNetworkJob values (job.Check plan) = ⊥
IsNetworkJob values (job.Run plan input output file) = ⊥
IsNetworkJob values (job.Picture plan file) = ⊥
IsNetworkJob values (job.Bounds plan traffic) = ⊥
IsNetworkJob values (job.Network network) = AsksForNetwork values (string_bytes network)
IsNetworkJob values (job.RunNetwork network input output picture) = AsksForNetworkRun values (string_bytes network) (string_bytes input) (string_bytes output) (option_map string_bytes picture)

-- Holds if the arguments request this job, which is a command with its arguments.
abbrev pub AsksFor : List Text → Command → Type 0
AsksFor words job.Text = words ≡ []
AsksFor words (job.Wire speed room input output) =
    (values : List Row) × Names words (codes "wire") values × AsksForWire values speed room (string_bytes input) (string_bytes output)
AsksFor words (job.Check plan) =
    (values : List Row) × Names words (codes "check") values × AsksForCheck values (string_bytes plan)
AsksFor words (job.Run plan input output file) =
    (values : List Row) × Names words (codes "run") values × AsksForRun values (string_bytes plan) (string_bytes input) (string_bytes output) (option_map string_bytes file)
AsksFor words (job.Bounds plan traffic) =
    (values : List Row) × Names words (codes "bounds") values × AsksForBounds values (string_bytes plan) (option_map string_bytes traffic)
AsksFor words (job.Network network) =
    (values : List Row) × Names words (codes "net") values × AsksForNetwork values (string_bytes network)
AsksFor words (job.RunNetwork network input output picture) =
    (values : List Row) × Names words (codes "net") values × AsksForNetworkRun values (string_bytes network) (string_bytes input) (string_bytes output) (option_map string_bytes picture)
AsksFor words (job.Picture plan file) =
    (values : List Row) × Names words (codes "picture") values × AsksForPicture values (string_bytes plan) (string_bytes file)

-- Holds if the job's queue capacity, if it has one, is 1 to 4,096 frames.
abbrev pub HasRoom : Command → Type 0
HasRoom job.Text = Unit {0}
HasRoom (job.Check plan) = Unit {0}
HasRoom (job.Picture plan file) = Unit {0}
HasRoom (job.Bounds plan traffic) = Unit {0}
HasRoom (job.Network network) = Unit {0}
HasRoom (job.RunNetwork network input output picture) = Unit {0}
HasRoom (job.Run plan input output file) = Unit {0}
HasRoom (job.Wire speed room input output) = (1 ≤ room) × (room ≤ LARGEST_ROOM)
