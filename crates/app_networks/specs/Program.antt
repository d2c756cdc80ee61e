-- The program from its arguments to its output and exit status.
use Rattle.std.specs.Prelude.{◌≡◌, ◌⊎◌, ℕ, Bool, true, false, List, [], None, Option, Some, codes, is_some, option_map, string_bytes}
use Rattle.std.specs.declared.alloc.Global.{Global}
use Rattle.std.specs.List.{list_any}
use Rattle.clap.specs.Words.{Row, Text, fault_of, subcommand_of}
use Rattle.app_failure.specs.declared.fault.Failure.{Failure}
use Rattle.app_failure.specs.declared.fault.Failure.TheVariants as fault
use Rattle.app_cli.specs.CommandLine.{AsksFor, HasRoom, commands}
use Rattle.app_cli.specs.Helping.{AsksForHelp, IsHelp, explains, is_help_word, is_strict}
use Rattle.app_cli.specs.Sketching.{AsksForPart, AsksForSketch, NamesPart}
use Rattle.app_cli.specs.Tabling.{AsksForTables}
use Rattle.app_cli.specs.declared.job.Command.{Command}
use Rattle.app_cli.specs.declared.job.Command.TheVariants as job
use Rattle.app_cli.specs.declared.request.Request.{Request}
use Rattle.app_cli.specs.declared.words_fault.ArgumentsFault.{ArgumentsFault}
use Rattle.app_cli.specs.declared.words_fault.ArgumentsFault.TheVariants as words
use Rattle.app_commands.specs.WireFiles.{EndsWiring}
use Rattle.app_commands.specs.Checked.{EndsChecked}
use Rattle.app_commands.specs.Outputs.{Prints, Reports}
use Rattle.app_commands.specs.declared.output.Output.{Output}
use Rattle.app_commands.specs.ShownFiles.{EndsPicture, EndsTold}
use Rattle.app_commands.specs.CommandOutputs.{FailsText, IsCheckOutput, IsPictureOutput, IsRunOutput, IsStandardFailure, IsTextOutput, IsWireOutput}
use Rattle.net_check.specs.Networks.{EndsNetwork}
use Rattle.app_networks.specs.Folders.{EndsRounds}
use Rattle.app_networks.specs.Bounds.{FailsTraffic, IsBoundsOutput, IsTrafficOutput}
use Rattle.app_networks.specs.Networks.{FailsNetworkPicture, IsNetworkOutput, IsNetworkRunOutput}

-- ARGUMENTS

-- Holds if the arguments request `r`: the command with its values, its picture and tables, and the two flags.
pub record IsRequest (words : List Text) (r : Request) : Type 0 where
  pub job : AsksFor words r.job
  pub room : HasRoom r.job
  pub sketch : (values : List Row) → subcommand_of commands words ≡ Some (codes "run", values) → AsksForSketch values r.picture
  pub part : (values : List Row) → subcommand_of commands words ≡ Some (codes "picture", values) → AsksForPart values r.picture
  pub tables : (values : List Row) → subcommand_of commands words ≡ Some (codes "run", values) → AsksForTables values r.tables
  pub explained : r.is_explained ≡ explains words
  pub strict : r.is_strict ≡ is_strict words

-- Holds if no argument is a help word (`is_help_word`), or if `clap` answers the arguments with neither help nor the
-- version.
abbrev pub MissesHelp : List Text → Type 0
MissesHelp words = list_any is_help_word words ≡ true → ¬ AsksForHelp (fault_of commands words)

-- Holds if failure `f` means that the arguments are refused, or that memory ran out. Refused arguments request neither help nor a command,
-- except that they may name a part of a run or plan.
abbrev pub RefusesWords : List Text → Failure → Type 0
RefusesWords words fault.Words = MissesHelp words × ((job : Command) → AsksFor words job → NamesPart words)
RefusesWords words fault.NoMemory = Unit {0}
RefusesWords words f = ⊥

-- A SUCCESSFUL COMMAND

-- Holds if the program prints the output of a successful `bounds`, with or without traffic.
abbrev pub PerformsBounds : Bool → Bool → Bool → Output → Type 0
PerformsBounds true strict explained output = IsTrafficOutput strict explained output
PerformsBounds false strict explained output = IsBoundsOutput strict explained output

-- Holds if the program prints the output of this command, if it succeeds, by the flags `--strict` and `--explain`.
abbrev pub PerformsJob : Command → Bool → Bool → Output → Type 0
PerformsJob job.Text strict explained output = IsTextOutput output
PerformsJob (job.Wire speed room input file) strict explained output = IsWireOutput (string_bytes file) output
PerformsJob (job.Check plan) strict explained output = IsCheckOutput strict explained output
PerformsJob (job.Run plan input folder commands) strict explained output = IsRunOutput (string_bytes input) (string_bytes folder) strict explained output
PerformsJob (job.Picture plan file) strict explained output = IsPictureOutput (string_bytes file) output
PerformsJob (job.Bounds plan traffic) strict explained output = PerformsBounds (is_some traffic) strict explained output
PerformsJob (job.Network network) strict explained output = IsNetworkOutput strict explained output
PerformsJob (job.RunNetwork network input folder picture) strict explained output = IsNetworkRunOutput strict explained output

-- Holds if the program prints the output of a request's successful command.
abbrev pub PerformsRequest : Request → Output → Type 0
PerformsRequest r output = PerformsJob r.job r.is_strict r.is_explained output

-- A FAILED COMMAND

-- Holds if failure `f` can end the picture of the file at `path`, a plan or a network. A part of a network is refused.
abbrev pub FailsPicture : List ℕ → List ℕ → Bool → Failure → Type 0
FailsPicture path file part f = EndsPicture Global path file f ⊎ (FailsNetworkPicture path file f ⊎ ((part ≡ true) × (f ≡ fault.Words)))

-- Holds if failure `f` can end `bounds` for the plan at path `plan` and, if given, the traffic at path `file`.
abbrev pub FailsBounds : List ℕ → Option (List ℕ) → Failure → Type 0
FailsBounds plan None f = EndsChecked Global plan f
FailsBounds plan (Some file) f = FailsTraffic plan file f

-- Holds if failure `f` can end the command of request `r`.
abbrev pub FailsJob : Command → Request → Failure → Type 0
FailsJob job.Text r f = FailsText f
FailsJob (job.Wire speed room input file) r f = EndsWiring (string_bytes input) (string_bytes file) f
FailsJob (job.Check plan) r f = EndsChecked Global (string_bytes plan) f
FailsJob (job.Run plan input folder commands) r f =
    EndsTold Global (string_bytes plan) (option_map string_bytes commands) (string_bytes input) (string_bytes folder)
    (option_map string_bytes r.tables.delays) (option_map string_bytes r.tables.frames) (option_map (λ p. string_bytes p.file) r.picture) f
FailsJob (job.Picture plan file) r f = FailsPicture (string_bytes plan) (string_bytes file) (is_some r.picture) f
FailsJob (job.Bounds plan traffic) r f = FailsBounds (string_bytes plan) (option_map string_bytes traffic) f
FailsJob (job.Network network) r f = EndsNetwork Global (string_bytes network) f
FailsJob (job.RunNetwork network input folder picture) r f =
    EndsRounds Global (string_bytes network) (string_bytes input) (string_bytes folder) (option_map string_bytes picture) f

abbrev pub FailsRequest : Request → Failure → Type 0
FailsRequest r f = FailsJob r.job r f

-- THE PROGRAM

-- Holds if the program prints the output of a request's command, or reports a failure that can end this command.
abbrev pub IsOutputOf : Request → Output → Type 0
IsOutputOf r output = PerformsRequest r output ⊎ ((f : Failure) × FailsRequest r f × Reports r.is_explained f output)

-- Holds if the program prints only its help or version: the arguments request that and no command. The status is 4, as for other arguments
-- without a command.
abbrev pub IsHelpOutput : List Text → Output → Type 0
IsHelpOutput words output = IsHelp (fault_of commands words) × (((job : Command) → ¬ AsksFor words job) × ((text : List ℕ) × Prints text [] 4 output))

-- Holds if the program reports why it refuses the arguments.
abbrev pub IsRefusal : List Text → Output → Type 0
IsRefusal words output = (f : Failure) × RefusesWords words f × Reports (explains words) f output

-- Holds if the program prints the output for the arguments: help, the failure of refused arguments, or the output of the requested command.
abbrev pub IsOutput : List Text → Output → Type 0
IsOutput words output = IsHelpOutput words output ⊎ (IsRefusal words output ⊎ ((r : Request) × IsRequest words r × IsOutputOf r output))

-- Holds if the program ends with this output: the output for the arguments, completely printed, or the report that standard output failed.
abbrev pub IsPrinted : List Text → Output → Type 0
IsPrinted words output = IsOutput words output ⊎ IsStandardFailure (explains words) output
