-- Computed examples of arguments that `clap` accepts or refuses.
use Rattle.std.specs.Prelude.{◌≡◌, [], ◌∷◌, List, None, Some, codes, false, option_map, refl, true}
use Rattle.clap.specs.Words.{Text, fault_of, first_of, subcommand_of}
use Rattle.clap.specs.declared.error.kind.ErrorKind.TheVariants.{ArgumentConflict, DisplayHelp, DisplayVersion, MissingRequiredArgument, UnknownArgument}
use Rattle.clap.proofs.OnLiterals.{clap_on_literals}
use Rattle.app_cli.specs.CommandLine.{commands}
use Rattle.app_cli.specs.Helping.{explains, is_strict}

-- The arguments `wire 1000 4 a.pcap b.pcap`.
abbrev wire_words : List Text
wire_words = codes "wire" ∷ codes "1000" ∷ codes "4" ∷ codes "a.pcap" ∷ codes "b.pcap" ∷ []

-- `clap` finds no fault in the arguments `wire_words`.
pub wire_faultless : fault_of commands wire_words ≡ []
unfolding clap_on_literals
wire_faultless = refl

-- The arguments `wire_words` name the command `wire`.
pub wire_named : option_map (λ p. p.0) (subcommand_of commands wire_words) ≡ Some (codes "wire")
unfolding clap_on_literals
wire_named = refl

-- `clap` gives each value in `wire_words` the name of its argument.
pub wire_mbps : option_map (λ p. first_of (codes "mbps") p.1) (subcommand_of commands wire_words) ≡ Some (Some (codes "1000"))
unfolding clap_on_literals
wire_mbps = refl

pub wire_room : option_map (λ p. first_of (codes "room") p.1) (subcommand_of commands wire_words) ≡ Some (Some (codes "4"))
unfolding clap_on_literals
wire_room = refl

pub wire_input : option_map (λ p. first_of (codes "input") p.1) (subcommand_of commands wire_words) ≡ Some (Some (codes "a.pcap"))
unfolding clap_on_literals
wire_input = refl

pub wire_output : option_map (λ p. first_of (codes "output") p.1) (subcommand_of commands wire_words) ≡ Some (Some (codes "b.pcap"))
unfolding clap_on_literals
wire_output = refl

-- The arguments `check plan.toml`.
abbrev check_words : List Text
check_words = codes "check" ∷ codes "plan.toml" ∷ []

-- `clap` finds no fault in the arguments `check_words`.
pub check_faultless : fault_of commands check_words ≡ []
unfolding clap_on_literals
check_faultless = refl

-- The arguments `check_words` name the command `check`.
pub check_named : option_map (λ p. p.0) (subcommand_of commands check_words) ≡ Some (codes "check")
unfolding clap_on_literals
check_named = refl

-- `clap` gives the value in `check_words` the name of its argument, `plan`.
pub check_plan : option_map (λ p. first_of (codes "plan") p.1) (subcommand_of commands check_words) ≡ Some (Some (codes "plan.toml"))
unfolding clap_on_literals
check_plan = refl

-- The arguments `run plan.toml in out`.
abbrev run_words : List Text
run_words = codes "run" ∷ codes "plan.toml" ∷ codes "in" ∷ codes "out" ∷ []

-- `clap` finds no fault in the arguments `run_words`.
pub run_faultless : fault_of commands run_words ≡ []
unfolding clap_on_literals
run_faultless = refl

-- The arguments `run_words` name the command `run`.
pub run_named : option_map (λ p. p.0) (subcommand_of commands run_words) ≡ Some (codes "run")
unfolding clap_on_literals
run_named = refl

-- `clap` gives each value in `run_words` the name of its argument.
pub run_plan : option_map (λ p. first_of (codes "plan") p.1) (subcommand_of commands run_words) ≡ Some (Some (codes "plan.toml"))
unfolding clap_on_literals
run_plan = refl

pub run_input : option_map (λ p. first_of (codes "input") p.1) (subcommand_of commands run_words) ≡ Some (Some (codes "in"))
unfolding clap_on_literals
run_input = refl

pub run_output : option_map (λ p. first_of (codes "output") p.1) (subcommand_of commands run_words) ≡ Some (Some (codes "out"))
unfolding clap_on_literals
run_output = refl

-- The option `--commands`, which `run_words` lacks, has no value.
pub run_no_commands : option_map (λ p. first_of (codes "commands") p.1) (subcommand_of commands run_words) ≡ Some None
unfolding clap_on_literals
run_no_commands = refl

-- The arguments `run plan.toml --commands clear.toml in out`.
abbrev commanded_words : List Text
commanded_words = codes "run" ∷ codes "plan.toml" ∷ codes "--commands" ∷ codes "clear.toml" ∷ codes "in" ∷ codes "out" ∷ []

-- `clap` finds no fault in the arguments `commanded_words`.
pub commanded_faultless : fault_of commands commanded_words ≡ []
unfolding clap_on_literals
commanded_faultless = refl

-- In `commanded_words`, the option `--commands` has its value, and the arguments before and after it have theirs.
pub commanded_commands : option_map (λ p. first_of (codes "commands") p.1) (subcommand_of commands commanded_words) ≡ Some (Some (codes "clear.toml"))
unfolding clap_on_literals
commanded_commands = refl

pub commanded_output : option_map (λ p. first_of (codes "output") p.1) (subcommand_of commands commanded_words) ≡ Some (Some (codes "out"))
unfolding clap_on_literals
commanded_output = refl

-- `clap` refuses a repeated option.
pub commands_twice : fault_of commands (codes "run" ∷ codes "p" ∷ codes "i" ∷ codes "o" ∷ codes "--commands" ∷ codes "a" ∷ codes "--commands" ∷ codes "b" ∷ []) ≡ ArgumentConflict ∷ []
unfolding clap_on_literals
commands_twice = refl

-- The arguments `run plan.toml in out --delays delays.csv --frames=frames.csv`.
abbrev tabled_words : List Text
tabled_words = codes "run" ∷ codes "plan.toml" ∷ codes "in" ∷ codes "out" ∷ codes "--delays" ∷ codes "delays.csv" ∷ codes "--frames=frames.csv" ∷ []

-- `clap` finds no fault in the arguments `tabled_words`.
pub tabled_faultless : fault_of commands tabled_words ≡ []
unfolding clap_on_literals
tabled_faultless = refl

-- In `tabled_words`, the options `--delays` and `--frames` have their values.
pub tabled_delays : option_map (λ p. first_of (codes "delays") p.1) (subcommand_of commands tabled_words) ≡ Some (Some (codes "delays.csv"))
unfolding clap_on_literals
tabled_delays = refl

pub tabled_frames : option_map (λ p. first_of (codes "frames") p.1) (subcommand_of commands tabled_words) ≡ Some (Some (codes "frames.csv"))
unfolding clap_on_literals
tabled_frames = refl

-- `clap` refuses a table of a command other than `run`.
pub table_of_check : fault_of commands (codes "check" ∷ codes "p" ∷ codes "--delays" ∷ codes "d" ∷ []) ≡ UnknownArgument ∷ []
unfolding clap_on_literals
table_of_check = refl

-- The arguments `check --explain plan.toml`.
abbrev explained_words : List Text
explained_words = codes "check" ∷ codes "--explain" ∷ codes "plan.toml" ∷ []

-- `clap` finds no fault in the arguments `explained_words`.
pub explained_faultless : fault_of commands explained_words ≡ []
unfolding clap_on_literals
explained_faultless = refl

-- In `explained_words`, the value after the flag `--explain` has the name of its argument, `plan`.
pub explained_plan : option_map (λ p. first_of (codes "plan") p.1) (subcommand_of commands explained_words) ≡ Some (Some (codes "plan.toml"))
unfolding clap_on_literals
explained_plan = refl

-- `clap` finds the flag `--explain` in `explained_words`, and so does `explains`.
pub explained_flag : option_map (λ p. first_of (codes "explain") p.1) (subcommand_of commands explained_words) ≡ Some (Some (codes "true"))
unfolding clap_on_literals
explained_flag = refl

pub explained_explains : explains explained_words ≡ true
explained_explains = refl

-- The arguments `check -- --explain`. After `--`, the argument `--explain` is the plan's path and no flag.
abbrev path_words : List Text
path_words = codes "check" ∷ codes "--" ∷ codes "--explain" ∷ []

pub path_plan : option_map (λ p. first_of (codes "plan") p.1) (subcommand_of commands path_words) ≡ Some (Some (codes "--explain"))
unfolding clap_on_literals
path_plan = refl

pub path_flag : option_map (λ p. first_of (codes "explain") p.1) (subcommand_of commands path_words) ≡ Some (Some (codes "false"))
unfolding clap_on_literals
path_flag = refl

pub path_explains : explains path_words ≡ false
path_explains = refl

-- The arguments `bounds plan.toml --traffic talkers.toml`.
abbrev traffic_words : List Text
traffic_words = codes "bounds" ∷ codes "plan.toml" ∷ codes "--traffic" ∷ codes "talkers.toml" ∷ []

-- `clap` finds no fault in the arguments `traffic_words`.
pub traffic_faultless : fault_of commands traffic_words ≡ []
unfolding clap_on_literals
traffic_faultless = refl

-- In `traffic_words`, the option `--traffic` has its value.
pub traffic_file : option_map (λ p. first_of (codes "traffic") p.1) (subcommand_of commands traffic_words) ≡ Some (Some (codes "talkers.toml"))
unfolding clap_on_literals
traffic_file = refl

-- The arguments `net check net.toml --strict`.
abbrev net_check_words : List Text
net_check_words = codes "net" ∷ codes "check" ∷ codes "net.toml" ∷ codes "--strict" ∷ []

-- `clap` finds no fault in the arguments `net_check_words`, which lack the third argument.
pub net_check_faultless : fault_of commands net_check_words ≡ []
unfolding clap_on_literals
net_check_faultless = refl

pub net_check_network : option_map (λ p. first_of (codes "second") p.1) (subcommand_of commands net_check_words) ≡ Some (Some (codes "net.toml"))
unfolding clap_on_literals
net_check_network = refl

pub net_check_output : option_map (λ p. first_of (codes "output") p.1) (subcommand_of commands net_check_words) ≡ Some None
unfolding clap_on_literals
net_check_output = refl

pub net_check_strict : is_strict net_check_words ≡ true
net_check_strict = refl

-- The arguments `net net.toml in --picture run.svg out`.
abbrev net_words : List Text
net_words = codes "net" ∷ codes "net.toml" ∷ codes "in" ∷ codes "--picture" ∷ codes "run.svg" ∷ codes "out" ∷ []

-- `clap` finds no fault in the arguments `net_words`.
pub net_faultless : fault_of commands net_words ≡ []
unfolding clap_on_literals
net_faultless = refl

-- `clap` gives each value in `net_words` the name of its argument or option.
pub net_input : option_map (λ p. first_of (codes "second") p.1) (subcommand_of commands net_words) ≡ Some (Some (codes "in"))
unfolding clap_on_literals
net_input = refl

pub net_output : option_map (λ p. first_of (codes "output") p.1) (subcommand_of commands net_words) ≡ Some (Some (codes "out"))
unfolding clap_on_literals
net_output = refl

pub net_picture : option_map (λ p. first_of (codes "picture") p.1) (subcommand_of commands net_words) ≡ Some (Some (codes "run.svg"))
unfolding clap_on_literals
net_picture = refl

pub net_strict : is_strict net_words ≡ false
net_strict = refl

-- `clap` refuses the command `net` with one argument or with four arguments.
pub net_missing : fault_of commands (codes "net" ∷ codes "net.toml" ∷ []) ≡ MissingRequiredArgument ∷ []
unfolding clap_on_literals
net_missing = refl

pub net_too_many : fault_of commands (codes "net" ∷ codes "a" ∷ codes "b" ∷ codes "c" ∷ codes "d" ∷ []) ≡ UnknownArgument ∷ []
unfolding clap_on_literals
net_too_many = refl

-- `clap` refuses a missing argument and an argument too many. Requests for help and for the version have kinds of error
-- of their own.
pub one_missing : fault_of commands (codes "wire" ∷ codes "1000" ∷ codes "4" ∷ codes "a.pcap" ∷ []) ≡ MissingRequiredArgument ∷ []
unfolding clap_on_literals
one_missing = refl

pub one_too_many : fault_of commands (codes "wire" ∷ codes "1000" ∷ codes "4" ∷ codes "a" ∷ codes "b" ∷ codes "c" ∷ []) ≡ UnknownArgument ∷ []
unfolding clap_on_literals
one_too_many = refl

pub help_asked : fault_of commands (codes "--help" ∷ []) ≡ DisplayHelp ∷ []
unfolding clap_on_literals
help_asked = refl

pub version_asked : fault_of commands (codes "--version" ∷ []) ≡ DisplayVersion ∷ []
unfolding clap_on_literals
version_asked = refl

-- Requests for help and version of a command.
pub wire_help_asked : fault_of commands (codes "wire" ∷ codes "--help" ∷ []) ≡ DisplayHelp ∷ []
unfolding clap_on_literals
wire_help_asked = refl

pub wire_version_asked : fault_of commands (codes "wire" ∷ codes "-V" ∷ []) ≡ DisplayVersion ∷ []
unfolding clap_on_literals
wire_version_asked = refl
