-- The command `net`: inputs of the bridges, failures, and the printed line of a network run.
use Rattle.std.specs.Prelude.{◌≡◌, ◌⊎◌, ℕ, ◌-◌, ◌^◌, List, [], ◌∷◌, ◌++◌, Err, None, Option, Some, length, slice_get, codes, decimal, string_bytes}
use Rattle.bridge_config.specs.Document.{text_commands}
use Rattle.bridge_config.specs.Model.{Plan}
use Rattle.bridge_capture.specs.declared.fault.RunFault.{RunFault}
use Rattle.net_file.specs.Model.{Bridge}
use Rattle.net_file.specs.Model as file
use Rattle.net_model.specs.declared.links.Link.{Link}
use Rattle.net_model.specs.Faults.{first_fault}
use Rattle.net_model.specs.NetworkParts.{NetworkParts}
use Rattle.net_check.specs.Naming.{bridge_name}
use Rattle.net_check.specs.Networks.{EndsNetwork, IsNetworkOfFile}
use Rattle.net_latency.specs.Talkers.{first_misfit}
use Rattle.app_files.specs.declared.failed_file.Access.TheVariants.{Reading}
use Rattle.app_files.specs.FailedFiles.{IsErrorOf}
use Rattle.app_failure.specs.declared.fault.Failure.{Failure}
use Rattle.app_failure.specs.declared.fault.Failure.TheVariants as fault
use Rattle.app_failure.specs.Lines.{run_fault_line}
use Rattle.app_failure.specs.RefusedCommands.{commands_fault_line}
use Rattle.app_failure.specs.Status.{fault_status}
use Rattle.net_run.specs.declared.rounds.RoundsFault.{RoundsFault}
use Rattle.net_run.specs.declared.rounds.RoundsFault.TheVariants as rounds
use Rattle.net_run.specs.declared.rounds.BridgeResult.{BridgeResult}
use Rattle.net_run.specs.declared.bridge_run.BridgeInput.{BridgeInput}
use Rattle.net_run.specs.Rounds.{AreBridgeInputs, IsolatesStreams, OthersChangeNothing, RunsNetwork, SettlesIn, StopsNetworkRun}
use Rattle.net_run.specs.BridgeRuns.{IsBridgeInput}
use Rattle.bridge_schema.specs.declared.plan_fault.PlanFault.{PlanFault}
use Rattle.net_model.specs.declared.forwarding_loop.ForwardingLoop.{ForwardingLoop}
use Rattle.net_model.specs.ForwardingLoops.{AreForwardingLoops}
use Rattle.app_networks.specs.Counted.{AreTotals}
use Rattle.app_networks.specs.OutputFiles.{folder_path}
use Rattle.app_networks.specs.RunFiles.{FailsRunFiles, IsBridgeInputFile, commands_path}

-- Holds if each bridge of these plans has one capture for each port, and commands that its plan accepts.
abbrev pub AreInputsOfPlans : {A : Type 0} → List (Plan A) → List (BridgeInput A) → Type 0
AreInputsOfPlans [] [] = Unit {0}
AreInputsOfPlans (p ∷ ps) (c ∷ cs) = IsBridgeInput p c × AreInputsOfPlans ps cs
AreInputsOfPlans ps cs = ⊥

-- Holds if `line` is the fault line of a bridge's capture: the fault line of a port's capture, with the bridge's name before the port.
abbrev pub IsCaptureLine : List ℕ → RunFault → List ℕ → Type 0
IsCaptureLine name e line = (rest : List ℕ) → run_fault_line e ≡ codes "capture " ++ rest → line ≡ codes "capture " ++ (name ++ (codes "." ++ rest))

-- The fault line of a network run whose inputs still change after the last allowed round. It names the bridge and port
-- of the first input that still changes.
abbrev pub unsettled_line : List ℕ → ℕ → List ℕ
unsettled_line name port = codes "network not settled " ++ (name ++ (codes "." ++ decimal port))

-- Holds if `line` is the fault line of a stopped network run.
abbrev pub IsStoppedLine : List Bridge → RoundsFault → List ℕ → Type 0
IsStoppedLine bridges (rounds.Bridge b e) line = IsCaptureLine (bridge_name bridges b) e line
IsStoppedLine bridges (rounds.NotSettled b port) line = line ≡ unsettled_line (bridge_name bridges b) port
IsStoppedLine bridges rounds.NoMemory line = ⊥

-- Holds if the command's failure has the fault line of `e`, why a network run stopped, or is `NoMemory`.
abbrev pub IsStoppedRunFault : List Bridge → RoundsFault → Failure → Type 0
IsStoppedRunFault bridges e (fault.Rounds line) = IsStoppedLine bridges e (string_bytes line)
IsStoppedRunFault bridges e fault.NoMemory = Unit {0}
IsStoppedRunFault bridges e f = ⊥

-- The fault lines of a bridge's refused commands: the network's line with the bridge's name, and the commands' own line.
unfoldable pub commands_lines : List ℕ → List ℕ → List ℕ
commands_lines name line = codes "network refused: Commands " ++ (name ++ (codes "\n" ++ line))

-- Holds if the command's failure has the fault lines of bridge `name`'s commands, which fault `e` refuses, or is `NoMemory`.
abbrev pub SaysCommands : List ℕ → PlanFault → Failure → Type 0
SaysCommands name e (fault.Network line) = (fault_status (fault.Commands e) ≡ 1) × (string_bytes line ≡ commands_lines name (commands_fault_line e))
SaysCommands name e fault.NoMemory = Unit {0}
SaysCommands name e f = ⊥

-- Holds if `lines` are fault lines of bridge `name`, which has plan `p`: some text of commands is refused with the fault in these lines.
abbrev pub RefusesCommandsOf : {A : Type 0} → Plan A → List ℕ → List ℕ → Type 0
RefusesCommandsOf p name lines = (text : List ℕ) × (e : PlanFault) × (text_commands p text ≡ Err e) × (lines ≡ commands_lines name (commands_fault_line e))

-- Holds if the failure can end the reading of a bridge's commands from its folder. The file failed, the commands are refused, or memory ran
-- out.
abbrev pub EndsCommands : {A : Type 0} → Plan A → List ℕ → List ℕ → Failure → Type 0
EndsCommands p name folder (fault.File e) = IsErrorOf Reading (commands_path folder) e
EndsCommands p name folder (fault.Network lines) = RefusesCommandsOf p name (string_bytes lines)
EndsCommands p name folder fault.NoMemory = Unit {0}
EndsCommands p name folder f = ⊥

-- Holds if the failure can end the reading of the input of the bridge with index `b` from its folder. An input failed, its commands are
-- refused, or memory ran out.
abbrev pub EndsBridge : {A : Type 0} → List Link → ℕ → Plan A → List ℕ → List ℕ → Failure → Type 0
EndsBridge links b p name folder (fault.File e) = (e.access ≡ Reading) × IsBridgeInputFile links b p folder (string_bytes e.path)
EndsBridge links b p name folder (fault.Network lines) = RefusesCommandsOf p name (string_bytes lines)
EndsBridge links b p name folder fault.NoMemory = Unit {0}
EndsBridge links b p name folder f = ⊥

-- Holds if the failure can end the reading of a bridge's captures or commands. Each bridge has its own folder in the folder `input`.
abbrev pub EndsReading : {A : Type 0} → List Link → List (Plan A) → List Bridge → List ℕ → Failure → Type 0
EndsReading {A} links plans bridges input f =
    (b : ℕ) × (p : Plan A) × (slice_get plans b ≡ Some p) × EndsBridge links b p (bridge_name bridges b) (folder_path input (bridge_name bridges b)) f

-- The largest number of rounds of a network run: 64 with forwarding loops, otherwise 2^32 - 1.
abbrev pub rounds_by : List ForwardingLoop → ℕ
rounds_by [] = 2 ^ 32 - 1
rounds_by (c ∷ cs) = 64

-- Holds if `rounds` is the largest number of rounds of a run of the network.
abbrev pub IsMostRounds : {A : Type 0} → NetworkParts A → ℕ → Type 0
IsMostRounds {A} n rounds = (loops : List ForwardingLoop) × AreForwardingLoops n.plans n.links loops × (rounds ≡ rounds_by loops)

-- Holds if `line` is the fault line of a stopped run of network `n`, for some inputs of its bridges.
abbrev pub StopsRun : {A : Type 0} → NetworkParts A → List Bridge → List ℕ → Type 0
StopsRun {A} n bridges line =
    (came : List (BridgeInput A)) × (rounds : ℕ) × (e : RoundsFault) × AreBridgeInputs n.plans came × IsMostRounds n rounds × StopsNetworkRun n came rounds e × IsStoppedLine bridges e line

-- Holds if failure `f` can end a run of accepted network `n` between two folders. A file of the run failed, commands are refused, the run
-- stopped, or memory ran out.
abbrev pub EndsRun : {A : Type 0} → NetworkParts A → List Bridge → List ℕ → List ℕ → Option (List ℕ) → Failure → Type 0
EndsRun n bridges input output picture (fault.File e) = FailsRunFiles n bridges input output picture (fault.File e)
EndsRun n bridges input output picture (fault.Network lines) = EndsReading n.links n.plans bridges input (fault.Network lines)
EndsRun n bridges input output picture (fault.Rounds line) = StopsRun n bridges (string_bytes line)
EndsRun n bridges input output picture fault.NoMemory = Unit {0}
EndsRun n bridges input output picture f = ⊥

-- Holds if failure `f` can end the run of the network file at `path` between two folders. Its check failed, or the accepted network's run.
abbrev pub EndsRounds : (A : Type 0) → List ℕ → List ℕ → List ℕ → Option (List ℕ) → Failure → Type 0
EndsRounds A path input output picture f =
    EndsNetwork A path f
    ⊎ ((x : file.Network) × (plans : List (Plan A)) × (n : NetworkParts A) × IsNetworkOfFile x plans n × (first_fault n ≡ None) × (first_misfit n.plans 1 x.streams ≡ None) × EndsRun n x.bridges input output picture f)

-- Holds if network `n` consists of file `f` and some plans, and passes all tests.
pub record IsAccepted {A : Type 0} (n : NetworkParts A) (f : file.Network) : Type 0 where
  pub plans : List (Plan A)
  pub made : IsNetworkOfFile f plans n
  pub faultless : first_fault n ≡ None

-- The numbers of a network's bridges, links and streams, as text.
unfoldable pub network_words : file.Network → List ℕ
network_words f = codes "bridges " ++ (decimal (length f.bridges) ++ (codes " links " ++ (decimal (length f.links) ++ (codes " streams " ++ (decimal (length f.streams) ++ codes " ")))))

-- The line that `net` prints. It has the numbers of bridges, links and streams, of frames that arrived at first hops, and of delivered and
-- lost frames.
unfoldable pub rounds_line : file.Network → ℕ → ℕ → List ℕ
rounds_line f frames delivered = network_words f ++ (codes "frames " ++ (decimal frames ++ (codes " delivered " ++ (decimal delivered
    ++ (codes " lost " ++ (decimal (frames - delivered) ++ codes "\n"))))))

-- Holds if `line` is the line of a run with the results `settled`. Its numbers are the frames of all streams, and the delivered and lost
-- ones.
abbrev pub IsLine : {A : Type 0} → List Link → List (BridgeResult A) → file.Network → List ℕ → Type 0
IsLine links settled f line = (frames : ℕ) × (delivered : ℕ) × AreTotals links settled f.streams 0 0 frames delivered × (line ≡ rounds_line f frames delivered)

-- Holds if a complete network run isolates the streams: each stream's records depend on the stream's own inputs only.
pub record IsIsolatedRun {A : Type 0} (n : NetworkParts A) (came : List (BridgeInput A)) (settled : List (BridgeResult A)) : Type 0 where
  pub runs : RunsNetwork n came settled
  pub alone : IsolatesStreams n came settled
  pub others : OthersChangeNothing n came settled

-- Holds if `line` is the line of a complete run of the network.
abbrev pub IsRunLine : {A : Type 0} → NetworkParts A → file.Network → List ℕ → Type 0
IsRunLine {A} n f line = (came : List (BridgeInput A)) × (settled : List (BridgeResult A)) × IsIsolatedRun n came settled × IsLine n.links settled f line

-- Holds if `line` is the line of a complete run of the network, which ended after `rounds` rounds.
abbrev pub TellsRunIn : {A : Type 0} → NetworkParts A → file.Network → List ℕ → ℕ → Type 0
TellsRunIn {A} n f line rounds = (came : List (BridgeInput A)) × (settled : List (BridgeResult A)) × IsIsolatedRun n came settled × IsLine n.links settled f line × SettlesIn n came rounds

-- Holds if `line` is the line of a complete run of some accepted network, whose talkers' periods suit its plans.
abbrev pub PrintsRounds : (A : Type 0) → List ℕ → Type 0
PrintsRounds A line =
    (f : file.Network) × (plans : List (Plan A)) × (n : NetworkParts A) × IsNetworkOfFile f plans n × (first_fault n ≡ None) × (first_misfit n.plans 1 f.streams ≡ None)
    × IsRunLine n f line

-- Holds if `line` is the line of a complete run of some accepted network, which ended after `rounds` rounds.
abbrev pub PrintsRoundsIn : (A : Type 0) → List ℕ → ℕ → Type 0
PrintsRoundsIn A line rounds =
    (f : file.Network) × (plans : List (Plan A)) × (n : NetworkParts A) × IsNetworkOfFile f plans n × (first_fault n ≡ None) × (first_misfit n.plans 1 f.streams ≡ None)
    × TellsRunIn n f line rounds
