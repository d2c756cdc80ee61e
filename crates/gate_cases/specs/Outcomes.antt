-- Lines that the cases of texts expect.
use Rattle.std.specs.Prelude.{◌≡◌, ◌++◌, ℕ, List, Result, Ok, Err, length, codes, decimal}
use Rattle.std.specs.Global.{Vec}
use Rattle.bridge_schema.specs.declared.plan_fault.PlanFault.{PlanFault}
use Rattle.bridge_schema.specs.Readers.{MatchesReading, MatchesReadingView}
use Rattle.bridge_config.specs.Model.{Plan}
use Rattle.bridge_config.specs.declared.command.Command.{Command}
use Rattle.bridge_config.specs.Document.{text_plan, text_commands}
use Rattle.net_file.specs.declared.fault.NetFault.{NetFault}
use Rattle.net_file.specs.Document.{network_of_text}
use Rattle.net_file.specs.Lines.{refusal_line, fault_line}
use Rattle.net_file.specs.Model.{Network}
use Rattle.net_file.specs.Keys as reading
use Rattle.net_file.specs.declared.traffic_row.TalkerRow.{TalkerRow}
use Rattle.net_file.specs.TrafficDocument.{rows_of_text}
use Rattle.app_failure.specs.PlanLines.{plan_fault_line}
use Rattle.app_failure.specs.RefusedCommands.{commands_fault_line}

-- Line of a plan: `accepted`, or the fault line of a refused plan.
abbrev pub plan_line : {A : Type 0} → Result (Plan A) PlanFault → List ℕ
plan_line (Ok plan) = codes "accepted"
plan_line (Err fault) = plan_fault_line fault

-- Line of commands: their number, or the fault line of refused commands.
abbrev pub commands_line : Result (Vec Command) PlanFault → List ℕ
commands_line (Ok commands) = decimal (length commands.items) ++ codes " commands"
commands_line (Err fault) = commands_fault_line fault

-- Holds if `line` is the line of the plan that `text` contains, or of the fault that memory ran out.
abbrev pub IsPlanLine : (A : Type 0) → List ℕ → List ℕ → Type 0
IsPlanLine A text line = (read : Result (Plan A) PlanFault) × MatchesReading read (text_plan text) × (line ≡ plan_line read)

-- Holds if `line` is the line of the commands for `plan` that `text` contains, or of the fault that memory ran out.
abbrev pub IsCommandsLine : {A : Type 0} → Plan A → List ℕ → List ℕ → Type 0
IsCommandsLine plan text line = (read : Result (Vec Command) PlanFault) × MatchesReadingView (λ v. v.items) read (text_commands plan text) × (line ≡ commands_line read)

-- The numbers of bridges, links and streams, each followed by its noun.
unfoldable pub counts_words : ℕ → ℕ → ℕ → List ℕ
counts_words bridges links streams = decimal bridges ++ (codes " bridges " ++ (decimal links ++ (codes " links " ++ (decimal streams ++ codes " streams"))))

-- Line of a network: the numbers of its bridges, links and streams, or the fault line of a refused network.
abbrev pub network_line : Result Network NetFault → List ℕ
network_line (Ok n) = counts_words (length n.bridges) (length n.links) (length n.streams)
network_line (Err fault) = fault_line fault

-- Line of a traffic file: the number of its rows, or the fault line of refused traffic.
abbrev pub traffic_line : Result (Vec TalkerRow) NetFault → List ℕ
traffic_line (Ok rows) = decimal (length rows.items) ++ codes " rows"
traffic_line (Err fault) = refusal_line (codes "traffic") fault

-- Holds if `line` is the line of the network that `text` contains, or of the fault that memory ran out.
abbrev pub IsNetworkLine : List ℕ → List ℕ → Type 0
IsNetworkLine text line = (read : Result Network NetFault) × reading.Gives read (network_of_text text) × (line ≡ network_line read)

-- Holds if `line` is the line of the traffic that `text` contains, or of the fault that memory ran out.
abbrev pub IsTrafficLine : List ℕ → List ℕ → Type 0
IsTrafficLine text line = (read : Result (Vec TalkerRow) NetFault) × reading.GivesAs (λ v. v.items) read (rows_of_text text) × (line ≡ traffic_line read)
