-- Outputs, exit statuses and failures of the commands for networks.
use Rattle.std.specs.Prelude.{◌≡◌, ◌⊎◌, ◌++◌, ◌&&◌, ℕ, Bool, true, false, not, List, [], String, is_some, string_bytes}
use Rattle.std.specs.declared.alloc.Global.{Global}
use Rattle.app_failure.specs.declared.fault.Failure.{Failure}
use Rattle.app_commands.specs.declared.output.Output.{Output}
use Rattle.app_commands.specs.Outputs.{Prints, has_text, status_if}
use Rattle.app_commands.specs.ShownFiles.{IsOfPicture}
use Rattle.app_commands.specs.CommandOutputs.{line_if}
use Rattle.net_check.specs.Networks.{EndsNetwork, PrintsNetwork}
use Rattle.net_check.specs.declared.network.NetworkOutput.{NetworkOutput}
use Rattle.app_networks.specs.Losing.{PrintsRunLosses, PrintsWarnings, has_lines, status_of}
use Rattle.app_networks.specs.declared.job.NetworkRunResult.{NetworkRunResult}

-- NET CHECK

-- The exit status of `net check`: 0 if `kept` is true and no warning is an error, otherwise 1.
abbrev pub status_by : Bool → Bool → List ℕ → ℕ
status_by kept strict warnings = status_if (kept && not (strict && has_text warnings))

-- Holds if the program prints the lines of an accepted network with its warnings, and the reasons to standard error.
abbrev pub IsOutputOfCheck : NetworkOutput → Bool → String Global → Output → Type 0
IsOutputOfCheck s strict reasons output =
    Prints (string_bytes s.lines ++ string_bytes s.told) (string_bytes reasons) (status_by s.kept strict (string_bytes s.told)) output

-- Holds if the program prints the lines of an accepted network with its warnings. The status is 0 exactly if all
-- streams pass and meet their deadlines, and no warning is an error.
abbrev pub IsNetworkOutput : Bool → Bool → Output → Type 0
IsNetworkOutput strict explained output =
    (lines : List ℕ) × (warnings : List ℕ) × (kept : Bool) × (reasons : List ℕ) × PrintsNetwork Global lines warnings kept × (explained ≡ false → reasons ≡ [])
    × Prints (lines ++ warnings) reasons (status_by kept strict warnings) output

-- NET

-- Holds if `text` begins with these lines. Further text follows only in an explanation (`true`).
abbrev pub IsWithRounds : List ℕ → Bool → List ℕ → Type 0
IsWithRounds lines false text = text ≡ lines
IsWithRounds lines true text = (more : List ℕ) × (text ≡ lines ++ more)

-- Holds if the program prints the line of a network run, and its lines about lost and late streams to standard error.
abbrev pub IsOutputOfRun : NetworkRunResult → Bool → Output → Type 0
IsOutputOfRun s explained output =
    (string_bytes output.stdout ≡ line_if s.line) × IsWithRounds (string_bytes s.told) (explained && is_some s.line) (string_bytes output.stderr)
    × (output.status ≡ status_of s.is_warned s.is_lossy)

-- Holds if the program prints the line of a complete network run, and lines of lost and late streams if losses are
-- errors.
--
-- The status is 1 exactly if there are lost or late streams and losses are errors.
abbrev pub IsDoneRun : Bool → Bool → Output → Type 0
IsDoneRun strict explained output =
    (line : List ℕ) × (lost : List ℕ) × (rounds : ℕ) × PrintsRunLosses Global strict line rounds lost × (string_bytes output.stdout ≡ line)
    × IsWithRounds lost explained (string_bytes output.stderr) × (output.status ≡ status_of false (has_lines lost))

-- Holds if nothing ran because the network has a warning and warnings are errors: the warnings go to standard error, and the status is 1.
abbrev pub IsIdleRun : Bool → Output → Type 0
IsIdleRun strict output = (strict ≡ true) × ((warnings : List ℕ) × PrintsWarnings Global warnings × Prints [] warnings 1 output)

-- Holds if the program prints the output of a network run, complete or refused by a warning.
abbrev pub IsNetworkRunOutput : Bool → Bool → Output → Type 0
IsNetworkRunOutput strict explained output = IsDoneRun strict explained output ⊎ IsIdleRun strict output

-- PICTURE

-- Holds if failure `f` can end the picture of a network: its check failed, or the picture's file.
abbrev pub FailsNetworkPicture : List ℕ → List ℕ → Failure → Type 0
FailsNetworkPicture path file f = EndsNetwork Global path f ⊎ IsOfPicture file f
