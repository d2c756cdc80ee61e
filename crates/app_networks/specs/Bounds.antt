-- Outputs, exit statuses and failures of the command `bounds`.
use Rattle.std.specs.Prelude.{◌≡◌, ◌⊎◌, ◌&&◌, ◌||◌, ◌++◌, ℕ, Bool, true, false, not, List, [], None, Some, Option, String, is_some, string_bytes}
use Rattle.std.specs.declared.alloc.Global.{Global}
use Rattle.bridge_config.specs.Model.{Plan}
use Rattle.app_files.specs.declared.failed_file.Access.TheVariants.{Reading}
use Rattle.app_failure.specs.declared.fault.Failure.{Failure}
use Rattle.app_failure.specs.Jobs.{Accepts}
use Rattle.app_failure.specs.Reading.{IsFileFault}
use Rattle.app_commands.specs.ReadTexts.{HasTextAt}
use Rattle.app_commands.specs.declared.output.Output.{Output}
use Rattle.app_commands.specs.Outputs.{Prints, has_text, status_if}
use Rattle.app_commands.specs.Notes.{WarnsOfNone}
use Rattle.net_latency.specs.Printing.{PrintsBounds}
use Rattle.net_latency.specs.SharedWarnings.{AreSharedWarnings}
use Rattle.net_latency.specs.TrafficText.{EndsTexts, PrintsRows}

-- Holds if a plan has these warnings. It has `unprotected` exactly if no filter is protected or grouped, and `shared` has one warning for
-- each shared queue with a mark.
abbrev pub WarnsOfPlan : Plan Global → Option (String Global) → List ℕ → Type 0
WarnsOfPlan plan unprotected shared = WarnsOfNone plan.filters unprotected × AreSharedWarnings plan shared

-- Holds if `text` is an accepted plan with these warnings.
abbrev pub WarnsOfText : List ℕ → Option (String Global) → List ℕ → Type 0
WarnsOfText text unprotected shared = (plan : Plan Global) × Accepts text plan × WarnsOfPlan plan unprotected shared

-- Holds if these are the warnings that `bounds` prints for the plan in `text`: none unless warnings are errors or an
-- explanation is requested.
abbrev pub WarnsBy : Bool → Bool → List ℕ → Option (String Global) → List ℕ → Type 0
WarnsBy true explained text unprotected shared = WarnsOfText text unprotected shared
WarnsBy false true text unprotected shared = WarnsOfText text unprotected shared
WarnsBy false false text unprotected shared = (unprotected ≡ None) × (shared ≡ [])

-- True if there is at least one of the two kinds of warnings.
abbrev pub is_warned : Option (String Global) → List ℕ → Bool
is_warned unprotected shared = is_some unprotected || has_text shared

-- The warnings as one text: the plan's own, then those about shared queues.
abbrev pub warnings_text : Option (String Global) → List ℕ → List ℕ
warnings_text None shared = shared
warnings_text (Some unprotected) shared = string_bytes unprotected ++ shared

-- The exit status of `bounds`: 0 if the traffic is kept and no warning is an error, otherwise 1.
abbrev pub status_by : Bool → Bool → Bool → ℕ
status_by kept strict warned = status_if (kept && not (strict && warned))

-- Holds if the program prints the delay bounds of the accepted plan in `input`, and its warnings, if any, to standard error. The status is
-- 1 exactly if warnings are errors and there is one.
abbrev pub IsBoundsOutputOf : List ℕ → Bool → Bool → Output → Type 0
IsBoundsOutputOf input strict explained output =
    (lines : List ℕ) × (unprotected : Option (String Global)) × (shared : List ℕ) × PrintsBounds Global input lines
    × WarnsBy strict explained input unprotected shared × Prints lines (warnings_text unprotected shared) (status_by true strict (is_warned unprotected shared)) output

-- Holds if the program prints the delay bounds of some accepted plan.
abbrev pub IsBoundsOutput : Bool → Bool → Output → Type 0
IsBoundsOutput strict explained output = (input : List ℕ) × IsBoundsOutputOf input strict explained output

-- Holds if `bounds --traffic` prints this output for these texts of plan and traffic. Standard error has reasons, then warnings. The status
-- is 0 exactly if all traffic is kept without a warning as error.
abbrev pub IsTrafficOutputOf : List ℕ → List ℕ → Bool → Bool → Output → Type 0
IsTrafficOutputOf input words strict explained output =
    (lines : List ℕ) × (kept : Bool) × (reasons : List ℕ) × (unprotected : Option (String Global)) × (shared : List ℕ)
    × PrintsRows Global input words lines kept × WarnsBy strict explained input unprotected shared × (explained && not kept ≡ false → reasons ≡ [])
    × Prints lines (reasons ++ warnings_text unprotected shared) (status_by kept strict (is_warned unprotected shared)) output

-- Holds if `bounds --traffic` prints this output for some plan and some traffic.
abbrev pub IsTrafficOutput : Bool → Bool → Output → Type 0
IsTrafficOutput strict explained output = (input : List ℕ) × (words : List ℕ) × IsTrafficOutputOf input words strict explained output

-- Holds if failure `f` can end the bounds of a plan with traffic: an unreadable file, out of memory, or a refused plan or traffic.
abbrev pub FailsTraffic : List ℕ → List ℕ → Failure → Type 0
FailsTraffic plan file f = ((input : List ℕ) × (words : List ℕ) × EndsTexts Global plan input file words f) ⊎ (IsFileFault Reading plan f ⊎ IsFileFault Reading file f)

-- Holds if failure `f` can end `bounds --traffic` over the files at `plan` and `file`: one can't be read, or its text is refused.
abbrev pub FailsTrafficAt : (List ℕ → Option (List ℕ)) → List ℕ → List ℕ → Failure → Type 0
FailsTrafficAt octets_at plan file f =
    HasTextAt octets_at plan (λ input. HasTextAt octets_at file (λ words. EndsTexts Global plan input file words f)) ⊎ (IsFileFault Reading plan f ⊎ IsFileFault Reading file f)
