-- Arguments and their faults.
use Rattle.std.proofs.Common.{◌≡◌, ◌⊎◌, ℕ, Bool, false, Err, Global, IfErr, IfOk, List, None, Ok, Option, Result, String, inl, inr, refl, rules, subst, sym, ◌∙◌}
use Rattle.clap.specs.Words.{Text}
use Rattle.bridge_limits.specs.declared.NoMemory.{NoMemory}
use Rattle.app_failure.specs.declared.fault.Failure.{Failure}
use Rattle.app_failure.specs.declared.fault.Failure.TheVariants as fault
use Rattle.app_failure.specs.Status.{fault_status}
use Rattle.app_cli.specs.CommandLine.{AsksFor}
use Rattle.app_cli.specs.Helping.{explains}
use Rattle.app_cli.specs.Sketching.{NamesPart}
use Rattle.app_cli.specs.declared.job.Command.{Command}
use Rattle.app_cli.specs.declared.request.Request.{Request}
use Rattle.app_cli.specs.declared.words_fault.ArgumentsFault.{ArgumentsFault}
use Rattle.app_cli.specs.declared.words_fault.ArgumentsFault.TheVariants as words_fault
use Rattle.app_commands.specs.Outputs.{Reports}
use Rattle.app_commands.specs.declared.output.Output.{Output}
use Rattle.app_networks.specs.Program.{FailsRequest, IsOutput, IsOutputOf, IsRequest, MissesHelp, PerformsRequest, RefusesWords}
use Rattle.app_commands.specs.Outputs.{of_words_fault}

-- The fault of arguments refuses them.
pub refuses_words : {X : Type 0} (words : List Text) (x : ArgumentsFault) (r : Result X ArgumentsFault) → MissesHelp words → r ≡ Err x → (r ≡ Err words_fault.Words → (job : Command) → AsksFor words job → NamesPart words) → RefusesWords words (of_words_fault x)
refuses_words words words_fault.Words r missed is none = (missed, none is)
refuses_words words words_fault.NoMemory r missed is none = tt

-- Arguments that are refused.
pub refused : (words : List Text) (f : Failure) (r : Result Output NoMemory) → RefusesWords words f → IfOk r (Reports (explains words) f) → IfOk r (IsOutput words)
refused words f (Ok output) refuses reports = inr (inl (f, refuses, reports))
refused words f (Err e) refuses reports = tt

-- A command that fails.
pub failed : (request : Request) (f : Failure) (r : Result Output NoMemory) → FailsRequest request f → IfOk r (Reports request.is_explained f) → IfOk r (IsOutputOf request)
failed request f (Ok output) fails told = inr (f, fails, told)
failed request f (Err e) fails told = tt

-- The output of the requested command.
pub asked : (words : List Text) (request : Request) (r : Result Output NoMemory) → IsRequest words request → IfOk r (IsOutputOf request) → IfOk r (IsOutput words)
asked words request (Ok output) is of = inr (inr (request, is, of))
asked words request (Err e) is of = tt

-- No fault has status 0.
some_status : (f : Failure) → fault_status f ≡ 0 → ⊥
some_status f h = search rules

-- A LAW FOR READERS

-- Status 0 means that the arguments request a command, and that it succeeded: no refusal and no failure ends with 0.
pub zero_is_done : (words : List Text) (output : Output) → IsOutput words output → output.status ≡ 0 → (r : Request) × IsRequest words r × PerformsRequest r output
zero_is_done words output (inl help) zero = absurd (some_status fault.Words (sym help.1.1.1.2 ∙ zero))
zero_is_done words output (inr (inl refused)) zero = absurd (some_status refused.0 (sym refused.2.2.2 ∙ zero))
zero_is_done words output (inr (inr (r, is, inl done))) zero = (r, is, done)
zero_is_done words output (inr (inr (r, is, inr failed))) zero = absurd (some_status failed.0 (sym failed.2.2.2 ∙ zero))
