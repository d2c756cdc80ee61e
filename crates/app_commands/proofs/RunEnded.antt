-- Faults that end a run over files.
use Rattle.std.proofs.Common.{◌≡◌, ℕ, List, [], Option, Some, None, Result, Ok, Err, IfErr, IfOk, inl, inr, ap, string_bytes, sym, subst, ◌∙◌}
use Rattle.bridge_limits.proofs.Options.{some_is_none}
use Rattle.bridge_config.specs.Model.{Plan}
use Rattle.app_files.specs.declared.failed_file.Access.TheVariants.{Reading, Writing}
use Rattle.app_failure.specs.declared.fault.Failure.{Failure}
use Rattle.app_failure.specs.declared.fault.Failure.TheVariants as fault
use Rattle.bridge_core.specs.WholeRuns.{ArePortNumbers}
use Rattle.bridge_check.specs.Faults.{first_fault}
use Rattle.app_failure.specs.Reading.{FailsCaptures, IsFileFault, LacksPath}
use Rattle.app_commands.specs.RunFiles.{EndsReading, EndsRun, EndsSending, EndsWithCommands, IsAcceptedPlan, IsCheckedPlan, IsFileOfRun, IsOfOutputs, IsOfReport, IsPlanOfText}
use Rattle.app_files.specs.Folders.{HavePaths}

input_fails : {A : Type 0} (p : Plan A) (input output ports : List ℕ) (f : Failure) → HavePaths input output → ArePortNumbers p ports → FailsCaptures Reading input ports f → EndsSending p input output f
input_fails p input output ports (fault.File e) named own h = inr (named, subst (λ a. IsFileOfRun p input output a (string_bytes e.path)) (sym h.0) (ports, own, h.1))
input_fails p input output ports fault.NoMemory named own h = tt
input_fails p input output ports f named own h = absurd h

capture_fails : {A : Type 0} (p : Plan A) (input output ports : List ℕ) (f : Failure) → HavePaths input output → ArePortNumbers p ports → FailsCaptures Writing output ports f → EndsSending p input output f
capture_fails p input output ports (fault.File e) named own h = inr (named, subst (λ a. IsFileOfRun p input output a (string_bytes e.path)) (sym h.0) (inl (ports, own, h.1)))
capture_fails p input output ports fault.NoMemory named own h = tt
capture_fails p input output ports f named own h = absurd h

pub report_fails : {A : Type 0} (p : Plan A) (input output : List ℕ) (f : Failure) → HavePaths input output → IsOfReport output f → EndsSending p input output f
report_fails p input output (fault.File e) named h = inr (named, subst (λ a. IsFileOfRun p input output a (string_bytes e.path)) (sym h.0) (inr (inr h.1)))
report_fails p input output fault.NoMemory named h = tt
report_fails p input output f named h = absurd h

output_fails : {A : Type 0} (p : Plan A) (input output ports : List ℕ) (f : Failure) → HavePaths input output → ArePortNumbers p ports → IsOfOutputs output ports f → EndsSending p input output f
output_fails p input output ports f named own (inl h) = capture_fails p input output ports f named own h
output_fails p input output ports f named own (inr h) = report_fails p input output f named h

-- The output folder is the input folder.
pub folder_fails : {A : Type 0} (p : Plan A) (input output : List ℕ) (f : Failure) → HavePaths input output → IsFileFault Writing output f → EndsSending p input output f
folder_fails p input output (fault.File e) named h = inr (named, subst (λ a. IsFileOfRun p input output a (string_bytes e.path)) (sym h.0) (inr (inl h.1)))
folder_fails p input output fault.NoMemory named h = tt
folder_fails p input output f named h = absurd h

-- A folder has an empty path.
pub lack_fails : {A : Type 0} (p : Plan A) (input output : List ℕ) (f : Failure) → LacksPath input output f → EndsSending p input output f
lack_fails p input output (fault.File e) h = inl h
lack_fails p input output fault.NoMemory h = tt
lack_fails p input output f h = absurd h

-- A fact that always holds holds for a successful result.
pub where_named : {X E : Type 0} (P : Type 0) (r : Result X E) → P → IfOk r (λ _. P)
where_named P (Ok x) h = h
where_named P (Err f) h = tt

-- Two facts about one successful result.
pub both_ok : {X E : Type 0} (P Q : X → Type 0) (r : Result X E) → IfOk r P → IfOk r Q → IfOk r (λ x. P x × Q x)
both_ok P Q (Ok x) p q = (p, q)
both_ok P Q (Err f) p q = tt

-- A fault of an input capture ends the run, by the list of ports.
pub input_ends : {A : Type 0} (p : Plan A) (input output ports listed : List ℕ) (f : Failure) → HavePaths input output → ArePortNumbers p ports → listed ≡ ports → FailsCaptures Reading input listed f → EndsSending p input output f
input_ends p input output ports listed f named own there h = input_fails p input output ports f named own (subst (λ l. FailsCaptures Reading input l f) there h)

pub output_ends : {A : Type 0} (p : Plan A) (input output ports listed : List ℕ) (f : Failure) → HavePaths input output → ArePortNumbers p ports → listed ≡ ports → IsOfOutputs output listed f → EndsSending p input output f
output_ends p input output ports listed f named own there h = output_fails p input output ports f named own (subst (λ l. IsOfOutputs output l f) there h)

-- A plan or commands can't be opened.
pub plan_not_opened : (A : Type 0) (plan : List ℕ) (commands : Option (List ℕ)) (f : Failure) → IsFileFault Reading plan f → EndsReading A plan commands f
plan_not_opened A plan commands (fault.File e) h = inl ([], h)
plan_not_opened A plan commands fault.NoMemory h = inl ([], h)
plan_not_opened A plan commands f h = absurd h

pub commands_not_opened : {A : Type 0} (p : Plan A) (path : List ℕ) (f : Failure) → IsFileFault Reading path f → EndsWithCommands p (Some path) f
commands_not_opened p path (fault.File e) h = (None, (h.0, ap Some (sym h.1)))
commands_not_opened p path fault.NoMemory h = (None, some_is_none path)
commands_not_opened p path f h = absurd h

-- A fault of reading commands is a fault of reading the plan with its commands.
pub commands_end : {A X : Type 0} (p : Plan A) (plan : List ℕ) (commands : Option (List ℕ)) (r : Result X Failure) → IsPlanOfText p → IfErr r (EndsWithCommands p commands) → IfErr r (EndsReading A plan commands)
commands_end p plan commands (Ok x) ok h = tt
commands_end p plan commands (Err f) ok h = inr (p, ok, h)

-- An accepted plan is the plan of a text.
pub accepted_of : {A X : Type 0} (p : Plan A) (r : Result (Plan A × X) Failure) → IsPlanOfText p → IfOk r (λ read. IsCheckedPlan p read.0) → IfOk r (λ read. IsAcceptedPlan read.0)
accepted_of p (Ok x) ok h = (ok.0, (ok.1 ∙ ap Ok (sym h.0), ap first_fault h.0 ∙ h.1))
accepted_of p (Err f) ok h = tt

-- A fault of reading ends the run, and so does a fault under an accepted plan.
pub reading_ends : (A : Type 0) (plan : List ℕ) (commands : Option (List ℕ)) (input output : List ℕ) (f : Failure) → EndsReading A plan commands f → EndsRun A plan commands input output f
reading_ends A plan commands input output f h = inl h

pub all_sent : {A X : Type 0} (p : Plan A) (plan : List ℕ) (commands : Option (List ℕ)) (input output here : List ℕ) (r : Result X Failure) → IsAcceptedPlan p → here ≡ input → IfErr r (EndsSending p here output) → IfErr r (EndsRun A plan commands input output)
all_sent p plan commands input output here (Ok line) ok same h = tt
all_sent p plan commands input output here (Err f) ok same h = inr (p, ok, subst (λ i. EndsSending p i output f) same h)
