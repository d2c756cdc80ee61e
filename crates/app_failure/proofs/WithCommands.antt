-- The octets that the program reads of commands decide as the whole text does, and faults of a plan with commands.
use Rattle.std.proofs.Common.{◌≡◌, ◌<◌, ℕ, List, length, take, Option, Some, Result, Ok, Err, sym, ap, subst, ◌∙◌, refl, IfOk, IfErr}
use Rattle.std.proofs.lemmas.Bool.{lt-ltb}
use Rattle.bridge_limits.proofs.Options.{some_is_none}
use Rattle.bridge_schema.specs.declared.plan_fault.PlanFault.{PlanFault}
use Rattle.bridge_schema.specs.declared.plan_fault.PlanFault.TheVariants as plan
use Rattle.bridge_schema.specs.Readers.{IsReadFault}
use Rattle.bridge_config.specs.declared.command.Command.{Command}
use Rattle.bridge_config.specs.Document.{text_commands, read_document}
use Rattle.bridge_config.specs.Model.{Plan}
use Rattle.app_files.specs.declared.failed_file.Access.TheVariants.{Reading}
use Rattle.app_failure.specs.declared.fault.Failure.{Failure}
use Rattle.app_failure.specs.declared.fault.Failure.TheVariants as fault
use Rattle.app_failure.specs.Commanding.{EndsCommanded, EndsCommands, commands_for}
use Rattle.app_failure.specs.Jobs.{RefusesCheck}
use Rattle.app_failure.specs.Reading.{IsFileFault}
use Rattle.app_failure.proofs.Looks.{front_as_whole}

commands_long : {A : Type 0} (p : Plan A) (input : List ℕ) → 1048576 < length input → text_commands p input ≡ Err plan.TooLong
unfolding read_document
commands_long p input long = rw (lt-ltb 1048576 (length input) long) refl

commands_front : {A : Type 0} (p : Plan A) (input : List ℕ) → text_commands p (take 1048577 input) ≡ text_commands p input
commands_front p input = front_as_whole (text_commands p) (Err plan.TooLong) 1048576 (commands_long p) input

pub commands_told : {A : Type 0} (p : Plan A) (looked input : List ℕ) (commands : List Command) → looked ≡ take 1048577 input → text_commands p looked ≡ Ok commands → text_commands p input ≡ Ok commands
commands_told p looked input commands e reads = sym (commands_front p input) ∙ ap (text_commands p) (sym e) ∙ reads

pub commands_fail : {A : Type 0} (p : Plan A) (looked input : List ℕ) (f : PlanFault) → looked ≡ take 1048577 input → IsReadFault f (text_commands p looked) → IsReadFault f (text_commands p input)
commands_fail p looked input f e h = subst (IsReadFault f) (commands_front p input) (subst (λ (z : List ℕ). IsReadFault f (text_commands p z)) e h)

pub file_ends : {A : Type 0} (p : Plan A) (path input : List ℕ) (f : Failure) → IsFileFault Reading path f → EndsCommands p path input f
file_ends p path input (fault.Commands f) h = absurd h
file_ends p path input f h = h

-- A fault of reading commands from a file.
pub commands_end : {A : Type 0} (p : Plan A) (path input : List ℕ) (f : Failure) → EndsCommands p path input f → EndsCommanded p (Some path) (Some input) f
commands_end p path input (fault.Commands f) h = (some_is_none path, h)
commands_end p path input (fault.File q) h = (h.0, ap Some (sym h.1))
commands_end p path input fault.NoMemory h = some_is_none path
commands_end p path input (fault.Run f) h = absurd h
commands_end p path input (fault.Text f) h = absurd h
commands_end p path input (fault.Plan f) h = absurd h
commands_end p path input (fault.Check f) h = absurd h
commands_end p path input (fault.Network line) h = absurd h
commands_end p path input (fault.Rounds line) h = absurd h
commands_end p path input fault.Words h = absurd h

-- A fault of the check, after commands were read.
pub check_ends : {A : Type 0} (p : Plan A) (path text : Option (List ℕ)) (commands : List Command) (f : Failure) → commands_for p text ≡ Ok commands → RefusesCheck p f → EndsCommanded p path text f
check_ends p path text commands (fault.Check f) reads h = ((commands, reads), h)
check_ends p path text commands f reads h = absurd h

-- A stronger property of a successful result implies a weaker one.
pub where_ok : {X E : Type 0} {P Q : X → Type 0} (r : Result X E) → ((x : X) → P x → Q x) → IfOk r P → IfOk r Q
where_ok (Ok x) more h = more x h
where_ok (Err e) more h = tt

pub where_err : {X E : Type 0} {P Q : E → Type 0} (r : Result X E) → ((e : E) → P e → Q e) → IfErr r P → IfErr r Q
where_err (Ok x) more h = tt
where_err (Err e) more h = more e h
