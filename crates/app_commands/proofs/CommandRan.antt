-- The output of a run.
use Rattle.std.proofs.Common.{◌≡◌, ◌⊎◌, ◌++◌, ℕ, Bool, true, false, List, [], None, Option, Some, String, Global, inl, inr, refl, string_bytes, subst, sym, ap, ◌∙◌}
use Rattle.std.specs.Option.{IfSome}
use Rattle.std.proofs.lemmas.List.{append-nil}
use Rattle.std.proofs.lemmas.Bool.{false≢true}
use Rattle.bridge_limits.proofs.Options.{some_is_none}
use Rattle.app_files.specs.Folders.{HavePaths}
use Rattle.app_commands.specs.RunFiles.{PrintsRun}
use Rattle.app_commands.specs.declared.output.Output.{Output}
use Rattle.app_commands.specs.Losing.{TellsLost, status_of}
use Rattle.app_commands.specs.Notes.{AreNotes}
use Rattle.app_commands.specs.declared.strict.StrictRun.{StrictRun}
use Rattle.app_commands.specs.Outputs.{Prints}
use Rattle.app_commands.specs.CommandOutputs.{IsOutputOf, IsRunOutput, line_if}

ran_by : (input folder : List ℕ) (strict explained warned lossy : Bool) (line : Option (String Global)) (told lost : List ℕ) (output : Output)
    → IfSome line (λ l. PrintsRun Global (string_bytes l)) → IfSome line (λ _. HavePaths input folder)
    → (warned ≡ true → line ≡ None)
    → (line ≡ None → (warned ≡ true) × (strict ≡ true))
    → (line ≡ None → lost ≡ [])
    → AreNotes strict explained told warned
    → IfSome line (λ l. TellsLost Global strict (string_bytes l) lost lossy)
    → Prints (line_if line) (told ++ lost) (status_of warned lossy) output → IsRunOutput input folder strict explained output
ran_by input folder strict explained true lossy (Some l) told lost output prints named warned left none notes loses is = absurd (some_is_none l (warned refl))
ran_by input folder strict explained false lossy (Some l) told lost output prints named warned left none notes loses is = inl (string_bytes l, told, lost, lossy, prints, named, notes, loses, is)
ran_by input folder strict explained false lossy None told lost output prints named warned left none notes loses is = absurd (false≢true (left refl).0)
ran_by input folder strict explained true lossy None told lost output prints named warned left none notes loses is =
    inr ((left refl).1, (told, notes, (is.0, is.1 ∙ ap (λ (x : List ℕ). told ++ x) (none refl) ∙ append-nil told, is.2)))

-- The clauses of the run determine its output.
pub ran : (input folder : List ℕ) (strict explained : Bool) (r : StrictRun) (output : Output)
    → IfSome r.line (λ line. PrintsRun Global (string_bytes line)) → IfSome r.line (λ _. HavePaths input folder)
    → (r.is_warned ≡ true → r.line ≡ None)
    → (r.line ≡ None → (r.is_warned ≡ true) × (strict ≡ true))
    → (r.line ≡ None → string_bytes r.lost ≡ [])
    → AreNotes strict explained (string_bytes r.told) r.is_warned
    → IfSome r.line (λ line. TellsLost Global strict (string_bytes line) (string_bytes r.lost) r.is_lossy)
    → IsOutputOf r output → IsRunOutput input folder strict explained output
ran input folder strict explained r output = ran_by input folder strict explained r.is_warned r.is_lossy r.line (string_bytes r.told) (string_bytes r.lost) output
