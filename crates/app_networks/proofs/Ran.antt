-- The output of a network run.
use Rattle.std.proofs.Common.{◌≡◌, ◌⊎◌, ◌++◌, ◌&&◌, ℕ, Bool, true, false, List, [], None, Option, Some, String, Global, ap, inl, inr, is_some, refl, string_bytes, subst, sym, ◌∙◌}
use Rattle.std.specs.Option.{IfSome}
use Rattle.std.proofs.lemmas.Bool.{false≢true}
use Rattle.bridge_limits.proofs.Options.{some_is_none}
use Rattle.app_commands.specs.declared.output.Output.{Output}
use Rattle.app_commands.specs.CommandOutputs.{line_if}
use Rattle.app_networks.specs.Losing.{PrintsRunLosses, PrintsWarnings, has_lines, status_of}
use Rattle.app_networks.specs.declared.job.NetworkRunResult.{NetworkRunResult}
use Rattle.app_networks.specs.Networks.{IsNetworkRunOutput, IsOutputOfRun, IsWithRounds}

plain_rounds : (told stderr : List ℕ) (explained : Bool) → IsWithRounds told (explained && false) stderr → stderr ≡ told
plain_rounds told stderr true is = is
plain_rounds told stderr false is = is

some_rounds : (told stderr : List ℕ) (explained : Bool) → IsWithRounds told (explained && true) stderr → IsWithRounds told explained stderr
some_rounds told stderr true is = is
some_rounds told stderr false is = is

ran_by : (strict explained warned lossy : Bool) (rounds : ℕ) (line : Option (String Global)) (told : List ℕ) (output : Output)
    → IfSome line (λ l. PrintsRunLosses Global strict (string_bytes l) rounds told)
    → IfSome line (λ _. lossy ≡ has_lines told)
    → (warned ≡ true → line ≡ None)
    → (line ≡ None → (warned ≡ true) × ((strict ≡ true) × PrintsWarnings Global told))
    → (string_bytes output.stdout ≡ line_if line) × IsWithRounds told (explained && is_some line) (string_bytes output.stderr) × (output.status ≡ status_of warned lossy)
    → IsNetworkRunOutput strict explained output
ran_by strict explained true lossy rounds (Some l) told output prints loses warned idle is = absurd (some_is_none l (warned refl))
ran_by strict explained false lossy rounds (Some l) told output prints loses warned idle is =
    inl (string_bytes l, told, rounds, prints, is.0, some_rounds told (string_bytes output.stderr) explained is.1, is.2 ∙ ap (λ (b : Bool). status_of false b) loses)
ran_by strict explained false lossy rounds None told output prints loses warned idle is = absurd (false≢true (idle refl).0)
ran_by strict explained true lossy rounds None told output prints loses warned idle is =
    inr ((idle refl).1.0, (told, (idle refl).1.1, (is.0, plain_rounds told (string_bytes output.stderr) explained is.1, is.2)))

-- The clauses of the run determine its output.
pub ran : (strict explained : Bool) (s : NetworkRunResult) (output : Output)
    → IfSome s.line (λ l. PrintsRunLosses Global strict (string_bytes l) s.rounds (string_bytes s.told))
    → IfSome s.line (λ _. s.is_lossy ≡ has_lines (string_bytes s.told))
    → (s.is_warned ≡ true → s.line ≡ None)
    → (s.line ≡ None → (s.is_warned ≡ true) × ((strict ≡ true) × PrintsWarnings Global (string_bytes s.told)))
    → IsOutputOfRun s explained output → IsNetworkRunOutput strict explained output
ran strict explained s output = ran_by strict explained s.is_warned s.is_lossy s.rounds s.line (string_bytes s.told) output
