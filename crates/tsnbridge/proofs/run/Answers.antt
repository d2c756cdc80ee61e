use Rattle.std.proofs.Common.{◌≡◌, ◌⊎◌, ℕ, Err, IfOk, List, Ok, Result, inl, inr, map, string_bytes, subst, sym}
use Rattle.app_cli.specs.Helping.{explains}
use Rattle.app_commands.specs.declared.output.Output.{Output}
use Rattle.app_commands.specs.CommandOutputs.{IsStandardFailure}
use Rattle.app_networks.specs.Program.{IsOutput, IsPrinted}
use Rattle.tsnbridge.proofs.run.Goals as goal

-- The output is the output for the arguments, or the report that standard output failed.
printed : {E : Type 0} (words : List (List ℕ)) (output : Output) (r : Result Output E) → IsOutput words output → IfOk r (λ o. (o ≡ output) ⊎ IsStandardFailure (explains words) o) → IfOk r (IsPrinted words)
printed words output (Ok o) is (inl same) = inl (subst (IsOutput words) (sym same) is)
printed words output (Ok o) is (inr failed) = inr failed
printed words output (Err e) is told = tt

pub returns-in-Ok : goal.returns-in-Ok
returns-in-Ok g c = printed (map string_bytes c.args.words.now) c.in-Ok.output c.put_stdout.result c.in-Ok.ensures c.put_stdout.ensures
