use Rattle.std.proofs.Common.{subst, sym}
use Rattle.bridge_config.specs.Commands.{AreCommands}
use Rattle.gate_runs.proofs.run_forms.run_over_writers.Goals as goal

pub run_captures-requires-clause-commands : goal.run_captures-requires-clause-commands
run_captures-requires-clause-commands g c = subst (λ l. AreCommands c.args.accepted.now l) (sym c.deref.ensures.value) c.in-Some.ensures
