use Rattle.std.proofs.Common.{subst, sym}
use Rattle.bridge_config.specs.Commands.{AreCommands}
use Rattle.gate_runs.proofs.run_forms.run_into_sinks.Goals as goal

pub run_form-requires-clause-commands : goal.run_form-requires-clause-commands
run_form-requires-clause-commands g c = subst (λ l. AreCommands c.args.accepted.now l) (sym c.deref.ensures.value) c.in-Some.ensures
