use Rattle.std.proofs.Common.{Some, string_bytes, subst}
use Rattle.app_failure.specs.Commanding.{EndsCommands}
use Rattle.app_failure.proofs.WithCommands.{commands_end, where_err, where_ok}
use Rattle.app_failure.proofs.commanding.read_optional_commands.Goals as goal

pub returns-in-Some-clause-some : goal.returns-in-Some-clause-some
returns-in-Some-clause-some g c = where_ok c.read_commands.result (λ v h. (Some h.0, h.1)) c.read_commands.ensures.some

pub returns-in-Some-clause-only : goal.returns-in-Some-clause-only
returns-in-Some-clause-only g c =
    rw (c.in-Some.is) (where_err c.read_commands.result (λ f h. (Some h.0, commands_end c.args.plan.now (string_bytes c.in-Some.path) h.0 f (subst (λ p. EndsCommands c.args.plan.now p h.0 f) c.as_str.ensures.value h.1))) c.read_commands.ensures.only)
