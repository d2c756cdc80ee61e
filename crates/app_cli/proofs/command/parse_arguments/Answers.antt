use Rattle.app_cli.proofs.Parsed.{fails_by, its_values, with_fault, without_fault}
use Rattle.app_cli.proofs.command.parse_arguments.Goals as goal

pub returns-clause-taken : goal.returns-clause-taken
returns-clause-taken c = without_fault _ _ (fails_by _ _ _ c.in_ok-command.ensures c.try_get_matches_from.ensures.kinds)

pub returns-clause-values : goal.returns-clause-values
returns-clause-values c = its_values _ _ _ c.in_ok-command.ensures c.try_get_matches_from.ensures.matches

pub returns-clause-refused : goal.returns-clause-refused
returns-clause-refused c = with_fault _ _ (fails_by _ _ _ c.in_ok-command.ensures c.try_get_matches_from.ensures.kinds)

pub returns-clause-kinds : goal.returns-clause-kinds
returns-clause-kinds c = fails_by _ _ _ c.in_ok-command.ensures c.try_get_matches_from.ensures.kinds
