use Rattle.std.proofs.Common.{sym, ◌∙◌}
use Rattle.bridge_config.proofs.PlanPorts.{port_is}
use Rattle.net_model.proofs.Skipped.{other_entry}
use Rattle.net_model.proofs.handing.Handing.hands_entry.Goals as goal

pub is_fed_by_entry-requires-clause-from : goal.is_fed_by_entry-requires-clause-from
is_fed_by_entry-requires-clause-from g c = (port_is c.args.self.now.plan.now.ports c.args.entry.now.port c.in-Some.from.now c.in-Some.ensures.rules.ports (sym c.in-Some.ensures.port)).0.number_from

pub is_fed_by_entry-requires-clause-to : goal.is_fed_by_entry-requires-clause-to
is_fed_by_entry-requires-clause-to g c = (port_is c.args.self.now.plan.now.ports c.args.entry.now.port c.in-Some.from.now c.in-Some.ensures.rules.ports (sym c.in-Some.ensures.port)).0.number_to

pub returns-then-is_other_handle : goal.returns-then-is_other_handle
returns-then-is_other_handle g c = sym (other_entry c.args.self.now c.args.entry.now c.requires.handing (sym c.is_other_handle.ensures ∙ c.if-is_other_handle.true))
