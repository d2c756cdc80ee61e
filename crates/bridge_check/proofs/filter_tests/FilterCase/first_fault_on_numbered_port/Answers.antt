use Rattle.std.proofs.Common.{sym}
use Rattle.bridge_check.proofs.Told.{nothing_told}
use Rattle.bridge_check.proofs.filter_tests.FilterCase.first_fault_on_numbered_port.Goals as goal

pub returns-in-None : goal.returns-in-None
returns-in-None g c = nothing_told c.args.self.now.plan.now c.args.self.now.number c.args.self.now.filter c.args.test c.args.q (sym c.in-None.ensures.port)
