use Rattle.std.proofs.Common.{sym, ◌∙◌}
use Rattle.std.proofs.lemmas.Option.{slice_get-get_or}
use Rattle.net_model.specs.Faults.{link_test_fault}
use Rattle.net_model.specs.TestedNetwork.{tested_parts}
use Rattle.net_model.proofs.Walked.{or_told}
use Rattle.net_model.proofs.network_tests.TestedNetwork.first_or_link_test_fault.Goals as goal

pub returns : goal.returns
returns g c =
    or_told c.args.before c.link_test_fault.result (link_test_fault (tested_parts c.args.self.now) c.args.test c.args.i) c.args.self.now.links.now c.args.i _
    (sym c.is_some.ensures ∙ c.if-is_some.false) c.link_test_fault.ensures (slice_get-get_or c.args.self.now.links.now c.args.i _ c.requires)
