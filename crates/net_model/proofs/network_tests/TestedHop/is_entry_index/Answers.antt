use Rattle.std.proofs.Common.{◌+◌, ◌∙◌, List, Bool, false, ap, slice_index_or}
use Rattle.bridge_check.proofs.Told.{told_at}
use Rattle.net_model.specs.Faults.{has_entry}
use Rattle.net_model.proofs.network_tests.TestedHop.is_entry_index.Goals as goal

pub returns : goal.returns
returns g c =
    ap (λ (xs : List Bool). slice_index_or xs c.args.j false) c.requires.case.ports
    ∙ told_at 16 c.args.j (λ i. has_entry c.args.self.now.next.now (i + 1) c.args.self.now.handle) false c.requires.index
