use Rattle.std.proofs.Common.{◌≡◌, Option, Some, None, true, refl, sym, ◌∙◌}
use Rattle.std.specs.Prelude.{is_some}
use Rattle.std.proofs.lemmas.Option.{slice_get-get_or}
use Rattle.bridge_check.specs.Faults.{first_option}
use Rattle.net_model.specs.Faults.{hop_test_fault}
use Rattle.net_model.specs.TestedNetwork.{tested_parts}
use Rattle.net_model.proofs.Walked.{or_told}
use Rattle.net_model.proofs.network_tests.TestedNetwork.first_or_hop_test_fault.Goals as goal

first_some : {Y : Type 0} (a b : Option Y) → is_some a ≡ true → first_option a b ≡ a
first_some None b h = absurd (cc)
first_some (Some y) b h = refl

pub bounds-stream-k : goal.bounds-stream-k
bounds-stream-k g c = c.requires.hop

pub hop_test_fault-requires-clause-hop : goal.hop_test_fault-requires-clause-hop
hop_test_fault-requires-clause-hop g c = c.requires.hop

pub hop_test_fault-requires-clause-stream : goal.hop_test_fault-requires-clause-stream
hop_test_fault-requires-clause-stream g c = c.requires.stream

pub returns-then-is_some : goal.returns-then-is_some
returns-then-is_some g c = sym (first_some c.args.before _ (sym c.if-is_some.ensures))

pub returns : goal.returns
returns g c =
    or_told c.args.before c.hop_test_fault.result (hop_test_fault (tested_parts c.args.self.now) c.args.test c.args.i c.args.stream.now c.args.k) c.args.stream.now c.args.k _
    (sym c.is_some.ensures ∙ c.if-is_some.false) c.hop_test_fault.ensures (slice_get-get_or c.args.stream.now c.args.k _ c.requires.hop)
