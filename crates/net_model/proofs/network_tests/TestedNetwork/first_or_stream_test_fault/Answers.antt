use contract.BorrowLft.{⊑_static}
use Rattle.std.proofs.Common.{◌≡◌, Option, Some, None, true, refl, get_or, sym, ap, ◌∙◌}
use Rattle.std.specs.Prelude.{Vec, is_some}
use Rattle.std.proofs.lemmas.Option.{slice_get-get_or}
use Rattle.bridge_check.specs.Faults.{first_option}
use Rattle.net_model.specs.declared.links.StreamHop.{StreamHop}
use Rattle.net_model.specs.Faults.{stream_test_fault}
use Rattle.net_model.specs.TestedNetwork.{tested_parts}
use Rattle.net_model.proofs.Walked.{or_told}
use Rattle.net_model.proofs.network_tests.TestedNetwork.first_or_stream_test_fault.Goals as goal

first_some : {Y : Type 0} (a b : Option Y) → is_some a ≡ true → first_option a b ≡ a
first_some None b h = absurd (cc)
first_some (Some y) b h = refl

pub returns : goal.returns
returns g c =
    let streams = c.args.self.now.streams.now in
    let tell = stream_test_fault (tested_parts c.args.self.now) c.args.test c.args.i in
    or_told c.args.before c.stream_test_fault.result (λ (s : Vec StreamHop g.row.A.Denot). tell s.items) streams c.args.i (get_or streams c.args.i c.index-self-i.result)
    (sym c.is_some.ensures ∙ c.if-is_some.false) (c.stream_test_fault.ensures ∙ ap tell c.as_slice.ensures.value) (slice_get-get_or streams c.args.i c.index-self-i.result c.requires)

pub as_slice-requires : goal.as_slice-requires
as_slice-requires g c κs h = (⊑_static _, h)

pub bounds-self-i : goal.bounds-self-i
bounds-self-i g c = c.requires

pub stream_test_fault-requires : goal.stream_test_fault-requires
stream_test_fault-requires g c = c.requires

pub returns-then-is_some : goal.returns-then-is_some
returns-then-is_some g c = sym (first_some c.args.before _ (sym c.if-is_some.ensures))
