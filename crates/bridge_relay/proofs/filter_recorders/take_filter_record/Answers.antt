use Rattle.std.proofs.Common.{rules, ◌≡◌, ◌∙◌, sym, nat_eq}
use Rattle.std.specs.Map.{set_value}
use Rattle.bridge_relay.specs.Records.{empty_recorder}
use Rattle.bridge_relay.proofs.Changing.{change_is}
use Rattle.bridge_relay.proofs.filter_recorders.take_filter_record.Goals as goal

pub returns-clause-fresh : goal.returns-clause-fresh
returns-clause-fresh g c =
    let n = c.args.number in
    let old = c.args.tables.now.entries in
    let new = (c.get_mut.follows.lender c.take_record.new.self).entries in
    let e : new ≡ set_value (nat_eq n) old c.take_record.new.self = search rules in
    e ∙ change_is n (λ t. empty_recorder) old c.in-Some.table.now c.take_record.new.self (sym c.in-Some.ensures.value) c.take_record.ensures.fresh
