use Rattle.std.proofs.Common.{rules, ◌≡◌, false, nat_eq, sym, refl}
use Rattle.std.specs.Map.{set_value}
use Rattle.bridge_filter.specs.declared.filter_state.FilterState.{FilterState}
use Rattle.bridge_filter.proofs.Numbered.{Changes}
use Rattle.bridge_filter.proofs.Judging.{plans_in-set_value}
use Rattle.bridge_filter.proofs.Cleared.{kept_cleared}
use Rattle.bridge_filter.proofs.clear_flags.clear_blocked.Goals as goal

pub returns-clause-kept : goal.returns-clause-kept
returns-clause-kept g c =
    let old = c.args.filters.now.entries in
    let was = c.in-Some.filter.now in
    let clear : FilterState = record { plan = was.plan; counters = was.counters; blocked = false } in
    let new = (c.get_mut.follows.lender clear).entries in
    let change : Changes old new c.args.number was clear = record {
      there = sym c.in-Some.ensures.value;
      own = search rules;
      others = search rules;
    } in
    λ ss kept. kept_cleared old new c.args.number was ss change kept

pub returns-clause-plans : goal.returns-clause-plans
returns-clause-plans g c =
    let n = c.args.number in
    let old = c.args.filters.now.entries in
    let was = c.in-Some.filter.now in
    let clear : FilterState = record { plan = was.plan; counters = was.counters; blocked = false } in
    let new = (c.get_mut.follows.lender clear).entries in
    let e : new ≡ set_value (nat_eq n) old clear = search rules in
    rw e (plans_in-set_value n old was clear (sym c.in-Some.ensures.value) refl)
