use Rattle.std.proofs.Common.{◌≡◌, ℕ, nat_eq, sym, subst, Some}
use Rattle.std.specs.Map.{lookup}
use Rattle.bridge_filter.proofs.Numbered.{found_at}
use Rattle.bridge_filter.proofs.route.row_by_guess.Goals as goal

pub returns-in-Some : goal.returns-in-Some
returns-in-Some g c =
    let there = found_at c.args.rows.now c.saturating_sub.result c.in-Some.own.now c.in-Some.row.now c.len-rows.ensures.unique (sym c.in-Some.ensures.entry) in
    subst (λ (n : ℕ). lookup (nat_eq n) c.args.rows.now.entries ≡ Some c.in-Some.row.now) c.if-own-handle.true there
