use Rattle.std.proofs.Common.{◌≤◌, arith}
use Rattle.gate_parts.proofs.lists.list_fit.Goals as goal

pub first_fit-requires-clause-some : goal.first_fit-requires-clause-some
first_fit-requires-clause-some c =
    let short : c.args.asked.occupied ≤ c.in-For.most = omega arith in
    let s = c.in-For.ensures.soon c.args.asked.occupied c.args.asked.from short in
    let near = s.2 in
    (s.0, s.1, omega arith, s.3)
