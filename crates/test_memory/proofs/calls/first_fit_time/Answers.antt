use Rattle.std.proofs.Common.{◌≤◌, arith}
use Rattle.test_memory.proofs.calls.first_fit_time.Goals as goal

pub first_fit-requires-clause-some : goal.first_fit-requires-clause-some
first_fit-requires-clause-some g c =
    let short : c.args.occ ≤ c.in-For.most = omega arith in
    let s = c.in-For.ensures.soon c.args.occ c.args.from short in
    let near = s.2 in
    (s.0, s.1, omega arith, s.3)
