use Rattle.std.proofs.Common.{◌≤◌, arith}
use Rattle.std.proofs.lemmas.Bool.{leb-true}
use Rattle.gate_parts.proofs.ports.has_no_due_start.Goals as goal

pub returns-in-Some : goal.returns-in-Some
returns-in-Some c = λ h d x rest e u a f l.
    let soon : c.args.t ≤ c.in-Some.next = leb-true _ _ h in
    c.in-Some.ensures.due.2.least d x rest e u a f (omega arith)
