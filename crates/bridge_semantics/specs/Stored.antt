-- Verdicts, as a run of a bridge stores them.
use Rattle.std.specs.Prelude.{Bool, true, false, Some, None}
use Rattle.bridge_filter.specs.declared.Verdict.{Verdict}
use Rattle.bridge_filter.specs.declared.Verdict.TheVariants as verdict
use Rattle.bridge_semantics.specs.declared.stored_verdict.VerdictKind.{VerdictKind}
use Rattle.bridge_semantics.specs.declared.stored_verdict.VerdictKind.TheVariants as kind

-- The verdict that a run stores as this `VerdictKind`.
abbrev pub kind_verdict : VerdictKind → Verdict
kind_verdict kind.Blocked = verdict.Blocked
kind_verdict kind.Oversize = verdict.Oversize
kind_verdict kind.GateClosed = verdict.GateClosed
kind_verdict kind.ShutByRx = verdict.ShutByRx
kind_verdict kind.ShutByOctets = verdict.ShutByOctets
kind_verdict kind.OctetsExceeded = verdict.OctetsExceeded
kind_verdict kind.Red = verdict.Red
kind_verdict kind.YellowDropped = verdict.YellowDropped
kind_verdict kind.Pass = verdict.Pass None false
kind_verdict kind.PassEligible = verdict.Pass None true
kind_verdict kind.Pass0 = verdict.Pass (Some 0) false
kind_verdict kind.Pass1 = verdict.Pass (Some 1) false
kind_verdict kind.Pass2 = verdict.Pass (Some 2) false
kind_verdict kind.Pass3 = verdict.Pass (Some 3) false
kind_verdict kind.Pass4 = verdict.Pass (Some 4) false
kind_verdict kind.Pass5 = verdict.Pass (Some 5) false
kind_verdict kind.Pass6 = verdict.Pass (Some 6) false
kind_verdict kind.Pass7 = verdict.Pass (Some 7) false
kind_verdict kind.PassEligible0 = verdict.Pass (Some 0) true
kind_verdict kind.PassEligible1 = verdict.Pass (Some 1) true
kind_verdict kind.PassEligible2 = verdict.Pass (Some 2) true
kind_verdict kind.PassEligible3 = verdict.Pass (Some 3) true
kind_verdict kind.PassEligible4 = verdict.Pass (Some 4) true
kind_verdict kind.PassEligible5 = verdict.Pass (Some 5) true
kind_verdict kind.PassEligible6 = verdict.Pass (Some 6) true
kind_verdict kind.PassEligible7 = verdict.Pass (Some 7) true
