use Rattle.std.proofs.Common.{◌≡◌, ◌<◌, ℕ, Option, Some, None}
use Rattle.std.specs.Prelude.{slice_get}
use Rattle.net_report.specs.declared.sources.SourceFrame.{SourceFrame}
use Rattle.net_report.proofs.sources.has_new_source.Given as goal

abbrev pub invariant-loop-place : goal.invariant-loop-place
invariant-loop-place l = (k : ℕ) (z : Option SourceFrame) → k < l.place → slice_get l.old k ≡ Some None → slice_get l.new k ≡ Some z → z ≡ None
