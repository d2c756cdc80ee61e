use Rattle.std.proofs.Common.{◌≡◌, ◌++◌, ℕ, string_bytes}
use Rattle.std.specs.Prelude.{slice_get}
use Rattle.net_model.specs.LoopSteps.{collect_below}
use Rattle.net_check.specs.Warnings.{place_text}
use Rattle.net_check.proofs.warnings.Named.push_hops.Given as goal

abbrev pub invariant-loop-k : goal.invariant-loop-k
invariant-loop-k g l =
    string_bytes l.text
    ≡ string_bytes l.initial.text ++ collect_below l.k (λ (k : ℕ). place_text l.self.file.now l.self.network.now l.bounds l.i l.periodic k (slice_get l.hops k))
