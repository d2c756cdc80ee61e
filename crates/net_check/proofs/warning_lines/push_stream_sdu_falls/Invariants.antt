use Rattle.std.proofs.Common.{◌≡◌, ◌++◌, string_bytes}
use Rattle.net_model.specs.LoopSteps.{collect_below}
use Rattle.net_check.specs.Telling.{sdu_fall_text}
use Rattle.net_check.proofs.warning_lines.push_stream_sdu_falls.Given as goal

abbrev pub invariant-loop-k : goal.invariant-loop-k
invariant-loop-k g l = string_bytes l.text ≡ string_bytes l.initial.text ++ collect_below l.k (sdu_fall_text l.plans l.i l.hops)
