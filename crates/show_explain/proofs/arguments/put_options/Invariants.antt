use denote.Text.{Utf8}
use denote.Shadow.{shadow}
use Rattle.show_explain.proofs.arguments.put_options.Given as goal

abbrev pub invariant-loop-part : goal.invariant-loop-part
invariant-loop-part l =
    (goal.iterator-loop-part).can_next l.part-iterator ×
    (goal.iterator-loop-part).is_finite l.part-iterator ×
    shadow (Utf8 l.last)
