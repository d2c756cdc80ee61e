-- Equal records have equal sections.
use Rattle.std.proofs.Common.{◌≡◌, ℕ, refl}
use Rattle.bridge_semantics.specs.declared.outcome.View.{View}
use Rattle.bridge_semantics.specs.Runs.{AreSameViews}
use Rattle.bridge_report.specs.Section.{section_text, state_lines, copy_lines, list_lines}

pub same_section : {A : Type 0} (filter : ℕ) (u v : View A) → AreSameViews u v → section_text filter u ≡ section_text filter v
unfolding section_text state_lines copy_lines list_lines
same_section filter u v t = rw (t.protected, t.verdicts, t.counters, t.flags, t.buckets, t.departures, t.drops, t.delay) refl
