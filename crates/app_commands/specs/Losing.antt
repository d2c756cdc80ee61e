-- Runs in which warnings and losses are errors: the lines of lost frames, and the exit status.
use Rattle.std.specs.Prelude.{◌≡◌, ℕ, Bool, ◌||◌, not, nat_eq, List, [], length, if◌then◌else◌}
use Rattle.bridge_semantics.specs.declared.outcome.Outcome.{Outcome}
use Rattle.bridge_semantics.specs.declared.outcome.View.{View}
use Rattle.bridge_report.specs.Losses.{lost_lines}
use Rattle.bridge_report.specs.Summary.{summary_text}

-- True if a text isn't empty: the run has losses.
abbrev pub has_lines : List ℕ → Bool
has_lines text = not (nat_eq (length text) 0)

-- The lines of protected filters with losses, if losses are errors; otherwise the empty text.
abbrev pub lost_if : {A : Type 0} → Bool → List (ℕ × View A) → List ℕ
lost_if strict filters = if strict then lost_lines filters else []

-- Holds if `line` has the counts of a run, `lost` has the lines of its losses, and `lossy` is true exactly if `lost` isn't empty.
abbrev pub TellsLost : (A : Type 0) → Bool → List ℕ → List ℕ → Bool → Type 0
TellsLost A strict line lost lossy =
    (outcome : Outcome A) × ((line ≡ summary_text outcome.ports.items) × ((lost ≡ lost_if strict outcome.filters.items) × (lossy ≡ has_lines lost)))

-- The exit status of a run that doesn't fail: 1 if a warning or a loss is an error, otherwise 0.
abbrev pub status_of : Bool → Bool → ℕ
status_of warned lossy = if warned || lossy then 1 else 0
