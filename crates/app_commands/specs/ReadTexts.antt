-- Texts of files that a command reads: plans and commands. `octets_at` has the octets of each file, as far as they are known.
use Rattle.std.specs.Prelude.{◌≡◌, ◌⊎◌, ℕ, List, Option, None, Some, Ok, take}
use Rattle.bridge_config.specs.declared.command.Command.{Command}
use Rattle.bridge_config.specs.Document.{text_plan}
use Rattle.bridge_config.specs.Model.{Plan}
use Rattle.app_failure.specs.declared.fault.Failure.{Failure}
use Rattle.app_failure.specs.Commanding.{EndsCommanded, commands_for}
use Rattle.app_failure.specs.Jobs.{Accepts, EndsPlan}
use Rattle.app_commands.specs.ShownFiles.{IsOfPicture}

-- Holds if `text` was read from a file with these octets: it has the first 1,048,577 octets. It is any text if the octets are unknown.
abbrev pub IsTextOf : Option (List ℕ) → List ℕ → Type 0
IsTextOf known text = (octets : List ℕ) → known ≡ Some octets → text ≡ take 1048577 octets

-- Holds if `text` was read from the file at `path`.
abbrev pub IsTextAt : (List ℕ → Option (List ℕ)) → List ℕ → List ℕ → Type 0
IsTextAt octets_at path text = IsTextOf (octets_at path) text

-- Holds if the text that was read from the file at `path` has a property.
abbrev pub HasTextAt : (List ℕ → Option (List ℕ)) → List ℕ → (List ℕ → Type 0) → Type 0
HasTextAt octets_at path property = (text : List ℕ) × IsTextAt octets_at path text × property text

-- Holds if an optional text was read from the file at an optional path. Without a path, there is no text.
abbrev pub IsTextIfAt : (List ℕ → Option (List ℕ)) → Option (List ℕ) → Option (List ℕ) → Type 0
IsTextIfAt octets_at None None = Unit {0}
IsTextIfAt octets_at (Some path) (Some text) = IsTextAt octets_at path text
IsTextIfAt octets_at path text = ⊥

-- Holds if the text of the file at `path` is this plan, and the plan isolates each of its protected filters.
abbrev pub IsAcceptedAt : {A : Type 0} → (List ℕ → Option (List ℕ)) → List ℕ → Plan A → Type 0
IsAcceptedAt octets_at path plan = HasTextAt octets_at path (λ text. Accepts text plan)

-- Holds if these are the commands of the file at an optional path, for a plan. Without a path, there are no commands.
abbrev pub AreCommandsAt : {A : Type 0} → (List ℕ → Option (List ℕ)) → Option (List ℕ) → Plan A → List Command → Type 0
AreCommandsAt octets_at path plan commands = (text : Option (List ℕ)) × IsTextIfAt octets_at path text × (commands_for plan text ≡ Ok commands)

-- Holds if `f` is a failure of plan `p` with the commands of the file at an optional path.
abbrev pub EndsCommandsAt : {A : Type 0} → (List ℕ → Option (List ℕ)) → Option (List ℕ) → Plan A → Failure → Type 0
EndsCommandsAt octets_at path p f = (text : Option (List ℕ)) × IsTextIfAt octets_at path text × EndsCommanded p path text f

-- Holds if failure `f` ends the reading of a plan and its commands. It is of the plan file's text, or of its plan with the commands of
-- their file.
abbrev pub EndsReadingAt : (A : Type 0) → (List ℕ → Option (List ℕ)) → List ℕ → Option (List ℕ) → Failure → Type 0
EndsReadingAt A octets_at plan commands f =
    HasTextAt octets_at plan (λ text. EndsPlan A plan text f) ⊎ ((p : Plan A) × HasTextAt octets_at plan (λ text. text_plan text ≡ Ok p) × EndsCommandsAt octets_at commands p f)

-- Holds if the text of the file at `path` is a plan.
abbrev pub HasPlanAt : (A : Type 0) → (List ℕ → Option (List ℕ)) → List ℕ → Type 0
HasPlanAt A octets_at path = (p : Plan A) × HasTextAt octets_at path (λ text. text_plan text ≡ Ok p)

-- Holds if `f` ends the picture of the plan in the file at `plan`: a failure of its text, or of the picture.
abbrev pub EndsPictureAt : (A : Type 0) → (List ℕ → Option (List ℕ)) → List ℕ → List ℕ → Failure → Type 0
EndsPictureAt A octets_at plan file f = HasTextAt octets_at plan (λ text. EndsPlan A plan text f) ⊎ IsOfPicture file f
