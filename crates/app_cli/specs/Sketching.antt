-- The picture of a run or of a plan that the arguments request.
use Rattle.std.specs.Prelude.{◌≡◌, ◌<◌, ◌⊎◌, ℕ, List, Option, Some, None, codes, option_map, string_bytes}
use Rattle.std.specs.Str.Parse.{digits_value}
use Rattle.clap.specs.Words.{Row, Text, first_of, subcommand_of}
use Rattle.app_cli.specs.CommandLine.{commands}
use Rattle.app_cli.specs.Numbers.{IsMoment}
use Rattle.app_cli.specs.declared.picture_request.PictureRequest.{PictureRequest}

-- Holds if an optional argument gives this optional time in ns, or argument and time are both missing.
abbrev pub IsBound : Option Text → Option ℕ → Type 0
IsBound None None = Unit {0}
IsBound None (Some t) = ⊥
IsBound (Some word) None = ⊥
IsBound (Some word) (Some t) = IsMoment word × (digits_value 10 word ≡ t)

-- Holds if `from` is before `to`, if both are present.
abbrev pub AreInOrder : Option ℕ → Option ℕ → Type 0
AreInOrder (Some from) (Some to) = from < to
AreInOrder from to = Unit {0}

-- Holds if the values name no part of a run or plan.
abbrev pub HasNoPart : List Row → Type 0
HasNoPart values =
    (first_of (codes "from") values ≡ None) × (first_of (codes "to") values ≡ None) × (first_of (codes "ports") values ≡ None) × (first_of (codes "filters") values ≡ None)

-- Holds if the values of a command request this picture: argument `name` has its file, and the options have its start,
-- end, ports and filters.
abbrev pub IsSketch : Text → List Row → PictureRequest → Type 0
IsSketch name values s =
    (first_of name values ≡ Some (string_bytes s.file)) × IsBound (first_of (codes "from") values) s.from × IsBound (first_of (codes "to") values) s.to × AreInOrder s.from s.to
    × (first_of (codes "ports") values ≡ option_map string_bytes s.ports) × (first_of (codes "filters") values ≡ option_map string_bytes s.filters)

-- Holds if the values of `run` request this picture. With `None`, the values name neither a picture nor a part.
abbrev pub AsksForSketch : List Row → Option PictureRequest → Type 0
AsksForSketch values None = (first_of (codes "picture") values ≡ None) × HasNoPart values
AsksForSketch values (Some s) = IsSketch (codes "picture") values s

-- Holds if the values of `picture` request this part of a plan. With `None`, the values name no part.
abbrev pub AsksForPart : List Row → Option PictureRequest → Type 0
AsksForPart values None = HasNoPart values
AsksForPart values (Some s) = IsSketch (codes "file") values s

-- Holds if the arguments name a part of a run, or of a plan's picture.
abbrev pub NamesPart : List Text → Type 0
NamesPart words =
    (values : List Row) × (((subcommand_of commands words ≡ Some (codes "run", values)) ⊎ (subcommand_of commands words ≡ Some (codes "picture", values))) × (¬ HasNoPart values))
