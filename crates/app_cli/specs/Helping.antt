-- Requests for help, version, explanations and strictness.
use Rattle.std.specs.Prelude.{◌≡◌, ◌⊎◌, ◌&&◌, ◌||◌, Bool, List, [], ◌∷◌, true, false, not, codes}
use Rattle.std.specs.Str.{bytes_eq}
use Rattle.clap.specs.Words.{IsAmong, Kinds, Text}
use Rattle.clap.specs.declared.error.kind.ErrorKind.{ErrorKind}
use Rattle.clap.specs.declared.error.kind.ErrorKind.TheVariants as kind

-- True if an argument may request help or the version.
abbrev pub is_help_word : Text → Bool
is_help_word word = bytes_eq word (codes "help") || bytes_eq word (codes "--help") || bytes_eq word (codes "-h") || bytes_eq word (codes "--version") || bytes_eq word (codes "-V")

-- True if an error of `clap` is help or the version.
abbrev pub is_help_kind : ErrorKind → Bool
is_help_kind kind.DisplayHelp = true
is_help_kind kind.DisplayVersion = true
is_help_kind _ = false

-- Holds if help or the version is among the kinds of error with which `clap` may answer.
abbrev pub IsHelp : Kinds → Type 0
IsHelp kinds = IsAmong kind.DisplayHelp kinds ⊎ IsAmong kind.DisplayVersion kinds

-- Holds if `clap` can answer with one kind of error only: help, or the version.
abbrev pub AsksForHelp : Kinds → Type 0
AsksForHelp kinds = (kinds ≡ kind.DisplayHelp ∷ []) ⊎ (kinds ≡ kind.DisplayVersion ∷ [])

-- True if the flag is among the arguments before the first `--`.
abbrev pub has_flag : Text → List Text → Bool
has_flag flag [] = false
has_flag flag (word ∷ rest) = not (bytes_eq word (codes "--")) && (bytes_eq word flag || has_flag flag rest)

-- True if `--explain` is among the arguments before the first `--`.
abbrev pub explains : List Text → Bool
explains words = has_flag (codes "--explain") words

-- True if `--strict` is among the arguments before the first `--`.
abbrev pub is_strict : List Text → Bool
is_strict words = has_flag (codes "--strict") words
