-- Explanations of failures that concern no plan: of arguments, of a text, and of files.
use Rattle.std.specs.Prelude.{◌≡◌, ℕ, List, Option, None, String, codes, string_bytes}
use Rattle.std.specs.Option.{IfSome}
use Rattle.std.specs.declared.alloc.Global.{Global}
use Rattle.bridge_text.specs.Escaped.{escaped}
use Rattle.bridge_text.specs.PathPrefix.{StartsWithName}
use Rattle.app_failure.specs.declared.fault.Failure.{Failure}
use Rattle.app_failure.specs.declared.fault.Failure.TheVariants as fault

-- Holds if the explanation begins with this name. Without an explanation (memory ran out) it holds, too.
abbrev pub BeginsWith : List ℕ → Option (String Global) → Type 0
BeginsWith name explanation = IfSome explanation (λ said. StartsWithName name (string_bytes said))

-- Holds if the explanation begins with the path of a file, with control characters escaped.
abbrev pub BeginsWithPath : List ℕ → Option (String Global) → Type 0
BeginsWithPath path explanation = BeginsWith (escaped path) explanation

-- Holds if the explanation names the file that failed. Other failures have no explanation.
abbrev pub ExplainsFile : Failure → Option (String Global) → Type 0
ExplainsFile (fault.File e) explanation = BeginsWithPath (string_bytes e.path) explanation
ExplainsFile _ explanation = explanation ≡ None

-- Holds if the explanation of refused arguments begins with `command line: `, that of a refused text with the file `-`, and
-- that of a file with its path. Other failures have no explanation.
abbrev pub ExplainsWords : Failure → Option (String Global) → Type 0
ExplainsWords fault.Words explanation = BeginsWith (codes "command line: ") explanation
ExplainsWords (fault.Text t) explanation = BeginsWith (codes "-") explanation
ExplainsWords f explanation = ExplainsFile f explanation
