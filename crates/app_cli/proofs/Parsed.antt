-- The result of `clap` for the arguments.
use Rattle.std.proofs.Common.{◌≡◌, ◌≢◌, List, None, [], ◌∷◌, Result, Ok, Err, IfOk, IfErr, refl, subst, true, inl, inr, rules}
use Rattle.clap.specs.Words.{App, FailsBy, HasMatchesOf, Kinds, Text, fault_of, is_simple, is_simple_and_free, kind_of, subcommand_of, subcommand_rows_of}
use Rattle.clap.specs.declared.error.Error.{Error}
use Rattle.clap.specs.declared.error.kind.ErrorKind.TheVariants as kind
use Rattle.clap.specs.declared.parser.matches.ArgMatches.{ArgMatches}
use Rattle.app_cli.specs.CommandLine.{commands}

-- The commands are simple, so the definition of `clap` gives their results exactly.
are_simple : is_simple commands ≡ true
are_simple = refl

are_simple_and_free : is_simple_and_free commands ≡ true
are_simple_and_free = refl

-- A result for a command equal to `commands` is a result for `commands`.
pub fails_by : {T : Type 0} (app : App) (words : List Text) (r : Result T Error) → app ≡ commands → (is_simple_and_free app ≡ true → FailsBy (fault_of app words) r) → FailsBy (fault_of commands words) r
fails_by app words r is fails = subst (λ a. is_simple_and_free a ≡ true → FailsBy (fault_of a words) r) is fails are_simple_and_free

pub without_fault : {T : Type 0} (kinds : Kinds) (r : Result T Error) → FailsBy kinds r → IfOk r (λ _. kinds ≡ [])
without_fault kinds (Ok m) fails = fails
without_fault kinds (Err e) fails = tt

pub with_fault : {T : Type 0} (kinds : Kinds) (r : Result T Error) → FailsBy kinds r → IfErr r (λ e. kind_of e ≢ kind.OutOfMemory → kinds ≢ [])
with_fault kinds (Ok m) fails = tt
with_fault [] (Err e) (inl memory) = λ other. absurd (other memory)
with_fault [] (Err e) (inr none) = absurd none
with_fault (k ∷ ks) (Err e) fails = λ other is. search rules

pub its_values : (app : App) (words : List Text) (r : Result ArgMatches Error) → app ≡ commands → IfOk r (HasMatchesOf app words) → IfOk r (λ m. subcommand_rows_of m ≡ subcommand_of commands words)
its_values app words (Ok m) is has = (subst (λ a. HasMatchesOf a words m) is has are_simple).1
its_values app words (Err e) is has = tt

-- The empty list of arguments names no command.
pub none_named : subcommand_of commands [] ≡ None
none_named = refl
