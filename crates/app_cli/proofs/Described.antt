-- The arguments of a command, one after the other.
use Rattle.std.proofs.Common.{◌≡◌, ◌∙◌, ◌<◌, ◌+◌, ℕ, Bool, ◌||◌, List, [], ◌∷◌, length, map, take, refl, sym, ap, ap₂, fold, slice_index_or, false, Result, Ok, Err, IfOk}
use Rattle.std.proofs.lemmas.List.Sums.{fold_more}
use Rattle.clap.specs.Words.{App, Rule, with_rule, with_subcommand}
use Rattle.app_cli.specs.declared.command.Argument.{Argument}
use Rattle.app_cli.specs.declared.command.Description.{Description}
use Rattle.app_cli.specs.CommandLine.{command_list, commands, described, program, rule_in, with_word}

-- The command with one more argument.
pub one_more : (start before after : App) (words : List Argument) (i : ℕ) (d : Argument) (rule : Rule) → i < length words
    → before ≡ fold with_word start (take i words) → rule ≡ rule_in (slice_index_or words i d).form (slice_index_or words i d).id.now → after ≡ with_rule before rule
    → after ≡ fold with_word start (take (i + 1) words)
one_more start before after words i d rule lt is ruled grown =
    grown ∙ ap₂ with_rule is ruled ∙ sym (fold_more with_word start words i d lt)

-- Neither of two arguments is global, so none is.
pub none_global : (a b c : Bool) → a ≡ (b || c) → c ≡ false → b ≡ false → a ≡ false
none_global a b c is without none = is ∙ ap₂ (λ x y. x || y) none without

-- The result of a loop with one more item.
pub one_further : {D : Type 0} (f : App → D → App) (start before after : App) (list : List D) (i : ℕ) (d : D) → i < length list
    → before ≡ fold f start (take i list) → after ≡ f before (slice_index_or list i d) → after ≡ fold f start (take (i + 1) list)
one_further f start before after list i d lt is grown = grown ∙ ap (λ a. f a (slice_index_or list i d)) is ∙ sym (fold_more f start list i d lt)

-- A program to which described commands are added, one after the other.
folded : {D : Type 0} (see : D → Description) (start : App) (ds : List D)
    → fold (λ app d. with_subcommand app (described (see d)).top) start ds ≡ fold (λ app c. with_subcommand app c.top) start (map (λ d. described (see d)) ds)
folded see start [] = refl
folded see start (d ∷ ds) = folded see (with_subcommand start (described (see d)).top) ds

-- The program with all commands.
pub all_added : {D : Type 0} (see : D → Description) (start : App) (ds : List D) → start ≡ program → map (λ d. described (see d)) ds ≡ command_list
    → fold (λ app d. with_subcommand app (described (see d)).top) start ds ≡ commands
all_added see start ds begin are = folded see start ds ∙ ap₂ (λ app cs. fold (λ a c. with_subcommand a c.top) app cs) begin are

-- A result that equals `x` equals a `y` that is equal to `x`.
pub same_if : {T E : Type 0} (f : T → App) (x y : App) (r : Result T E) → IfOk r (λ c. f c ≡ x) → x ≡ y → IfOk r (λ c. f c ≡ y)
same_if f x y (Ok c) is same = is ∙ same
same_if f x y (Err e) is same = tt
