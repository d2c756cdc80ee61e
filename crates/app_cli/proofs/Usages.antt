-- The names and the rules of the commands, from their descriptions.
use Rattle.std.proofs.Common.{◌≡◌, ◌∙◌, ◌++◌, ◌+◌, ◌<◌, ℕ, Bool, true, false, List, [], ◌∷◌, Option, Some, None, map, flat_map, drop, length, append-nil, append_assoc, slice_index_or, sym, subst, ap, ap₂, fold, refl, true≢false}
use Rattle.std.proofs.lemmas.List.{drop_all, drop_more}
use Rattle.std.proofs.lemmas.Slice.Eq.{bytes_eq-Decides}
use Rattle.std.proofs.lemmas.Option.{none-some}
use Rattle.std.specs.Option.{is_some}
use Rattle.std.specs.Prelude.{◌||◌, ◌&&◌, ◌≤◌, if◌then◌else◌}
use Rattle.std.specs.List.{list_any}
use Rattle.std.specs.Str.{bytes_eq}
use Rattle.clap.specs.Words.{App, Rule, Text}
use Rattle.app_cli.specs.declared.command.Argument.{Argument}
use Rattle.app_cli.specs.declared.command.Description.{Description}
use Rattle.app_cli.specs.declared.command.Form.{Form}
use Rattle.app_cli.specs.declared.command.Form.TheVariants as form
use Rattle.app_cli.specs.CommandLine.{command_list, described, rule_in, with_word}
use Rattle.app_cli.specs.Usages.{all_rules, command_names, is_among, is_option_named, option_value, rule_of_word}

-- Arguments don't change the name of a command.
folded_name : (words : List Argument) (command : App) → (fold with_word command words).top.name ≡ command.top.name
folded_name [] command = refl
folded_name (word ∷ words) command = folded_name words (with_word command word)

-- The rules of a command with more arguments.
folded_rules : (words : List Argument) (command : App) → (fold with_word command words).top.rules ≡ command.top.rules ++ map rule_of_word words
folded_rules [] command = sym (append-nil command.top.rules)
folded_rules (word ∷ words) command =
    folded_rules words (with_word command word) ∙ append_assoc command.top.rules (rule_of_word word ∷ []) (map rule_of_word words)

-- The names of described commands.
names_of : {D : Type 0} (see : D → Description) (ds : List D) → map (λ c. c.top.name) (map (λ d. described (see d)) ds) ≡ map (λ d. (see d).name.now) ds
names_of see [] = refl
names_of see (d ∷ ds) = ap₂ (λ x xs. x ∷ xs) (folded_name (see d).words.now _) (names_of see ds)

-- The rules of all arguments of these commands.
abbrev pub rules_of_all : {D : Type 0} → (D → Description) → List D → List Rule
rules_of_all see ds = flat_map (λ d. map rule_of_word (see d).words.now) ds

rules_are : {D : Type 0} (see : D → Description) (ds : List D) → flat_map (λ c. c.top.rules) (map (λ d. described (see d)) ds) ≡ rules_of_all see ds
rules_are see [] = refl
rules_are see (d ∷ ds) = ap₂ (λ x xs. x ++ xs) (folded_rules (see d).words.now _) (rules_are see ds)

-- What the first rules say of an option goes for all rules.
skipped_by : (is value : Bool) (x y z : Option Bool) → (x ≡ None → y ≡ z) → (if is then Some value else x) ≡ None → (if is then Some value else y) ≡ z
skipped_by true value x y z next none = absurd (none-some value (sym none))
skipped_by false value x y z next none = next none

skipped : (name : Text) (before after : List Rule) → option_value name before ≡ None → option_value name (before ++ after) ≡ option_value name after
skipped name [] after none = refl
skipped name (rule ∷ before) after none = skipped_by (is_option_named name rule) _ _ _ _ (skipped name before after) none

found_by : (is value known : Bool) (x y : Option Bool) → (x ≡ Some known → y ≡ Some known) → (if is then Some value else x) ≡ Some known → (if is then Some value else y) ≡ Some known
found_by true value known x y next some = some
found_by false value known x y next some = next some

found : (name : Text) (before after : List Rule) (known : Bool) → option_value name before ≡ Some known → option_value name (before ++ after) ≡ Some known
found name [] after known some = absurd (none-some known some)
found name (rule ∷ before) after known some = found_by (is_option_named name rule) _ known _ _ (found name before after known) some

-- The commands from index `i` on, if the command there has the option or lacks it.
pub found_at : {D : Type 0} (see : D → Description) (name : Text) (ds : List D) (i : ℕ) (d : D) (value : Option Bool) → i < length ds
    → value ≡ option_value name (map rule_of_word (see (slice_index_or ds i d)).words.now) → is_some value ≡ true
    → option_value name (rules_of_all see (drop i ds)) ≡ value
found_at see name ds i d None less is some = absurd (true≢false (sym some))
found_at see name ds i d (Some known) less is some =
    ap (λ l. option_value name (rules_of_all see l)) (drop_more ds i d less) ∙ found name (map rule_of_word (see (slice_index_or ds i d)).words.now) (rules_of_all see (drop (i + 1) ds)) known (sym is)

pub skipped_at : {D : Type 0} (see : D → Description) (name : Text) (ds : List D) (i : ℕ) (d : D) (value : Option Bool) → i < length ds
    → value ≡ option_value name (map rule_of_word (see (slice_index_or ds i d)).words.now) → is_some value ≡ false
    → option_value name (rules_of_all see (drop i ds)) ≡ option_value name (rules_of_all see (drop (i + 1) ds))
skipped_at see name ds i d None less is some =
    ap (λ l. option_value name (rules_of_all see l)) (drop_more ds i d less) ∙ skipped name (map rule_of_word (see (slice_index_or ds i d)).words.now) (rules_of_all see (drop (i + 1) ds)) (sym is)
skipped_at see name ds i d (Some known) less is some = absurd (true≢false some)

-- A name that equals that of the item at index `i` is among the names from there on.
pub named_at : {D : Type 0} (name_of : D → Text) (name : Text) (ds : List D) (i : ℕ) (d : D) → i < length ds → bytes_eq (name_of (slice_index_or ds i d)) name ≡ true
    → list_any (λ known. bytes_eq known name) (map name_of (drop i ds)) ≡ true
named_at name_of name ds i d less is =
    ap (λ l. list_any (λ known. bytes_eq known name) (map name_of l)) (drop_more ds i d less)
    ∙ ap (λ b. b || list_any (λ known. bytes_eq known name) (map name_of (drop (i + 1) ds))) is

-- No name is among those behind the end.
pub named_after : {D : Type 0} (name_of : D → Text) (name : Text) (ds : List D) (i : ℕ) → length ds ≤ i
    → list_any (λ known. bytes_eq known name) (map name_of (drop i ds)) ≡ false
named_after name_of name ds i over = ap (λ l. list_any (λ known. bytes_eq known name) (map name_of l)) (drop_all i ds over)

-- No command is behind the end.
pub found_after : {D : Type 0} (see : D → Description) (name : Text) (ds : List D) (i : ℕ) → length ds ≤ i → option_value name (rules_of_all see (drop i ds)) ≡ None
found_after see name ds i over = ap (λ l. option_value name (rules_of_all see l)) (drop_all i ds over)

-- The names of all commands.
pub all_names : {D : Type 0} (see : D → Description) (ds : List D) → map (λ d. described (see d)) ds ≡ command_list → map (λ d. (see d).name.now) ds ≡ command_names
all_names see ds is = sym (names_of see ds) ∙ ap (map (λ c. c.top.name)) is

-- The rules of all commands.
pub all_of_rules : {D : Type 0} (see : D → Description) (ds : List D) → map (λ d. described (see d)) ds ≡ command_list → rules_of_all see ds ≡ all_rules
all_of_rules see ds is = sym (rules_are see ds) ∙ ap (flat_map (λ c. c.top.rules)) is

-- NAMES OF OPTIONS

or_none : (a : Bool) → (a || false) ≡ a
or_none true = refl
or_none false = refl

-- The rule of an argument has the argument's name.
id_of : (form : Form) (id : Text) → (rule_in form id).id ≡ id
id_of form.Place id = refl
id_of form.Extra id = refl
id_of form.Choice id = refl
id_of form.Flag id = refl

-- An argument that is no option adds no name.
not_named : (long e a : Bool) → long ≡ false → a ≡ (a || (long && e))
not_named true e a lacks = absurd (true≢false lacks)
not_named false e a lacks = sym (or_none a)

pub no_option : (name : Text) (word : Argument) (a : Bool) → is_some (rule_of_word word).long ≡ false → a ≡ (a || is_option_named name (rule_of_word word))
no_option name word a lacks = not_named (is_some (rule_of_word word).long) (bytes_eq (rule_of_word word).id name) a lacks

-- An option whose name is among the names adds none.
known_if : (e long a : Bool) → (e ≡ true → a ≡ true) → a ≡ (a || (long && e))
known_if true long a known = known refl ∙ sym (ap (λ z. z || (long && true)) (known refl))
known_if false true a known = sym (or_none a)
known_if false false a known = sym (or_none a)

among_map : {D : Type 0} (see : D → Text) (name : Text) (ds : List D) → is_among name (map see ds) ≡ list_any (λ d. bytes_eq (see d) name) ds
among_map see name [] = refl
among_map see name (d ∷ ds) = ap (λ z. bytes_eq (see d) name || z) (among_map see name ds)

pub known_option : {D : Type 0} (see : D → Text) (name : Text) (word : Argument) (names : List D) → list_any (λ d. bytes_eq (see d) word.id.now) names ≡ true
    → is_among name (map see names) ≡ (is_among name (map see names) || is_option_named name (rule_of_word word))
known_option see name word names among =
    let here : is_among word.id.now (map see names) ≡ true = among_map see word.id.now names ∙ among in
    known_if (bytes_eq (rule_of_word word).id name) (is_some (rule_of_word word).long) (is_among name (map see names))
    (λ e. subst (λ n. is_among n (map see names) ≡ true) (sym (id_of word.form word.id.now) ∙ (bytes_eq-Decides (rule_of_word word).id name).0 e) here)
