-- Texts of files that a command reads.
use Rattle.std.proofs.Common.{◌≡◌, ℕ, List, [], Option, None, Some, Ok, String, Global, inl, inr, ap, option_map, refl, string_bytes, take, sym, subst, ◌∙◌}
use Rattle.std.proofs.lemmas.Option.{same_Some}
use Rattle.bridge_limits.proofs.Options.{some_is_none}
use Rattle.bridge_config.specs.declared.command.Command.{Command}
use Rattle.bridge_config.specs.Document.{text_plan}
use Rattle.bridge_config.specs.Model.{Plan}
use Rattle.bridge_check.specs.Faults.{first_fault}
use Rattle.app_files.specs.declared.failed_file.Access.TheVariants.{Reading}
use Rattle.app_failure.specs.declared.fault.Failure.{Failure}
use Rattle.app_failure.specs.declared.fault.Failure.TheVariants as fault
use Rattle.app_failure.specs.Commanding.{EndsCommanded, commands_for}
use Rattle.app_failure.specs.Jobs.{EndsCheck, EndsPlan}
use Rattle.app_failure.specs.Reading.{IsFileFault}
use Rattle.app_commands.specs.RunFiles.{EndsReading, IsAcceptedPlan, IsCheckedPlan}
use Rattle.app_commands.specs.ShownFiles.{EndsPicture}
use Rattle.app_commands.specs.ReadTexts.{AreCommandsAt, EndsCommandsAt, EndsPictureAt, EndsReadingAt, HasTextAt, IsAcceptedAt, IsTextAt, IsTextIfAt, IsTextOf}

-- Each file has a text that can be read, whether or not its octets are known.
pub text_of : (known : Option (List ℕ)) → (text : List ℕ) × IsTextOf known text
text_of None = ([], λ octets is. absurd (some_is_none octets (sym is)))
text_of (Some all) = (take 1048577 all, λ octets is. ap (take 1048577) (same_Some all octets is))

-- The file at each path has such a text.
pub some_text : (octets_at : List ℕ → Option (List ℕ)) (path : List ℕ) → (text : List ℕ) × IsTextAt octets_at path text
some_text octets_at path = text_of (octets_at path)

file_checked : (A : Type 0) (path text : List ℕ) (f : Failure) → IsFileFault Reading path f → EndsCheck A path text f
file_checked A path text (fault.File e) h = h
file_checked A path text fault.NoMemory h = h
file_checked A path text f h = absurd h

file_planned : (A : Type 0) (path text : List ℕ) (f : Failure) → IsFileFault Reading path f → EndsPlan A path text f
file_planned A path text (fault.File e) h = h
file_planned A path text fault.NoMemory h = h
file_planned A path text f h = absurd h

file_commanded : {A : Type 0} (p : Plan A) (path text : List ℕ) (f : Failure) → IsFileFault Reading path f → EndsCommanded p (Some path) (Some text) f
file_commanded p path text (fault.File e) h = (h.0, ap Some (sym h.1))
file_commanded p path text fault.NoMemory h = some_is_none path
file_commanded p path text f h = absurd h

-- A file that can't be read ends the check of its plan.
pub unread_checked : (A : Type 0) (octets_at : List ℕ → Option (List ℕ)) (path : List ℕ) (f : Failure) → IsFileFault Reading path f → HasTextAt octets_at path (λ text. EndsCheck A path text f)
unread_checked A octets_at path f h = let t = some_text octets_at path in (t.0, t.1, file_checked A path t.0 f h)

-- A file that can't be read ends the reading of its plan.
pub unread_planned : (A : Type 0) (octets_at : List ℕ → Option (List ℕ)) (path : List ℕ) (f : Failure) → IsFileFault Reading path f → HasTextAt octets_at path (λ text. EndsPlan A path text f)
unread_planned A octets_at path f h = let t = some_text octets_at path in (t.0, t.1, file_planned A path t.0 f h)

-- A file that can't be read ends the reading of its commands.
pub unread_commanded : {A : Type 0} (p : Plan A) (octets_at : List ℕ → Option (List ℕ)) (path : List ℕ) (f : Failure) → IsFileFault Reading path f → EndsCommandsAt octets_at (Some path) p f
unread_commanded p octets_at path f h = let t = some_text octets_at path in (Some t.0, t.1, file_commanded p path t.0 f h)

-- Commands without a path, and their fault.
pub none_listed : {A : Type 0} (octets_at : List ℕ → Option (List ℕ)) (path : Option (String Global)) (p : Plan A) (commands : List Command) → ((named : String Global) → path ≡ Some named → ⊥) → commands_for p None ≡ Ok commands
    → AreCommandsAt octets_at (option_map string_bytes path) p commands
none_listed octets_at None p commands none h = (None, tt, h)
none_listed octets_at (Some named) p commands none h = absurd (none named refl)

pub none_ended : {A : Type 0} (octets_at : List ℕ → Option (List ℕ)) (path : Option (String Global)) (p : Plan A) (f : Failure) → ((named : String Global) → path ≡ Some named → ⊥) → EndsCommanded p None None f
    → EndsCommandsAt octets_at (option_map string_bytes path) p f
none_ended octets_at None p f none h = (None, tt, h)
none_ended octets_at (Some named) p f none h = absurd (none named refl)

-- Commands that can't be read.
pub some_unread : {A : Type 0} (octets_at : List ℕ → Option (List ℕ)) (path : Option (String Global)) (named : String Global) (shown : List ℕ) (p : Plan A) (f : Failure) → path ≡ Some named → shown ≡ string_bytes named
    → IsFileFault Reading shown f → EndsCommandsAt octets_at (option_map string_bytes path) p f
some_unread octets_at path named shown p f is same h =
    subst (λ (z : Option (String Global)). EndsCommandsAt octets_at (option_map string_bytes z) p f) (sym is)
    (unread_commanded p octets_at (string_bytes named) f (subst (λ s. IsFileFault Reading s f) same h))

-- Memory for the path of the commands ran out.
pub some_uncopied : {A : Type 0} (octets_at : List ℕ → Option (List ℕ)) (path : Option (String Global)) (named : String Global) (p : Plan A) → path ≡ Some named → EndsCommandsAt octets_at (option_map string_bytes path) p (fault.NoMemory)
some_uncopied octets_at path named p is =
    let t = some_text octets_at (string_bytes named) in
    subst (λ (z : Option (String Global)). EndsCommandsAt octets_at (option_map string_bytes z) p (fault.NoMemory)) (sym is) (Some t.0, t.1, some_is_none (string_bytes named))

-- Commands of a file, and their fault.
pub some_listed : {A : Type 0} (octets_at : List ℕ → Option (List ℕ)) (path : Option (String Global)) (named : String Global) (shown text : List ℕ) (p : Plan A) (commands : List Command) → path ≡ Some named → shown ≡ string_bytes named
    → IsTextAt octets_at shown text → commands_for p (Some text) ≡ Ok commands → AreCommandsAt octets_at (option_map string_bytes path) p commands
some_listed octets_at path named shown text p commands is same there h =
    subst (λ (z : Option (String Global)). AreCommandsAt octets_at (option_map string_bytes z) p commands) (sym is) (Some text, subst (λ s. IsTextAt octets_at s text) same there, h)

pub some_ended : {A : Type 0} (octets_at : List ℕ → Option (List ℕ)) (path : Option (String Global)) (named : String Global) (shown copied text : List ℕ) (p : Plan A) (f : Failure) → path ≡ Some named → shown ≡ string_bytes named
    → copied ≡ string_bytes named → IsTextAt octets_at shown text → EndsCommanded p (Some copied) (Some text) f → EndsCommandsAt octets_at (option_map string_bytes path) p f
some_ended octets_at path named shown copied text p f is same copy there h =
    subst (λ (z : Option (String Global)). EndsCommandsAt octets_at (option_map string_bytes z) p f) (sym is)
    (Some text, subst (λ s. IsTextAt octets_at s text) same there, subst (λ s. EndsCommanded p (Some s) (Some text) f) copy h)

-- A text of files whose octets remained is a text of the earlier files.
text_same : (before after : List ℕ → Option (List ℕ)) (path text : Option (List ℕ)) → ((p : List ℕ) → after p ≡ before p) → IsTextIfAt after path text → IsTextIfAt before path text
text_same before after None None same h = tt
text_same before after (Some path) (Some text) same h = λ octets told. h octets (same path ∙ told)
text_same before after None (Some text) same h = absurd h
text_same before after (Some path) None same h = absurd h

-- An accepted plan of a file.
pub accepted_of : {A : Type 0} (octets_at : List ℕ → Option (List ℕ)) (path text : List ℕ) (p accepted : Plan A) → IsTextAt octets_at path text → text_plan text ≡ Ok p → IsCheckedPlan p accepted → IsAcceptedAt octets_at path accepted
accepted_of octets_at path text p accepted there reads h = (text, there, (reads ∙ ap Ok (sym h.0), ap first_fault h.0 ∙ h.1))

-- The commands of an accepted plan.
pub listed_of : {A : Type 0} (before after : List ℕ → Option (List ℕ)) (path : Option (List ℕ)) (p accepted : Plan A) (commands : List Command) → ((q : List ℕ) → after q ≡ before q) → accepted ≡ p
    → AreCommandsAt after path p commands → AreCommandsAt before path accepted commands
listed_of before after path p accepted commands same is h =
    (h.0, text_same before after path h.0 same h.1, subst (λ q. commands_for q h.0 ≡ Ok commands) (sym is) h.2)

-- A fault of the commands ends the reading.
pub commands_of : (A : Type 0) (before after : List ℕ → Option (List ℕ)) (plan text : List ℕ) (path : Option (List ℕ)) (p : Plan A) (f : Failure) → ((q : List ℕ) → after q ≡ before q)
    → IsTextAt before plan text → text_plan text ≡ Ok p → EndsCommandsAt after path p f → EndsReadingAt A before plan path f
commands_of A before after plan text path p f same there reads h = inr (p, (text, there, reads), (h.0, text_same before after path h.0 same h.1, h.2))

-- An accepted plan of a file is an accepted plan.
pub accepted_plan : {A : Type 0} (octets_at : List ℕ → Option (List ℕ)) (path : List ℕ) (p : Plan A) → IsAcceptedAt octets_at path p → IsAcceptedPlan p
accepted_plan octets_at path p h = (h.0, h.2)

-- A fault of files ends the reading of a plan and its commands.
pub reading_of : (A : Type 0) (octets_at : List ℕ → Option (List ℕ)) (plan : List ℕ) (commands : Option (List ℕ)) (f : Failure) → EndsReadingAt A octets_at plan commands f → EndsReading A plan commands f
reading_of A octets_at plan commands f (inl h) = inl (h.0, h.2)
reading_of A octets_at plan commands f (inr h) = inr (h.0, (h.1.0, h.1.2), (h.2.0, h.2.2))

-- A fault of a file ends the picture of its plan.
pub picture_of : (A : Type 0) (octets_at : List ℕ → Option (List ℕ)) (plan file : List ℕ) (f : Failure) → EndsPictureAt A octets_at plan file f → EndsPicture A plan file f
picture_of A octets_at plan file f (inl h) = inl (h.0, h.2)
picture_of A octets_at plan file f (inr h) = inr h
