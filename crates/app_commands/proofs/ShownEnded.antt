-- Faults that end a run over files with tables and picture.
use Rattle.std.proofs.Common.{◌≡◌, ◌⊎◌, ℕ, List, [], Global, String, Option, Some, None, Result, Ok, Err, IfErr, inl, inr, codes, sym, subst, refl}
use Rattle.bridge_config.specs.Model.{Plan}
use Rattle.app_failure.specs.declared.fault.Failure.{Failure}
use Rattle.app_failure.specs.declared.fault.Failure.TheVariants as fault
use Rattle.app_commands.specs.RunFiles.{EndsReading, EndsSending, IsAcceptedPlan}
use Rattle.app_commands.specs.ShownFiles.{EndsDrawn, EndsShown, EndsTabled, EndsTold, IsOfShowing, IsOfTables, IsTableWritten, IsWritten}

-- A run whose picture was made or failed.
pub sent_shown : {A : Type 0} (p : Plan A) (input output : List ℕ) (file : Option (List ℕ)) (f : Failure) → EndsSending p input output f → EndsShown p input output file f
sent_shown p input output None f h = h
sent_shown p input output (Some path) f h = inl h

-- A run whose tables were made or failed.
pub sent_tabled : {A : Type 0} (p : Plan A) (input output : List ℕ) (delays frames file : Option (List ℕ)) (f : Failure) → EndsSending p input output f → EndsTabled p input output delays frames file f
sent_tabled p input output delays frames file f h = inl (sent_shown p input output file f h)

-- Out of memory can end a run under a plan.
pub memory_ends : {A : Type 0} (p : Plan A) (input output : List ℕ) (delays frames file : Option (List ℕ)) → EndsTabled p input output delays frames file (fault.NoMemory)
memory_ends p input output delays frames file = sent_tabled p input output delays frames file (fault.NoMemory) tt

shown_ends : {A : Type 0} (p : Plan A) (input output : List ℕ) (file : Option (List ℕ)) (f : Failure) → IsOfShowing file f → EndsShown p input output file f
shown_ends p input output None f h = subst (λ g. EndsSending p input output g) (sym h) tt
shown_ends p input output (Some path) f h = inr h

-- A fault of a result after the tables.
pub all_tabled : {A X : Type 0} (p : Plan A) (input output : List ℕ) (delays frames file : Option (List ℕ)) (r : Result X Failure) → IfErr r (λ f. IsOfShowing file f ⊎ IsOfTables delays frames f) → IfErr r (EndsTabled p input output delays frames file)
all_tabled p input output delays frames file (Ok line) h = tt
all_tabled p input output delays frames file (Err f) (inl h) = inl (shown_ends p input output file f h)
all_tabled p input output delays frames file (Err f) (inr h) = inr h

-- A table or picture that is refused before the run.
pub asked_tabled : {A : Type 0} (p : Plan A) (input output : List ℕ) (delays frames file : Option (List ℕ)) (f : Failure) → IsOfShowing file f ⊎ IsOfTables delays frames f → EndsTabled p input output delays frames file f
asked_tabled p input output delays frames file f (inl h) = inl (shown_ends p input output file f h)
asked_tabled p input output delays frames file f (inr h) = inr h

-- A picture that failed after tables that were made.
pub all_behind : {X : Type 0} (delays frames file : Option (List ℕ)) (r : Result X Failure) → IfErr r (IsOfShowing file) → IfErr r (λ f. IsOfShowing file f ⊎ IsOfTables delays frames f)
all_behind delays frames file (Ok line) h = tt
all_behind delays frames file (Err f) h = inl h

-- A requested table that was written.
pub table_written : {W : Type 0} (contents : W → Option (List ℕ)) (is_table : List ℕ → Type 0) (path : Option (String Global)) (named : String Global) (text : List ℕ) (file : W)
    → path ≡ Some named → is_table text → IsWritten contents text file → IsTableWritten contents is_table path (Some file)
table_written contents is_table path named text file is h written =
    subst (λ (p : Option (String Global)). IsTableWritten contents is_table p (Some file)) (sym is) (text, h, written)

pub reading_drawn : (A : Type 0) (plan : List ℕ) (commands : Option (List ℕ)) (input output : List ℕ) (file : Option (List ℕ)) (f : Failure) → EndsReading A plan commands f → EndsDrawn A plan commands input output file f
reading_drawn A plan commands input output None f h = inl h
reading_drawn A plan commands input output (Some path) f h = inl (inl h)

pub reading_told : (A : Type 0) (plan : List ℕ) (commands : Option (List ℕ)) (input output : List ℕ) (delays frames file : Option (List ℕ)) (f : Failure) → EndsReading A plan commands f → EndsTold A plan commands input output delays frames file f
reading_told A plan commands input output delays frames file f h = inl (reading_drawn A plan commands input output file f h)

shown_drawn : {A : Type 0} (p : Plan A) (plan : List ℕ) (commands : Option (List ℕ)) (input output : List ℕ) (file : Option (List ℕ)) (f : Failure) → IsAcceptedPlan p → EndsShown p input output file f → EndsDrawn A plan commands input output file f
shown_drawn p plan commands input output None f ok h = inr (p, ok, h)
shown_drawn p plan commands input output (Some path) f ok (inl h) = inl (inr (p, ok, h))
shown_drawn p plan commands input output (Some path) f ok (inr h) = inr h

pub all_told_of : {A X : Type 0} (p : Plan A) (plan : List ℕ) (commands : Option (List ℕ)) (input output : List ℕ) (delays frames file : Option (List ℕ)) (r : Result X Failure) → IsAcceptedPlan p
    → IfErr r (EndsTabled p input output delays frames file) → IfErr r (EndsTold A plan commands input output delays frames file)
all_told_of p plan commands input output delays frames file (Ok line) ok h = tt
all_told_of p plan commands input output delays frames file (Err f) ok (inl h) = inl (shown_drawn p plan commands input output file f ok h)
all_told_of p plan commands input output delays frames file (Err f) ok (inr h) = inr h
