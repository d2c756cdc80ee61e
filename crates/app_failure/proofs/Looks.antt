-- The octets that the program reads decide as the whole text does.
use Rattle.std.proofs.Common.{◌≡◌, ℕ, ◌<◌, ◌+◌, inl, inr, refl, sym, ap, subst, ◌∙◌, arith, List, length, take, take_all, Result, Ok, Err, None, IfOk, IfErr}
use Rattle.std.proofs.lemmas.Bool.{lt-ltb, cases_lt}
use Rattle.std.proofs.lemmas.List.{length-take}
use Rattle.bridge_schema.specs.declared.plan_fault.PlanFault.{PlanFault}
use Rattle.bridge_schema.specs.declared.plan_fault.PlanFault.TheVariants as plan
use Rattle.bridge_schema.specs.Readers.{IsReadFault}
use Rattle.bridge_config.specs.Model.{Plan}
use Rattle.bridge_config.specs.Document.{read_document, text_plan}
use Rattle.bridge_check.specs.Faults.{first_fault}
use Rattle.app_files.specs.declared.failed_file.Access.TheVariants.{Reading}
use Rattle.app_failure.specs.declared.fault.Failure.{Failure}
use Rattle.app_failure.specs.declared.fault.Failure.TheVariants as fault
use Rattle.app_failure.specs.Reading.{IsFileFault}
use Rattle.app_failure.specs.Jobs.{Accepts, RefusesCheck, RefusesPlan, EndsCheck, EndsPlan}

-- If a function is constant for all texts longer than a limit, one octet more than the limit decides.
pub front_as_whole : {X : Type 0} (f : List ℕ → X) (long : X) (most : ℕ) → ((input : List ℕ) → most < length input → f input ≡ long) → (input : List ℕ) → f (take (most + 1) input) ≡ f input
front_as_whole f long most same input = elim (cases_lt most (length input)) [
  | inl more ↦ (let held : most < length (take (most + 1) input) = omega (arith, length-take (most + 1) input) in same (take (most + 1) input) held ∙ sym (same input more))
  | inr few ↦ ap f (take_all (most + 1) input (omega arith))
]

plan_long : {A : Type 0} (input : List ℕ) → 1048576 < length input → text_plan {A = A} input ≡ Err plan.TooLong
unfolding read_document
plan_long {A} input long = rw (lt-ltb 1048576 (length input) long) refl

pub plan_front : {A : Type 0} (input : List ℕ) → text_plan {A = A} (take 1048577 input) ≡ text_plan {A = A} input
plan_front {A} input = front_as_whole (text_plan {A = A}) (Err plan.TooLong) 1048576 (plan_long {A = A}) input

pub plan_told : {A : Type 0} (looked input : List ℕ) (p : Plan A) → looked ≡ take 1048577 input → text_plan looked ≡ Ok p → text_plan input ≡ Ok p
plan_told {A} looked input p e reads = sym (plan_front {A = A} input) ∙ ap (text_plan {A = A}) (sym e) ∙ reads

pub plan_fails : (A : Type 0) (looked input : List ℕ) (f : PlanFault) → looked ≡ take 1048577 input → IsReadFault f (text_plan {A = A} looked) → IsReadFault f (text_plan {A = A} input)
plan_fails A looked input f e h = subst (IsReadFault f) (plan_front {A = A} input) (subst (λ (z : List ℕ). IsReadFault f (text_plan {A = A} z)) e h)

-- A fault of reading a plan ends the check of the plan.
pub plan_ends : (A : Type 0) (path input : List ℕ) (f : Failure) → EndsPlan A path input f → EndsCheck A path input f
plan_ends A path input (fault.Plan f) h = h
plan_ends A path input (fault.Check f) h = absurd h
plan_ends A path input f h = h

pub file_ends : (A : Type 0) (path input : List ℕ) (f : Failure) → IsFileFault Reading path f → EndsPlan A path input f
file_ends A path input (fault.Plan f) h = absurd h
file_ends A path input f h = h

-- An accepted plan that was read is accepted by its text.
pub all_accepted : {A : Type 0} (input : List ℕ) (p : Plan A) (r : Result (Plan A) Failure) → text_plan input ≡ Ok p → IfOk r (λ a. (a ≡ p) × (first_fault p ≡ None)) → IfOk r (λ a. Accepts input a)
all_accepted input p (Ok a) reads (same, sound) = (reads ∙ ap Ok (sym same), ap first_fault same ∙ sound)
all_accepted input p (Err f) reads h = tt

pub all_refused : {A : Type 0} (input : List ℕ) (p : Plan A) (r : Result (Plan A) Failure) → text_plan input ≡ Ok p → IfErr r (RefusesCheck p) → IfErr r (RefusesPlan A input)
all_refused input p (Ok a) reads h = tt
all_refused input p (Err (fault.Check f)) reads h = (p, reads, h)
all_refused input p (Err f) reads h = absurd h

ends_refused : (A : Type 0) (path input : List ℕ) (f : Failure) → RefusesPlan A input f → EndsCheck A path input f
ends_refused A path input (fault.Plan f) h = h
ends_refused A path input (fault.Check f) h = h
ends_refused A path input f h = absurd h

pub all_ended : {A : Type 0} (path input : List ℕ) (p : Plan A) (r : Result (Plan A) Failure) → text_plan input ≡ Ok p → IfErr r (RefusesCheck p) → IfErr r (EndsCheck A path input)
all_ended path input p (Ok a) reads h = tt
all_ended {A} path input p (Err f) reads h = ends_refused A path input f (all_refused input p (Err f) reads h)
