-- Results that a call can't have.
use Rattle.std.proofs.Common.{◌≡◌, ℕ, Bool, true, false, Option, List, refl, nat_eq, Result, Ok, Err, sym, ap, ◌∙◌, subst, true≢false}
use Rattle.bridge_limits.proofs.Orders.{same_eq}
use Rattle.bridge_capture.specs.declared.capture_fault.CaptureFault.{CaptureFault}
use Rattle.bridge_capture.specs.declared.capture_fault.CaptureFault.TheVariants as faults
use Rattle.bridge_capture.specs.FaultCodes.{fault_code}
use Rattle.bridge_capture.specs.Reading.{CutsOctets, IsRecordHeaderFault, AgreesWithSource}

-- Number of the fault in a result, or 0.
abbrev pub number_in : {X : Type 0} → Result X CaptureFault → ℕ
number_in (Ok x) = 0
number_in (Err fault) = fault_code fault

-- Two equal results have equal numbers.
pub apart : {X : Type 0} {a b : Result X CaptureFault} → a ≡ b → nat_eq (number_in a) (number_in b) ≡ false → ⊥
apart {X} {a} {b} e n = true≢false (sym (same_eq (number_in a)) ∙ (ap (λ (k : ℕ). nat_eq (number_in a) k) (ap number_in e) ∙ n))

-- Fault of a result, or `other`.
abbrev pub fault_or : {X : Type 0} → CaptureFault → Result X CaptureFault → CaptureFault
fault_or other (Ok x) = other
fault_or other (Err fault) = fault

pub same_fault : {X : Type 0} (a b : CaptureFault) → ◌≡◌ {A = Result X CaptureFault} (Err a) (Err b) → a ≡ b
same_fault a b e = ap (fault_or a) e

-- A fault of one kind differs from a fault of another kind.
pub of_kind : {X : Type 0} (Kind : CaptureFault → Type 0) (fault other : CaptureFault) → Kind fault → (Kind other → ⊥) → ◌≡◌ {A = Result X CaptureFault} (Err fault) (Err other) → ⊥
of_kind Kind fault other is not e = not (subst Kind (same_fault fault other e) is)

pub err_ok : {X : Type 0} {fault : CaptureFault} {x : X} → ◌≡◌ {A = Result X CaptureFault} (Err fault) (Ok x) → ⊥
err_ok e = cc

-- Equal faults stay equal in results of another type.
pub told_on : {X Y : Type 0} {a b : CaptureFault} → ◌≡◌ {A = Result X CaptureFault} (Err a) (Err b) → ◌≡◌ {A = Result Y CaptureFault} (Err a) (Err b)
told_on {X} {Y} {a} {b} e = ap (λ (f : CaptureFault). Err f) (same_fault a b e)

-- Agreement of results with their source.

-- A result without a device fault, from a source that hasn't failed, agrees with the source.
pub told_sound : {S X : Type 0} {has_failed never_fails : S → Bool} {old new : S} {result : Result X CaptureFault} → nat_eq (number_in result) 11 ≡ false → nat_eq (number_in result) 12 ≡ false
    → (has_failed old ≡ true → ⊥) → (never_fails old ≡ true → never_fails new ≡ true) → AgreesWithSource has_failed never_fails old new result
told_sound no_read no_write fresh lasts = record { failed = λ e. absurd (apart e no_read); sure = λ _ e. apart e no_read; lasts = lasts; broken = λ b. absurd (fresh b); no_write = λ e. apart e no_write }

-- A read fault from a failed source agrees with the source.
pub told_failed : {S X : Type 0} {has_failed never_fails : S → Bool} {old new : S} → has_failed new ≡ true → (never_fails old ≡ true → ⊥) → AgreesWithSource {S = S} {X = X} has_failed never_fails old new (Err faults.Read)
told_failed failed unsure = record { failed = λ _. failed; sure = λ s. absurd (unsure s); lasts = λ s. absurd (unsure s); broken = λ _. refl; no_write = λ e. apart e refl }

-- A fault of a record's header agrees with a source that hasn't failed.
pub told_of_words : {S X : Type 0} {has_failed never_fails : S → Bool} {old new : S} (fault : CaptureFault) → IsRecordHeaderFault fault
    → (has_failed old ≡ true → ⊥) → (never_fails old ≡ true → never_fails new ≡ true) → AgreesWithSource {S = S} {X = X} has_failed never_fails old new (Err fault)
told_of_words fault is fresh lasts = record { failed = λ e. absurd (of_kind IsRecordHeaderFault fault faults.Read is (λ x. x) e); sure = λ _. of_kind IsRecordHeaderFault fault faults.Read is (λ x. x); lasts = lasts; broken = λ b. absurd (fresh b); no_write = of_kind IsRecordHeaderFault fault faults.Write is (λ x. x) }

-- Reading the octets of a record never gives a write fault.
not_written : (number count : ℕ) (old new : Option (List ℕ)) (fault : CaptureFault) → CutsOctets number count old new fault → fault ≡ faults.Write → ⊥
not_written number count old new fault cut e =
    let w = subst (CutsOctets number count old new) e cut in
    let no : faults.Write ≡ faults.RecordCut number = w.0 in cc

pub told_of_octets : {S X : Type 0} {has_failed never_fails : S → Bool} {old new : S} (mid : S) (number count : ℕ) (first left : Option (List ℕ)) (fault : CaptureFault) → CutsOctets number count first left fault
    → (◌≡◌ {A = Result X CaptureFault} (Err fault) (Err faults.Read) → has_failed new ≡ true) → (never_fails mid ≡ true → ◌≡◌ {A = Result X CaptureFault} (Err fault) (Err faults.Read) → ⊥) → (never_fails mid ≡ true → never_fails new ≡ true)
    → (has_failed old ≡ true → ⊥) → (never_fails old ≡ true → never_fails mid ≡ true) → {Y : Type 0} → AgreesWithSource {S = S} {X = Y} has_failed never_fails old new (Err fault)
told_of_octets mid number count first left fault cut failed sure lasts fresh kept = record { failed = λ e. failed (told_on e); sure = λ s e. sure (kept s) (told_on e); lasts = λ s. lasts (kept s); broken = λ b. absurd (fresh b); no_write = λ e. not_written number count first left fault cut (same_fault fault faults.Write e) }
