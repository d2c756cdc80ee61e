-- Files that are written one after another.
use Rattle.std.proofs.Common.{◌≡◌, ℕ, zero, suc, List, Option, [], ◌∷◌, ◌++◌, Some, length, refl, ap, subst, slice_get}
use Rattle.app_files.specs.declared.output.Output.{Output}
use Rattle.app_networks.specs.OutputFiles.{AreWrittenBy}

-- The contents of an output are the contents of its file.
abbrev pub file_contents : {F : Type 0} → (F → Option (List ℕ)) → Output F → Option (List ℕ)
file_contents contents output = contents output.file

same_source : {S : Type 0} (s source : S) → Some s ≡ Some source → source ≡ s
same_source s source same = cc

-- The files with one more.
pub written_push : {O S : Type 0} (R : O → S → O → Type 0) (olds : List O) (sources : List S) (news : List O) (old : O) (source : S) (new : O)
    → AreWrittenBy R olds sources news → slice_get sources (length olds) ≡ Some source → R old source new → AreWrittenBy R (olds ++ old ∷ []) sources (news ++ new ∷ [])
written_push R [] [] [] old source new are at is = absurd (cc)
written_push {O} {S} R [] (s ∷ ss) [] old source new are at is = (subst (λ (x : S). R old x new) (same_source s source at) is, tt)
written_push R [] ss (n ∷ ns) old source new are at is = absurd are
written_push R (o ∷ os) [] ns old source new are at is = absurd are
written_push R (o ∷ os) (s ∷ ss) [] old source new are at is = absurd are
written_push R (o ∷ os) (s ∷ ss) (n ∷ ns) old source new are at is = (are.0, written_push R os ss ns old source new are.1 at is)

-- As many files are written as there were outputs.
pub written_many : {O S : Type 0} (R : O → S → O → Type 0) (olds : List O) (sources : List S) (news : List O) → AreWrittenBy R olds sources news → length news ≡ length olds
written_many R [] ss [] are = refl
written_many R [] ss (n ∷ ns) are = absurd are
written_many R (o ∷ os) [] ns are = absurd are
written_many R (o ∷ os) (s ∷ ss) [] are = absurd are
written_many R (o ∷ os) (s ∷ ss) (n ∷ ns) are = ap suc (written_many R os ss ns are.1)
