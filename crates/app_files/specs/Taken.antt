-- Files in use, as far as the system identifies them.
use Rattle.std.specs.Prelude.{◌≡◌, List, [], ◌∷◌, ◌++◌, Option, Some, None, Contains}
use Rattle.app_files.specs.declared.output.FileId.{FileId}

-- Holds if both files are known and identical. An unknown file (`None`) equals no file.
abbrev pub IsSameFile : Option FileId → Option FileId → Type 0
IsSameFile (Some one) (Some other) = one ≡ other
IsSameFile one other = ⊥

-- Holds if the list `files` begins with the files of the list `first`.
abbrev pub BeginWith : List FileId → List FileId → Type 0
BeginWith first files = (more : List FileId) × (files ≡ first ++ more)

-- The list of files, with one more file if it is known.
abbrev pub with_known : List FileId → Option FileId → List FileId
with_known files None = files
with_known files (Some file) = files ++ file ∷ []

-- Holds if the file is known and in the list.
abbrev pub HasFile : List FileId → Option FileId → Type 0
HasFile files None = ⊥
HasFile files (Some file) = Contains files file
