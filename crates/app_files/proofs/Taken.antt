-- Files that are added to a list.
use Rattle.std.proofs.Common.{List, [], ◌∷◌, ◌++◌, Option, Some, None, append-nil, append_assoc, sym, ap, ◌∙◌}
use Rattle.app_files.specs.Taken.{BeginWith, with_known}
use Rattle.app_files.specs.declared.output.FileId.{FileId}

pub begin_self : (xs : List FileId) → BeginWith xs xs
begin_self xs = ([], sym (append-nil xs))

-- The list with one more file, if it is known.
pub begin_known : (xs ys : List FileId) (file : Option FileId) → BeginWith xs ys → BeginWith xs (with_known ys file)
begin_known xs ys None h = h
begin_known xs ys (Some file) h = (h.0 ++ file ∷ [], ap (λ l. l ++ file ∷ []) h.1 ∙ append_assoc xs h.0 (file ∷ []))
