use Rattle.std.proofs.Common.{List, Option, subst, sym, ℕ}
use Rattle.std.specs.Io.KnownBytes.{Appends}
use Rattle.app_files.proofs.writing.write_content.Goals as goal

pub returns-in-Ok-finish_file-clause-written : goal.returns-in-Ok-finish_file-clause-written
returns-in-Ok-finish_file-clause-written g c =
    subst (λ (o : Option (List ℕ)). Appends (g.F.Write.contents c.args.output.file) o (g.C.Content.octets c.args.content.now)) (sym c.in-Ok-finish_file.ensures.kept) c.in-Ok.ensures
