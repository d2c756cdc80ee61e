use Rattle.std.proofs.Common.{Some, inl, refl, ◌∙◌}
use Rattle.std.proofs.KnownBytes.{Keeps-refl}
use Rattle.app_commands.proofs.Runs.{stops_kept, wires_kept}
use Rattle.app_commands.proofs.captures.wire_capture.Goals as goal

pub returns-in-Ok-ran-clause-ok : goal.returns-in-Ok-ran-clause-ok
returns-in-Ok-ran-clause-ok g c = λ text told.
    wires_kept _ _ text _ _ _ _ _ c.in-Ok-new.ensures.contents (c.in-Ok-ran.ensures.ok text (c.in-Ok.ensures.remaining ∙ told)) c.in-Ok-finish.ensures.contents

pub returns-clause-err : goal.returns-clause-err
returns-clause-err g c = λ text told.
    (_, stops_kept _ _ text _ _ _ _ _ c.in-Err.fault c.in-Ok-new.ensures.contents (c.in-Err.ensures.err text (c.in-Ok.ensures.remaining ∙ told)) c.in-Ok-finish.ensures.contents)

pub returns-in_default-clause-err : goal.returns-in_default-clause-err
returns-in_default-clause-err g c = λ text told. (Some text, inl (record { looks = inl refl; untouched = Keeps-refl (g.W.Write.contents c.args.writer) }))
