use Rattle.std.proofs.Common.{IfErr, string_bytes, subst, ◌∙◌}
use Rattle.app_commands.specs.Jobs.{RefusesText}
use Rattle.app_commands.proofs.Looks.{refuses, text_printed, text_refused}
use Rattle.app_commands.proofs.jobs.text_job.Goals as goal

pub returns-in-Ok-wire_text-clause-ok : goal.returns-in-Ok-wire_text-clause-ok
returns-in-Ok-wire_text-clause-ok g c = λ input told.
    text_printed c.deref.result.now input (string_bytes c.in-Ok-wire_text.lines) (c.deref.ensures.value ∙ c.in-Ok.ensures.octets input told) c.in-Ok-wire_text.ensures.ok

pub returns-clause-err : goal.returns-clause-err
returns-clause-err g c = λ input told.
    text_refused c.deref.result.now input c.in-Err-wire_text.fault c.wire_text.result (c.deref.ensures.value ∙ c.in-Ok.ensures.octets input told) c.in-Err-wire_text.is
    c.wire_text.ensures.not_hex c.wire_text.ensures.too_long c.wire_text.ensures.run c.wire_text.ensures.spelled

pub returns-in-Ok-wire_text-clause-read : goal.returns-in-Ok-wire_text-clause-read
returns-in-Ok-wire_text-clause-read g c = (c.deref.result.now, c.in-Ok-wire_text.ensures.ok)

pub returns-clause-only : goal.returns-clause-only
returns-clause-only g c = (c.deref.result.now, subst (λ r. IfErr r (RefusesText c.deref.result.now)) c.in-Err-wire_text.is (refuses c.deref.result.now c.wire_text.result c.wire_text.ensures.not_hex c.wire_text.ensures.too_long c.wire_text.ensures.run c.wire_text.ensures.spelled))
