use Rattle.std.proofs.Common.{Global, ◌∙◌}
use Rattle.app_commands.proofs.ReadTexts.{unread_checked}
use Rattle.app_commands.proofs.check.check_file.Goals as goal

pub returns-in-Err-clause-err : goal.returns-in-Err-clause-err
returns-in-Err-clause-err g c = unread_checked Global (g.F.ReadFiles.octets_at c.args.files.now) c.args.path.now c.in-Err.fault c.in-Err.ensures.fails

pub returns-in-Ok-checked-clause-ok : goal.returns-in-Ok-checked-clause-ok
returns-in-Ok-checked-clause-ok g c = (c.deref.result.now, (λ octets told. c.deref.ensures.value ∙ c.in-Ok.ensures.text octets told), c.in-Ok-checked.ensures.ok)

pub returns-in-Err-checked-clause-err : goal.returns-in-Err-checked-clause-err
returns-in-Err-checked-clause-err g c = (c.deref.result.now, (λ octets told. c.deref.ensures.value ∙ c.in-Ok.ensures.text octets told), c.in-Err-checked.ensures.err)
