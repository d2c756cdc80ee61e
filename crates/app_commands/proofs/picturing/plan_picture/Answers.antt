use Rattle.std.proofs.Common.{Global, inl, inr, refl, ◌∙◌}
use Rattle.app_commands.proofs.ReadTexts.{unread_planned}
use Rattle.app_commands.proofs.picturing.plan_picture.Goals as goal

pub returns-in-None-clause-err : goal.returns-in-None-clause-err
returns-in-None-clause-err g c = λ file. inr tt

pub returns-in-Err-clause-err : goal.returns-in-Err-clause-err
returns-in-Err-clause-err g c = λ file. inl (unread_planned Global (g.F.ReadFiles.octets_at c.args.files.now) c.args.plan.now c.in-Err.fault c.in-Err.ensures.fails)

pub returns-in-Err-read_plan-clause-err : goal.returns-in-Err-read_plan-clause-err
returns-in-Err-read_plan-clause-err g c = λ file. inl (c.as_slice.result.now, (λ octets told. c.as_slice.ensures.value ∙ c.in-Ok.ensures.text octets told), c.in-Err-read_plan.ensures.err c.as_slice.result.now refl)

pub returns-in-Some-clause-ok : goal.returns-in-Some-clause-ok
returns-in-Some-clause-ok g c = (c.in-Ok-read_plan.read, (c.as_slice.result.now, (λ octets told. c.as_slice.ensures.value ∙ c.in-Ok.ensures.text octets told), c.in-Ok-read_plan.ensures.ok c.as_slice.result.now refl))
