use Rattle.std.proofs.Common.{Global, ◌∙◌}
use Rattle.app_commands.proofs.ReadTexts.{unread_checked}
use Rattle.app_networks.proofs.bounds.bound_plan.Goals as goal

pub returns-in-Err-clause-fails : goal.returns-in-Err-clause-fails
returns-in-Err-clause-fails g c = unread_checked Global (g.F.ReadFiles.octets_at c.args.files.now) c.args.plan.now c.in-Err.fault c.in-Err.ensures.fails

pub returns-in-Ok-bounded-clause-ok : goal.returns-in-Ok-bounded-clause-ok
returns-in-Ok-bounded-clause-ok g c = (c.deref.result.now, (λ octets told. c.deref.ensures.value ∙ c.in-Ok.ensures.text octets told), c.in-Ok-bounded.ensures.ok)

pub returns-in-Err-bounded-clause-fails : goal.returns-in-Err-bounded-clause-fails
returns-in-Err-bounded-clause-fails g c = (c.deref.result.now, (λ octets told. c.deref.ensures.value ∙ c.in-Ok.ensures.text octets told), c.in-Err-bounded.ensures.fails)
