use Rattle.std.proofs.Common.{Global, None}
use Rattle.app_commands.proofs.ReadTexts.{picture_of}
use Rattle.app_commands.proofs.picture.draw_plan.Goals as goal

pub returns-in-Err-clause-fails : goal.returns-in-Err-clause-fails
returns-in-Err-clause-fails g c = picture_of Global (λ _. None) c.args.plan.now c.args.file.now c.in-Err.fault (c.in-Err.ensures.err c.args.file.now)
