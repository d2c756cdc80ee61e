use Rattle.std.proofs.Common.{◌∙◌}
use Rattle.bridge_meter.proofs.Stands.{stands_step, step_plan, step_at}
use Rattle.bridge_meter.proofs.Meter.colour.Goals as goal

pub returns : goal.returns
returns c = record {
  plan = rw c.judge_frame.ensures.step (step_plan c.args.self.now _ _ _);
  at = rw c.judge_frame.ensures.step (step_at c.args.self.now _ _ _);
  stands = λ plan events st. rw c.judge_frame.ensures.step (stands_step plan _ events _ _ _ st c.requires).0;
  colour = λ plan events st. c.judge_frame.ensures.reply ∙ (stands_step plan _ events _ _ _ st c.requires).1;
}
