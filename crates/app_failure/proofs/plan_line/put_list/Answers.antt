use Rattle.std.specs.Prelude.{codes}
use Rattle.bridge_text.proofs.Puts.{put_pair, put_piece}
use Rattle.app_failure.proofs.plan_line.put_list.Goals as goal

pub returns : goal.returns
returns g c = put_pair _ _ _ (codes "plan refused: ") _ _ c.put_refused_plan.ensures (put_piece _ _ _ _ _ c.put.ensures (put_piece _ _ _ _ _ c.put_section_instance.ensures (put_piece _ _ _ _ _ c.put-2.ensures c.put-3.ensures)))
