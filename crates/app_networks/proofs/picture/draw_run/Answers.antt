use Rattle.std.proofs.Common.{List, subst, sym}
use Rattle.net_file.specs.Model.{Stream}
use Rattle.app_networks.specs.InTime.{HaveViews}
use Rattle.app_networks.proofs.picture.draw_run.Goals as goal

pub include_streams-requires : goal.include_streams-requires
include_streams-requires c = subst (λ (ss : List Stream). HaveViews c.args.settled.now ss) (sym c.streams.ensures.streams) c.requires

pub put_all_streams-requires : goal.put_all_streams-requires
put_all_streams-requires c = subst (λ (ss : List Stream). HaveViews c.args.settled.now ss) (sym c.streams-2.ensures.streams) c.requires
