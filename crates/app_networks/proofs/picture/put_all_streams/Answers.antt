use Rattle.std.proofs.Common.{ℕ, List, refl, subst, sym}
use Rattle.app_networks.specs.InTime.{HaveViewsOf}
use Rattle.app_networks.proofs.Rows.{in_list}
use Rattle.app_networks.proofs.picture.put_all_streams.Goals as goal

pub hop_runs-requires : goal.hop_runs-requires
hop_runs-requires c =
    subst (λ (hs : List (ℕ × ℕ)). HaveViewsOf c.args.settled.now hs) (sym c.hops.ensures)
    (c.requires c.stream-item.result (in_list c.args.streams.now c.args.streams.now c.loop-stream.stream-index c.stream-item.result c.stream-item.result refl c.loop-stream-test.true c.stream-item.is))
