use Rattle.std.proofs.Common.{◌++◌, ap}
use Rattle.std.specs.Prelude.{codes, decimal}
use Rattle.net_report.specs.StreamTable.{hop_start}
use Rattle.bridge_text.proofs.Puts.{put_as, put_count, put_piece}
use Rattle.net_report.proofs.stream_table.put_hop_start.Goals as goal

pub returns : goal.returns
unfolding hop_start
returns g c =
    let e = codes "," in
    put_piece _ _ _ _ _ c.put.ensures (put_piece _ _ _ _ _ c.put-2.ensures (put_piece _ _ _ _ _ c.put-3.ensures (put_piece _ _ _ _ _ c.put-4.ensures
    (put_count _ _ _ _ e _ c.put_number_with_suffix.ensures (put_count _ _ _ _ e _ c.put_number_with_suffix-2.ensures (put_as _ _ _ _ c.put_wide_with_suffix.ensures (ap (λ n. decimal n ++ codes ",") c.lost_copies.ensures)))))))
