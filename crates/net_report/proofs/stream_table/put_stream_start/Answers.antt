use Rattle.std.proofs.Common.{◌++◌, refl, ap}
use Rattle.std.specs.Prelude.{codes, decimal}
use Rattle.net_report.specs.StreamTable.{stream_start}
use Rattle.bridge_text.proofs.Puts.{put_as, put_count, put_piece}
use Rattle.net_report.proofs.stream_table.put_stream_start.Goals as goal

pub returns : goal.returns
unfolding stream_start
returns g c =
    let e = codes "," in
    put_piece _ _ _ _ _ c.put.ensures (put_piece _ _ _ _ _ c.put-2.ensures
    (put_count _ _ _ _ e _ c.put_number_with_suffix.ensures (put_count _ _ _ _ e _ (put_as _ _ _ _ c.put_number_with_suffix-2.ensures (ap (λ n. decimal n ++ e) c.delivered_frames-delivered.ensures))
    (put_count _ _ _ _ (codes ",,,,,,,,,,,") _ (put_as _ _ _ _ c.put_number_with_suffix-3.ensures (rw (c.saturating_sub.ensures, c.delivered_frames-delivered.ensures) refl)) (put_as _ _ _ _ c.put_wide_with_suffix.ensures (ap (λ n. decimal n ++ e) c.total_astray.ensures))))))
