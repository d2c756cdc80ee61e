use Rattle.std.specs.Prelude.{codes}
use Rattle.net_report.specs.StreamTable.{reason_words}
use Rattle.bridge_text.proofs.Puts.{put_count}
use Rattle.net_report.proofs.stream_table.put_loss_causes.Goals as goal

pub returns : goal.returns
unfolding reason_words
returns g c =
    let e = codes "," in
    put_count _ _ _ _ e _ c.put_number_with_suffix.ensures (put_count _ _ _ _ e _ c.put_number_with_suffix-2.ensures (put_count _ _ _ _ e _ c.put_number_with_suffix-3.ensures
    (put_count _ _ _ _ e _ c.put_number_with_suffix-4.ensures (put_count _ _ _ _ e _ c.put_number_with_suffix-5.ensures (put_count _ _ _ _ e _ c.put_number_with_suffix-6.ensures
    (put_count _ _ _ _ e _ c.put_number_with_suffix-7.ensures (put_count _ _ _ _ e _ c.put_number_with_suffix-8.ensures (put_count _ _ _ _ e _ c.put_number_with_suffix-9.ensures c.put_number_with_suffix-10.ensures))))))))
