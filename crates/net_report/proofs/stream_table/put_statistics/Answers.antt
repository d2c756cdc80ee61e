use Rattle.std.proofs.Common.{ap, sym}
use Rattle.std.specs.Prelude.{codes}
use Rattle.net_report.specs.StreamTable.{statistics_words}
use Rattle.bridge_text.proofs.Puts.{put_as, put_count}
use Rattle.net_report.proofs.stream_table.put_statistics.Goals as goal

pub returns-in-Some : goal.returns-in-Some
returns-in-Some g c =
    let e = codes "," in
    put_as _ _ _ _ (put_count _ _ _ _ e _ c.put_number_with_suffix.ensures (put_count _ _ _ _ e _ c.put_wide_with_suffix.ensures (put_count _ _ _ _ e _ c.put_number_with_suffix-in-Some.ensures c.put_number_with_suffix-in-Some-2.ensures))) (ap statistics_words (sym c.in-Some.is))
