use Rattle.std.specs.Prelude.{codes, string_bytes}
use Rattle.net_report.specs.StreamTable.{stream_line}
use Rattle.bridge_text.proofs.Puts.{put_count, put_piece, whole_if}
use Rattle.net_report.proofs.stream_table.stream_line.Goals as goal

pub returns : goal.returns
unfolding stream_line
returns g c = whole_if string_bytes c.finish.result _ _ _ c.new-text.ensures
    (put_piece _ _ _ _ _ c.put_stream_start.ensures (put_piece _ _ _ _ _ c.put_statistics.ensures (put_count _ _ _ _ (codes ",") _ c.put_wide_with_suffix.ensures (put_piece _ _ _ _ _ c.put_deadline.ensures (put_piece _ _ _ _ _ c.put.ensures
    (put_piece _ _ _ _ _ c.put_worst.ensures (put_piece _ _ _ _ _ c.put_margin.ensures c.put-2.ensures))))))) c.finish.ensures.text
