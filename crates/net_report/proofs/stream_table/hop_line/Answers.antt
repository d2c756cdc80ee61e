use Rattle.std.specs.Prelude.{string_bytes}
use Rattle.net_report.specs.StreamTable.{hop_line}
use Rattle.bridge_text.proofs.Puts.{put_piece, whole_if}
use Rattle.net_report.proofs.stream_table.hop_line.Goals as goal

pub returns : goal.returns
unfolding hop_line
returns g c = whole_if string_bytes c.finish.result _ _ _ c.new-text.ensures
    (put_piece _ _ _ _ _ c.put_hop_start.ensures (put_piece _ _ _ _ _ c.put_loss_causes.ensures (put_piece _ _ _ _ _ c.put.ensures (put_piece _ _ _ _ _ c.put_statistics.ensures (put_piece _ _ _ _ _ c.put-2.ensures c.put_hop_delays.ensures))))) c.finish.ensures.text
