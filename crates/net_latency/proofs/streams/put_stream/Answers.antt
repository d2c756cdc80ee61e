use Rattle.std.proofs.Common.{refl}
use Rattle.bridge_text.proofs.Puts.{put_as, put_piece}
use Rattle.net_latency.specs.Streams.{stream_line}
use Rattle.net_latency.proofs.streams.put_stream.Goals as goal

pub returns-clause-text : goal.returns-clause-text
unfolding stream_line
returns-clause-text g c = put_as _ _ _ _ (put_piece _ _ _ _ _ c.put.ensures (put_piece _ _ _ _ _ c.put-2.ensures (put_piece _ _ _ _ _ c.put-3.ensures (put_piece _ _ _ _ _ c.put_latency.ensures (put_piece _ _ _ _ _ c.put_deadline.ensures (put_piece _ _ _ _ _ c.put_margin.ensures c.put-4.ensures))))))
    (rw (c.worst_latency-worst.ensures, c.stream_bound-bound.ensures, c.name.ensures, c.hops.ensures, c.deadline-deadline.ensures, c.arrival_word.ensures, c.is_passing-passes.ensures, c.talker.ensures) refl)
