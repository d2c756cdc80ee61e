use Rattle.net_latency.specs.TrafficText.{timing_line}
use Rattle.bridge_text.proofs.Puts.{put_as, put_piece}
use Rattle.net_latency.proofs.timings.put_timing_line.Goals as goal

pub returns : goal.returns
unfolding timing_line
returns g c = put_piece _ _ _ _ _ c.put_queue.ensures (put_piece _ _ _ _ _ c.put.ensures (put_piece _ _ _ _ _ (put_as _ _ _ _ c.put-2.ensures c.passing_word.ensures) (put_piece _ _ _ _ _ c.put_timing_words.ensures (put_piece _ _ _ _ _ c.put_deadline.ensures c.put-3.ensures))))
