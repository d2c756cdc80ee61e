use Rattle.std.proofs.Common.{ap, sym}
use Rattle.std.specs.Prelude.{codes}
use Rattle.net_report.specs.StreamTable.{hop_delay_words}
use Rattle.bridge_text.proofs.Puts.{put_as, put_count}
use Rattle.net_report.proofs.stream_table.put_hop_delays.Goals as goal

pub returns-in-Some : goal.returns-in-Some
returns-in-Some g c =
    put_as _ _ _ _ (put_count _ _ _ _ (codes ",") _ c.put_number_with_suffix.ensures c.put_number_with_suffix-in-Some.ensures) (ap hop_delay_words (sym c.in-Some.is))
