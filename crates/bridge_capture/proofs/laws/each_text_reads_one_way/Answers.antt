use Rattle.bridge_capture.proofs.OneWay.{one_way}
use Rattle.bridge_capture.proofs.laws.each_text_reads_one_way.Goals as goal

pub returns : goal.returns
returns c = one_way
