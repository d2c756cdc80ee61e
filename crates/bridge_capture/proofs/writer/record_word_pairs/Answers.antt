use Rattle.bridge_capture.proofs.Words.{pairs_are_words}
use Rattle.bridge_capture.proofs.writer.record_word_pairs.Goals as goal

pub returns : goal.returns
returns c = pairs_are_words c.args.done c.args.captured c.args.len c.requires c.ranges.captured.fits c.ranges.len.fits
