use Rattle.net_file.proofs.Own.{streams_more}
use Rattle.net_file.proofs.stream_row.StreamSectionSectionReader.read.Goals as goal

pub returns-clause-keeps : goal.returns-clause-keeps
returns-clause-keeps g c = streams_more _ _ _ c.requires.keeps c.read_stream.ensures.own c.read_stream.ensures.stream
