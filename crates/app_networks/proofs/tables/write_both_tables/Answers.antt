use Rattle.std.proofs.Common.{refl}
use Rattle.app_networks.proofs.Rows.{in_list, no_streams, streams_all, streams_more}
use Rattle.app_networks.proofs.Told.{counts_all, counts_more}
use Rattle.app_networks.proofs.tables.write_both_tables.Goals as goal

pub put_stream_rows-requires : goal.put_stream_rows-requires
put_stream_rows-requires g c =
    c.requires.views c.stream-item.result
    (in_list c.args.file.now.streams c.streams-stream-items.result.now c.loop-place.place c.stream-item.result c.stream-item.result c.streams-stream-items.ensures.streams c.loop-place-test.true c.stream-item.is)

pub loop-place-init : goal.loop-place-init
loop-place-init g c = record {
  counts = λ n m counts. counts;
  tables = no_streams c.args.links.now c.args.settled.now c.args.file.now.bridges (g.V.Write.contents c.args.streams.now) (g.W.Write.contents c.args.frames.now);
}

pub loop-place-preserved : goal.loop-place-preserved
loop-place-preserved g c =
    let links = c.args.links.now in
    let settled = c.args.settled.now in
    let streams = c.args.file.now.streams in
    let here = c.streams-stream-items.result.now in
    let figures = c.args.figures.now in
    let i = c.loop-place.place in
    let s = c.stream-item.result in
    let more = c.in_ok-more.more in
    record {
      counts = counts_more links settled streams here i s s c.loop-place.totals.frames c.loop-place.totals.delivered more.frames more.delivered c.saturating_add.result c.saturating_add-in-loop-place.result
          c.streams-stream-items.ensures.streams c.loop-place-test.true c.stream-item.is c.in_ok-more.ensures.2.count c.saturating_add.ensures c.saturating_add-in-loop-place.ensures c.loop-place.invariant.counts;
      tables = streams_more links settled c.args.file.now.bridges streams here figures i s s _ _ more.frames more.delivered
          (g.V.Write.contents c.args.streams.now) (g.V.Write.contents c.loop-place.streams) (g.V.Write.contents c.put_stream_rows.new.streams)
          (g.W.Write.contents c.args.frames.now) (g.W.Write.contents c.loop-place.frames) (g.W.Write.contents c.put_stream_rows.new.frames)
          c.streams-stream-items.ensures.streams c.requires.figures c.loop-place-test.true c.stream-item.is refl c.loop-place.invariant.tables c.in_ok-more.ensures;
    }

pub returns-clause-counts : goal.returns-clause-counts
returns-clause-counts g c =
    counts_all c.args.links.now c.args.settled.now c.args.file.now.streams c.streams-stream-items.result.now c.loop-place.place c.loop-place.totals.frames c.loop-place.totals.delivered
    c.streams-stream-items.ensures.streams c.loop-place-test.false c.loop-place.invariant.counts

pub returns-clause-tables : goal.returns-clause-tables
returns-clause-tables g c =
    streams_all c.args.links.now c.args.settled.now c.args.file.now.bridges c.args.file.now.streams c.streams-stream-items.result.now c.args.figures.now c.loop-place.place
    (g.V.Write.contents c.args.streams.now) (g.V.Write.contents c.loop-place.streams) (g.W.Write.contents c.args.frames.now) (g.W.Write.contents c.loop-place.frames)
    c.streams-stream-items.ensures.streams c.requires.figures c.loop-place-test.false c.loop-place.invariant.tables
