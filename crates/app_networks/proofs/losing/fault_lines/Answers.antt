use Rattle.std.proofs.Common.{string_bytes}
use Rattle.app_networks.proofs.Losses.{all_told, lines_at, no_lines}
use Rattle.app_networks.proofs.Rows.{in_list}
use Rattle.app_networks.proofs.losing.fault_lines.Goals as goal

pub put_stream_lines-requires : goal.put_stream_lines-requires
put_stream_lines-requires c =
    c.requires c.stream-item.result
    (in_list c.args.file.now.streams c.streams-stream-items.result.now c.loop-stream.stream-index c.stream-item.result c.stream-item.result c.streams-stream-items.ensures.streams c.loop-stream-test.true c.stream-item.is)

pub loop-stream-init : goal.loop-stream-init
loop-stream-init c = no_lines c.args.links.now c.args.settled.now c.args.file.now.bridges _

pub loop-stream-preserved : goal.loop-stream-preserved
loop-stream-preserved c =
    lines_at c.args.links.now c.args.settled.now c.args.file.now.bridges c.bridges.result.now c.args.file.now.streams c.streams-stream-items.result.now c.loop-stream.stream-index c.stream-item.result c.stream-item.result _ _ _
    c.bridges.ensures.bridges c.streams-stream-items.ensures.streams c.loop-stream-test.true c.stream-item.is c.loop-stream.invariant c.in_ok-put_stream_lines.ensures

pub returns : goal.returns
returns c =
    all_told string_bytes c.finish.result c.args.links.now c.args.settled.now c.args.file.now.bridges c.args.file.now.streams c.streams-stream-items.result.now c.loop-stream.stream-index _ _
    c.new-text.ensures c.streams-stream-items.ensures.streams c.loop-stream-test.false c.loop-stream.invariant c.finish.ensures.text
