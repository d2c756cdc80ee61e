use Rattle.std.proofs.Common.{[], string_bytes}
use Rattle.net_latency.specs.SharedWarnings.{shared_warning}
use Rattle.net_latency.proofs.Lined.{all_pieces, piece_more}
use Rattle.net_latency.proofs.marked_queues.rows_warnings.Goals as goal

pub loop-row-preserved : goal.loop-row-preserved
loop-row-preserved g c = piece_more shared_warning [] c.args.rows.now c.loop-row.row-index _ (string_bytes c.loop-row.text) (string_bytes c.push_shared_warning.new.text) c.loop-row-test.true c.loop-row.invariant c.in-Ok.ensures

pub returns : goal.returns
returns g c = all_pieces shared_warning [] c.args.rows.now c.loop-row.row-index (string_bytes c.loop-row.text) c.loop-row-test.false c.loop-row.invariant
