use Rattle.std.proofs.Common.{[], codes, string_bytes}
use Rattle.net_latency.specs.SharedWarnings.{queue_fault}
use Rattle.net_latency.proofs.MarkedQueues.{then_more}
use Rattle.net_latency.proofs.marked_queues.push_small_warning.Goals as goal

pub returns : goal.returns
returns g c =
    then_more c.push_small_remedy.result (string_bytes c.args.text.now) (string_bytes c.push_queue_fault.new.text) _ (queue_fault [] (codes " may lose frames") c.args.row.now) _
    c.in_ok-push_queue_fault.ensures c.push_small_remedy.ensures
