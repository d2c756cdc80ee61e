use Rattle.std.proofs.Common.{◌≡◌, ◌++◌, OnOk, string_bytes, subst, sym}
use Rattle.net_latency.specs.SharedWarnings.{lossy_words}
use Rattle.net_latency.proofs.marked_queues.push_lossy_warning.Goals as goal

pub returns-in-None : goal.returns-in-None
returns-in-None g c =
    subst (λ r. OnOk c.push_queue_warning.result (string_bytes c.push_queue_warning.new.text ≡ string_bytes c.args.text.now ++ lossy_words r c.args.row.now))
    (sym c.in-None.is) c.push_queue_warning.ensures
