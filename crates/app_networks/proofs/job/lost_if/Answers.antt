use Rattle.std.proofs.Common.{rules, string_bytes}
use Rattle.app_networks.proofs.Losses.{told_if, untold_if}
use Rattle.app_networks.proofs.job.lost_if.Goals as goal

pub returns-then-is_strict : goal.returns-then-is_strict
returns-then-is_strict c =
    told_if string_bytes c.fault_lines.result c.args.is_strict c.args.network.now.links c.links.result.now c.args.settled.now c.args.file.now c.if-is_strict.true c.links.ensures c.fault_lines.ensures

pub returns-else-is_strict : goal.returns-else-is_strict
returns-else-is_strict c = untold_if c.args.is_strict c.args.network.now.links c.args.settled.now c.args.file.now _ c.if-is_strict.false (search rules)
