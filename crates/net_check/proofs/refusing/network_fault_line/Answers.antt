use Rattle.std.specs.Prelude.{string_bytes}
use Rattle.bridge_text.proofs.Puts.{whole_if}
use Rattle.net_check.proofs.refusing.network_fault_line.Goals as goal

pub returns : goal.returns
returns g c = whole_if string_bytes c.finish.result _ _ _ c.new-text.ensures c.put_network_fault.ensures c.finish.ensures.text
