use Rattle.std.proofs.Common.{◌≡◌, ◌++◌, take, flat_map, string_bytes}
use Rattle.net_check.specs.Warnings.{entering_text}
use Rattle.net_check.proofs.warnings.Named.push_entry_warnings.Given as goal

abbrev pub invariant-loop-on : goal.invariant-loop-on
invariant-loop-on g l =
    string_bytes l.text ≡ string_bytes l.initial.text ++ flat_map (entering_text l.self.file.now l.self.network.now l.i l.k l.hop l.plan) (take l.on-index l.plan.ports)
