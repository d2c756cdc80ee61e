use Rattle.std.proofs.Common.{◌≡◌, ◌+◌, ◌∙◌, false, None, sym, ap}
use Rattle.bridge_check.specs.Faults.{first_option}
use Rattle.net_model.specs.Faults.{first_taken_at_port_number, has_entry}
use Rattle.net_model.specs.TestedNetwork.{tested_parts}
use Rattle.net_model.proofs.Firsts.{first_right}
use Rattle.net_model.proofs.EntryPorts.{none_at_port}
use Rattle.net_model.proofs.network_tests.TestedHop.first_or_frame_on_port.Goals as goal

pub returns-then-not-is_entry_index : goal.returns-then-not-is_entry_index
returns-then-not-is_entry_index g c =
    let h = c.args.self.now in
    let none : has_entry h.next.now (c.args.j + 1) h.handle ≡ false = sym c.is_entry_index.ensures ∙ c.if-not-is_entry_index.true in
    let no_frames : first_taken_at_port_number c.args.question (tested_parts h.case) h.stream.now h.hop h.next.now (c.args.j + 1) ≡ None = none_at_port c.args.question h (c.args.j + 1) c.requires.case none in
    sym (ap (first_option c.args.before) no_frames ∙ first_right c.args.before)
