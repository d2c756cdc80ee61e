use Rattle.std.proofs.Common.{◌<◌, ◌∙◌, length}
use Rattle.net_model.proofs.EntryPorts.{marked_more, marked_past}
use Rattle.net_model.proofs.entry_ports.entry_ports.Goals.{then-entry-handle, else-entry-handle}
use Rattle.net_model.proofs.entry_ports.entry_ports.Goals as goal

pub loop-entry-preserved : goal.loop-entry-preserved
loop-entry-preserved g c =
    let p = c.args.plan.now in
    let h = c.args.handle in
    let k = c.loop-entry.entry-index in
    let same = c.streams-entry-items.ensures.streams in
    let inside : k < length p.streams = rw same at c.loop-entry-test.true in
    elim c.if-entry-handle.branch [
      | then-entry-handle w ↦
          let own = rw same at w.if-entry-handle.true in
          w.ports-is ∙ w.mark_port.ensures ∙ (rw same (marked_more 16 h p.streams k _ c.loop-entry.ports inside own c.loop-entry.invariant))
      | else-entry-handle w ↦
          let other = rw same at w.if-entry-handle.false in
          w.ports-is ∙ c.loop-entry.invariant ∙ marked_past 16 h p.streams k _ inside other
    ]
