use Rattle.std.proofs.Common.{◌<◌, ◌∙◌, length}
use Rattle.bridge_check.proofs.Led.{led_more, led_past}
use Rattle.bridge_check.proofs.reach.destination_ports.Goals.{then-stream-handle, else-stream-handle}
use Rattle.bridge_check.proofs.reach.destination_ports.Goals as goal

pub loop-stream-preserved : goal.loop-stream-preserved
loop-stream-preserved g c =
    let p = c.args.plan.now in
    let h = c.args.handle in
    let k = c.loop-stream.stream-index in
    let same = c.streams-stream-items.ensures.streams in
    let inside : k < length p.streams = rw same at c.loop-stream-test.true in
    elim c.if-stream-handle.branch [
      | then-stream-handle w ↦
          let own = rw same at w.if-stream-handle.true in
          let set = rw same at w.forward-set.ensures.ports in
          w.ports-is ∙ w.mark_ports.ensures ∙ (rw set (led_more 16 p.database h p.streams k _ c.loop-stream.ports inside own c.loop-stream.invariant))
      | else-stream-handle w ↦
          let other = rw same at w.if-stream-handle.false in
          w.ports-is ∙ c.loop-stream.invariant ∙ led_past 16 p.database h p.streams k _ inside other
    ]
