use Rattle.std.proofs.Common.{nat_eq, arith}
use Rattle.indexmap.specs.IndexMap.{get}
use Rattle.bridge_forward.specs.Database.{static_ports}
use Rattle.bridge_frame.specs.Addresses.{address_key}
use Rattle.bridge_forward.proofs.Entries.{next_entry}
use Rattle.bridge_forward.proofs.lookup_tables.make_static_table.Goals as goal

pub loop-entry-preserved : goal.loop-entry-preserved
loop-entry-preserved g c = λ vid address k.
    let l = c.loop-entry in
    next_entry c.args.statics.now l.entry-index c.entry-item.result (get nat_eq l.entries (address_key vid address)) (get nat_eq c.insert_static.new.entries (address_key vid address)) (static_ports c.args.statics.now vid address) vid address (let z = c.loop-entry-test.true in omega arith) c.entry-item.is (c.in-Ok-insert_static.ensures vid address k) (l.invariant vid address k)
