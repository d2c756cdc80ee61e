use Rattle.std.proofs.Common.{List, Option, ℕ, ap, sym, subst}
use Rattle.std.specs.Prelude.{IfSome}
use Rattle.bridge_cycle.specs.Cyclic.{Cyclic}
use Rattle.bridge_gate.specs.declared.schedule.GateEntry.{GateEntry}
use Rattle.bridge_groups.specs.MergedGates.{AreMergedEntries}
use Rattle.bridge_groups.proofs.MergedGates.{merged_is}
use Rattle.bridge_groups.proofs.merged_gates.merged_list.Goals as goal

pub returns-in-Ok-new : goal.returns-in-Ok-new
returns-in-Ok-new g c =
    let is = c.in-Ok-new.ensures.list in
    let found = subst (λ (o : Option _). IfSome o (λ v. AreMergedEntries c.args.lists.now v.items 0 c.in-Some.cycle)) c.in-Some-found.is c.in-Ok.ensures in
    let entries = subst (λ (es : List (GateEntry × ℕ)). AreMergedEntries c.args.lists.now es 0 c.in-Some.cycle) (sym (ap (λ (l : Cyclic GateEntry). l.entries) is)) found in
    merged_is c.args.lists.now c.requires.lawful c.in-Some.cycle c.in-Some.ensures.common c.in-Ok-new.list c.cycle.ensures.lawful (ap (λ (l : Cyclic GateEntry). l.base) is) (ap (λ (l : Cyclic GateEntry). l.cycle) is) entries
