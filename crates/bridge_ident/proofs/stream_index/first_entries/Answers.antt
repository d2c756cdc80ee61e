use Rattle.std.proofs.Common.{nat_eq, arith}
use Rattle.indexmap.specs.IndexMap.{get}
use Rattle.bridge_ident.specs.StreamIndex.{first_entry, entry_key}
use Rattle.bridge_ident.proofs.Walks.{next_place, none_left}
use Rattle.bridge_ident.proofs.stream_index.first_entries.Goals as goal

pub loop-place-preserved : goal.loop-place-preserved
loop-place-preserved g c = record {
  found = λ port vid address k.
      let i = c.loop-place.place in
      let es = c.args.entries.now in
      next_place c.args.kind c.args.tagged es i _ (get nat_eq c.loop-place.firsts (entry_key port vid address)) (get nat_eq c.index_entry.new.firsts (entry_key port vid address)) (first_entry c.args.kind c.args.tagged 0 es port vid address) port vid address (omega arith) (c.in-Ok-index_entry.ensures.found port vid address k) (c.loop-place.invariant.found port vid address k);
  marked = c.in-Ok-index_entry.ensures.marked c.loop-place.invariant.marked;
}

pub returns-clause-found : goal.returns-clause-found
returns-clause-found g c = record { found = λ port vid address k. none_left c.args.kind c.args.tagged c.args.entries.now c.loop-place.place (get nat_eq c.loop-place.firsts (entry_key port vid address)) (first_entry c.args.kind c.args.tagged 0 c.args.entries.now port vid address) port vid address c.loop-place-test.false (c.loop-place.invariant.found port vid address k) }
