use Rattle.std.proofs.Common.{arith}
use Rattle.indexmap.specs.Layout.{set_value_at}
use Rattle.indexmap.proofs.CallerLemmas.{keys-with_value_at}
use Rattle.bridge_gate.specs.Gates.{Asked}
use Rattle.bridge_filter.proofs.Numbered.{changes_at, changes_of, found_at, number_is}
use Rattle.bridge_filter.proofs.Shares.{gates_after, gates_before}
use Rattle.bridge_filter.proofs.gates_and_meters.ask_gate.Goals as goal

pub ask-requires-clause-time : goal.ask-requires-clause-time
ask-requires-clause-time g c =
    let at = c.pair_mut-gate in
    c.requires.before at.result.0.now at.result.1.now (found_at c.args.gates.now c.args.place at.result.0.now at.result.1.now at.ensures.unique at.ensures.value)

pub returns-clause-stand : goal.returns-clause-stand
returns-clause-stand g c = λ number rules share there stand.
    let at = c.pair_mut-gate in
    let m = c.args.gates.now in
    let k = at.result.0.now in
    let was = at.result.1.now in
    let is = c.ask.new.self in
    let change = changes_of m c.args.place k number was is (number_is m.entries c.args.place k number was at.ensures.value there) at.ensures.unique at.ensures.value in
    gates_after m.entries (set_value_at m.entries c.args.place is) number was is (Asked c.args.at c.args.sdu) change c.ask.ensures.stands rules share stand

pub returns-clause-answer : goal.returns-clause-answer
returns-clause-answer g c = λ number rules share there stand.
    let at = c.pair_mut-gate in
    let m = c.args.gates.now in
    let k = at.result.0.now in
    let was = at.result.1.now in
    let change = changes_of m c.args.place k number was was (number_is m.entries c.args.place k number was at.ensures.value there) at.ensures.unique at.ensures.value in
    c.ask.ensures.answer (rules number) (share number) (stand number was change.there)

pub returns-clause-before : goal.returns-clause-before
returns-clause-before g c =
    let at = c.pair_mut-gate in
    let m = c.args.gates.now in
    let is = c.ask.new.self in
    let change = changes_at m c.args.place at.result.0.now at.result.1.now is at.ensures.unique at.ensures.value in
    let same = c.ask.ensures.earliest in
    gates_before m.entries (set_value_at m.entries c.args.place is) at.result.0.now c.args.at at.result.1.now is change (omega arith) c.requires.before

pub returns-clause-same : goal.returns-clause-same
returns-clause-same g c = keys-with_value_at c.args.gates.now c.args.place c.ask.new.self
