use Rattle.std.proofs.Common.{◌≡◌, ◌≤◌, Some, None, length, map, take, slice_get, ap, sym, subst, ◌∙◌, arith, rules, inl, take_all, Err}
use Rattle.bridge_config.specs.Model.{Plan}
use Rattle.bridge_core.specs.WholeRuns.{ArePortNumbers}
use Rattle.bridge_core.proofs.Beginning.{one_order}
use Rattle.bridge_core.proofs.Simulating.{isolates, others_change_nothing, ports_many}
use Rattle.bridge_config.proofs.Sorted.{rising_numbers}
use Rattle.std.proofs.lemmas.Option.{slice_get_within}
use Rattle.bridge_limits.proofs.Lists.{lent}
use Rattle.app_commands.specs.Flushed.{AllKept, NoneFailed}
use Rattle.app_commands.proofs.Devices.{asked, broken, sunk}
use Rattle.app_commands.proofs.Kept.{kept_length, kept_same}
use Rattle.app_commands.proofs.Ran.{are_rests, behind, none_behind, none_kept, none_read, rest_of, runs_over, same_many, stops_over, texts_over}
use Rattle.app_commands.proofs.running.run_captures.Goals as goal

pub returns-in_default-clause-err : goal.returns-in_default-clause-err
returns-in_default-clause-err g c = λ ports texts are read many. none_read c.args.accepted.now ports c.args.commands.now texts g.W.Write.contents c.args.writers.items c.args.writers.items (kept_same g.W.Write.contents c.args.writers.items)

pub returns-in_default-clause-lost : goal.returns-in_default-clause-lost
returns-in_default-clause-lost g c = λ ports port are at. absurd (none_behind c.args.accepted.now ports (length c.args.writers.items) port are c.requires.writers at)

pub returns-in_default-with_capacity-clause-err : goal.returns-in_default-with_capacity-clause-err
returns-in_default-with_capacity-clause-err g c = λ ports texts are read many. none_read c.args.accepted.now ports c.args.commands.now texts g.W.Write.contents c.args.writers.items c.args.writers.items (kept_same g.W.Write.contents c.args.writers.items)

pub returns-in_default-with_capacity-clause-lost : goal.returns-in_default-with_capacity-clause-lost
returns-in_default-with_capacity-clause-lost g c = λ ports port are at. absurd (none_behind c.args.accepted.now ports (length c.args.writers.items) port are c.requires.writers at)

pub returns-in_default-buffered_sources-clause-err : goal.returns-in_default-buffered_sources-clause-err
returns-in_default-buffered_sources-clause-err g c = λ ports texts are read many. none_read c.args.accepted.now ports c.args.commands.now texts g.W.Write.contents c.args.writers.items c.args.writers.items (kept_same g.W.Write.contents c.args.writers.items)

pub returns-in_default-buffered_sources-clause-lost : goal.returns-in_default-buffered_sources-clause-lost
returns-in_default-buffered_sources-clause-lost g c = λ ports port are at. absurd (none_behind c.args.accepted.now ports (length c.args.writers.items) port are c.requires.writers at)

pub returns-in_default-buffered_sinks-clause-err : goal.returns-in_default-buffered_sinks-clause-err
returns-in_default-buffered_sinks-clause-err g c = λ ports texts are read many.
    let all = ports_many c.args.accepted.now ports are in
    let asks = c.requires.writers in
    let none = c.in-Ok-with_capacity.ensures.items in
    none_read c.args.accepted.now ports c.args.commands.now texts g.W.Write.contents c.args.writers.items c.in-Ok-with_capacity.room.items (none_kept g.W.Write.contents c.args.writers.items c.in-Ok-with_capacity.room.items (omega (arith, all, asks, many, ap length none)) none)

pub simulate-ran-requires-clause-sources : goal.simulate-ran-requires-clause-sources
simulate-ran-requires-clause-sources g c =
    ap length c.deref_mut.ensures.value ∙ same_many (asked g.R.Read.remaining) g.R.Read.remaining c.in-Ok-buffered_sources.sources.items c.args.readers.items c.in-Ok-buffered_sources.ensures ∙ c.requires.readers

pub simulate-ran-requires-clause-sinks : goal.simulate-ran-requires-clause-sinks
simulate-ran-requires-clause-sinks g c =
    ap length c.deref_mut-2.ensures.value ∙ sym (kept_length g.W.Write.contents (sunk g.W.Write.contents) c.args.writers.items c.in-Ok-buffered_sinks.sinks.items c.in-Ok-buffered_sinks.ensures) ∙ c.requires.writers

pub finish_sinks-writers-requires-clause-room : goal.finish_sinks-writers-requires-clause-room
finish_sinks-writers-requires-clause-room g c =
    let p = c.args.accepted.now in
    let contents = g.W.Write.contents in
    let writers = c.args.writers.items in
    let olds = c.deref_mut-2.result.now in
    let mids = c.simulate-ran.new.sinks in
    let moved = c.deref_mut-2.ensures.value in
    let before = subst (λ l. AllKept contents (sunk contents) writers l) (sym moved) c.in-Ok-buffered_sinks.ensures in
    let size = kept_length contents (sunk contents) writers olds before in
    let long = c.simulate-ran.auto.sinks in
    let same : length mids ≡ length olds = omega (arith, long) in
    let came : length mids ≡ length c.in-Ok-buffered_sinks.sinks.items = same ∙ ap length moved in
    let back = lent c.in-Ok-buffered_sinks.sinks.items mids c.in-Ok-buffered_sinks.sinks.len c.in-Ok-buffered_sinks.sinks.ok.0 came in
    let room = c.in-Ok-with_capacity.ensures.capacity in
    let many = c.len.ensures in
    let len = c.args.writers.ok.0 in
    let whole = ap length back in
    omega (arith, room, many, len, whole, same, size)

pub returns-in-Some-clause-err : goal.returns-in-Some-clause-err
returns-in-Some-clause-err g c = λ ports texts are read many.
    let own = subst (λ (z : Plan g.row.A.Denot). ArePortNumbers z c.in-Ok.ports.items) c.plan.ensures.plan c.in-Ok.ensures in
    let asks = c.requires.writers in
    let one = one_order c.args.accepted.now ports c.in-Ok.ports.items are own in
    let at : slice_get c.in-Ok.ports.items (length c.finish_sinks-writers.result.items) ≡ Some c.in-Some.port = search rules in
    let within = slice_get_within c.in-Ok.ports.items (length c.finish_sinks-writers.result.items) c.in-Some.port at in
    absurd (omega (arith, within, many, ap length one))

pub returns-in-Some-clause-lost : goal.returns-in-Some-clause-lost
returns-in-Some-clause-lost g c = λ ports port are there.
    let own = subst (λ (z : Plan g.row.A.Denot). ArePortNumbers z c.in-Ok.ports.items) c.plan.ensures.plan c.in-Ok.ensures in
    let asks = c.requires.writers in
    let one = one_order c.args.accepted.now ports c.in-Ok.ports.items are own in
    let at : slice_get c.in-Ok.ports.items (length c.finish_sinks-writers.result.items) ≡ Some c.in-Some.port = search rules in
    let same : Some c.in-Some.port ≡ Some port = sym at ∙ ap (λ l. slice_get l (length c.finish_sinks-writers.result.items)) (sym one) ∙ there in
    cc

pub returns-in-Ok-ran-clause-ok : goal.returns-in-Ok-ran-clause-ok
returns-in-Ok-ran-clause-ok g c = λ ports texts are read.
    let p = c.args.accepted.now in
    let contents = g.W.Write.contents in
    let writers = c.args.writers.items in
    let olds = c.deref_mut-2.result.now in
    let mids = c.simulate-ran.new.sinks in
    let news = c.finish_sinks-writers.result.items in
    let moved = c.deref_mut-2.ensures.value in
    let before = subst (λ l. AllKept contents (sunk contents) writers l) (sym moved) c.in-Ok-buffered_sinks.ensures in
    let size = kept_length contents (sunk contents) writers olds before in
    let long = c.simulate-ran.auto.sinks in
    let same : length mids ≡ length olds = omega (arith, long) in
    let came : length mids ≡ length c.in-Ok-buffered_sinks.sinks.items = same ∙ ap length moved in
    let back = lent c.in-Ok-buffered_sinks.sinks.items mids c.in-Ok-buffered_sinks.sinks.len c.in-Ok-buffered_sinks.sinks.ok.0 came in
    let own = subst (λ (z : Plan g.row.A.Denot). ArePortNumbers z c.in-Ok.ports.items) c.plan.ensures.plan c.in-Ok.ensures in
    let asks = c.requires.writers in
    let all = ports_many p c.in-Ok.ports.items own in
    let at : slice_get c.in-Ok.ports.items (length news) ≡ None = search rules in
    let many = behind c.in-Ok.ports.items (length news) at in
    let full : length mids ≤ length news = omega (arith, all, asks, size, same, many) in
    let after = subst (λ l. AllKept (sunk contents) contents l news) (ap (take (length news)) back ∙ take_all (length news) mids full) c.finish_sinks-writers.ensures.kept in
    runs_over p contents (sunk contents) ports c.args.commands.now texts writers news olds mids c.in-Ok-ran.outcome before after same
    (c.in-Ok-ran.ensures.ok ports texts are (texts_over g.R.Read.remaining (asked g.R.Read.remaining) ports texts c.args.readers.items c.deref_mut.result.now (ap (map (asked g.R.Read.remaining)) c.deref_mut.ensures.value ∙ c.in-Ok-buffered_sources.ensures) read))

pub returns-in-Ok-ran-clause-isolated : goal.returns-in-Ok-ran-clause-isolated
returns-in-Ok-ran-clause-isolated g c = λ ports texts. isolates c.args.accepted.now ports c.args.commands.now texts g.W.Write.contents c.args.writers.items c.finish_sinks-writers.result.items c.in-Ok-ran.outcome c.plan.ensures.rules c.plan.ensures.acceptable

pub returns-in-Ok-ran-clause-others_change_nothing : goal.returns-in-Ok-ran-clause-others_change_nothing
returns-in-Ok-ran-clause-others_change_nothing g c = λ ports texts. others_change_nothing c.args.accepted.now ports c.args.commands.now texts g.W.Write.contents c.args.writers.items c.finish_sinks-writers.result.items c.in-Ok-ran.outcome c.plan.ensures.rules c.plan.ensures.acceptable

pub returns-clause-err : goal.returns-clause-err
returns-clause-err g c = λ ports texts are read many.
    let p = c.args.accepted.now in
    let contents = g.W.Write.contents in
    let writers = c.args.writers.items in
    let olds = c.deref_mut-2.result.now in
    let mids = c.simulate-ran.new.sinks in
    let news = c.finish_sinks-writers.result.items in
    let moved = c.deref_mut-2.ensures.value in
    let before = subst (λ l. AllKept contents (sunk contents) writers l) (sym moved) c.in-Ok-buffered_sinks.ensures in
    let size = kept_length contents (sunk contents) writers olds before in
    let long = c.simulate-ran.auto.sinks in
    let same : length mids ≡ length olds = omega (arith, long) in
    let came : length mids ≡ length c.in-Ok-buffered_sinks.sinks.items = same ∙ ap length moved in
    let back = lent c.in-Ok-buffered_sinks.sinks.items mids c.in-Ok-buffered_sinks.sinks.len c.in-Ok-buffered_sinks.sinks.ok.0 came in
    let all = ports_many p ports are in
    let asks = c.requires.writers in
    let full : length mids ≤ length news = omega (arith, all, asks, size, same, many) in
    let whole = ap (take (length news)) back ∙ take_all (length news) mids full in
    let after = subst (λ l. AllKept (sunk contents) contents l news) whole c.finish_sinks-writers.ensures.kept in
    let sound = subst (NoneFailed broken) whole c.finish_sinks-writers.ensures.sound in
    let left = c.simulate-ran.new.sources in
    let rests = rest_of (asked g.R.Read.remaining) ports left in (
      rests,
      stops_over p contents (sunk contents) broken ports c.args.commands.now texts rests writers news olds mids c.in-Err.fault before after same (omega (arith, all, asks, size, same)) sound
          (λ port e i w at held. c.in-Err.ensures.wrote ports port are (ap Err e) i w at held)
          (c.in-Err.ensures.err ports texts rests are (texts_over g.R.Read.remaining (asked g.R.Read.remaining) ports texts c.args.readers.items c.deref_mut.result.now (ap (map (asked g.R.Read.remaining)) c.deref_mut.ensures.value ∙ c.in-Ok-buffered_sources.ensures) read) (are_rests (asked g.R.Read.remaining) ports left (rising_numbers ports are.rises))),
    )

pub returns-clause-lost : goal.returns-clause-lost
returns-clause-lost g c = λ ports port are there.
    let own = subst (λ (z : Plan g.row.A.Denot). ArePortNumbers z c.in-Ok.ports.items) c.plan.ensures.plan c.in-Ok.ensures in
    let one = one_order c.args.accepted.now ports c.in-Ok.ports.items are own in
    let at : slice_get c.in-Ok.ports.items (length c.finish_sinks-writers.result.items) ≡ None = search rules in
    let same : None ≡ Some port = sym at ∙ ap (λ l. slice_get l (length c.finish_sinks-writers.result.items)) (sym one) ∙ there in
    absurd (cc)
