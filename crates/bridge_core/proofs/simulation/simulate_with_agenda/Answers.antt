use Rattle.std.proofs.Common.{◌≡◌, Some, length, arith, Err, inl, inr, refl, ap, sym, subst, ◌∙◌, slice_get}
use Rattle.std.specs.Prelude.{IfErr, IfOk}
use Rattle.bridge_config.specs.Commands.{AreCommands}
use Rattle.bridge_semantics.specs.Merge.{input_events}
use Rattle.bridge_semantics.proofs.Few.{few_leave}
use Rattle.bridge_capture.specs.CaptureReaders.{HaveRests, HaveTexts, FailsToBegin}
use Rattle.bridge_core.specs.WholeRuns.{IsReadyToRun, IsWholeRun, StopsRun, AreRunLists, ArePortNumbers}
use Rattle.bridge_core.proofs.Beginning.{one_order}
use Rattle.bridge_core.proofs.Faults.{memory_read, memory_written}
use Rattle.bridge_core.proofs.Simulating.{each_ok, begin_well, isolates, isolates_groups, lanes_many, others_change_nothing, ports_many, stops_look, wants_first}
use Rattle.bridge_config.proofs.Sorted.{rising_numbers}
use Rattle.bridge_core.proofs.Taken.{err_is}
use Rattle.bridge_core.proofs.simulation.simulate_with_agenda.Goals as goal

pub begin_readers-requires-clause-size : goal.begin_readers-requires-clause-size
begin_readers-requires-clause-size g c =
    let p = c.args.accepted.now in
    let lists = subst (λ z. AreRunLists z c.in-Ok.lists) c.plan.ensures.plan c.in-Ok.ensures in
    c.requires.sources ∙ sym (ports_many p c.in-Ok.lists.ports.items lists.ports) ∙ ap length (sym c.deref.ensures.value)

pub begin_readers-requires-clause-few : goal.begin_readers-requires-clause-few
begin_readers-requires-clause-few g c =
    let p = c.args.accepted.now in
    let lists = subst (λ z. AreRunLists z c.in-Ok.lists) c.plan.ensures.plan c.in-Ok.ensures in
    let many = ports_many p c.in-Ok.lists.ports.items lists.ports in
    let same = ap length c.deref.ensures.value in
    let few = c.plan.ensures.rules.few_ports in
    omega (arith, many, same, few)

pub begin_readers-requires-clause-rises : goal.begin_readers-requires-clause-rises
begin_readers-requires-clause-rises g c =
    let lists = subst (λ z. AreRunLists z c.in-Ok.lists) c.plan.ensures.plan c.in-Ok.ensures in
    rising_numbers c.deref.result.now (subst (λ ns. ArePortNumbers c.args.accepted.now ns) (sym c.deref.ensures.value) lists.ports).rises

pub returns-in-Err-clause-err : goal.returns-in-Err-clause-err
returns-in-Err-clause-err g c = λ ports texts rests are read left.
    let p = c.args.accepted.now in
    let lists = subst (λ z. AreRunLists z c.in-Ok.lists) c.plan.ensures.plan c.in-Ok.ensures in
    let same = one_order p ports c.in-Ok.lists.ports.items are lists.ports ∙ sym c.deref.ensures.value in
    stops_look p ports c.args.commands.now texts rests g.W.ByteSink.contents g.W.ByteSink.has_failed c.args.sinks.now c.in-Err.fault (λ port why is. c.in-Err.ensures.own port why (ap Err is))
    (subst (λ ns. FailsToBegin texts rests ns c.in-Err.fault) (sym same) (c.in-Err.ensures.fails texts rests (subst (λ ns. HaveTexts g.R.ByteSource.remaining ns texts c.args.sources.now) same read) (subst (λ ns. HaveRests g.R.ByteSource.remaining ns rests c.begin_readers.new.sources) same left)))

pub returns-in-Err-clause-read : goal.returns-in-Err-clause-read
returns-in-Err-clause-read g c = λ ports port are e i w at lent.
    let lists = subst (λ z. AreRunLists z c.in-Ok.lists) c.plan.ensures.plan c.in-Ok.ensures in
    let same = one_order c.args.accepted.now ports c.in-Ok.lists.ports.items are lists.ports ∙ sym c.deref.ensures.value in
    c.in-Err.ensures.read port (ap (λ f. Err f) (err_is c.in-Err.fault _ e)) i w (subst (λ ns. slice_get ns i ≡ Some port) same at) lent

pub returns-in_default-clause-err : goal.returns-in_default-clause-err
returns-in_default-clause-err g c = λ ports texts rests are read left. inl (wants_first g.R.ByteSource.remaining c.args.accepted.now ports texts rests c.args.sources.now c.args.sinks.now are c.requires.sources read left)

pub returns-in_default-make_buffer_pool-clause-err : goal.returns-in_default-make_buffer_pool-clause-err
returns-in_default-make_buffer_pool-clause-err g c = λ ports texts rests are read left. inl (wants_first g.R.ByteSource.remaining c.args.accepted.now ports texts rests c.args.sources.now c.args.sinks.now are c.requires.sources read left)

pub returns-in_default-new-clause-err : goal.returns-in_default-new-clause-err
returns-in_default-new-clause-err g c = λ ports texts rests are read left.
    let p = c.args.accepted.now in
    let lists = subst (λ z. AreRunLists z c.in-Ok.lists) c.plan.ensures.plan c.in-Ok.ensures in
    let own = one_order p ports c.in-Ok.lists.ports.items are lists.ports in
    let same = own ∙ sym c.deref.ensures.value in
    let lanes = c.in-Ok-begin_readers.lanes.items in
    let named = c.in-Ok-begin_readers.ensures.numbers ∙ sym same in
    let long = c.begin_readers.auto.sources in
    let asked = c.requires.sources in
    inl (record {
      looks = inr (begin_well g.R.ByteSource.remaining p ports texts lanes c.begin_readers.new.sources are named
          (lanes_many p ports lanes (length c.begin_readers.new.sources) are named (omega (arith, long, asked)))
          (c.in-Ok-begin_readers.ensures.begins texts (subst (λ ns. HaveTexts g.R.ByteSource.remaining ns texts c.args.sources.now) same read)));
      untouched = refl;
    })

pub returns-in_default-clause-read : goal.returns-in_default-clause-read
returns-in_default-clause-read g c = λ ports port are e. absurd (memory_read _ _ e)

pub returns-in_default-clause-sure : goal.returns-in_default-clause-sure
returns-in_default-clause-sure g c = λ sure port e. memory_read _ _ e

pub returns-in_default-clause-wrote : goal.returns-in_default-clause-wrote
returns-in_default-clause-wrote g c = λ ports port are e. absurd (memory_written _ e)

pub returns-in_default-clause-sound : goal.returns-in_default-clause-sound
returns-in_default-clause-sound g c = λ ports port are sure e. absurd (memory_written _ e)

pub returns-in_default-make_buffer_pool-clause-read : goal.returns-in_default-make_buffer_pool-clause-read
returns-in_default-make_buffer_pool-clause-read g c = λ ports port are e. absurd (memory_read _ _ e)

pub returns-in_default-make_buffer_pool-clause-sure : goal.returns-in_default-make_buffer_pool-clause-sure
returns-in_default-make_buffer_pool-clause-sure g c = λ sure port e. memory_read _ _ e

pub returns-in_default-make_buffer_pool-clause-wrote : goal.returns-in_default-make_buffer_pool-clause-wrote
returns-in_default-make_buffer_pool-clause-wrote g c = λ ports port are e. absurd (memory_written _ e)

pub returns-in_default-make_buffer_pool-clause-sound : goal.returns-in_default-make_buffer_pool-clause-sound
returns-in_default-make_buffer_pool-clause-sound g c = λ ports port are sure e. absurd (memory_written _ e)

pub returns-in-Err-clause-sure : goal.returns-in-Err-clause-sure
returns-in-Err-clause-sure g c = λ sure port e. c.in-Err.ensures.sure sure port (ap (λ f. Err f) (err_is _ _ e))

pub returns-in-Err-clause-wrote : goal.returns-in-Err-clause-wrote
returns-in-Err-clause-wrote g c = λ ports port are e. absurd (c.in-Err.ensures.no_write port (ap (λ f. Err f) (err_is _ _ e)))

pub returns-in-Err-clause-sound : goal.returns-in-Err-clause-sound
returns-in-Err-clause-sound g c = λ ports port are sure e. absurd (c.in-Err.ensures.no_write port (ap (λ f. Err f) (err_is _ _ e)))

pub returns-in_default-new-clause-read : goal.returns-in_default-new-clause-read
returns-in_default-new-clause-read g c = λ ports port are e. absurd (memory_read _ _ e)

pub returns-in_default-new-clause-sure : goal.returns-in_default-new-clause-sure
returns-in_default-new-clause-sure g c = λ sure port e. memory_read _ _ e

pub returns-in_default-new-clause-wrote : goal.returns-in_default-new-clause-wrote
returns-in_default-new-clause-wrote g c = λ ports port are e. absurd (memory_written _ e)

pub returns-in_default-new-clause-sound : goal.returns-in_default-new-clause-sound
returns-in_default-new-clause-sound g c = λ ports port are sure e. absurd (memory_written _ e)

pub run_prepared-requires-clause-set_up : goal.run_prepared-requires-clause-set_up
run_prepared-requires-clause-set_up g c =
    let lists = subst (λ z. AreRunLists z c.in-Ok.lists) c.plan.ensures.plan c.in-Ok.ensures in
    let start = c.in-Ok-new.ensures.start in
    subst (λ p. IsReadyToRun p c.in-Ok-new.relay c.in-Ok.lists c.in-Ok-begin_readers.lanes.items) (sym start.0) (record {
      rules = c.plan.ensures.rules;
      plan = start.0;
      arrived = start.1;
      earliest = start.2;
      stands = c.in-Ok-new.ensures.stands;
      lists = lists;
      named = c.in-Ok-begin_readers.ensures.numbers ∙ c.deref.ensures.value;
      lanes = c.in-Ok-begin_readers.ensures.lanes;
      room = c.in-Ok-begin_readers.ensures.room;
    })

pub run_prepared-requires-clause-sources : goal.run_prepared-requires-clause-sources
run_prepared-requires-clause-sources g c =
    let long = c.begin_readers.auto.sources in
    let asked = c.requires.sources in
    let same = ap (λ p. length p.ports) c.in-Ok-new.ensures.start.0 in
    omega (arith, long, asked, same)

pub run_prepared-requires-clause-sinks : goal.run_prepared-requires-clause-sinks
run_prepared-requires-clause-sinks g c = c.requires.sinks ∙ ap (λ p. length p.ports) (sym c.in-Ok-new.ensures.start.0)

pub run_prepared-requires-clause-commands : goal.run_prepared-requires-clause-commands
run_prepared-requires-clause-commands g c = subst (λ p. AreCommands p c.args.commands.now) (sym c.in-Ok-new.ensures.start.0) c.requires.commands

pub returns-clause-ok : goal.returns-clause-ok
returns-clause-ok g c = λ ports texts are read.
    let lists = subst (λ z. AreRunLists z c.in-Ok.lists) c.plan.ensures.plan c.in-Ok.ensures in
    let same = one_order c.args.accepted.now ports c.in-Ok.lists.ports.items are lists.ports ∙ sym c.deref.ensures.value in
    let plan = c.in-Ok-new.ensures.start.0 in
    subst (λ p. IfOk c.run_prepared.result (IsWholeRun p ports c.args.commands.now texts g.W.ByteSink.contents c.args.sinks.now c.run_prepared.new.sinks)) plan
    (c.run_prepared.ensures.ok ports texts (subst (λ p. ArePortNumbers p ports) (sym plan) are)
    (c.in-Ok-begin_readers.ensures.begins texts (subst (λ ns. HaveTexts g.R.ByteSource.remaining ns texts c.args.sources.now) same read)))

pub returns-clause-err : goal.returns-clause-err
returns-clause-err g c = λ ports texts rests are read left.
    let lists = subst (λ z. AreRunLists z c.in-Ok.lists) c.plan.ensures.plan c.in-Ok.ensures in
    let same = one_order c.args.accepted.now ports c.in-Ok.lists.ports.items are lists.ports ∙ sym c.deref.ensures.value in
    let plan = c.in-Ok-new.ensures.start.0 in
    subst (λ p. IfErr c.run_prepared.result (StopsRun p ports c.args.commands.now texts rests g.W.ByteSink.contents g.W.ByteSink.has_failed c.args.sinks.now c.run_prepared.new.sinks)) plan
    (c.run_prepared.ensures.err ports texts rests (subst (λ p. ArePortNumbers p ports) (sym plan) are)
    (c.in-Ok-begin_readers.ensures.begins texts (subst (λ ns. HaveTexts g.R.ByteSource.remaining ns texts c.args.sources.now) same read)) left)

pub returns-clause-isolated : goal.returns-clause-isolated
returns-clause-isolated g c = λ ports texts. each_ok c.run_prepared.result _ (λ o. isolates c.args.accepted.now ports c.args.commands.now texts g.W.ByteSink.contents c.args.sinks.now c.run_prepared.new.sinks o c.plan.ensures.rules c.plan.ensures.acceptable)

pub returns-clause-others_change_nothing : goal.returns-clause-others_change_nothing
returns-clause-others_change_nothing g c = λ ports texts. each_ok c.run_prepared.result _ (λ o. others_change_nothing c.args.accepted.now ports c.args.commands.now texts g.W.ByteSink.contents c.args.sinks.now c.run_prepared.new.sinks o c.plan.ensures.rules c.plan.ensures.acceptable)

pub returns-clause-isolated_groups : goal.returns-clause-isolated_groups
returns-clause-isolated_groups g c = λ ports texts. each_ok c.run_prepared.result _ (λ o. isolates_groups c.args.accepted.now ports c.args.commands.now texts g.W.ByteSink.contents c.args.sinks.now c.run_prepared.new.sinks o c.plan.ensures.rules c.plan.ensures.grouped)

pub returns-clause-few : goal.returns-clause-few
returns-clause-few g c = λ ports texts. each_ok c.run_prepared.result _ (λ o ran q out at. few_leave c.args.accepted.now (input_events ran.inputs) ran.left o q out ran.ends at)

pub returns-clause-read : goal.returns-clause-read
returns-clause-read g c = λ ports port are e. c.run_prepared.ensures.read ports port (subst (λ p. ArePortNumbers p ports) (sym c.in-Ok-new.ensures.start.0) are) e

pub returns-clause-sure : goal.returns-clause-sure
returns-clause-sure g c = λ sure port e. c.run_prepared.ensures.sure (c.begin_readers.ensures.lasts sure) port e

pub returns-clause-wrote : goal.returns-clause-wrote
returns-clause-wrote g c = λ ports port are e. c.run_prepared.ensures.wrote ports port (subst (λ p. ArePortNumbers p ports) (sym c.in-Ok-new.ensures.start.0) are) e

pub returns-clause-sound : goal.returns-clause-sound
returns-clause-sound g c = λ ports port are sure e. c.run_prepared.ensures.sound ports port (subst (λ p. ArePortNumbers p ports) (sym c.in-Ok-new.ensures.start.0) are) sure e
