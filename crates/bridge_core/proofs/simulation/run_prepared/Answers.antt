use Rattle.std.proofs.Common.{◌≡◌, ◌<◌, ◌≤◌, [], Some, length, nat_eq, arith, Err, refl, ap, sym, subst, ◌∙◌, slice_get}
use Rattle.std.specs.Map.{lookup}
use Rattle.bridge_limits.specs.Members.{IsOrdered}
use Rattle.bridge_capture.specs.declared.fault.RunFault.TheVariants as run
use Rattle.std.specs.Prelude.{vec_capacity}
use Rattle.bridge_config.specs.Commands.{AreCommands}
use Rattle.bridge_capture.specs.CaptureReaders.{AreOneAhead, AreReaders, HaveRests, port_numbers, total_frames_left}
use Rattle.bridge_core.specs.CaptureWriters.{AreWritten, StopsAtHeaders, writer_ports as written_numbers}
use Rattle.bridge_core.specs.Running.{AreHeads, first_command, StopsInCommands}
use Rattle.bridge_core.proofs.Beginning.{one_order}
use Rattle.bridge_core.proofs.Faults.{ok_err}
use Rattle.bridge_core.proofs.Simulating.{begin_well, has_run, lanes_many, may_take, ports_many, stops_among, stops_header, under_first}
use Rattle.bridge_config.proofs.Sorted.{rising_numbers}
use Rattle.bridge_core.proofs.Taken.{err_is}
use Rattle.bridge_core.proofs.Written.{numbers_length, stop_failed}
use Rattle.bridge_core.proofs.simulation.run_prepared.Goals as goal

pub begin_writers-requires-clause-size : goal.begin_writers-requires-clause-size
begin_writers-requires-clause-size g c =
    let p = c.args.relay.plan in
    let lists = c.requires.set_up.lists in
    c.requires.sinks ∙ sym (ports_many p c.args.lists.ports.items lists.ports) ∙ ap length (sym c.deref.ensures.value)

pub returns-in-Err-clause-err : goal.returns-in-Err-clause-err
returns-in-Err-clause-err g c = λ ports texts rests are read left.
    let p = c.args.relay.plan in
    let lists = c.requires.set_up.lists in
    let own = one_order p ports c.args.lists.ports.items are lists.ports in
    let there = own ∙ sym c.deref.ensures.value in
    let lanes = c.args.lanes.items in
    let named = c.requires.set_up.named ∙ sym own in
    let asked = c.requires.sources in
    stops_header p ports c.args.commands.now texts rests g.W.ByteSink.contents g.W.ByteSink.has_failed c.args.sinks.now c.begin_writers.new.sinks c.in-Err.fault
    (begin_well g.R.ByteSource.remaining p ports texts lanes c.args.sources.now are named
    (lanes_many p ports lanes (length c.args.sources.now) are named asked)
    read)
    (subst (λ ns. StopsAtHeaders g.W.ByteSink.contents g.W.ByteSink.has_failed ns c.args.sinks.now c.begin_writers.new.sinks c.in-Err.fault) (sym there) c.in-Err.ensures.stops)

pub returns-in-Err-clause-wrote : goal.returns-in-Err-clause-wrote
returns-in-Err-clause-wrote g c = λ ports port are e.
    let lists = c.requires.set_up.lists in
    let there = one_order c.args.relay.plan ports c.args.lists.ports.items are lists.ports ∙ sym c.deref.ensures.value in
    let fault = err_is c.in-Err.fault _ e in
    stop_failed g.W.ByteSink.contents g.W.ByteSink.has_failed ports port c.args.sinks.now c.begin_writers.new.sinks (rising_numbers ports are.rises)
    (subst (λ ns. StopsAtHeaders g.W.ByteSink.contents g.W.ByteSink.has_failed ns c.args.sinks.now c.begin_writers.new.sinks (run.Write port)) (sym there)
    (subst (λ f. StopsAtHeaders g.W.ByteSink.contents g.W.ByteSink.has_failed c.deref.result.now c.args.sinks.now c.begin_writers.new.sinks f) fault c.in-Err.ensures.stops))

pub returns-in-Err-clause-sound : goal.returns-in-Err-clause-sound
returns-in-Err-clause-sound g c = λ ports port are sure e.
    let lists = c.requires.set_up.lists in
    let there = one_order c.args.relay.plan ports c.args.lists.ports.items are lists.ports ∙ sym c.deref.ensures.value in
    let fault = err_is c.in-Err.fault _ e in
    stop_failed g.W.ByteSink.contents g.W.ByteSink.ran_out ports port c.args.sinks.now c.begin_writers.new.sinks (rising_numbers ports are.rises)
    (subst (λ ns. StopsAtHeaders g.W.ByteSink.contents g.W.ByteSink.ran_out ns c.args.sinks.now c.begin_writers.new.sinks (run.Write port)) (sym there)
    (subst (λ f. StopsAtHeaders g.W.ByteSink.contents g.W.ByteSink.ran_out c.deref.result.now c.args.sinks.now c.begin_writers.new.sinks f) fault (c.in-Err.ensures.sound sure)))

pub run-done-requires-clause-may : goal.run-done-requires-clause-may
run-done-requires-clause-may g c =
    let p = c.args.relay.plan in
    let lists = c.requires.set_up.lists in
    let moved = c.deref_mut.ensures.value in
    may_take p c.args.relay c.args.lists.ports.items c.deref_mut.result.now c.requires.set_up.rules lists.ports
    (ap port_numbers moved ∙ c.requires.set_up.named) c.requires.set_up.plan c.requires.set_up.arrived c.requires.set_up.earliest
    (subst AreReaders (sym moved) c.requires.set_up.lanes)
    (subst (λ ls. total_frames_left ls ≤ _) (sym moved) c.requires.set_up.room)

pub run-done-requires-clause-sources : goal.run-done-requires-clause-sources
run-done-requires-clause-sources g c =
    let p = c.args.relay.plan in
    let lists = c.requires.set_up.lists in
    let asked = c.requires.sources in
    lanes_many p c.args.lists.ports.items c.deref_mut.result.now (length c.args.sources.now) lists.ports
    (ap port_numbers c.deref_mut.ensures.value ∙ c.requires.set_up.named) asked

pub run-done-requires-clause-sinks : goal.run-done-requires-clause-sinks
run-done-requires-clause-sinks g c =
    let p = c.args.relay.plan in
    let lists = c.requires.set_up.lists in
    let long = c.begin_writers.auto.sinks in
    let asked = c.requires.sinks in
    let many = ports_many p c.args.lists.ports.items lists.ports in
    let named = ap length (ap written_numbers c.deref_mut-2.ensures.value ∙ c.in-Ok.ensures.lines ∙ c.deref.ensures.value) in
    let lines = numbers_length c.deref_mut-2.result.now in
    omega (arith, long, asked, many, named, lines)

pub finish-requires-clause-rises : goal.finish-requires-clause-rises
finish-requires-clause-rises g c =
    let lists = c.requires.set_up.lists in
    subst (IsOrdered (λ x y. x.0 < y.0)) (sym c.deref-in-Ok-done.ensures.value) lists.rises

pub finish-requires-clause-same : goal.finish-requires-clause-same
finish-requires-clause-same g c = λ n.
    let lists = c.requires.set_up.lists in
    ap (lookup (nat_eq n)) c.deref-in-Ok-done.ensures.value ∙ lists.same n ∙ ap (λ z. lookup (nat_eq n) z.filters) (sym (c.run-done.ensures.same.0 ∙ c.requires.set_up.plan))

pub returns-in-Ok-done-clause-ok : goal.returns-in-Ok-done-clause-ok
returns-in-Ok-done-clause-ok g c = λ ports texts are read.
    let p = c.args.relay.plan in
    let lists = c.requires.set_up.lists in
    let own = one_order p ports c.args.lists.ports.items are lists.ports in
    let there = own ∙ sym c.deref.ensures.value in
    let moved = c.deref_mut.ensures.value in
    let lanes = c.deref_mut.result.now in
    let named = ap port_numbers moved ∙ c.requires.set_up.named ∙ sym own in
    let asked = c.requires.sources in
    let size = lanes_many p ports lanes (length c.args.sources.now) are named asked in
    let named_then = c.run-done.ensures.same.1 ∙ named in
    let ran = c.run-done.auto.sources in
    let size_then = lanes_many p ports c.run-done.new.lanes (length c.run-done.new.sources) are named_then (omega (arith, asked, ran)) in
    has_run g.R.ByteSource.remaining g.W.ByteSink.contents p ports c.args.commands.now texts c.args.sinks.now c.run-done.new.relay c.run-done.new.lanes c.run-done.new.sources c.run-done.new.sinks c.finish.result are named_then size_then
    (c.in-Ok-done.ensures.goes p texts c.args.sinks.now
    (under_first g.R.ByteSource.remaining g.W.ByteSink.contents p ports texts (first_command c.args.commands.now) c.args.sinks.now c.args.relay lanes c.args.sources.now c.begin_writers.new.sinks are named size
    (subst (λ ls. AreOneAhead g.R.ByteSource.remaining texts (λ q. []) ls c.args.sources.now) (sym moved) read)
    c.requires.set_up.stands
    (subst (λ ns. AreWritten g.W.ByteSink.contents ns c.args.sinks.now c.begin_writers.new.sinks (λ q. [])) (sym there) c.in-Ok.ensures.headers)))
    (λ es left s. c.finish.ensures.ends p es left s)

pub returns-clause-err : goal.returns-clause-err
returns-clause-err g c = λ ports texts rests are read left.
    let p = c.args.relay.plan in
    let lists = c.requires.set_up.lists in
    let own = one_order p ports c.args.lists.ports.items are lists.ports in
    let there = own ∙ sym c.deref.ensures.value in
    let moved = c.deref_mut.ensures.value in
    let lanes = c.deref_mut.result.now in
    let named = ap port_numbers moved ∙ c.requires.set_up.named ∙ sym own in
    let asked = c.requires.sources in
    let size = lanes_many p ports lanes (length c.args.sources.now) are named asked in
    let stops = c.in-Err-done.ensures.goes p texts c.args.sinks.now
    (under_first g.R.ByteSource.remaining g.W.ByteSink.contents p ports texts (first_command c.args.commands.now) c.args.sinks.now c.args.relay lanes c.args.sources.now c.begin_writers.new.sinks are named size
    (subst (λ ls. AreOneAhead g.R.ByteSource.remaining texts (λ q. []) ls c.args.sources.now) (sym moved) read)
    c.requires.set_up.stands
    (subst (λ ns. AreWritten g.W.ByteSink.contents ns c.args.sinks.now c.begin_writers.new.sinks (λ q. [])) (sym there) c.in-Ok.ensures.headers))
    rests (subst (λ ns. HaveRests g.R.ByteSource.remaining ns rests c.run-done.new.sources) (sym (c.run-done.ensures.same.1 ∙ named)) left) in
    stops_among p ports c.args.commands.now texts rests g.W.ByteSink.contents g.W.ByteSink.has_failed c.args.sinks.now c.run-done.new.sinks c.in-Err-done.fault
    (subst (λ ns. StopsInCommands p texts rests c.args.commands.now g.W.ByteSink.contents ns c.args.sinks.now c.run-done.new.sinks c.in-Err-done.fault) (c.run-done.ensures.same.1 ∙ named) stops)

pub returns-clause-read : goal.returns-clause-read
returns-clause-read g c = λ ports port are e i w at lent.
    let p = c.args.relay.plan in
    let lists = c.requires.set_up.lists in
    let own = one_order p ports c.args.lists.ports.items are lists.ports in
    let named = ap port_numbers c.deref_mut.ensures.value ∙ c.requires.set_up.named ∙ sym own in
    c.in-Err-done.ensures.devices.read port (ap (λ f. Err f) (err_is c.in-Err-done.fault _ e)) i w (subst (λ ns. slice_get ns i ≡ Some port) (sym named) at) lent

pub returns-clause-wrote : goal.returns-clause-wrote
returns-clause-wrote g c = λ ports port are e i w at lent.
    let p = c.args.relay.plan in
    let lists = c.requires.set_up.lists in
    let own = one_order p ports c.args.lists.ports.items are lists.ports in
    let named = ap port_numbers c.deref_mut.ensures.value ∙ c.requires.set_up.named ∙ sym own in
    c.in-Err-done.ensures.devices.wrote port (ap (λ f. Err f) (err_is c.in-Err-done.fault _ e)) i w (subst (λ ns. slice_get ns i ≡ Some port) (sym named) at) lent

pub returns-clause-sound : goal.returns-clause-sound
returns-clause-sound g c = λ ports port are sure e i w at lent.
    let p = c.args.relay.plan in
    let lists = c.requires.set_up.lists in
    let own = one_order p ports c.args.lists.ports.items are lists.ports in
    let named = ap port_numbers c.deref_mut.ensures.value ∙ c.requires.set_up.named ∙ sym own in
    c.in-Err-done.ensures.devices.sound (c.begin_writers.ensures.holds sure) port (ap (λ f. Err f) (err_is c.in-Err-done.fault _ e)) i w (subst (λ ns. slice_get ns i ≡ Some port) (sym named) at) lent

pub returns-clause-sure : goal.returns-clause-sure
returns-clause-sure g c = λ sure port e. c.run-done.ensures.devices.sure sure port (c.in-Err-done.is ∙ ap Err (err_is _ _ e))

pub begin_writers-requires-clause-none : goal.begin_writers-requires-clause-none
begin_writers-requires-clause-none g c = c.requires.set_up.lists.no_lines

pub begin_writers-requires-clause-room : goal.begin_writers-requires-clause-room
begin_writers-requires-clause-room g c = subst (λ ns. length ns ≤ vec_capacity c.args.lists.lines) (sym c.deref.ensures.value) c.requires.set_up.lists.lines_room

pub returns-in-Err-clause-read : goal.returns-in-Err-clause-read
returns-in-Err-clause-read g c = λ ports port are e.
    absurd (subst (λ f. StopsAtHeaders g.W.ByteSink.contents g.W.ByteSink.has_failed c.deref.result.now c.args.sinks.now c.begin_writers.new.sinks f) (err_is c.in-Err.fault _ e) c.in-Err.ensures.stops)

pub returns-in-Err-clause-sure : goal.returns-in-Err-clause-sure
returns-in-Err-clause-sure g c = λ sure port e.
    subst (λ f. StopsAtHeaders g.W.ByteSink.contents g.W.ByteSink.has_failed c.deref.result.now c.args.sinks.now c.begin_writers.new.sinks f) (err_is c.in-Err.fault _ e) c.in-Err.ensures.stops

pub run-done-requires-clause-new : goal.run-done-requires-clause-new
run-done-requires-clause-new g c = c.requires.set_up.earliest

pub run-done-requires-clause-commands : goal.run-done-requires-clause-commands
run-done-requires-clause-commands g c = subst (λ p. AreCommands p c.args.commands.now) (sym c.requires.set_up.plan) c.requires.commands

pub make_heads-heads-requires : goal.make_heads-heads-requires
make_heads-heads-requires g c =
    let p = c.args.relay.plan in
    let lists = c.requires.set_up.lists in
    let named = ap port_numbers c.deref-2.ensures.value ∙ c.requires.set_up.named in
    let many = lanes_many p c.args.lists.ports.items c.deref-2.result.now (length p.ports) lists.ports named refl in
    let few = c.requires.set_up.rules.few_ports in
    omega (arith, many, few)

pub run-done-requires-clause-heads : goal.run-done-requires-clause-heads
run-done-requires-clause-heads g c = subst (AreHeads (g.G.Agenda.held c.make_heads-heads.result)) (c.deref-2.ensures.value ∙ sym c.deref_mut.ensures.value) c.make_heads-heads.ensures

pub run-done-requires-clause-lines : goal.run-done-requires-clause-lines
run-done-requires-clause-lines g c =
    ap written_numbers c.deref_mut-2.ensures.value ∙ c.in-Ok.ensures.lines ∙ c.deref.ensures.value
    ∙ sym (ap port_numbers c.deref_mut.ensures.value ∙ c.requires.set_up.named)

pub finish-requires-clause-idle : goal.finish-requires-clause-idle
finish-requires-clause-idle g c = c.in-Ok-done.ensures.idle

pub finish-requires-clause-no_filters : goal.finish-requires-clause-no_filters
finish-requires-clause-no_filters g c = c.requires.set_up.lists.no_views

pub finish-requires-clause-no_ports : goal.finish-requires-clause-no_ports
finish-requires-clause-no_ports g c = c.requires.set_up.lists.no_counts

pub finish-requires-clause-filter_room : goal.finish-requires-clause-filter_room
finish-requires-clause-filter_room g c = subst (λ xs. length xs ≤ vec_capacity c.args.lists.views) (sym c.deref-in-Ok-done.ensures.value) c.requires.set_up.lists.views_room

pub finish-requires-clause-port_room : goal.finish-requires-clause-port_room
finish-requires-clause-port_room g c = c.requires.set_up.lists.counts_room

pub returns-in-Ok-done-clause-read : goal.returns-in-Ok-done-clause-read
returns-in-Ok-done-clause-read g c = λ ports port are e. absurd (ok_err _ _ e)

pub returns-in-Ok-done-clause-sure : goal.returns-in-Ok-done-clause-sure
returns-in-Ok-done-clause-sure g c = λ sure port e. ok_err _ _ e

pub returns-in-Ok-done-clause-wrote : goal.returns-in-Ok-done-clause-wrote
returns-in-Ok-done-clause-wrote g c = λ ports port are e. absurd (ok_err _ _ e)

pub returns-in-Ok-done-clause-sound : goal.returns-in-Ok-done-clause-sound
returns-in-Ok-done-clause-sound g c = λ ports port are sure e. absurd (ok_err _ _ e)
