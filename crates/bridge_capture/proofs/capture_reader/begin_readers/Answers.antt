use Rattle.std.proofs.Common.{◌≡◌, Err, inl, slice_index_or, ap, sym, ◌∙◌, subst, arith}
use Rattle.std.proofs.lemmas.Grind.{common_steps}
use Rattle.std.proofs.lemmas.Option.{slice_get-get_or}
use Rattle.bridge_capture.proofs.Looks.{failed_next, fails_next, few_enough, is_capture, lasts_set, looked_more, looked_start, same_numbers, sure_next, untaken}
use Rattle.bridge_capture.specs.declared.capture_fault.CaptureFault.TheVariants as faults
use Rattle.bridge_capture.specs.declared.fault.RunFault.TheVariants as run
use Rattle.bridge_capture.specs.CaptureReaders.{FailsToBegin}
use Rattle.bridge_capture.proofs.capture_reader.begin_readers.Goals as goal

pub loop-place-init : goal.loop-place-init
loop-place-init g c = record {
  looked = looked_start g.R.ByteSource.remaining g.R.ByteSource.never_fails c.args.ports.now c.args.sources.now c.in-Ok.lanes.items c.in-Ok.ensures.items;
  count = c.in-Ok.ensures.len;
  room = grind (arith, common_steps);
}

pub returns-in-Err-clause-fails : goal.returns-in-Err-clause-fails
returns-in-Err-clause-fails g c = λ texts rests are left. inl (untaken g.R.ByteSource.remaining c.args.ports.now texts rests c.args.sources.now c.requires.size are left)

pub returns-in-Err-begin-clause-fails : goal.returns-in-Err-begin-clause-fails
returns-in-Err-begin-clause-fails g c = λ texts rests are left.
    let ports = c.args.ports.now in
    let place = c.loop-place.place in
    let long = c.loop-place.auto.sources in
    let size = c.requires.size in
    let below = c.loop-place-test.true in
    subst (FailsToBegin texts rests ports) (sym c.run_fault.ensures)
    (fails_next g.R.ByteSource.remaining g.R.ByteSource.never_fails ports c.args.sources.now c.loop-place.sources c.loop-place.lanes.items place (slice_index_or ports place 0) c.index-sources-place.result c.begin.new.source c.in-Err-begin.fault texts rests
    (sym c.loop-place.lanes.ok.0 ∙ c.loop-place.invariant.count) (omega (arith, long, below)) (slice_get-get_or ports place 0 (omega (arith, size, below))) c.loop-place.invariant.looked are left c.in-Err-begin.ensures.begins)

pub returns-in-Err-begin-clause-read : goal.returns-in-Err-begin-clause-read
returns-in-Err-begin-clause-read g c = λ port e.
    let ports = c.args.ports.now in
    let place = c.loop-place.place in
    let long = c.loop-place.auto.sources in
    let size = c.requires.size in
    let below = c.loop-place-test.true in
    let same : c.run_fault.result ≡ run.Capture port faults.Read = cc in
    let told = is_capture (slice_index_or ports place 0) port c.in-Err-begin.fault faults.Read (sym c.run_fault.ensures ∙ same) in
    failed_next g.R.ByteSource.has_failed ports c.loop-place.sources place (slice_index_or ports place 0) port c.begin.new.source c.requires.rises (omega (arith, long, below)) (slice_get-get_or ports place 0 (omega (arith, size, below))) told.0
    (c.in-Err-begin.ensures.read (ap Err told.1))

pub returns-in-Err-begin-clause-sure : goal.returns-in-Err-begin-clause-sure
returns-in-Err-begin-clause-sure g c = λ sure port e.
    let ports = c.args.ports.now in
    let place = c.loop-place.place in
    let long = c.loop-place.auto.sources in
    let below = c.loop-place-test.true in
    let same : c.run_fault.result ≡ run.Capture port faults.Read = cc in
    let told = is_capture (slice_index_or ports place 0) port c.in-Err-begin.fault faults.Read (sym c.run_fault.ensures ∙ same) in
    c.in-Err-begin.ensures.sure (sure_next g.R.ByteSource.never_fails c.loop-place.sources place c.index-sources-place.result (omega (arith, long, below)) (c.loop-place.invariant.looked.lasts sure)) (ap Err told.1)

pub returns-in-Err-begin-clause-lasts : goal.returns-in-Err-begin-clause-lasts
returns-in-Err-begin-clause-lasts g c = λ sure.
    let long = c.loop-place.auto.sources in
    let below = c.loop-place-test.true in
    lasts_set g.R.ByteSource.never_fails c.loop-place.sources c.loop-place.place c.index-sources-place.result c.begin.new.source (omega (arith, long, below)) c.begin.ensures.lasts (c.loop-place.invariant.looked.lasts sure)

pub returns-in-Err-begin-clause-own : goal.returns-in-Err-begin-clause-own
returns-in-Err-begin-clause-own g c = λ port fault e.
    let same : c.run_fault.result ≡ run.Capture port fault = cc in
    let told = is_capture (slice_index_or c.args.ports.now c.loop-place.place 0) port c.in-Err-begin.fault fault (sym c.run_fault.ensures ∙ same) in
    (told.2, λ write. c.in-Err-begin.ensures.no_write (ap Err (told.1 ∙ write)))

pub loop-place-preserved : goal.loop-place-preserved
loop-place-preserved g c =
    let ports = c.args.ports.now in
    let place = c.loop-place.place in
    let count = c.loop-place.invariant.count in
    let room = c.loop-place.invariant.room in
    let long = c.loop-place.auto.sources in
    let size = c.requires.size in
    let below = c.loop-place-test.true in
    record {
      looked = looked_more g.R.ByteSource.remaining g.R.ByteSource.never_fails ports c.args.sources.now c.loop-place.sources c.loop-place.lanes.items c.push.new.self.items c.in-Ok-begin.lane place (slice_index_or ports place 0) c.index-sources-place.result c.begin.new.source
          c.in-Ok-push.ensures.items (sym c.loop-place.lanes.ok.0 ∙ count) (omega (arith, long, below)) (slice_get-get_or ports place 0 (omega (arith, size, below)))
          (record { number = c.in-Ok-begin.ensures.number; each = c.in-Ok-begin.ensures.lane; room = c.in-Ok-begin.ensures.room; begins = c.in-Ok-begin.ensures.begins; lasts = c.begin.ensures.lasts })
          c.loop-place.invariant.looked;
      count = grind (arith, common_steps);
      room = grind (arith, common_steps);
    }

pub returns-clause-numbers : goal.returns-clause-numbers
returns-clause-numbers g c =
    let count = sym c.loop-place.lanes.ok.0 ∙ c.loop-place.invariant.count in
    let end = c.loop-place-test.false in
    let within = c.loop-place.auto.place-end in
    let size = c.requires.size in
    same_numbers c.loop-place.lanes.items c.args.ports.now (omega (arith, count, end, within, size)) c.loop-place.invariant.looked.numbered

pub returns-clause-lanes : goal.returns-clause-lanes
returns-clause-lanes g c = c.loop-place.invariant.looked.each

pub returns-clause-room : goal.returns-clause-room
returns-clause-room g c =
    let count = sym c.loop-place.lanes.ok.0 ∙ c.loop-place.invariant.count in
    let within = c.loop-place.auto.place-end in
    let size = c.requires.size in
    let few = c.requires.few in
    few_enough g.R.ByteSource.remaining g.R.ByteSource.never_fails c.args.ports.now c.args.sources.now c.loop-place.sources c.loop-place.lanes.items (omega (arith, count, within, size, few)) c.loop-place.invariant.looked

pub returns-clause-begins : goal.returns-clause-begins
returns-clause-begins g c = λ texts are. c.loop-place.invariant.looked.begins texts are

pub returns-clause-lasts : goal.returns-clause-lasts
returns-clause-lasts g c = λ sure. c.loop-place.invariant.looked.lasts sure
