use Rattle.std.proofs.Common.{Err, ap, refl, rules, subst, sym, ◌∙◌}
use Rattle.bridge_capture.specs.StandsFor.{CaptureState, StandsFor, TakesRefusedNext}
use Rattle.bridge_capture.proofs.Turns.{goes_on, came_to_end, was_refused}
use Rattle.bridge_capture.proofs.Answered.{apart, err_ok}
use Rattle.bridge_capture.proofs.capture.Capture.read_packet.Goals as goal

pub returns-in-Ok-Some-clause-stands : goal.returns-in-Ok-Some-clause-stands
returns-in-Ok-Some-clause-stands g c = λ text given h.
    let before : CaptureState = record { form = c.self.inside.form; records = c.self.inside.records; latest = c.self.inside.latest; progress = c.self.inside.progress } in
    let stood = subst (λ (z : CaptureState). StandsFor z (g.R.ByteSource.remaining c.args.source.now) text given) (sym c.self.view_is) h in
    goes_on before _ _ _ text given (record { time = c.in-Ok-Some.stamp.time; len = c.in-Ok-Some.stamp.len; octets = c.read_next_record.new.octets }) (search rules) (search rules) refl refl (rw c.in-Ok-Some.field-0-is at c.in-Ok-Some.ensures.record) stood

pub returns-in-Ok-None-clause-stands : goal.returns-in-Ok-None-clause-stands
returns-in-Ok-None-clause-stands g c = λ text given h.
    let before : CaptureState = record { form = c.self.inside.form; records = c.self.inside.records; latest = c.self.inside.latest; progress = c.self.inside.progress } in
    let stood = subst (λ (z : CaptureState). StandsFor z (g.R.ByteSource.remaining c.args.source.now) text given) (sym c.self.view_is) h in
    let r = came_to_end before _ text given (search rules) (rw c.in-Ok-None.field-0-is at c.in-Ok-None.ensures.record) stood in
    (r, r)

pub returns-in-Err-clause-stands : goal.returns-in-Err-clause-stands
returns-in-Err-clause-stands g c = λ text given h.
    let before : CaptureState = record { form = c.self.inside.form; records = c.self.inside.records; latest = c.self.inside.latest; progress = c.self.inside.progress } in
    let stood = subst (λ (z : CaptureState). StandsFor z (g.R.ByteSource.remaining c.args.source.now) text given) (sym c.self.view_is) h in
    let r = was_refused before _ _ text given c.in-Err.fault (search rules) (λ e. c.read_next_record.ensures.told.no_write (c.in-Err.is ∙ ap Err e)) c.in-Err.ensures.record c.in-Err.ensures.taken stood in
    (r, r)

pub returns-in-Err-clause-taken : goal.returns-in-Err-clause-taken
returns-in-Err-clause-taken g c = λ is. subst (λ (z : CaptureState). TakesRefusedNext z (g.R.ByteSource.remaining c.args.source.now) (g.R.ByteSource.remaining c.read_next_record.new.source) c.in-Err.fault) c.self.view_is c.in-Err.ensures.taken

pub returns-in-Ended-clause-untouched : goal.returns-in-Ended-clause-untouched
returns-in-Ended-clause-untouched g c = λ _. refl

pub returns-in-Ended-clause-ended : goal.returns-in-Ended-clause-ended
returns-in-Ended-clause-ended g c = λ _. refl

pub returns-in-Ended-clause-read : goal.returns-in-Ended-clause-read
returns-in-Ended-clause-read g c = λ e. absurd (apart e refl)

pub returns-in-Ended-clause-sure : goal.returns-in-Ended-clause-sure
returns-in-Ended-clause-sure g c = λ sure is e. apart e refl

pub returns-in-Ended-clause-lasts : goal.returns-in-Ended-clause-lasts
returns-in-Ended-clause-lasts g c = λ sure. sure

pub returns-in-Ended-clause-no_write : goal.returns-in-Ended-clause-no_write
returns-in-Ended-clause-no_write g c = λ e. apart e refl

pub returns-in-Refused-clause-untouched : goal.returns-in-Refused-clause-untouched
returns-in-Refused-clause-untouched g c = λ _. refl

pub returns-in-Refused-clause-lasts : goal.returns-in-Refused-clause-lasts
returns-in-Refused-clause-lasts g c = λ sure. sure

pub returns-in-Refused-clause-ends : goal.returns-in-Refused-clause-ends
returns-in-Refused-clause-ends g c = λ e. absurd (err_ok e)

pub returns-in-Ok-Some-clause-read : goal.returns-in-Ok-Some-clause-read
returns-in-Ok-Some-clause-read g c = λ e. absurd (apart e refl)

pub returns-in-Ok-Some-clause-sure : goal.returns-in-Ok-Some-clause-sure
returns-in-Ok-Some-clause-sure g c = λ sure is e. apart e refl

pub returns-in-Ok-Some-clause-no_write : goal.returns-in-Ok-Some-clause-no_write
returns-in-Ok-Some-clause-no_write g c = λ e. apart e refl

pub returns-in-Ok-Some-clause-lasts : goal.returns-in-Ok-Some-clause-lasts
returns-in-Ok-Some-clause-lasts g c = c.read_next_record.ensures.told.lasts

pub returns-in-Ok-Some-clause-broken : goal.returns-in-Ok-Some-clause-broken
returns-in-Ok-Some-clause-broken g c = λ broken is. absurd (apart (c.in-Ok-Some.ensures.told.broken broken) refl)

pub returns-in-Ok-None-clause-read : goal.returns-in-Ok-None-clause-read
returns-in-Ok-None-clause-read g c = λ e. absurd (apart e refl)

pub returns-in-Ok-None-clause-sure : goal.returns-in-Ok-None-clause-sure
returns-in-Ok-None-clause-sure g c = λ sure is e. apart e refl

pub returns-in-Ok-None-clause-no_write : goal.returns-in-Ok-None-clause-no_write
returns-in-Ok-None-clause-no_write g c = λ e. apart e refl

pub returns-in-Ok-None-clause-lasts : goal.returns-in-Ok-None-clause-lasts
returns-in-Ok-None-clause-lasts g c = c.read_next_record.ensures.told.lasts

pub returns-in-Ok-None-clause-broken : goal.returns-in-Ok-None-clause-broken
returns-in-Ok-None-clause-broken g c = λ broken is. absurd (apart (c.in-Ok-None.ensures.told.broken broken) refl)

pub returns-in-Ok-None-clause-ends : goal.returns-in-Ok-None-clause-ends
returns-in-Ok-None-clause-ends g c = λ _. refl

pub returns-in-Ok-None-clause-ended : goal.returns-in-Ok-None-clause-ended
returns-in-Ok-None-clause-ended g c = λ _. refl

pub returns-in-Ok-Some-clause-early : goal.returns-in-Ok-Some-clause-early
returns-in-Ok-Some-clause-early g c = (rw c.in-Ok-Some.field-0-is at c.in-Ok-Some.ensures.bounds).early

pub returns-in-Ok-Some-clause-small : goal.returns-in-Ok-Some-clause-small
returns-in-Ok-Some-clause-small g c = (rw c.in-Ok-Some.field-0-is at c.in-Ok-Some.ensures.bounds).small

pub returns-in-Ok-Some-clause-within : goal.returns-in-Ok-Some-clause-within
returns-in-Ok-Some-clause-within g c = (rw c.in-Ok-Some.field-0-is at c.in-Ok-Some.ensures.bounds).within

pub returns-in-Err-clause-refuses : goal.returns-in-Err-clause-refuses
returns-in-Err-clause-refuses g c = refl

pub returns-in-Err-clause-ends : goal.returns-in-Err-clause-ends
returns-in-Err-clause-ends g c = λ e. absurd (err_ok e)

pub returns-in-Err-clause-read : goal.returns-in-Err-clause-read
returns-in-Err-clause-read g c = λ e is. c.in-Err.ensures.told.failed e

pub returns-in-Err-clause-sure : goal.returns-in-Err-clause-sure
returns-in-Err-clause-sure g c = λ sure is. c.in-Err.ensures.told.sure sure

pub returns-in-Err-clause-broken : goal.returns-in-Err-clause-broken
returns-in-Err-clause-broken g c = λ broken is. c.in-Err.ensures.told.broken broken

pub returns-in-Err-clause-lasts : goal.returns-in-Err-clause-lasts
returns-in-Err-clause-lasts g c = c.read_next_record.ensures.told.lasts

pub returns-in-Err-clause-no_write : goal.returns-in-Err-clause-no_write
returns-in-Err-clause-no_write g c = c.in-Err.ensures.told.no_write
