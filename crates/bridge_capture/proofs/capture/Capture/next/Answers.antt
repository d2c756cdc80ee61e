use Rattle.std.proofs.Common.{refl, sym, ap, Ok}
use Rattle.bridge_capture.proofs.Answered.{apart, err_ok, told_on}
use Rattle.bridge_capture.proofs.capture.Capture.next.Goals as goal

pub returns-in-Ok-Some-clause-untouched : goal.returns-in-Ok-Some-clause-untouched
returns-in-Ok-Some-clause-untouched g c = c.read_packet.ensures.untouched

pub returns-in-Ok-Some-clause-read : goal.returns-in-Ok-Some-clause-read
returns-in-Ok-Some-clause-read g c = λ e. absurd (apart e refl)

pub returns-in-Ok-Some-clause-sure : goal.returns-in-Ok-Some-clause-sure
returns-in-Ok-Some-clause-sure g c = λ sure is e. apart e refl

pub returns-in-Ok-Some-clause-no_write : goal.returns-in-Ok-Some-clause-no_write
returns-in-Ok-Some-clause-no_write g c = λ e. apart e refl

pub returns-in-Ok-Some-clause-lasts : goal.returns-in-Ok-Some-clause-lasts
returns-in-Ok-Some-clause-lasts g c = c.read_packet.ensures.lasts

pub returns-in-Ok-Some-clause-broken : goal.returns-in-Ok-Some-clause-broken
returns-in-Ok-Some-clause-broken g c = λ broken is. absurd (apart (c.in-Ok-Some.ensures.broken broken is) refl)

pub returns-in-Ok-Some-clause-again : goal.returns-in-Ok-Some-clause-again
returns-in-Ok-Some-clause-again g c = λ fault was. absurd (err_ok (sym (c.in-Ok-Some.ensures.again fault was)))

pub returns-in-Ok-None-clause-untouched : goal.returns-in-Ok-None-clause-untouched
returns-in-Ok-None-clause-untouched g c = c.read_packet.ensures.untouched

pub returns-in-Ok-None-clause-read : goal.returns-in-Ok-None-clause-read
returns-in-Ok-None-clause-read g c = λ e. absurd (apart e refl)

pub returns-in-Ok-None-clause-sure : goal.returns-in-Ok-None-clause-sure
returns-in-Ok-None-clause-sure g c = λ sure is e. apart e refl

pub returns-in-Ok-None-clause-no_write : goal.returns-in-Ok-None-clause-no_write
returns-in-Ok-None-clause-no_write g c = λ e. apart e refl

pub returns-in-Ok-None-clause-lasts : goal.returns-in-Ok-None-clause-lasts
returns-in-Ok-None-clause-lasts g c = c.read_packet.ensures.lasts

pub returns-in-Ok-None-clause-broken : goal.returns-in-Ok-None-clause-broken
returns-in-Ok-None-clause-broken g c = λ broken is. absurd (apart (c.in-Ok-None.ensures.broken broken is) refl)

pub returns-in-Ok-None-clause-again : goal.returns-in-Ok-None-clause-again
returns-in-Ok-None-clause-again g c = λ fault was. absurd (err_ok (sym (c.in-Ok-None.ensures.again fault was)))

pub returns-in-Ok-None-clause-ended : goal.returns-in-Ok-None-clause-ended
returns-in-Ok-None-clause-ended g c = λ _. refl

pub returns-in-Ok-None-clause-ends : goal.returns-in-Ok-None-clause-ends
returns-in-Ok-None-clause-ends g c = λ _. c.in-Ok-None.ensures.ends (ap (λ o. Ok o) c.in-Ok-None.field-0-is)

pub returns-in-Ok-None-clause-stands : goal.returns-in-Ok-None-clause-stands
returns-in-Ok-None-clause-stands g c = λ text given h. rw c.in-Ok-None.field-0-is at (c.in-Ok-None.ensures.stands text given h)

pub returns-in-Ok-Some-clause-stands : goal.returns-in-Ok-Some-clause-stands
returns-in-Ok-Some-clause-stands g c = λ text given h. rw c.in-Ok-Some.field-0-is at (c.in-Ok-Some.ensures.stands text given h)

pub returns-in-Ok-Some-clause-early : goal.returns-in-Ok-Some-clause-early
returns-in-Ok-Some-clause-early g c = rw c.in-Ok-Some.field-0-is at c.in-Ok-Some.ensures.early

pub returns-in-Ok-Some-clause-onward : goal.returns-in-Ok-Some-clause-onward
returns-in-Ok-Some-clause-onward g c = rw c.in-Ok-Some.field-0-is at c.in-Ok-Some.ensures.onward

pub returns-in-Ok-Some-clause-latest : goal.returns-in-Ok-Some-clause-latest
returns-in-Ok-Some-clause-latest g c = rw c.in-Ok-Some.field-0-is at c.in-Ok-Some.ensures.latest

pub returns-in-Ok-Some-clause-small : goal.returns-in-Ok-Some-clause-small
returns-in-Ok-Some-clause-small g c = rw c.in-Ok-Some.field-0-is at c.in-Ok-Some.ensures.small

pub returns-in-Ok-Some-clause-within : goal.returns-in-Ok-Some-clause-within
returns-in-Ok-Some-clause-within g c = rw c.in-Ok-Some.field-0-is at c.in-Ok-Some.ensures.within

pub returns-in-Ok-Some-clause-fewer : goal.returns-in-Ok-Some-clause-fewer
returns-in-Ok-Some-clause-fewer g c = rw c.in-Ok-Some.field-0-is at c.in-Ok-Some.ensures.fewer

pub returns-in-Ok-Some-clause-reading : goal.returns-in-Ok-Some-clause-reading
returns-in-Ok-Some-clause-reading g c = rw c.in-Ok-Some.field-0-is at c.in-Ok-Some.ensures.reading

pub returns-in-Err-clause-stands : goal.returns-in-Err-clause-stands
returns-in-Err-clause-stands g c = c.in-Err.ensures.stands

pub returns-in-Err-clause-taken : goal.returns-in-Err-clause-taken
returns-in-Err-clause-taken g c = c.in-Err.ensures.taken

pub returns-in-Err-clause-untouched : goal.returns-in-Err-clause-untouched
returns-in-Err-clause-untouched g c = c.in-Err.ensures.untouched

pub returns-in-Err-clause-refuses : goal.returns-in-Err-clause-refuses
returns-in-Err-clause-refuses g c = c.in-Err.ensures.refuses

pub returns-in-Err-clause-lasts : goal.returns-in-Err-clause-lasts
returns-in-Err-clause-lasts g c = c.read_packet.ensures.lasts

pub returns-in-Err-clause-ends : goal.returns-in-Err-clause-ends
returns-in-Err-clause-ends g c = λ e. absurd (err_ok e)

pub returns-in-Err-clause-ended : goal.returns-in-Err-clause-ended
returns-in-Err-clause-ended g c = λ was. absurd (err_ok (c.in-Err.ensures.ended was))

pub returns-in-Err-clause-again : goal.returns-in-Err-clause-again
returns-in-Err-clause-again g c = λ fault was. told_on (c.in-Err.ensures.again fault was)

pub returns-in-Err-clause-read : goal.returns-in-Err-clause-read
returns-in-Err-clause-read g c = λ e. c.in-Err.ensures.read (told_on e)

pub returns-in-Err-clause-broken : goal.returns-in-Err-clause-broken
returns-in-Err-clause-broken g c = λ broken is. told_on (c.in-Err.ensures.broken broken is)

pub returns-in-Err-clause-sure : goal.returns-in-Err-clause-sure
returns-in-Err-clause-sure g c = λ sure is e. c.in-Err.ensures.sure sure is (told_on e)

pub returns-in-Err-clause-no_write : goal.returns-in-Err-clause-no_write
returns-in-Err-clause-no_write g c = λ e. c.in-Err.ensures.no_write (told_on e)
