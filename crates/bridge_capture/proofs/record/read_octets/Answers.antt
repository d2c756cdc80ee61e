use Rattle.std.proofs.Common.{refl, sym, true≢false}
use Rattle.bridge_capture.proofs.Answered.{apart}
use Rattle.bridge_capture.proofs.record.read_octets.Goals as goal

pub returns-then-is_err-clause-octets : goal.returns-then-is_err-clause-octets
returns-then-is_err-clause-octets g c = refl

pub returns-then-is_err-clause-failed : goal.returns-then-is_err-clause-failed
returns-then-is_err-clause-failed g c = λ e. absurd (apart e refl)

pub returns-then-is_err-clause-sure : goal.returns-then-is_err-clause-sure
returns-then-is_err-clause-sure g c = λ sure e. apart e refl

pub returns-then-is_err-clause-lasts : goal.returns-then-is_err-clause-lasts
returns-then-is_err-clause-lasts g c = λ sure. sure

pub returns-in-Err-clause-failed : goal.returns-in-Err-clause-failed
returns-in-Err-clause-failed g c = λ e. c.in-Err.ensures.fails

pub returns-in-Err-clause-sure : goal.returns-in-Err-clause-sure
returns-in-Err-clause-sure g c = λ sure. absurd (true≢false (sym (c.in-Err.ensures.sure sure).0))

pub returns-in-Err-clause-lasts : goal.returns-in-Err-clause-lasts
returns-in-Err-clause-lasts g c = λ sure. absurd (true≢false (sym (c.in-Err.ensures.sure sure).0))

pub returns-then-count-len-clause-failed : goal.returns-then-count-len-clause-failed
returns-then-count-len-clause-failed g c = λ e. absurd (apart e refl)

pub returns-then-count-len-clause-sure : goal.returns-then-count-len-clause-sure
returns-then-count-len-clause-sure g c = λ sure e. apart e refl

pub returns-then-count-len-clause-lasts : goal.returns-then-count-len-clause-lasts
returns-then-count-len-clause-lasts g c = λ sure. (c.in-Ok.ensures.sure sure).1

pub returns-clause-failed : goal.returns-clause-failed
returns-clause-failed g c = λ e. absurd (apart e refl)

pub returns-clause-sure : goal.returns-clause-sure
returns-clause-sure g c = λ sure e. apart e refl

pub returns-clause-lasts : goal.returns-clause-lasts
returns-clause-lasts g c = λ sure. (c.in-Ok.ensures.sure sure).1
