use Rattle.std.proofs.Common.{◌∙◌, inl, inr}
use Rattle.net_latency.specs.TrafficText.{RefusesRows}
use Rattle.net_latency.proofs.Gathered.{err_as, ok_as}
use Rattle.net_latency.proofs.reporting.read_rows.Goals as goal

pub returns-in-Ok-clause-err : goal.returns-in-Ok-clause-err
returns-in-Ok-clause-err g c = λ words told. err_as c.parse_rows.result (RefusesRows words) _ (λ f h. inr h) (c.parse_rows.ensures.err words (c.deref.ensures.value ∙ c.in-Ok.ensures.octets words told))

pub returns-in-Ok-clause-read : goal.returns-in-Ok-clause-read
returns-in-Ok-clause-read g c = ok_as c.parse_rows.result _ _ (λ rows read. (c.deref.result.now, read)) c.parse_rows.ensures.read

pub returns-in-Ok-clause-refused : goal.returns-in-Ok-clause-refused
returns-in-Ok-clause-refused g c = err_as c.parse_rows.result _ _ (λ f h. inr (c.deref.result.now, h)) c.parse_rows.ensures.refused

pub returns-in-Err-clause-err : goal.returns-in-Err-clause-err
returns-in-Err-clause-err g c = λ words told. inl (c.file_failure.ensures.path _ c.args.path.now c.in-Err.ensures.fails)

pub returns-in-Err-clause-refused : goal.returns-in-Err-clause-refused
returns-in-Err-clause-refused g c = inl (c.file_failure.ensures.path _ c.args.path.now c.in-Err.ensures.fails)
