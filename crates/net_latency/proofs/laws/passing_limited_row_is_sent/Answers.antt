use Rattle.net_latency.proofs.LimitedSent.{row_passes, row_sent}
use Rattle.net_latency.proofs.laws.passing_limited_row_is_sent.Goals as goal

pub returns-clause-filter : goal.returns-clause-filter
returns-clause-filter g c = λ p group index f r s x es lists o v plan good member row. row_passes p group f r plan good member row index s x es lists o v

pub returns-clause-frame : goal.returns-clause-frame
returns-clause-frame g c = λ p group index q set f r shared xs out a newer older k moments lists plan good member row. row_sent p group f r plan good member row index q set shared xs out a newer older k moments lists
