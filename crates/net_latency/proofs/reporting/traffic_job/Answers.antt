use Rattle.std.proofs.Common.{List, [], inl, inr, string_bytes, subst}
use Rattle.net_file.specs.declared.traffic_row.TalkerRow.{TalkerRow}
use Rattle.net_latency.specs.TrafficText.{AreLinesOfTraffic, RefusesTimings}
use Rattle.net_latency.proofs.Gathered.{err_as, ok_as}
use Rattle.net_latency.proofs.reporting.traffic_job.Goals as goal

pub returns-clause-ok : goal.returns-clause-ok
returns-clause-ok g c = λ input words told heard.
    ok_as c.check_and_report-told.result (λ r. AreLinesOfTraffic c.in-Ok.accepted c.deref.result.now (string_bytes r.text) r.kept) _
    (λ r h. record {
      plan = c.in-Ok.accepted;
      accepts = c.in-Ok.ensures.ok input told;
      rows = c.in-Ok-read_rows.rows.items;
      reads = c.in-Ok-read_rows.ensures.ok words heard;
      are_lines = subst (λ (rows : List TalkerRow). AreLinesOfTraffic c.in-Ok.accepted rows (string_bytes r.text) r.kept) c.deref.ensures.value h;
    })
    c.check_and_report-told.ensures.ok

pub returns-clause-err : goal.returns-clause-err
returns-clause-err g c = λ input words told heard.
    err_as c.check_and_report-told.result (RefusesTimings c.in-Ok.accepted c.deref.result.now) _
    (λ f h. inr (c.in-Ok.accepted, c.in-Ok.ensures.ok input told, inr (inr (c.in-Ok-read_rows.rows.items, c.in-Ok-read_rows.ensures.ok words heard, subst (λ (rows : List TalkerRow). RefusesTimings c.in-Ok.accepted rows f) c.deref.ensures.value h))))
    c.check_and_report-told.ensures.err

pub returns-in-Err-clause-err : goal.returns-in-Err-clause-err
returns-in-Err-clause-err g c = λ input words told heard. inl (c.in-Err.ensures.err input told)

pub returns-in-Err-read_rows-clause-err : goal.returns-in-Err-read_rows-clause-err
returns-in-Err-read_rows-clause-err g c = λ input words told heard. elim (c.in-Err-read_rows.ensures.err words heard) [
  | inl file ↦ inr (c.in-Ok.accepted, c.in-Ok.ensures.ok input told, inl file)
  | inr rows ↦ inr (c.in-Ok.accepted, c.in-Ok.ensures.ok input told, inr (inl rows))
]

pub returns-clause-read : goal.returns-clause-read
returns-clause-read g c = λ input told.
    ok_as c.check_and_report-told.result (λ r. AreLinesOfTraffic c.in-Ok.accepted c.deref.result.now (string_bytes r.text) r.kept) _
    (λ r h. (
      c.in-Ok-read_rows.ensures.read.0,
      record {
        plan = c.in-Ok.accepted;
        accepts = c.in-Ok.ensures.ok input told;
        rows = c.in-Ok-read_rows.rows.items;
        reads = c.in-Ok-read_rows.ensures.read.1;
        are_lines = subst (λ (rows : List TalkerRow). AreLinesOfTraffic c.in-Ok.accepted rows (string_bytes r.text) r.kept) c.deref.ensures.value h;
      },
    ))
    c.check_and_report-told.ensures.ok

pub returns-clause-refused : goal.returns-clause-refused
returns-clause-refused g c = λ input told.
    err_as c.check_and_report-told.result (RefusesTimings c.in-Ok.accepted c.deref.result.now) _
    (λ f h. (c.in-Ok-read_rows.ensures.read.0, inr (c.in-Ok.accepted, c.in-Ok.ensures.ok input told, inr (inr (c.in-Ok-read_rows.rows.items, c.in-Ok-read_rows.ensures.read.1, subst (λ (rows : List TalkerRow). RefusesTimings c.in-Ok.accepted rows f) c.deref.ensures.value h)))))
    c.check_and_report-told.ensures.err

pub returns-in-Err-clause-refused : goal.returns-in-Err-clause-refused
returns-in-Err-clause-refused g c = λ input told. ([], inl (c.in-Err.ensures.err input told))

pub returns-in-Err-read_rows-clause-refused : goal.returns-in-Err-read_rows-clause-refused
returns-in-Err-read_rows-clause-refused g c = λ input told. elim c.in-Err-read_rows.ensures.refused [
  | inl file ↦ ([], inr (c.in-Ok.accepted, c.in-Ok.ensures.ok input told, inl file))
  | inr rows ↦ (rows.0, inr (c.in-Ok.accepted, c.in-Ok.ensures.ok input told, inr (inl rows.1)))
]
