use Rattle.std.proofs.Common.{Global, inl, refl, string_bytes}
use Rattle.app_commands.proofs.ReadTexts.{text_of}
use Rattle.app_networks.proofs.ReadTraffic.{rows_read, texts_end}
use Rattle.app_networks.proofs.bounds.bound_rows.Goals as goal

pub returns-in-Err-clause-fails : goal.returns-in-Err-clause-fails
returns-in-Err-clause-fails g c =
    let text = c.args.text.now in
    texts_end Global (g.R.Read.remaining c.args.rows) c.args.plan.now text c.args.file.now c.in-Err.fault (λ words told. c.in-Err.ensures.err text words refl told) (c.in-Err.ensures.refused text refl)

pub returns-in_default-clause-fails : goal.returns-in_default-clause-fails
returns-in_default-clause-fails g c =
    let some = text_of (g.R.Read.remaining c.args.rows) in
    (some.0, some.1, inl tt)

pub returns-in-Err-bounds_output-clause-fails : goal.returns-in-Err-bounds_output-clause-fails
returns-in-Err-bounds_output-clause-fails g c =
    let some = text_of (g.R.Read.remaining c.args.rows) in
    (some.0, some.1, inl tt)

pub returns-in-Ok-bounds_output-clause-ok : goal.returns-in-Ok-bounds_output-clause-ok
returns-in-Ok-bounds_output-clause-ok g c =
    let text = c.args.text.now in
    let report = c.in-Ok.report in
    let read = rows_read Global (g.R.Read.remaining c.args.rows) text (string_bytes report.text) report.kept (λ words told. c.in-Ok.ensures.ok text words refl told) (c.in-Ok.ensures.read text refl) in
    let warnings = c.in-Ok-warnings_if.warnings in (
      read.0,
      read.1,
      (
        string_bytes report.text,
        report.kept,
        string_bytes c.traffic_reasons-notes.result,
        warnings.unprotected,
        string_bytes warnings.shared,
        read.2,
        c.in-Ok-warnings_if.ensures,
        c.traffic_reasons-notes.ensures,
        c.in-Ok-bounds_output.ensures,
      ),
    )
