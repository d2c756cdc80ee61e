use Rattle.std.proofs.Common.{◌∙◌, ◌++◌, ap, refl, string_bytes}
use Rattle.app_networks.specs.Bounds.{warnings_text}
use Rattle.app_networks.proofs.bounds.bound_text.Goals as goal

pub returns-in-Err-clause-fails : goal.returns-in-Err-clause-fails
returns-in-Err-clause-fails c = c.in-Err.ensures.err c.args.text.now refl

pub returns-in-Ok-bounds_output-clause-ok : goal.returns-in-Ok-bounds_output-clause-ok
returns-in-Ok-bounds_output-clause-ok c =
    let warnings = c.in-Ok-warnings_if.warnings in
    let prints = c.in-Ok-bounds_output.ensures in (
      string_bytes c.in-Ok.lines,
      warnings.unprotected,
      string_bytes warnings.shared,
      c.in-Ok.ensures.ok c.args.text.now refl,
      c.in-Ok-warnings_if.ensures,
      (prints.0, prints.1 ∙ ap (λ t. t ++ warnings_text warnings.unprotected (string_bytes warnings.shared)) c.new.ensures.bytes, prints.2),
    )
