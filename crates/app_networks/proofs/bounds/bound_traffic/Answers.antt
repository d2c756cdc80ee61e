use Rattle.std.proofs.Common.{inl, inr, ◌∙◌}
use Rattle.app_networks.proofs.bounds.bound_traffic.Goals as goal

pub returns-in-Err-clause-fails : goal.returns-in-Err-clause-fails
returns-in-Err-clause-fails g c = inr (inl (c.file_failure.ensures.path _ c.args.plan.now c.in-Err.ensures.fails))

pub returns-in-Err-open_file-clause-fails : goal.returns-in-Err-open_file-clause-fails
returns-in-Err-open_file-clause-fails g c = inr (inr (c.file_failure-in-Err-open_file.ensures.path _ c.args.file.now c.in-Err-open_file.ensures.fails))

pub returns-in-Err-read_open-clause-fails : goal.returns-in-Err-read_open-clause-fails
returns-in-Err-read_open-clause-fails g c = inr (inl (c.file_failure-in-Err-read_open.ensures.path _ c.args.plan.now c.in-Err-read_open.ensures.fails))

pub returns-in-Ok-bounded-clause-ok : goal.returns-in-Ok-bounded-clause-ok
returns-in-Ok-bounded-clause-ok g c =
    let done = c.in-Ok-bounded.ensures.ok in (
      c.deref.result.now,
      (λ octets told. c.deref.ensures.value ∙ c.in-Ok-read_open.ensures.octets octets (c.in-Ok.ensures.octets octets told)),
      (done.0, (λ octets told. done.1 octets (c.in-Ok-open_file.ensures.octets octets (c.open_file.ensures.same c.args.file.now ∙ told))), done.2),
    )

pub returns-in-Err-bounded-clause-fails : goal.returns-in-Err-bounded-clause-fails
returns-in-Err-bounded-clause-fails g c =
    let done = c.in-Err-bounded.ensures.fails in
    inl (
      c.deref.result.now,
      (λ octets told. c.deref.ensures.value ∙ c.in-Ok-read_open.ensures.octets octets (c.in-Ok.ensures.octets octets told)),
      (done.0, (λ octets told. done.1 octets (c.in-Ok-open_file.ensures.octets octets (c.open_file.ensures.same c.args.file.now ∙ told))), done.2),
    )
