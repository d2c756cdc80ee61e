use Rattle.std.proofs.Common.{None, string_bytes}
use Rattle.app_networks.proofs.ReadTraffic.{bounded_none, bounded_some, failed_none, failed_some}
use Rattle.app_networks.proofs.program.bound.Goals as goal

pub returns-in-Ok-clause-ok : goal.returns-in-Ok-clause-ok
returns-in-Ok-clause-ok g c = bounded_some (λ _. None) c.args.traffic.now c.in-Some.file c.as_str.result.now c.as_str-in-Some.result.now c.args.flags.is_strict c.args.flags.is_explained c.in-Ok.output c.in-Some.is c.in-Ok.ensures.ok

pub returns-in-Err-clause-fails : goal.returns-in-Err-clause-fails
returns-in-Err-clause-fails g c =
    failed_some (λ _. None) c.args.traffic.now c.in-Some.file c.as_str.result.now (string_bytes c.args.plan.now) c.as_str-in-Some.result.now c.in-Err.fault c.in-Some.is c.as_str.ensures.value c.as_str-in-Some.ensures.value c.in-Err.ensures.fails

pub returns-in-Ok-bound_plan-clause-ok : goal.returns-in-Ok-bound_plan-clause-ok
returns-in-Ok-bound_plan-clause-ok g c =
    bounded_none (λ _. None) c.args.traffic.now c.as_str-in-None.result.now c.args.flags.is_strict c.args.flags.is_explained c.in-Ok-bound_plan.output c.in-None.is c.in-Ok-bound_plan.ensures.ok

pub returns-in-Err-bound_plan-clause-fails : goal.returns-in-Err-bound_plan-clause-fails
returns-in-Err-bound_plan-clause-fails g c =
    failed_none (λ _. None) c.args.traffic.now c.as_str-in-None.result.now (string_bytes c.args.plan.now) c.in-Err-bound_plan.fault c.in-None.is c.as_str-in-None.ensures.value c.in-Err-bound_plan.ensures.fails
