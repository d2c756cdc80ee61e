use Rattle.std.proofs.Common.{Global, inl, option_map, refl, string_bytes, ◌∙◌}
use Rattle.app_commands.proofs.ReadTexts.{accepted_of, commands_of, listed_of, unread_planned}
use Rattle.app_commands.proofs.run_files.read_plan_and_commands.Goals as goal

pub returns-in-Err-clause-err : goal.returns-in-Err-clause-err
returns-in-Err-clause-err g c = inl (unread_planned Global (g.F.ReadFiles.octets_at c.args.files.now) c.args.job.now.plan.now c.in-Err.fault c.in-Err.ensures.fails)

pub returns-in-Err-read_plan-clause-err : goal.returns-in-Err-read_plan-clause-err
returns-in-Err-read_plan-clause-err g c =
    inl (c.as_slice.result.now, (λ octets told. c.as_slice.ensures.value ∙ c.in-Ok.ensures.text octets told), c.in-Err-read_plan.ensures.err c.as_slice.result.now refl)

pub returns-in-Ok-read_commands-clause-accepted : goal.returns-in-Ok-read_commands-clause-accepted
returns-in-Ok-read_commands-clause-accepted g c =
    accepted_of (g.F.ReadFiles.octets_at c.args.files.now) c.args.job.now.plan.now c.as_slice.result.now c.in-Ok-read_plan.plan c.in-Ok-read_commands.read.0 (λ octets told. c.as_slice.ensures.value ∙ c.in-Ok.ensures.text octets told)
    (c.in-Ok-read_plan.ensures.ok c.as_slice.result.now refl) c.in-Ok-read_commands.ensures.accepted

pub returns-in-Ok-read_commands-clause-listed : goal.returns-in-Ok-read_commands-clause-listed
returns-in-Ok-read_commands-clause-listed g c =
    listed_of (g.F.ReadFiles.octets_at c.args.files.now) (g.F.ReadFiles.octets_at c.read_file_text.new.files) (option_map string_bytes c.args.job.now.commands.now) c.in-Ok-read_plan.plan c.in-Ok-read_commands.read.0 c.in-Ok-read_commands.read.1.items c.read_file_text.ensures.same
    c.in-Ok-read_commands.ensures.accepted.0 c.in-Ok-read_commands.ensures.listed

pub returns-in-Err-read_commands-clause-err : goal.returns-in-Err-read_commands-clause-err
returns-in-Err-read_commands-clause-err g c =
    commands_of Global (g.F.ReadFiles.octets_at c.args.files.now) (g.F.ReadFiles.octets_at c.read_file_text.new.files) c.args.job.now.plan.now c.as_slice.result.now (option_map string_bytes c.args.job.now.commands.now) c.in-Ok-read_plan.plan c.in-Err-read_commands.fault
    c.read_file_text.ensures.same (λ octets told. c.as_slice.ensures.value ∙ c.in-Ok.ensures.text octets told) (c.in-Ok-read_plan.ensures.ok c.as_slice.result.now refl) c.in-Err-read_commands.ensures.err
