use Rattle.std.proofs.Common.{None, Some, refl, string_bytes, ◌∙◌}
use Rattle.app_commands.proofs.ReadTexts.{none_ended, none_listed, some_ended, some_listed, some_uncopied, some_unread}
use Rattle.app_commands.proofs.run_files.read_commands.Goals as goal

pub returns-in-Ok-clause-listed : goal.returns-in-Ok-clause-listed
returns-in-Ok-clause-listed g c = none_listed (g.F.ReadFiles.octets_at c.args.files.now) c.args.path.now c.args.plan c.in-Ok.read.1.items c.in_default.not-Some (c.in-Ok.ensures.ok None tt)

pub returns-in-Err-clause-err : goal.returns-in-Err-clause-err
returns-in-Err-clause-err g c = none_ended (g.F.ReadFiles.octets_at c.args.files.now) c.args.path.now c.args.plan c.in-Err.fault c.in_default.not-Some (c.in-Err.ensures.err None tt)

pub returns-in-Err-read_file_text-clause-err : goal.returns-in-Err-read_file_text-clause-err
returns-in-Err-read_file_text-clause-err g c =
    some_unread (g.F.ReadFiles.octets_at c.args.files.now) c.args.path.now c.in-Some.path c.as_str.result.now c.args.plan c.in-Err-read_file_text.fault c.in-Some.is c.as_str.ensures.value c.in-Err-read_file_text.ensures.fails

pub returns-in_default-from_str-clause-err : goal.returns-in_default-from_str-clause-err
returns-in_default-from_str-clause-err g c = some_uncopied (g.F.ReadFiles.octets_at c.args.files.now) c.args.path.now c.in-Some.path c.args.plan c.in-Some.is

pub returns-in-Ok-read_commands_and_check-clause-listed : goal.returns-in-Ok-read_commands_and_check-clause-listed
returns-in-Ok-read_commands_and_check-clause-listed g c =
    some_listed (g.F.ReadFiles.octets_at c.args.files.now) c.args.path.now c.in-Some.path c.as_str.result.now c.as_slice.result.now c.args.plan c.in-Ok-read_commands_and_check.read.1.items c.in-Some.is c.as_str.ensures.value
    (λ octets told. c.as_slice.ensures.value ∙ c.in-Ok-read_file_text.ensures.text octets told) (c.in-Ok-read_commands_and_check.ensures.ok (Some c.as_slice.result.now) refl)

pub returns-in-Err-read_commands_and_check-clause-err : goal.returns-in-Err-read_commands_and_check-clause-err
returns-in-Err-read_commands_and_check-clause-err g c =
    some_ended (g.F.ReadFiles.octets_at c.args.files.now) c.args.path.now c.in-Some.path c.as_str.result.now (string_bytes c.in-Ok-from_str.copy) c.as_slice.result.now c.args.plan c.in-Err-read_commands_and_check.fault c.in-Some.is c.as_str.ensures.value
    (c.in-Ok-from_str.ensures.ok ∙ c.as_str-2.ensures.value) (λ octets told. c.as_slice.ensures.value ∙ c.in-Ok-read_file_text.ensures.text octets told)
    (c.in-Err-read_commands_and_check.ensures.err (Some c.as_slice.result.now) refl)
