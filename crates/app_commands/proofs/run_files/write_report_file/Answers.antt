use Rattle.app_commands.proofs.run_files.write_report_file.Goals as goal

pub returns-in-Ok-write_content-clause-reported : goal.returns-in-Ok-write_content-clause-reported
returns-in-Ok-write_content-clause-reported g c = (c.in-Ok-create_new.output, c.in-Ok-write_content.ensures.written)
