use Rattle.app_commands.proofs.files.wire_streams.Goals as goal

pub returns-in-Err-clause-err : goal.returns-in-Err-clause-err
returns-in-Err-clause-err g c = λ input told. c.output_fault.ensures.over input (c.in-Err.ensures.err input told)
