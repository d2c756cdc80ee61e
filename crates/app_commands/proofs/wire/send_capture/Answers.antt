use Rattle.app_commands.proofs.wire.send_capture.Goals as goal

pub returns-in-Ok-clause-ok : goal.returns-in-Ok-clause-ok
returns-in-Ok-clause-ok g c = c.wire_output.ensures c.args.output.now c.in-Ok.ensures.ok
