-- Failures that can end the command `run`.
use Rattle.std.specs.Prelude.{option_map, string_bytes}
use Rattle.std.specs.declared.alloc.Global.{Global}
use Rattle.bridge_config.specs.Model.{Plan}
use Rattle.app_failure.specs.declared.fault.Failure.{Failure}
use Rattle.app_commands.specs.ShownFiles.{EndsTabled, EndsTold}
use Rattle.app_commands.specs.declared.context.RunRequest.{RunRequest}

-- Holds if failure `f` can end a run: a file failed, the plan, the commands or a capture is refused, or memory ran out.
abbrev pub FailsRun : RunRequest → Failure → Type 0
FailsRun r f =
    EndsTold Global r.plan.now (option_map string_bytes r.commands.now) r.input.now r.output.now
    (option_map string_bytes r.tables.now.delays) (option_map string_bytes r.tables.now.frames) (option_map (λ p. string_bytes p.file) r.picture.now) f

-- Holds if failure `f` can end a run under the accepted plan `p`.
abbrev pub FailsRunUnder : Plan Global → RunRequest → Failure → Type 0
FailsRunUnder p r f =
    EndsTabled p r.input.now r.output.now (option_map string_bytes r.tables.now.delays) (option_map string_bytes r.tables.now.frames)
    (option_map (λ p. string_bytes p.file) r.picture.now) f
