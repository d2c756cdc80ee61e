use Rattle.std.proofs.Common.{◌∙◌}
use Rattle.app_commands.specs.ShownFiles.{IsFrameTable}
use Rattle.app_commands.proofs.ShownEnded.{table_written}
use Rattle.app_commands.proofs.tables.write_frame_table.Goals as goal

pub returns-in-Ok-write_table-clause-written : goal.returns-in-Ok-write_table-clause-written
returns-in-Ok-write_table-clause-written g c =
    table_written _ (IsFrameTable c.args.outcome.now) c.args.path.now _ c.as_str-2.result.now _ c.in-Some.is (c.as_str-2.ensures.value ∙ c.in-Ok.ensures) c.in-Ok-write_table.ensures.written
