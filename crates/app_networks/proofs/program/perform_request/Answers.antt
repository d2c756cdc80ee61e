use Rattle.std.proofs.Common.{map, string_bytes, subst, sym, IfOk}
use Rattle.app_cli.specs.Helping.{explains}
use Rattle.app_commands.specs.Outputs.{Reports}
use Rattle.app_networks.specs.Program.{RefusesWords}
use Rattle.app_networks.proofs.Asked.{refused, refuses_words}
use Rattle.app_networks.proofs.program.perform_request.Goals as goal

pub returns-in-Err : goal.returns-in-Err
returns-in-Err g c =
    let words = map string_bytes c.args.words.now in
    refused words c.words_failure.result c.report_words.result
    (subst (RefusesWords words) (sym c.words_failure.ensures) (refuses_words words c.in-Err.fault c.parse_request.result c.requires c.in-Err.is c.parse_request.ensures.words)) c.report_words.ensures
