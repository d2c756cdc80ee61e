use Rattle.std.proofs.Common.{refl}
use Rattle.clap.specs.Words.{found_of, rows_of}
use Rattle.app_cli.proofs.Parts.{from_given}
use Rattle.app_cli.proofs.picture_request.read_picture_options.Goals as goal

pub returns-then-not-are_in_order-clause-words : goal.returns-then-not-are_in_order-clause-words
returns-then-not-are_in_order-clause-words c = λ same. from_given (rows_of (found_of c.args.values.now)) c.in-Some.from (c.in-Some.ensures.bound c.in-Some.from refl) (c.if-not-are_in_order.ensures.given refl)
