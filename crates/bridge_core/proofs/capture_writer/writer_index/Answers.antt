use Rattle.std.proofs.Common.{◌≤◌, length, refl, arith}
use Rattle.std.proofs.lemmas.Option.{slice_get_within}
use Rattle.bridge_core.specs.CaptureWriters.{writer_ports}
use Rattle.bridge_core.proofs.Written.{numbers_length, number_found, none_more}
use Rattle.bridge_core.proofs.capture_writer.writer_index.Goals as goal

pub returns-then-lines-own-clause-there : goal.returns-then-lines-own-clause-there
returns-then-lines-own-clause-there c = number_found c.args.lines.now c.args.lines.now c.saturating_sub-own.result c.args.port _ refl c.if-own-lines.true c.if-lines-own.true

pub returns-then-lines-place-clause-there : goal.returns-then-lines-place-clause-there
returns-then-lines-place-clause-there c = number_found c.args.lines.now c.args.lines.now c.loop-place.place c.args.port _ refl c.loop-place-test.true c.if-lines-place.true

pub loop-place-preserved : goal.loop-place-preserved
loop-place-preserved c = none_more c.args.lines.now c.args.lines.now c.loop-place.place c.args.port _ refl c.loop-place-test.true c.if-lines-place.false c.loop-place.invariant

pub returns-clause-none : goal.returns-clause-none
returns-clause-none c = λ none i q at.
    let all : length c.args.lines.now ≤ c.loop-place.place = c.loop-place-test.false in
    let long = numbers_length c.args.lines.now in
    let within = slice_get_within (writer_ports c.args.lines.now) i q at in
    c.loop-place.invariant i q (omega (arith, all, long, within)) at
