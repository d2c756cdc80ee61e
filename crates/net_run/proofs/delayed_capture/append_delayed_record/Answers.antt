use Rattle.std.proofs.Common.{ℕ, List, None, ◌++◌, ap, ◌∙◌, arith}
use Rattle.net_run.proofs.Delaying.{no_octets, no_words, record_appended}
use Rattle.net_run.proofs.Later.{adds_later, short_of_words, short_of_octets}
use Rattle.net_run.specs.DelayedCapture.{time_words}
use Rattle.net_run.proofs.delayed_capture.append_delayed_record.Goals as goal

pub returns-clause-adds : goal.returns-clause-adds
returns-clause-adds g c = adds_later c.args.delay c.args.octets.now c.args.text.now.items c.extend_from_slice.new.self.items c.extend_from_slice-2.new.self.items c.read_word-2.result c.read_word-3.result c.read_word.result c.read_word.ensures.word c.read_word-2.ensures.word c.read_word-3.ensures.word (c.in_ok-extend_from_slice.ensures.items ∙ ap (λ (z : List ℕ). c.args.text.now.items ++ z) (c.time_words.ensures ∙ ap time_words c.delayed_time.ensures)) c.in_ok-extend_from_slice-2.ensures.items

pub returns-clause-exact : goal.returns-clause-exact
returns-clause-exact g c =
    let long = c.if-octets-lt-RECORD_HEADER_LENGTH.false in
    let whole = c.if-octets-end.false in
    record_appended c.args.delay c.args.octets.now c.args.text.now.items c.extend_from_slice.new.self.items c.extend_from_slice-2.new.self.items c.read_word-2.result c.read_word-3.result c.read_word.result (omega (arith, long)) (omega (arith, whole)) c.read_word.ensures.word c.read_word-2.ensures.word c.read_word-3.ensures.word (c.in_ok-extend_from_slice.ensures.items ∙ ap (λ (z : List ℕ). c.args.text.now.items ++ z) (c.time_words.ensures ∙ ap time_words c.delayed_time.ensures)) c.in_ok-extend_from_slice-2.ensures.items

pub returns-then-octets-lt-RECORD_HEADER_LENGTH-clause-adds : goal.returns-then-octets-lt-RECORD_HEADER_LENGTH-clause-adds
returns-then-octets-lt-RECORD_HEADER_LENGTH-clause-adds g c = short_of_words c.args.delay c.args.octets.now c.args.text.now.items c.args.text.now.items None c.if-octets-lt-RECORD_HEADER_LENGTH.true

pub returns-then-octets-lt-RECORD_HEADER_LENGTH-clause-exact : goal.returns-then-octets-lt-RECORD_HEADER_LENGTH-clause-exact
returns-then-octets-lt-RECORD_HEADER_LENGTH-clause-exact g c = no_words c.args.delay c.args.octets.now c.if-octets-lt-RECORD_HEADER_LENGTH.true

pub returns-then-octets-end-clause-adds : goal.returns-then-octets-end-clause-adds
returns-then-octets-end-clause-adds g c = short_of_octets c.args.delay c.args.octets.now c.args.text.now.items c.args.text.now.items None c.read_word.result c.read_word.ensures.word c.if-octets-end.true

pub returns-then-octets-end-clause-exact : goal.returns-then-octets-end-clause-exact
returns-then-octets-end-clause-exact g c =
    let long = c.if-octets-lt-RECORD_HEADER_LENGTH.false in
    no_octets c.args.delay c.args.octets.now c.read_word.result (omega (arith, long)) c.read_word.ensures.word c.if-octets-end.true
