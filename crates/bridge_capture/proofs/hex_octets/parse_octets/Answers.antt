use Rattle.std.proofs.Common.{rules, arith, ◌≡◌, ◌-◌, sym, vec_len}
use Rattle.bridge_capture.proofs.Spelling.{at_end, at_blank, at_lone, at_no_octet, at_no_room, at_octet}
use Rattle.bridge_capture.proofs.hex_octets.parse_octets.Goals as goal

pub loop-first-preserved-then-is_blank : goal.loop-first-preserved-then-is_blank
loop-first-preserved-then-is_blank g c = record {
  few = c.loop-first.invariant.few;
  spelled = at_blank _ _ _ _ _ _ c.in-Some.ensures.cases.0 (sym c.if-is_blank.ensures) c.loop-first.invariant.spelled;
}

pub returns-in_default-split_first-clause-not_hex : goal.returns-in_default-split_first-clause-not_hex
returns-in_default-split_first-clause-not_hex g c = λ _. at_lone _ _ _ _ _ _ (search rules) c.in-Some.ensures.cases.0 (search rules) (sym c.if-is_blank.ensures) c.loop-first.invariant.spelled

pub returns-in_default-parse_octet-clause-not_hex : goal.returns-in_default-parse_octet-clause-not_hex
returns-in_default-parse_octet-clause-not_hex g c = λ _. at_no_octet _ _ _ _ _ _ _ _ (search rules) c.in-Some.ensures.cases.0 c.in-Some-split_first.ensures.cases.0 (sym c.if-is_blank.ensures) (search rules) c.loop-first.invariant.spelled

pub returns-then-len-ge-MAX_OCTETS-clause-too_long : goal.returns-then-len-ge-MAX_OCTETS-clause-too_long
returns-then-len-ge-MAX_OCTETS-clause-too_long g c =
    λ _. at_no_room _ _ _ _ _ _ _ _ _ (search rules) c.in-Some.ensures.cases.0 c.in-Some-split_first.ensures.cases.0 (sym c.if-is_blank.ensures) (sym c.in-Some-parse_octet.ensures) (omega arith) c.loop-first.invariant.spelled

pub loop-first-preserved : goal.loop-first-preserved
loop-first-preserved g c =
    let held = vec_len c.loop-first.octets in
    let room : (1048576 - held) - 1 ≡ 1048576 - vec_len c.push.new.self = omega (arith, c.in_ok-push.ensures.len) in
    let spelled = at_octet _ _ _ _ _ c.in-Some-parse_octet.octet _ _ _ c.in-Some.ensures.cases.0 c.in-Some-split_first.ensures.cases.0 (sym c.if-is_blank.ensures) (sym c.in-Some-parse_octet.ensures) (omega arith) c.loop-first.invariant.spelled in
    record {
      few = search rules;
      spelled = rw (c.in_ok-push.ensures.items, ← room) spelled;
    }

pub returns-clause-ok : goal.returns-clause-ok
returns-clause-ok g c = at_end _ _ _ _ (search rules) (search rules) c.loop-first.invariant.spelled
