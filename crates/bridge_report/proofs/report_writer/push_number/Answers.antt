use Rattle.std.proofs.Common.{◌≡◌, length, arith, refl, rules}
use Rattle.bridge_report.proofs.Digits.{digits_behind, room_behind}
use Rattle.bridge_report.proofs.report_writer.push_number.Goals as goal

pub write_digits-requires : goal.write_digits-requires
write_digits-requires g c =
    let begins : c.len.result ≡ length c.args.octets.now.items = search rules in
    let room = room_behind _ _ _ _ c.len.result _ begins c.count_digits.ensures.most c.in_ok-push_octets.ensures refl c.as_mut_slice.ensures.value in
    (omega (arith, c.count_digits.ensures.count), room)

pub returns : goal.returns
returns g c =
    let begins : c.len.result ≡ length c.args.octets.now.items = search rules in
    let room = room_behind _ _ _ _ c.len.result _ begins c.count_digits.ensures.most c.in_ok-push_octets.ensures refl c.as_mut_slice.ensures.value in
    digits_behind _ _ _ _ _ _ _ _ _ _ _ _ _ begins c.count_digits.ensures.count c.in_ok-push_octets.ensures c.as_mut_slice.ensures.value c.write_digits.ensures.start c.write_digits.ensures.written c.write_digits.ensures.before (omega (arith, room, c.as_mut_slice.ensures.len)) c.truncate.ensures.items
