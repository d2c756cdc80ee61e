use Rattle.std.proofs.Common.{◌≡◌, ◌+◌, ◌-◌, ◌++◌, length, take, drop, ap, ◌∙◌, arith}
use borrow.Rule.Slice.PartMut.{put_mid}
use Rattle.bridge_capture.proofs.Parts.{held_more}
use Rattle.bridge_capture.proofs.write_buffer.WriteBuffer.put_record.Goals as goal

pub returns-clause-octets : goal.returns-clause-octets
returns-clause-octets g c =
    let h = c.args.self.now in
    let n = h.count in
    let m = 16 + length c.args.octets.now in
    let all = c.as_mut_slice.result.now in
    let value = c.as_mut_slice.ensures.value in
    let same = ap length value in
    let ok = h.octets.ok.0 in
    let within = h.within in
    let fits = c.requires in
    let size = ap length c.fill_record.ensures in
    let wide : length c.fill_record.new.place ≡ m = omega (arith, size) in
    let to = n + 16 + length c.args.octets.now in
    let written = c.fill_record.new.place in
    let put = put_mid n (to - n) all written in
    held_more n (to - n) m to h.octets.len all written (drop (length put) h.octets.items) (omega arith) (omega (arith, same, ok, within)) wide (omega (arith, fits, within, ok))
    ∙ ap (λ l. take n l ++ written) value
    ∙ ap (λ l. take n h.octets.items ++ l) c.fill_record.ensures
