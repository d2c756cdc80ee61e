use Rattle.std.proofs.Common.{rules, ◌≡◌, true, false, ◌++◌, take, sym, ap, ◌∙◌, subst}
use Rattle.std.proofs.lemmas.List.{take_rest}
use Rattle.std.specs.Io.KnownBytes.{Appends}
use Rattle.std.proofs.KnownBytes.{Appends-trans}
use lib.Seq.{take-add}
use Rattle.bridge_capture.proofs.transfer.write_by_many_writes.Goals as goal

pub loop-at-preserved : goal.loop-at-preserved
loop-at-preserved g c =
    let at = c.loop-at.at in
    let octets = c.args.octets.now in
    let n = c.in-Ok.count in
    let joined = ap (λ l. take at octets ++ take n l) (take_rest octets at) ∙ sym (take-add at n octets) in
    record {
      within = search rules;
      fresh = λ e. let bad : false ≡ true = c.in-Ok.ensures.stays (c.loop-at.invariant.fresh e).1 in absurd cc;
      works = λ e. c.in-Ok.ensures.works;
      sure = λ e. c.in-Ok.ensures.lasts (c.loop-at.invariant.sure e);
      written = subst (Appends _ _) joined (Appends-trans _ _ _ _ _ c.loop-at.invariant.written c.in-Ok.ensures.bytes);
    }
