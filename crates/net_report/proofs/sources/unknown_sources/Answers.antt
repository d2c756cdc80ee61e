use Rattle.std.proofs.Common.{◌∷◌, [], None, ap, arith, length, subst, sym, ◌∙◌}
use Rattle.std.proofs.lemmas.List.{length-append}
use Rattle.net_report.specs.SourceFrames.{AreUnknown}
use Rattle.net_report.proofs.Traced.{none_known, unknown_more}
use Rattle.net_report.proofs.sources.unknown_sources.Goals as goal

pub loop-origin-init : goal.loop-origin-init
loop-origin-init g c = record {
  many = ap length c.in_ok-roots.ensures.items;
  are = subst AreUnknown (sym c.in_ok-roots.ensures.items) none_known;
}

pub loop-origin-preserved : goal.loop-origin-preserved
loop-origin-preserved g c =
    let items = c.in_ok-push.ensures.items in
    let many = c.loop-origin.invariant.many in
    let longer = ap length items ∙ length-append c.loop-origin.roots.items (None ∷ []) in
    record {
      many = omega (arith, longer, many);
      are = subst AreUnknown (sym items) (unknown_more c.loop-origin.roots.items c.loop-origin.invariant.are);
    }

pub returns : goal.returns
returns g c =
    let many = c.loop-origin.invariant.many in
    let most = c.loop-origin.auto.origin-index-end in
    let least = c.loop-origin-test.false in
    record { many = omega (arith, many, most, least); unknown = c.loop-origin.invariant.are }
