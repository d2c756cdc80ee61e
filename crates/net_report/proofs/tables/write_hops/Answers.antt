use Rattle.std.proofs.Common.{ℕ, List, Option, ap, map, string_bytes, subst, sym, ◌∙◌}
use Rattle.std.proofs.Math.ListN.{get_or-map}
use Rattle.std.proofs.lemmas.List.{length-map}
use Rattle.net_report.specs.declared.sources.SourceFrame.{SourceFrame}
use Rattle.net_report.specs.Tables.{WritesHop}
use Rattle.net_report.proofs.Tabled.{hops_more}
use Rattle.net_report.proofs.tables.write_hops.Goals as goal

pub loop-place-preserved : goal.loop-place-preserved
loop-place-preserved g c =
    let links = c.args.links.now in
    let hops = c.args.hops.now in
    let stream = c.args.stream.now in
    let names = c.args.names.now in
    let i = c.loop-place.place in
    let s = c.index-names-place.result in
    let h = c.index-hops-place.result in
    let k = c.index-known-place.result in
    let a0 = g.V.Write.contents c.args.streams.now in
    let a1 = g.V.Write.contents c.loop-place.streams in
    let a2 = g.V.Write.contents c.write_hop.new.streams in
    let b0 = g.W.Write.contents c.args.frames.now in
    let b1 = g.W.Write.contents c.loop-place.frames in
    let b2 = g.W.Write.contents c.write_hop.new.frames in
    hops_more links hops stream (map string_bytes names) c.args.known.now i (string_bytes s) (string_bytes s) h h k k a0 a1 a2 b0 b1 b2
    (length-map names string_bytes ∙ c.requires.names) c.requires.known c.loop-place-test.true
    (ap string_bytes c.index-names-place.is ∙ sym (get_or-map string_bytes names i s)) c.index-hops-place.is c.index-known-place.is
    c.loop-place.invariant
    (subst (λ (n : List ℕ). WritesHop links hops stream n h k.items a1 a2 b1 b2) c.as_str.ensures.value
    (subst (λ (roots : List (Option SourceFrame)). WritesHop links hops stream c.as_str.result.now h roots a1 a2 b1 b2) c.deref.ensures.value c.in_ok-write_hop.ensures))
