use Rattle.std.proofs.Common.{List, Option, Vec, length, ap, map, string_bytes, subst, sym, ◌∙◌}
use Rattle.net_report.specs.Tables.{Heading, WriteStream}
use Rattle.net_report.specs.declared.copy_counting.HopRun.{HopRun}
use Rattle.net_report.specs.declared.copy_counting.CopyCounts.{CopyCounts}
use Rattle.net_report.specs.declared.sources.SourceFrame.{SourceFrame}
use Rattle.app_networks.proofs.Rows.{heading_is, tabled}
use Rattle.app_networks.proofs.Told.{count_is}
use Rattle.app_networks.proofs.tables.put_stream_rows.Goals as goal

pub returns : goal.returns
returns g c =
    let links = c.args.links.now in
    let settled = c.args.settled.now in
    let bridges = c.args.file.now.bridges in
    let s = c.args.stream.now in
    let x = c.args.figures in
    let asked = c.hops-hops.result.now in
    let runs = c.in_ok-runs.runs.items in
    let known = c.in_ok-known.known.items in
    let tallies = c.in_ok-tallies.tallies.items in
    let a0 = g.V.Write.contents c.args.streams.now in
    let a1 = g.V.Write.contents c.write_stream.new.streams in
    let b0 = g.W.Write.contents c.args.frames.now in
    let b1 = g.W.Write.contents c.write_stream.new.frames in
    let names = map string_bytes c.deref-4.result.now in
    let h : Heading = record { name = c.name.result.now; hops = names; bound = x.bound; worst = x.worst; deadline = c.deadline.result } in
    tabled links settled bridges s x c.len.result c.delivered_frames.result a0 a1 b0 b1
    (count_is links settled s.hops asked runs c.deref.result.now c.deref-2.result.now known c.deref-3.result.now tallies c.deref-8.result.now c.len.result c.delivered_frames.result
    c.hops-hops.ensures c.deref.ensures.value c.deref-2.ensures.value c.deref-3.ensures.value c.deref-8.ensures.value
    c.in_ok-runs.ensures.many c.in_ok-runs.ensures.told c.in_ok-known.ensures.from c.in_ok-known.ensures.first c.in_ok-known.ensures.each c.in_ok-known.ensures.exhausted c.in_ok-known.ensures.traced c.in_ok-tallies.ensures (c.len.ensures ∙ sym c.deref-8.ensures.len ∙ ap length c.deref-8.ensures.value) c.delivered_frames.ensures)
    (subst (λ (z : Heading). WriteStream links runs known tallies z a0 a1 b0 b1)
    (heading_is bridges c.bridges.result.now s asked c.name.result.now names x c.deadline.result c.bridges.ensures.bridges c.hops-hops.ensures c.name.ensures (ap (map string_bytes) c.deref-4.ensures.value ∙ c.in_ok-names.ensures) c.deadline.ensures)
    (subst (λ (t : List CopyCounts). WriteStream links runs known t h a0 a1 b0 b1) c.deref-7.ensures.value
    (subst (λ (k : List (Vec (Option SourceFrame) _)). WriteStream links runs k c.deref-7.result.now h a0 a1 b0 b1) c.deref-6.ensures.value
    (subst (λ (r : List (HopRun _)). WriteStream links r c.deref-6.result.now c.deref-7.result.now h a0 a1 b0 b1) c.deref-5.ensures.value c.in_ok-write_stream.ensures))))
