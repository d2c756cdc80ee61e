use Rattle.std.proofs.Common.{ℕ, List, ap, string_bytes, subst, ◌∙◌}
use Rattle.std.specs.Io.KnownBytes.{Appends}
use Rattle.std.proofs.lemmas.Result.{on_ok_weaker}
use Rattle.net_report.specs.Statistics.{delay_statistics}
use Rattle.net_report.specs.StreamTable.{stream_line}
use Rattle.net_report.specs.Tables.{heading_of}
use Rattle.net_report.proofs.Tabled.{stream_written}
use Rattle.net_report.proofs.tables.write_stream.Goals as goal

pub returns : goal.returns
returns g c =
    let links = c.args.links.now in
    let hops = c.args.hops.now in
    let tallies = c.args.tallies.now in
    let s = heading_of c.args.heading in
    let delays = c.in_ok-delays.delays.items in
    let line = string_bytes c.in_ok-line.line in
    let a0 = g.V.Write.contents c.args.streams.now in
    let a1 = g.V.Write.contents c.put_table.new.writer in
    let a2 = g.V.Write.contents c.write_hops.new.streams in
    let b0 = g.W.Write.contents c.args.frames.now in
    let b1 = g.W.Write.contents c.write_hops.new.frames in
    on_ok_weaker c.write_hops.result
    (λ written. stream_written links hops c.args.known.now tallies s delays line a0 a1 a2 b0 b1 c.in_ok-delays.ensures
    (c.in_ok-line.ensures ∙ ap (λ f. stream_line s.name tallies f s.bound s.deadline s.worst) (c.delay_statistics.ensures ∙ ap delay_statistics c.deref.ensures.value))
    (subst (λ (text : List ℕ). Appends a0 a1 text) c.as_str.ensures.value c.in_ok-put_table.ensures) written)
    c.write_hops.ensures
