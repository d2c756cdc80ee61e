use Rattle.std.proofs.Common.{ℕ, List, Option, Vec, length, ap, refl, subst, ◌∙◌}
use Rattle.net_report.specs.declared.copy_counting.HopRun.{HopRun}
use Rattle.net_report.specs.declared.sources.SourceFrame.{SourceFrame}
use Rattle.net_report.specs.StreamTable.{delivered_frames}
use Rattle.net_report.specs.Tables.{AreDelays}
use Rattle.app_networks.specs.Losing.{AreLosses}
use Rattle.app_networks.proofs.Losses.{grown_as, stream_told}
use Rattle.app_networks.proofs.Told.{count_is}
use Rattle.app_networks.proofs.losing.put_stream_lines.Goals as goal

pub returns : goal.returns
returns c =
    let links = c.args.links.now in
    let settled = c.args.settled.now in
    let bridges = c.args.bridges.now in
    let s = c.args.stream.now in
    let asked = c.hops-hops.result.now in
    let runs = c.in_ok-runs.runs.items in
    let known = c.in_ok-all.all.items in
    let tallies = c.in_ok-tallies.tallies.items in
    let losses = c.in_ok-losses.losses.items in
    let delays = c.in_ok-delays.delays.items in
    stream_told links settled bridges s (length tallies) (delivered_frames tallies) losses delays c.args.text.now c.put_faults.new.text
    (count_is links settled s.hops asked runs c.deref.result.now c.deref-2.result.now known c.deref-3.result.now tallies tallies (length tallies) (delivered_frames tallies)
    c.hops-hops.ensures c.deref.ensures.value c.deref-2.ensures.value c.deref-3.ensures.value refl
    c.in_ok-runs.ensures.many c.in_ok-runs.ensures.told c.in_ok-all.ensures.from c.in_ok-all.ensures.first c.in_ok-all.ensures.each c.in_ok-all.ensures.exhausted c.in_ok-all.ensures.traced c.in_ok-tallies.ensures refl refl)
    (subst (λ (xs : List (ℕ × ℕ)). AreLosses links runs bridges xs runs losses) c.hops-hops.ensures
    (subst (λ (r : List (HopRun _)). AreLosses links r bridges asked r losses) c.deref-4.ensures.value
    (c.in_ok-losses.ensures (ap length c.deref-4.ensures.value ∙ c.in_ok-runs.ensures.many))))
    (subst (λ (k : List (Vec (Option SourceFrame) _)). AreDelays links runs runs k delays) c.deref-6.ensures.value
    (subst (λ (r : List (HopRun _)). AreDelays links r r c.deref-6.result.now delays) c.deref-5.ensures.value c.in_ok-delays.ensures))
    (grown_as c.args.text.now c.put_faults.new.text s.name c.name.result.now tallies c.deref-7.result.now losses c.deref-8.result.now delays c.deref-9.result.now s.deadline c.deadline.result
    c.name.ensures c.deref-7.ensures.value c.deref-8.ensures.value c.deref-9.ensures.value c.deadline.ensures c.put_faults.ensures)
