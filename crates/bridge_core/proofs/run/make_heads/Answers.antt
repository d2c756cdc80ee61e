use Rattle.std.proofs.Common.{◌≡◌, Some, slice_get, ap, sym, ◌∙◌}
use Rattle.std.proofs.lemmas.Option.{slice_get-get_or}
use Rattle.bridge_core.proofs.Heads.{heads_all, heads_more, heads_none}
use Rattle.bridge_core.proofs.run.make_heads.Goals as goal

pub loop-place-init : goal.loop-place-init
loop-place-init g c = heads_none (g.H.Agenda.held c.empty-heads.result) c.args.lanes.now c.empty-heads.ensures

pub loop-place-preserved : goal.loop-place-preserved
loop-place-preserved g c =
    let lanes = c.args.lanes.now in
    let n = c.loop-place.place in
    let lane = c.index-lanes-place.result in
    let there : slice_get lanes n ≡ Some lane = slice_get-get_or lanes n lane c.loop-place-test.true ∙ ap Some (sym c.index-lanes-place.is) in
    heads_more (g.H.Agenda.held c.loop-place.heads) (g.H.Agenda.held c.set_reader_head.new.heads) lanes n lane there c.set_reader_head.ensures c.loop-place.invariant

pub returns : goal.returns
returns g c = heads_all (g.H.Agenda.held c.loop-place.heads) c.args.lanes.now c.loop-place.place c.loop-place-test.false c.requires c.loop-place.invariant
