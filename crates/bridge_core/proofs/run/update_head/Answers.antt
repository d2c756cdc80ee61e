use Rattle.std.proofs.Common.{◌≡◌, Some, slice_get, ap, sym, ◌∙◌}
use Rattle.std.proofs.lemmas.Option.{slice_get-get_or}
use Rattle.bridge_core.proofs.Heads.{heads_noted}
use Rattle.bridge_core.proofs.run.update_head.Goals as goal

pub returns : goal.returns
returns g c =
    let lanes = c.args.lanes.now in
    let lane = c.index-lanes-place.result in
    let there : slice_get lanes c.args.place ≡ Some lane = slice_get-get_or lanes c.args.place lane c.requires.place ∙ ap Some (sym c.index-lanes-place.is) in
    heads_noted (g.H.Agenda.held c.args.heads.now) (g.H.Agenda.held c.set_reader_head.new.heads) lanes c.args.place lane c.requires.few there c.requires.others c.set_reader_head.ensures
