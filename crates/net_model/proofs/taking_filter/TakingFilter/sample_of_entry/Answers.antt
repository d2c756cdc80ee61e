use Rattle.std.proofs.Common.{◌∙◌, ap, sym, refl}
use Rattle.std.specs.Prelude.{is_some}
use Rattle.net_model.specs.LinkFrames.{possible_tags}
use Rattle.net_model.specs.SearchState.{first_frame_with_tag}
use Rattle.net_model.proofs.Sampled.{tag_there}
use Rattle.net_model.proofs.Walked.{passed, told, untold}
use Rattle.net_model.proofs.taking_filter.TakingFilter.sample_of_entry.Goals as goal

pub returns-in-Some-clause-asked : goal.returns-in-Some-clause-asked
returns-in-Some-clause-asked g c = (c.in-Some._found, sym c.first_frame_with_tag.ensures ∙ c.in-Some.is)

pub returns-in-Some-clause-found : goal.returns-in-Some-clause-found
returns-in-Some-clause-found g c =
    let t = c.args.self.now in
    let e = c.args.entry.now in
    ap is_some (sym c.in-Some.is
    ∙ told (first_frame_with_tag t e) (possible_tags e.vid) (possible_tags e.vid) c.loop-i.i refl c.sample_tag-tag.result c.first_frame_with_tag.result
    (c.first_frame_with_tag.ensures ∙ ap (first_frame_with_tag t e) (tag_there e.vid c.loop-i.i c.sample_tag-tag.result c.sample_tag-tag.result c.loop-i-test.true c.sample_tag-tag.ensures))
    c.loop-i-test.true (ap is_some c.in-Some.is) c.loop-i.invariant)

pub returns-clause-found : goal.returns-clause-found
returns-clause-found g c =
    let t = c.args.self.now in
    let e = c.args.entry.now in
    ap is_some (untold (first_frame_with_tag t e) (possible_tags e.vid) (possible_tags e.vid) c.loop-i.i refl c.loop-i-test.false c.loop-i.invariant)

pub loop-i-preserved : goal.loop-i-preserved
loop-i-preserved g c =
    let t = c.args.self.now in
    let e = c.args.entry.now in
    passed (first_frame_with_tag t e) (possible_tags e.vid) (possible_tags e.vid) c.loop-i.i refl c.sample_tag-tag.result c.first_frame_with_tag.result
    (c.first_frame_with_tag.ensures ∙ ap (first_frame_with_tag t e) (tag_there e.vid c.loop-i.i c.sample_tag-tag.result c.sample_tag-tag.result c.loop-i-test.true c.sample_tag-tag.ensures))
    c.loop-i-test.true (ap is_some c.in_default.is) c.loop-i.invariant
