use Rattle.std.proofs.Common.{◌≡◌, ◌∙◌, ap, arith, Some}
use Rattle.bridge_check.specs.Faults.{first_among_numbers}
use Rattle.net_model.specs.LinkFrames.{tag_by_priority}
use Rattle.net_model.specs.SearchState.{first_frame_with_tag}
use Rattle.net_model.proofs.Firsts.{of_tags}
use Rattle.net_model.proofs.taking_filter.TakingFilter.first_frame_by_priority.Goals as goal

pub returns : goal.returns
returns g c =
    let most = c.loop-pcp.invariant.0 in
    let least = c.loop-pcp-test.false in
    let all : c.loop-pcp.pcp ≡ 8 = omega (arith, most, least) in
    c.loop-pcp.invariant.1
    ∙ ap (λ n. first_among_numbers n (λ k. first_frame_with_tag c.args.self.now c.args.entry.now (Some (tag_by_priority k c.args.vid)))) all
    ∙ of_tags (first_frame_with_tag c.args.self.now c.args.entry.now) c.args.vid
