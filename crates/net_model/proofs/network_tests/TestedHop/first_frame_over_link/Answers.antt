use Rattle.std.proofs.Common.{Option, ap, ◌∙◌}
use Rattle.net_model.specs.FrameSearch.{first_taken_over_link}
use Rattle.net_model.specs.Networks.{End}
use Rattle.net_model.specs.NetworkParts.{stream_value}
use Rattle.net_model.proofs.network_tests.TestedHop.first_frame_over_link.Goals as goal

pub returns-in-Some : goal.returns-in-Some
returns-in-Some g c =
    let h = c.args.self.now in
    c.first_frame_from_peer.ensures ∙ ap (λ (e : Option End). first_taken_over_link c.args.question h.case.plans.now (stream_value h.stream.now) e h.next.now c.args.on.now h.hop.filter) c.in-Some.ensures

pub first_frame_from_peer-requires : goal.first_frame_from_peer-requires
first_frame_from_peer-requires g c = c.requires
