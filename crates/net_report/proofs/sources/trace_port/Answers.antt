use Rattle.std.proofs.Common.{◌≡◌, None, Some, map, sym, ap, subst, ◌∙◌}
use Rattle.std.specs.Prelude.{option_map, slice_get}
use Rattle.std.proofs.lemmas.Option.{get_or_from_slice_get, same_Some, slice_get-get_or}
use Rattle.net_model.specs.Networks.{Sender, sender}
use Rattle.net_model.specs.NetworkParts.{link_value, sender_value}
use Rattle.net_report.specs.declared.copy_counting.HopRun.{HopRun}
use Rattle.net_report.specs.Passes.{contents}
use Rattle.net_report.specs.SourceFrames.{IsPairExhausted, IsSenderOfPort}
use Rattle.net_report.proofs.Passes.{port_linked, port_open}
use Rattle.net_report.proofs.sources.trace_port.Goals as goal

pub returns-in_ok-more-in-Some-clause-sound : goal.returns-in_ok-more-in-Some-clause-sound
returns-in_ok-more-in-Some-clause-sound g c = λ are.
    c.in_ok-more-in-Some.ensures.sound c.args.links.now
    (λ h is.
    subst (λ (x : HopRun g.row.A.Denot). sender (map link_value c.args.links.now) x.bridge c.args.port ≡ Some (sender_value c.in-Some.sender))
    (get_or_from_slice_get c.args.hops.now c.args.place h c.index-hops-place.result is)
    (sym c.find_sender.ensures ∙ ap (option_map sender_value) c.in-Some.is)) are

pub returns-in_ok-more-in-Some-clause-exhausted : goal.returns-in_ok-more-in-Some-clause-exhausted
returns-in_ok-more-in-Some-clause-exhausted g c = λ none h s is_h is_s j within.
    let own : sender (map link_value c.args.links.now) h.bridge c.args.port ≡ Some (sender_value c.in-Some.sender) =
    subst (λ (x : HopRun g.row.A.Denot). sender (map link_value c.args.links.now) x.bridge c.args.port ≡ Some (sender_value c.in-Some.sender))
    (get_or_from_slice_get c.args.hops.now c.args.place h c.index-hops-place.result is_h)
    (sym c.find_sender.ensures ∙ ap (option_map sender_value) c.in-Some.is) in
    let same : sender_value c.in-Some.sender ≡ s = same_Some (sender_value c.in-Some.sender) s (sym own ∙ is_s) in
    subst (λ (z : Sender). IsPairExhausted c.args.hops.now c.args.all.now.items z c.args.place c.args.port j) same (c.in_ok-more-in-Some.ensures.exhausted none j within)

pub returns-in-None-clause-exhausted : goal.returns-in-None-clause-exhausted
returns-in-None-clause-exhausted g c = λ none h s is_h is_s j within.
    let own : sender (map link_value c.args.links.now) h.bridge c.args.port ≡ None =
    subst (λ (x : HopRun g.row.A.Denot). sender (map link_value c.args.links.now) x.bridge c.args.port ≡ None)
    (get_or_from_slice_get c.args.hops.now c.args.place h c.index-hops-place.result is_h)
    (sym c.find_sender.ensures ∙ ap (option_map sender_value) c.in-None.is) in
    absurd (let bad : None ≡ Some s = sym own ∙ is_s in cc)

pub returns-in_ok-more-in-Some-clause-traced : goal.returns-in_ok-more-in-Some-clause-traced
returns-in_ok-more-in-Some-clause-traced g c = λ are.
    let links = c.args.links.now in
    let hops = c.args.hops.now in
    let place = c.args.place in
    let h = c.index-hops-place.result in
    let s = sender_value c.in-Some.sender in
    let is_h : slice_get hops place ≡ Some h = slice_get-get_or hops place h c.requires.place ∙ ap (λ (x : HopRun g.row.A.Denot). Some x) (sym c.index-hops-place.is) in
    let own : sender (map link_value links) h.bridge c.args.port ≡ Some s =
    subst (λ (y : HopRun g.row.A.Denot). sender (map link_value links) y.bridge c.args.port ≡ Some s) (sym c.index-hops-place.is) (sym c.find_sender.ensures ∙ ap (option_map sender_value) c.in-Some.is) in
    let sends : IsSenderOfPort links hops place c.args.port s = λ x is.
    subst (λ (y : HopRun g.row.A.Denot). sender (map link_value links) y.bridge c.args.port ≡ Some s) (same_Some h x (sym is_h ∙ is)) own in
    c.in_ok-more-in-Some.ensures.traced links sends are ∙ port_linked links hops place c.args.port (contents c.args.all.now.items) h s is_h own

pub returns-in-None-clause-traced : goal.returns-in-None-clause-traced
returns-in-None-clause-traced g c = λ are.
    let links = c.args.links.now in
    let hops = c.args.hops.now in
    let place = c.args.place in
    let h = c.index-hops-place.result in
    let is_h : slice_get hops place ≡ Some h = slice_get-get_or hops place h c.requires.place ∙ ap (λ (x : HopRun g.row.A.Denot). Some x) (sym c.index-hops-place.is) in
    let own : sender (map link_value links) h.bridge c.args.port ≡ None =
    subst (λ (y : HopRun g.row.A.Denot). sender (map link_value links) y.bridge c.args.port ≡ None) (sym c.index-hops-place.is) (sym c.find_sender.ensures ∙ ap (option_map sender_value) c.in-None.is) in
    port_open links hops place c.args.port (contents c.args.all.now.items) h is_h own
