use Rattle.std.proofs.Common.{◌≡◌, List, Option, Some, sym, ap, subst, ◌∙◌, arith}
use Rattle.std.specs.Prelude.{Vec, slice_get}
use Rattle.std.proofs.lemmas.Option.{get_or_from_slice_get, slice_get-get_or, same_Some}
use Rattle.net_model.specs.NetworkParts.{sender_value}
use Rattle.net_report.specs.declared.copy_counting.HopRun.{HopRun}
use Rattle.net_report.specs.declared.sources.SourceFrame.{SourceFrame}
use Rattle.net_report.specs.SourceFrames.{AddsNoSource}
use Rattle.net_report.proofs.Passes.{pair_apart, pair_same, pair_traced}
use Rattle.net_report.proofs.Traced.{exhausted_of, pair_exhausted, sound_kept, traced_as}
use Rattle.net_report.proofs.sources.trace_pair.Goals as goal

pub returns-clause-sound : goal.returns-clause-sound
returns-clause-sound g c = λ links sends are.
    let hops = c.args.hops.now in
    let all = c.args.all.now.items in
    let place = c.args.place in
    let other = c.args.other in
    let h = c.index-hops-place.result in
    let o = c.index-hops-other-2.result in
    let mine = c.index-2.result.now in
    let others = c.index.result.now in
    let s = sender_value c.args.sender in
    let many = c.requires.many in
    let place_in = c.requires.place in
    let other_in = c.requires.other in
    let is_h : slice_get hops place ≡ Some h = slice_get-get_or hops place h place_in ∙ ap (λ (x : HopRun g.row.A.Denot). Some x) (sym c.index-hops-place.is) in
    let is_o : slice_get hops other ≡ Some o = slice_get-get_or hops other o other_in ∙ ap (λ (x : HopRun g.row.A.Denot). Some x) (sym c.index-hops-other-2.is) in
    let is_mine : slice_get all place ≡ Some mine = slice_get-get_or all place mine (omega (arith, many, place_in)) ∙ ap (λ (x : Vec (Option SourceFrame) g.row.A.Denot). Some x) (sym c.index-2.ensures) in
    let is_others : slice_get all other ≡ Some others = slice_get-get_or all other others (omega (arith, many, other_in)) ∙ ap (λ (x : Vec (Option SourceFrame) g.row.A.Denot). Some x) (sym c.index.ensures) in
    let sent = c.deref.ensures.value ∙ ap (λ (x : HopRun g.row.A.Denot). x.view.now.departures.items) (sym c.index-hops-other-2.is) in
    let came = c.deref-3.ensures.value ∙ ap (λ (x : HopRun g.row.A.Denot). x.view.now.origins.items) (sym c.index-hops-place.is) in
    let from = subst (λ (x : HopRun g.row.A.Denot). x.bridge ≡ c.args.sender.from.bridge) (get_or_from_slice_get hops other o c.index-hops-other.result is_o) c.if-hops-other.false in
    let traced = traced_as s o.view.now.departures.items others.items c.args.port h.view.now.origins.items mine.items c.in_ok-made.made.items sent c.deref-2.ensures.value came c.deref-4.ensures.value c.in_ok-made.ensures in
    sound_kept links hops all h o mine others c.in_ok-made.made place other c.args.port s is_h is_o is_mine is_others from sends traced are

pub returns-then-not-has_new_source-clause-exhausted : goal.returns-then-not-has_new_source-clause-exhausted
returns-then-not-has_new_source-clause-exhausted g c = λ same.
    let hops = c.args.hops.now in
    let all = c.args.all.now.items in
    let place = c.args.place in
    let other = c.args.other in
    let h = c.index-hops-place.result in
    let o = c.index-hops-other-2.result in
    let mine = c.index-2.result.now in
    let others = c.index.result.now in
    let s = sender_value c.args.sender in
    let many = c.requires.many in
    let place_in = c.requires.place in
    let other_in = c.requires.other in
    let is_h : slice_get hops place ≡ Some h = slice_get-get_or hops place h place_in ∙ ap (λ (x : HopRun g.row.A.Denot). Some x) (sym c.index-hops-place.is) in
    let is_o : slice_get hops other ≡ Some o = slice_get-get_or hops other o other_in ∙ ap (λ (x : HopRun g.row.A.Denot). Some x) (sym c.index-hops-other-2.is) in
    let is_mine : slice_get all place ≡ Some mine = slice_get-get_or all place mine (omega (arith, many, place_in)) ∙ ap (λ (x : Vec (Option SourceFrame) g.row.A.Denot). Some x) (sym c.index-2.ensures) in
    let is_others : slice_get all other ≡ Some others = slice_get-get_or all other others (omega (arith, many, other_in)) ∙ ap (λ (x : Vec (Option SourceFrame) g.row.A.Denot). Some x) (sym c.index.ensures) in
    let sent = c.deref.ensures.value ∙ ap (λ (x : HopRun g.row.A.Denot). x.view.now.departures.items) (sym c.index-hops-other-2.is) in
    let came = c.deref-3.ensures.value ∙ ap (λ (x : HopRun g.row.A.Denot). x.view.now.origins.items) (sym c.index-hops-place.is) in
    let traced = traced_as s o.view.now.departures.items others.items c.args.port h.view.now.origins.items mine.items c.in_ok-made.made.items sent c.deref-2.ensures.value came c.deref-4.ensures.value c.in_ok-made.ensures in
    let again = c.index-3.result.now in
    let is_again : slice_get all place ≡ Some again = slice_get-get_or all place again (omega (arith, many, place_in)) ∙ ap (λ (x : Vec (Option SourceFrame) g.row.A.Denot). Some x) (sym c.index-3.ensures) in
    let one : mine ≡ again = same_Some mine again (sym is_mine ∙ is_again) in
    let nothing : AddsNoSource mine.items c.in_ok-made.made.items =
    subst (λ (l : List (Option SourceFrame)). AddsNoSource mine.items l) c.deref-6.ensures.value
    (subst (λ (l : List (Option SourceFrame)). AddsNoSource l c.deref-6.result.now) (c.deref-5.ensures.value ∙ ap (λ (x : Vec (Option SourceFrame) g.row.A.Denot). x.items) (sym one)) (c.has_new_source.ensures c.if-not-has_new_source.true)) in
    pair_exhausted hops all s place c.args.port other h o mine others is_h is_o is_mine is_others
    (exhausted_of s o.view.now.departures.items others.items c.args.port h.view.now.origins.items mine.items c.in_ok-made.made.items traced nothing)

pub returns-clause-traced : goal.returns-clause-traced
returns-clause-traced g c = λ links sends are.
    let hops = c.args.hops.now in
    let all = c.args.all.now.items in
    let place = c.args.place in
    let other = c.args.other in
    let h = c.index-hops-place.result in
    let o = c.index-hops-other-2.result in
    let mine = c.index-2.result.now in
    let others = c.index.result.now in
    let s = sender_value c.args.sender in
    let many = c.requires.many in
    let place_in = c.requires.place in
    let other_in = c.requires.other in
    let is_h : slice_get hops place ≡ Some h = slice_get-get_or hops place h place_in ∙ ap (λ (x : HopRun g.row.A.Denot). Some x) (sym c.index-hops-place.is) in
    let is_o : slice_get hops other ≡ Some o = slice_get-get_or hops other o other_in ∙ ap (λ (x : HopRun g.row.A.Denot). Some x) (sym c.index-hops-other-2.is) in
    let is_mine : slice_get all place ≡ Some mine = slice_get-get_or all place mine (omega (arith, many, place_in)) ∙ ap (λ (x : Vec (Option SourceFrame) g.row.A.Denot). Some x) (sym c.index-2.ensures) in
    let is_others : slice_get all other ≡ Some others = slice_get-get_or all other others (omega (arith, many, other_in)) ∙ ap (λ (x : Vec (Option SourceFrame) g.row.A.Denot). Some x) (sym c.index.ensures) in
    let sent = c.deref.ensures.value ∙ ap (λ (x : HopRun g.row.A.Denot). x.view.now.departures.items) (sym c.index-hops-other-2.is) in
    let came = c.deref-3.ensures.value ∙ ap (λ (x : HopRun g.row.A.Denot). x.view.now.origins.items) (sym c.index-hops-place.is) in
    let from = subst (λ (x : HopRun g.row.A.Denot). x.bridge ≡ c.args.sender.from.bridge) (get_or_from_slice_get hops other o c.index-hops-other.result is_o) c.if-hops-other.false in
    let traced = traced_as s o.view.now.departures.items others.items c.args.port h.view.now.origins.items mine.items c.in_ok-made.made.items sent c.deref-2.ensures.value came c.deref-4.ensures.value c.in_ok-made.ensures in
    pair_traced hops all s place c.args.port other h o mine others c.in_ok-made.made is_h is_o is_mine is_others from traced

pub returns-then-not-has_new_source-clause-traced : goal.returns-then-not-has_new_source-clause-traced
returns-then-not-has_new_source-clause-traced g c = λ links sends are.
    let hops = c.args.hops.now in
    let all = c.args.all.now.items in
    let place = c.args.place in
    let other = c.args.other in
    let h = c.index-hops-place.result in
    let o = c.index-hops-other-2.result in
    let mine = c.index-2.result.now in
    let others = c.index.result.now in
    let s = sender_value c.args.sender in
    let many = c.requires.many in
    let place_in = c.requires.place in
    let other_in = c.requires.other in
    let is_h : slice_get hops place ≡ Some h = slice_get-get_or hops place h place_in ∙ ap (λ (x : HopRun g.row.A.Denot). Some x) (sym c.index-hops-place.is) in
    let is_o : slice_get hops other ≡ Some o = slice_get-get_or hops other o other_in ∙ ap (λ (x : HopRun g.row.A.Denot). Some x) (sym c.index-hops-other-2.is) in
    let is_mine : slice_get all place ≡ Some mine = slice_get-get_or all place mine (omega (arith, many, place_in)) ∙ ap (λ (x : Vec (Option SourceFrame) g.row.A.Denot). Some x) (sym c.index-2.ensures) in
    let is_others : slice_get all other ≡ Some others = slice_get-get_or all other others (omega (arith, many, other_in)) ∙ ap (λ (x : Vec (Option SourceFrame) g.row.A.Denot). Some x) (sym c.index.ensures) in
    let sent = c.deref.ensures.value ∙ ap (λ (x : HopRun g.row.A.Denot). x.view.now.departures.items) (sym c.index-hops-other-2.is) in
    let came = c.deref-3.ensures.value ∙ ap (λ (x : HopRun g.row.A.Denot). x.view.now.origins.items) (sym c.index-hops-place.is) in
    let traced = traced_as s o.view.now.departures.items others.items c.args.port h.view.now.origins.items mine.items c.in_ok-made.made.items sent c.deref-2.ensures.value came c.deref-4.ensures.value c.in_ok-made.ensures in
    let from = subst (λ (x : HopRun g.row.A.Denot). x.bridge ≡ c.args.sender.from.bridge) (get_or_from_slice_get hops other o c.index-hops-other.result is_o) c.if-hops-other.false in
    let again = c.index-3.result.now in
    let is_again : slice_get all place ≡ Some again = slice_get-get_or all place again (omega (arith, many, place_in)) ∙ ap (λ (x : Vec (Option SourceFrame) g.row.A.Denot). Some x) (sym c.index-3.ensures) in
    let one : mine ≡ again = same_Some mine again (sym is_mine ∙ is_again) in
    let nothing : AddsNoSource mine.items c.in_ok-made.made.items =
    subst (λ (l : List (Option SourceFrame)). AddsNoSource mine.items l) c.deref-6.ensures.value
    (subst (λ (l : List (Option SourceFrame)). AddsNoSource l c.deref-6.result.now) (c.deref-5.ensures.value ∙ ap (λ (x : Vec (Option SourceFrame) g.row.A.Denot). x.items) (sym one)) (c.has_new_source.ensures c.if-not-has_new_source.true)) in
    pair_same hops all s place c.args.port other h o mine others c.in_ok-made.made is_h is_o is_mine is_others from traced nothing are.each

pub returns-then-hops-other-clause-exhausted : goal.returns-then-hops-other-clause-exhausted
returns-then-hops-other-clause-exhausted g c = λ same h o mine others is_h is_o is_mine is_others bridge.
    absurd (c.if-hops-other.true (subst (λ (x : HopRun g.row.A.Denot). x.bridge ≡ c.args.sender.from.bridge) (sym (get_or_from_slice_get c.args.hops.now c.args.other o c.index-hops-other.result is_o)) bridge))

pub returns-then-hops-other-clause-traced : goal.returns-then-hops-other-clause-traced
returns-then-hops-other-clause-traced g c = λ links sends are.
    let hops = c.args.hops.now in
    pair_apart hops c.args.all.now.items (sender_value c.args.sender) c.args.place c.args.port c.args.other c.requires.place c.requires.other c.requires.many
    (λ o is_o bridge. c.if-hops-other.true (subst (λ (x : HopRun g.row.A.Denot). x.bridge ≡ c.args.sender.from.bridge) (sym (get_or_from_slice_get hops c.args.other o c.index-hops-other.result is_o)) bridge))
