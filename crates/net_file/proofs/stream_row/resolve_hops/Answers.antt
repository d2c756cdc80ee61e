use Rattle.std.proofs.Common.{◌≡◌, ◌<◌, ◌^◌, ◌+◌, ◌++◌, ◌∷◌, [], ℕ, List, Result, Ok, ap, sym, subst, ◌∙◌, drop, get_or, length, length-append, arith, rules}
use Rattle.std.proofs.lemmas.List.{at_drop_all}
use Rattle.std.proofs.lemmas.List.Elements.{All-push}
use Rattle.toml.specs.Data.{Data, Items, item}
use Rattle.toml.specs.View.{items_view, view}
use Rattle.toml.proofs.Views.{items_view-drop}
use Rattle.bridge_schema.specs.Readers.{◌>>=◌}
use Rattle.net_file.specs.declared.fault.NetFault.{NetFault}
use Rattle.net_file.specs.declared.fault.NetKeyLocation.{NetKeyLocation}
use Rattle.net_file.specs.Model.{Bridge}
use Rattle.net_file.specs.Keys.{Fails, value_or_fault}
use Rattle.net_file.specs.Sections.{filter_text, resolve_more_hops}
use Rattle.net_file.proofs.Passing.{fails_here}
use Rattle.net_file.proofs.stream_row.resolve_hops.Goals as goal

-- One hop more is read.
one_more : (place : NetKeyLocation) (bridges : List Bridge) (front : List (ℕ × ℕ)) (h : ℕ × ℕ) (from : Items) (d : Data) (ds : Items) (whole : Result (List (ℕ × ℕ)) NetFault)
    → from ≡ item d ds → value_or_fault place (filter_text bridges d) ≡ Ok h → resolve_more_hops place bridges front from ≡ whole → resolve_more_hops place bridges (front ++ h ∷ []) ds ≡ whole
one_more place bridges front h from d ds whole cut read before =
    let gives : resolve_more_hops place bridges front from ≡ resolve_more_hops place bridges (front ++ h ∷ []) ds =
    ap (resolve_more_hops place bridges front) cut ∙ ap (λ (r : Result (ℕ × ℕ) NetFault). r >>= λ x. resolve_more_hops place bridges (front ++ x ∷ []) ds) read in
    sym gives ∙ before

pub items-preserved : goal.items-preserved
items-preserved g c =
    let items = c.args.items.now in
    let i = c.items.item-index in
    let value = c.item-item.result in
    let front = c.items.hops.items in
    let hop = c.in-Ok.hop in
    let bridges = c.args.bridges.now in
    let place = c.args.place in
    let cut = items_view-drop items i value (let z = c.items-test.true in omega arith) in
    let at : view (get_or items i value) ≡ view value = ap view (sym c.item-item.is) in
    let read : value_or_fault place (filter_text bridges (view (get_or items i value))) ≡ Ok hop =
    ap (λ (d : Data). value_or_fault place (filter_text bridges d)) at ∙ c.in-Ok.ensures.reads in
    let pushed : c.push.new.self.items ≡ front ++ hop ∷ [] = search rules in
    let longer : length (front ++ hop ∷ []) ≡ length front + 1 = length-append front (hop ∷ []) in
    rw pushed (record {
      count = omega (arith, longer, c.items.invariant.count);
      there = All-push (λ (h : ℕ × ℕ). h.0 < length bridges) front hop c.items.invariant.there c.in-Ok.ensures.there;
      numbers = All-push (λ (h : ℕ × ℕ). h.1 < 2 ^ 32) front hop c.items.invariant.numbers c.in-Ok.ensures.number;
      same = one_more place bridges front hop _ _ (items_view (drop (i + 1) items)) _ cut read c.items.invariant.same;
    })

pub returns-in-Err-clause-reads : goal.returns-in-Err-clause-reads
returns-in-Err-clause-reads g c =
    let items = c.args.items.now in
    let i = c.items.item-index in
    let value = c.item-item.result in
    let front = c.items.hops.items in
    let bridges = c.args.bridges.now in
    let place = c.args.place in
    let behind = items_view (drop (i + 1) items) in
    let more : ℕ × ℕ → Result (List (ℕ × ℕ)) NetFault = λ h. resolve_more_hops place bridges (front ++ h ∷ []) behind in
    let cut = items_view-drop items i value (let z = c.items-test.true in omega arith) in
    let at : view (get_or items i value) ≡ view value = ap view (sym c.item-item.is) in
    let all : resolve_more_hops place bridges front (items_view (drop i items)) ≡ (value_or_fault place (filter_text bridges (view value)) >>= more)
    = ap (resolve_more_hops place bridges front) cut ∙ ap (λ (d : Data). value_or_fault place (filter_text bridges d) >>= more) at in
    subst (Fails c.in-Err.fault) (sym all ∙ c.items.invariant.same) (fails_here more _ c.in-Err.fault c.in-Err.ensures.reads)

pub returns-clause-reads : goal.returns-clause-reads
returns-clause-reads g c =
    sym c.items.invariant.same ∙ at_drop_all (λ l. resolve_more_hops c.args.place c.args.bridges.now c.items.hops.items (items_view l)) c.args.items.now c.items.item-index c.items-test.false

pub returns-clause-there : goal.returns-clause-there
returns-clause-there g c = c.items.invariant.there

pub returns-clause-numbers : goal.returns-clause-numbers
returns-clause-numbers g c = c.items.invariant.numbers
