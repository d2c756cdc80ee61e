use Rattle.std.proofs.Common.{◌≡◌, ◌+◌, ◌++◌, ◌∷◌, [], ap, sym, ◌∙◌, drop, get_or, arith, rules, append-nil, Ok}
use Rattle.std.proofs.lemmas.List.Elements.{All-push}
use Rattle.std.specs.Option.{option_map}
use Rattle.toml.specs.Data.{as_table}
use Rattle.toml.specs.View.{items_view, table_view, view}
use Rattle.toml.proofs.Views.{items_view-drop}
use Rattle.std.proofs.lemmas.List.{drop_all}
use Rattle.bridge_schema.specs.Readers.{read_entries, with_prefix}
use Rattle.bridge_schema.proofs.Faults.{handed_on}
use Rattle.bridge_schema.proofs.Lists.{table_fails, table_more, other_more}
use Rattle.bridge_schema.proofs.list_entries.read_entries.Goals as goal
use Rattle.bridge_schema.proofs.list_entries.read_entries.Goals.{in-Some+in_ok-made+in_ok-push, in_default}

pub items-preserved : goal.items-preserved
items-preserved g c =
    let entry = g.E.ListEntry.reading c.args.entry.now in
    let items = c.args.items.now in
    let i = c.items.item-index in
    let front = c.items.list.items in
    let value = c.item-item.result in
    let whole = read_entries entry (items_view items) in
    let cut = items_view-drop items i value (let z = c.items-test.true in omega arith) in
    let at : as_table (view (get_or items i value)) ≡ as_table (view value) = ap (λ v. as_table (view v)) (sym c.item-item.is) in
    elim c.match-as_table.branch [
      | in-Some+in_ok-made+in_ok-push w ↦
          let pushed : w.push.new.self.items ≡ front ++ w.in_ok-made.made ∷ [] = search rules in
          let told = sym c.as_table.ensures ∙ ap (option_map (λ m. table_view m.now)) w.in-Some.is in
          rw (w.list-is, pushed) (record {
            same = table_more entry front _ _ (table_view w.in-Some.table.now) (items_view (drop (i + 1) items)) w.in_ok-made.made whole cut (at ∙ told) w.in_ok-made.ensures.reads c.items.invariant.same;
            fits = All-push (g.E.ListEntry.Fits c.args.entry.now) front w.in_ok-made.made c.items.invariant.fits w.in_ok-made.ensures.fits;
          })
      | in_default w ↦
          let told = sym c.as_table.ensures ∙ ap (option_map (λ m. table_view m.now)) w.in_default.is in
          rw w.list-is (record {
            same = other_more entry front _ _ (items_view (drop (i + 1) items)) whole cut (at ∙ told) c.items.invariant.same;
            fits = c.items.invariant.fits;
          })
    ]

pub returns-in_err-made-clause-reads : goal.returns-in_err-made-clause-reads
returns-in_err-made-clause-reads g c =
    let entry = g.E.ListEntry.reading c.args.entry.now in
    let items = c.args.items.now in
    let i = c.items.item-index in
    let value = c.item-item.result in
    let cut = items_view-drop items i value (let z = c.items-test.true in omega arith) in
    let at : as_table (view (get_or items i value)) ≡ as_table (view value) = ap (λ v. as_table (view v)) (sym c.item-item.is) in
    let told = sym c.as_table.ensures ∙ ap (option_map (λ m. table_view m.now)) c.in-Some.is in
    handed_on _ _ _ _
    (table_fails entry c.items.list.items _ _ _ (table_view c.in-Some.table.now) (items_view (drop (i + 1) items)) (read_entries entry (items_view items)) cut (at ∙ told) c.in_err-made.ensures.reads c.items.invariant.same)
    c.from_residual.ensures.1

pub returns-clause-reads : goal.returns-clause-reads
returns-clause-reads g c =
    let entry = g.E.ListEntry.reading c.args.entry.now in
    let items = c.args.items.now in
    let list = c.items.list.items in
    sym c.items.invariant.same ∙ (ap (λ xs. with_prefix list (read_entries entry (items_view xs))) (drop_all c.items.item-index items (let z = c.items-test.false in omega arith)) ∙ ap (λ l. Ok l) (append-nil list))
