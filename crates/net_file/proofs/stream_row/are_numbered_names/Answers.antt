use Rattle.std.proofs.Common.{◌≡◌, ℕ, ◌+◌, ◌&&◌, ◌<◌, List, Bool, true, false, length, drop, get_or, ap, sym, subst, ◌∙◌}
use Rattle.std.proofs.lemmas.List.{at_drop_more}
use Rattle.std.specs.String.{string_bytes}
use Rattle.toml.specs.Data.{Data, string, item}
use Rattle.toml.specs.View.{items_view, view}
use Rattle.toml.proofs.Views.{view-String}
use Rattle.toml.specs.declared.value.Value.{Value}
use Rattle.net_file.specs.Names.{is_numbered_name}
use Rattle.net_file.specs.Sections as sections
use Rattle.net_file.proofs.stream_row.are_numbered_names.Goals as goal

-- The text of an item, and the texts of later items.
form_at : (vs : List Value) (i : ℕ) (v : Value) (s : List ℕ) (t : Bool) → i < length vs → v ≡ get_or vs i v → view v ≡ string s → t ≡ is_numbered_name 0 4294967295 s → sections.are_numbered_names (items_view (drop i vs)) ≡ (t && sections.are_numbered_names (items_view (drop (i + 1) vs)))
form_at vs i v s t there is text holds =
    at_drop_more (λ l. sections.are_numbered_names (items_view l)) vs i v there
    ∙ ap (λ (d : Data). sections.are_numbered_names (item d (items_view (drop (i + 1) vs)))) (ap view (sym is) ∙ text)
    ∙ ap (λ b. b && sections.are_numbered_names (items_view (drop (i + 1) vs))) (sym holds)

pub items-preserved : goal.items-preserved
items-preserved c =
    sym (form_at c.args.items.now c.items.item-index c.item-item.result (string_bytes c.in-String.text) true c.items-test.true c.item-item.is (ap view c.in-String.is ∙ view-String _)
    (subst (λ s. true ≡ is_numbered_name 0 4294967295 s) c.as_str.ensures.value c.if-not-is_numbered_name.ensures)) ∙ c.items.invariant

pub returns-then-not-is_numbered_name : goal.returns-then-not-is_numbered_name
returns-then-not-is_numbered_name c =
    sym (form_at c.args.items.now c.items.item-index c.item-item.result (string_bytes c.in-String.text) false c.items-test.true c.item-item.is (ap view c.in-String.is ∙ view-String _)
    (subst (λ s. false ≡ is_numbered_name 0 4294967295 s) c.as_str.ensures.value c.if-not-is_numbered_name.ensures)) ∙ c.items.invariant
