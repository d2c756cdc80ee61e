use Rattle.std.proofs.Common.{◌≡◌, ◌+◌, ℕ, Option, Some, None, option_map, sym, ap, subst, ◌∙◌}
use Rattle.std.specs.Prelude.{Vec, slice_get}
use Rattle.std.proofs.lemmas.Option.{slice_get-get_or, slice_get-map}
use Rattle.net_model.specs.declared.sender.Sender.{Sender}
use Rattle.net_run.specs.BridgeRuns.{NoInputBeforeIndex, open_texts, sender_values, text_octets}
use Rattle.net_model.specs.NetworkParts.{sender_value}
use Rattle.net_run.proofs.Begun.{none_more, none_open}
use Rattle.net_run.proofs.Turns.{map_of_set, open_set}
use Rattle.net_run.proofs.bridge_run.clear_linked_port.Goals as goal

pub returns-clause-from_outside : goal.returns-clause-from_outside
returns-clause-from_outside g c =
    let at : slice_get c.args.senders.now c.args.place ≡ Some (Some c.in-Some.field-0) = slice_get-get_or c.args.senders.now c.args.place None c.requires.place ∙ ap (λ (o : Option Sender). Some o) c.in-Some.is in
    let value : slice_get (sender_values c.args.senders.now) c.args.place ≡ Some (Some (sender_value c.in-Some.field-0)) = slice_get-map (option_map sender_value) c.args.senders.now c.args.place ∙ ap (option_map (option_map sender_value)) at in
    ap (open_texts (sender_values c.args.senders.now)) (map_of_set (λ (v : Vec ℕ g.row.A.Denot). v.items) c.args.texts.items c.args.place c.in_ok-texts.field-0)
    ∙ open_set (sender_values c.args.senders.now) (text_octets c.args.texts.items) c.args.place (sender_value c.in-Some.field-0) c.in_ok-texts.field-0.items value

pub returns-clause-empty : goal.returns-clause-empty
returns-clause-empty g c = λ before.
    subst (NoInputBeforeIndex (c.args.place + 1) (sender_values c.args.senders.now)) (sym (map_of_set (λ (v : Vec ℕ g.row.A.Denot). v.items) c.args.texts.items c.args.place c.in_ok-texts.field-0))
    (none_more (sender_values c.args.senders.now) (text_octets c.args.texts.items) c.args.place c.in_ok-texts.field-0.items c.in_ok-texts.ensures.items before)

pub returns-in_default-clause-empty : goal.returns-in_default-clause-empty
returns-in_default-clause-empty g c = λ before.
    let at : slice_get c.args.senders.now c.args.place ≡ Some None = slice_get-get_or c.args.senders.now c.args.place None c.requires.place ∙ ap (λ (o : Option Sender). Some o) c.in_default.is in
    let value : slice_get (sender_values c.args.senders.now) c.args.place ≡ Some None = slice_get-map (option_map sender_value) c.args.senders.now c.args.place ∙ ap (option_map (option_map sender_value)) at in
    none_open (sender_values c.args.senders.now) (text_octets c.args.texts.items) c.args.place value before
