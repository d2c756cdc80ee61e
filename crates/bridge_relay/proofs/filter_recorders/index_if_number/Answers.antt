use Rattle.std.proofs.Common.{ℕ, ◌∙◌, ap, sym, Some}
use Rattle.std.specs.Option.{option_map}
use Rattle.std.proofs.lemmas.Option.{slice_get-map}
use Rattle.bridge_relay.specs.Recorders.{RecorderState}
use Rattle.bridge_relay.proofs.filter_recorders.index_if_number.Goals as goal

pub returns-in-Some : goal.returns-in-Some
returns-in-Some g c =
    let number : ℕ × RecorderState → ℕ = λ e. e.0 in
    slice_get-map number c.args.tables.now.entries c.args.place ∙ (ap (option_map number) (sym c.in-Some.ensures.entry) ∙ ap (λ (n : ℕ). Some n) c.if-own-number.true)
