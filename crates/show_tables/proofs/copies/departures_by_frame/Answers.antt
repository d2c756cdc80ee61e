use Rattle.std.proofs.Common.{◌∙◌, ap, rules}
use Rattle.std.proofs.lemmas.List.Sorted.{IsNonDecreasingBy-from_sort_by_key, answers_always}
use Rattle.bridge_semantics.specs.declared.outcome.Departure.{Departure}
use Rattle.show_tables.specs.FrameTable.{frame_departures}
use Rattle.show_tables.proofs.Kept.{same_of}
use Rattle.show_tables.proofs.copies.departures_by_frame.Goals as goal

pub returns-clause-rising : goal.returns-clause-rising
returns-clause-rising g c = IsNonDecreasingBy-from_sort_by_key (λ (d : Departure). d.own) _ c.in_ok-sort_by_key.ensures.sorted (λ a r q k. search rules)

pub returns-clause-same : goal.returns-clause-same
returns-clause-same g c = λ own.
    same_of (λ (d : Departure). d.own) (record { own = own; port = 0; start = 0; done = 0 }) _ _ (c.sort_by_key.ensures.stable (λ (d : Departure). d.own) (answers_always _ _ _ (λ f a r q h. search rules)))
    ∙ ap (frame_departures own) c.in_ok-sorted.ensures
