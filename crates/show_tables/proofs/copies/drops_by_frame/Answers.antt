use Rattle.std.proofs.Common.{◌∙◌, ap, rules}
use Rattle.std.proofs.lemmas.List.Sorted.{IsNonDecreasingBy-from_sort_by_key, answers_always}
use Rattle.bridge_port.specs.declared.item.Refusal.TheVariants.{Full}
use Rattle.bridge_semantics.specs.declared.outcome.Dropped.{Dropped}
use Rattle.show_tables.specs.FrameTable.{frame_drops}
use Rattle.show_tables.proofs.Kept.{same_of}
use Rattle.show_tables.proofs.copies.drops_by_frame.Goals as goal

pub returns-clause-rising : goal.returns-clause-rising
returns-clause-rising g c = IsNonDecreasingBy-from_sort_by_key (λ (d : Dropped). d.own) _ c.in_ok-sort_by_key.ensures.sorted (λ a r q k. search rules)

pub returns-clause-same : goal.returns-clause-same
returns-clause-same g c = λ own.
    same_of (λ (d : Dropped). d.own) (record { own = own; port = 0; refusal = Full }) _ _ (c.sort_by_key.ensures.stable (λ (d : Dropped). d.own) (answers_always _ _ _ (λ f a r q h. search rules)))
    ∙ ap (frame_drops own) c.in_ok-sorted.ensures
