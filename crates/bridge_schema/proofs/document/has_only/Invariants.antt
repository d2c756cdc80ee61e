use Rattle.std.proofs.Common.{◌≡◌}
use Rattle.toml.specs.View.{members_view}
use Rattle.bridge_schema.specs.Reading.{are_known}
use Rattle.bridge_schema.proofs.document.has_only.Given as goal

abbrev pub invariant-members : goal.invariant-members
invariant-members g l =
    (goal.iterator-members g).can_next l.key-iterator × (goal.iterator-members g).is_finite l.key-iterator
    × (are_known g.W.Spell.spelling l.words (members_view l.key-iterator) ≡ are_known g.W.Spell.spelling l.words (members_view l.table.entries))
