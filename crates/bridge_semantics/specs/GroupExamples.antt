-- Computed examples of the own events of a group.
use Rattle.std.specs.Prelude.{◌≡◌, ℕ, true, false, List, [], ◌∷◌, Option, Some, None, refl}
use Rattle.bridge_filter.specs.declared.Clear.TheVariants as clear
use Rattle.bridge_filter.specs.declared.FilterPlan.{FilterPlan}
use Rattle.bridge_config.specs.Model.{Plan}
use Rattle.bridge_semantics.specs.Events.{Cleared}
use Rattle.bridge_semantics.specs.Merge.{Input}
use Rattle.bridge_semantics.specs.Groups.{group_events, group_inputs, is_group_event}

-- A filter with a gate of its own, in a group or without a group.
abbrev a_filter : ℕ → Option ℕ → FilterPlan
a_filter gate group = record { handle = Some gate; priority = None; gate = gate; max_sdu = Some 500; meter = None; block_oversize = false; protected = false; group = group }

-- Filters 1 and 2 are group 7, filter 3 is group 8, and filter 4 has no group.
abbrev filters : List (ℕ × FilterPlan)
filters = (1, a_filter 11 (Some 7)) ∷ (2, a_filter 12 (Some 7)) ∷ (3, a_filter 13 (Some 8)) ∷ (4, a_filter 14 None) ∷ []

-- A command at 5 ns that clears the blocked flag of a filter.
abbrev a_command : ℕ → Input
a_command n = record { at = 5; rank = 0; event = Cleared clear.Blocked n }

module _ {A : Type 0} (p : Plan A) (is : p.filters ≡ filters) where
  of_a_member : is_group_event p 7 (Cleared clear.Blocked 2) ≡ true
  of_a_member = rw is refl

  of_a_members_gate : is_group_event p 7 (Cleared clear.Rx 12) ≡ true
  of_a_members_gate = rw is refl

  of_no_group : is_group_event p 7 (Cleared clear.Blocked 4) ≡ false
  of_no_group = rw is refl

  events_of_two_members : group_events p 7 (Cleared clear.Blocked 1 ∷ Cleared clear.Blocked 3 ∷ Cleared clear.Rx 12 ∷ []) ≡ Cleared clear.Blocked 1 ∷ Cleared clear.Rx 12 ∷ []
  events_of_two_members = rw is refl

  inputs_of_one_member : group_inputs p 8 (a_command 1 ∷ a_command 3 ∷ a_command 4 ∷ []) ≡ a_command 3 ∷ []
  inputs_of_one_member = rw is refl
