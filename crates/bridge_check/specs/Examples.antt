-- The sixth test of grouped filters, computed.
use Rattle.std.specs.Prelude.{◌≡◌, ℕ, true, false, [], ◌∷◌, Option, Some, None, refl}
use Rattle.bridge_filter.specs.declared.FilterPlan.{FilterPlan}
use Rattle.bridge_config.specs.Model.{Plan}
use Rattle.bridge_check.specs.Reach.{reaches_queue}
use Rattle.bridge_check.specs.Faults.{is_in_group, is_tested, outsider_in_queue, queue_group}

-- A filter of stream 1 in a group, or without a group.
abbrev a_filter : Option ℕ → FilterPlan
a_filter group = record { handle = Some 1; priority = None; gate = 1; max_sdu = Some 500; meter = None; block_oversize = false; protected = false; group = group }

of_the_group : is_in_group 7 (Some 7) ≡ true
of_the_group = refl

of_another_group : is_in_group 7 (Some 8) ≡ false
of_another_group = refl

of_no_group : is_in_group 7 None ≡ false
of_no_group = refl

tested_in_a_group : is_tested (a_filter (Some 7)) ≡ true
tested_in_a_group = refl

untested : is_tested (a_filter None) ≡ false
untested = refl

shares_with_its_group : queue_group (a_filter (Some 7)) ≡ Some 7
shares_with_its_group = refl

module _ {A : Type 0} (p : Plan A) (q c : ℕ) where
  -- Filters 2 and 3 of group 7 may share the queue.
  no_outsider : outsider_in_queue p ((2, a_filter (Some 7)) ∷ (3, a_filter (Some 7)) ∷ []) 7 q c ≡ None
  no_outsider = refl

  -- If filter 5 of group 8 and filter 4 without a group reach the queue too, the lowest outsider is filter 4.
  two_outsiders : reaches_queue p (a_filter None) q c ≡ true → outsider_in_queue p ((2, a_filter (Some 7)) ∷ (5, a_filter (Some 8)) ∷ (4, a_filter None) ∷ []) 7 q c ≡ Some 4
  two_outsiders reach = rw reach refl
