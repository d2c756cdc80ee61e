-- The line that `check` prints for an accepted plan.
use Rattle.std.specs.Prelude.{ℕ, List, ◌++◌, count_by, is_some, length, nat_eq, codes, decimal, if◌then◌else◌}
use Rattle.bridge_filter.specs.declared.FilterPlan.{FilterPlan}

-- The number of protected filters among `filters`, for the line of an accepted plan.
abbrev pub count_protected : List (ℕ × FilterPlan) → ℕ
count_protected filters = count_by (λ f. f.1.protected) filters

-- The number of filters in the list that have a group.
abbrev pub count_grouped : List (ℕ × FilterPlan) → ℕ
count_grouped filters = count_by (λ f. is_some f.1.group) filters

-- The line for an accepted plan with these numbers of protected, grouped and all filters. Without grouped filters, the
-- line doesn't count them.
abbrev pub counts_line : ℕ → ℕ → ℕ → List ℕ
counts_line protected grouped all =
    if nat_eq grouped 0 then codes "accepted: " ++ (decimal protected ++ (codes " protected of " ++ (decimal all ++ codes " filters\n")))
    else codes "accepted: " ++ (decimal protected ++ (codes " protected and " ++ (decimal grouped ++ (codes " grouped of " ++ (decimal all ++ codes " filters\n")))))

-- The line for an accepted plan with these filters, with its line feed.
abbrev pub accepted_line : List (ℕ × FilterPlan) → List ℕ
accepted_line filters = counts_line (count_protected filters) (count_grouped filters) (length filters)
