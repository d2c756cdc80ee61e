-- Filters that match all frames of another filter, for warnings.
use Rattle.std.specs.Prelude.{ℕ, Bool, true, false, not, ◌&&◌, ◌||◌, List, [], ◌∷◌, Option, Some, None, nat_eq, nat_lt, if◌then◌else◌}
use Rattle.bridge_filter.specs.declared.FilterPlan.{FilterPlan}
use Rattle.bridge_filter.specs.Verdicts.{is_priority_match}
use Rattle.bridge_check.specs.Faults.{is_tested}

-- True if an optional key `one` (handle or priority) matches every frame that key `other` matches: `one` is absent, or both are equal.
abbrev pub covers : Option ℕ → Option ℕ → Bool
covers None other = true
covers (Some one) None = false
covers (Some one) (Some other) = nat_eq one other

-- True if filter `one` matches every frame that filter `other` matches.
abbrev pub covers_filter : FilterPlan → FilterPlan → Bool
covers_filter one other = covers one.handle other.handle && covers one.priority other.priority

-- The number of the first filter below `n` that matches every frame of `filter`. `None` if no filter does.
abbrev pub first_hiding_filter : FilterPlan → ℕ → List (ℕ × FilterPlan) → Option ℕ
first_hiding_filter filter n [] = None
first_hiding_filter filter n (f ∷ fs) = if nat_lt f.0 n && covers_filter f.1 filter then Some f.0 else first_hiding_filter filter n fs

-- The number of the first filter for which `test` is true, apart from filter `n`; `None` if it is true for no other filter.
abbrev pub first_other_filter : (FilterPlan → Bool) → ℕ → List (ℕ × FilterPlan) → Option ℕ
first_other_filter test n [] = None
first_other_filter test n (f ∷ fs) = if not (nat_eq f.0 n) && test f.1 then Some f.0 else first_other_filter test n fs

-- True if the optional meter number of a filter is `m`.
abbrev pub is_meter : ℕ → Option ℕ → Bool
is_meter m None = false
is_meter m (Some own) = nat_eq own m

-- True if filter `f` uses flow meter `m`.
abbrev pub has_meter : ℕ → FilterPlan → Bool
has_meter m f = is_meter m f.meter

-- True if filter `one` matches every frame with priority `k` that filter `other` matches.
abbrev pub takes_at : ℕ → FilterPlan → FilterPlan → Bool
takes_at k one other = covers one.handle other.handle && is_priority_match one.priority k

-- The number of the first filter below `n` that matches every frame of `filter` with priority `k`. `None` if no filter
-- does.
abbrev pub taker_at : FilterPlan → ℕ → ℕ → List (ℕ × FilterPlan) → Option ℕ
taker_at filter n k [] = None
taker_at filter n k (f ∷ fs) = if nat_lt f.0 n && takes_at k f.1 filter then Some f.0 else taker_at filter n k fs

-- True if an optional number of a filter is present.
abbrev pub is_number : Option ℕ → Bool
is_number None = false
is_number (Some n) = true

-- True if a filter below `n` matches every frame of `filter` with priority `k`.
abbrev pub is_taken_at : FilterPlan → ℕ → ℕ → List (ℕ × FilterPlan) → Bool
is_taken_at filter n k fs = is_number (taker_at filter n k fs)

-- True if filters below `n` together match every frame of `filter`, a filter without a priority.
abbrev pub are_all_taken : FilterPlan → ℕ → List (ℕ × FilterPlan) → Bool
are_all_taken filter n fs = is_taken_at filter n 0 fs && is_taken_at filter n 1 fs && is_taken_at filter n 2 fs && is_taken_at filter n 3 fs
    && is_taken_at filter n 4 fs && is_taken_at filter n 5 fs && is_taken_at filter n 6 fs && is_taken_at filter n 7 fs

-- The number of the first protected or grouped filter that uses stream gate `gate`. `None` if no filter does.
abbrev pub tested_with : ℕ → List (ℕ × FilterPlan) → Option ℕ
tested_with gate [] = None
tested_with gate (f ∷ fs) = if nat_eq f.1.gate gate && is_tested f.1 then Some f.0 else tested_with gate fs

-- True if one of the filters uses stream gate `gate`.
abbrev pub is_used : ℕ → List (ℕ × FilterPlan) → Bool
is_used gate [] = false
is_used gate (f ∷ fs) = nat_eq f.1.gate gate || is_used gate fs

-- True if some filter uses stream gate `gate`, but no protected or grouped filter uses it.
abbrev pub is_decision : ℕ → List (ℕ × FilterPlan) → Bool
is_decision gate fs = is_used gate fs && not (is_number (tested_with gate fs))

-- True if at least one filter is protected or grouped.
abbrev pub has_tested : List (ℕ × FilterPlan) → Bool
has_tested [] = false
has_tested (f ∷ fs) = is_tested f.1 || has_tested fs
