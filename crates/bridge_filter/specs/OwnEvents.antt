-- Own events of a filter: its frames, and the commands for it, its gate and its meter.
use Rattle.std.specs.Prelude.{◌≡◌, ℕ, Bool, false, nat_eq, Option, Some, None, List, [], ◌∷◌, if◌then◌else◌}
use Rattle.bridge_limits.specs.Members.{IsMember}
use Rattle.bridge_filter.specs.declared.Clear.{Clear}
use Rattle.bridge_filter.specs.declared.Clear.TheVariants as clear
use Rattle.bridge_filter.specs.declared.FilterPlan.{FilterPlan}
use Rattle.bridge_filter.specs.Verdicts.{PolicePlans, FilterEvent, Arrived, Cleared, FilterStep, Unfiltered, Judged, Commanded, frame_filter, is_meter}

-- True if the frame's filter has the number `s`; false if no filter matches the frame (`None`).
abbrev pub is_filter_number : ℕ → Option (ℕ × FilterPlan) → Bool
is_filter_number s None = false
is_filter_number s (Some x) = nat_eq x.0 s

-- True if a command clears a flag of the filter with number `s` and settings `f`, of its gate, or of its meter.
abbrev pub is_own_command : ℕ → FilterPlan → Clear → ℕ → Bool
is_own_command s f clear.Blocked n = nat_eq n s
is_own_command s f clear.Rx n = nat_eq n f.gate
is_own_command s f clear.Octets n = nat_eq n f.gate
is_own_command s f clear.Red n = is_meter f.meter n

-- Own events of a filter: frames that have this filter, and commands that clear a flag of the filter, its gate or its meter.
abbrev pub own_filter_events : PolicePlans → ℕ → FilterPlan → List FilterEvent → List FilterEvent
own_filter_events p s f [] = []
own_filter_events p s f (Arrived c ∷ es) = if is_filter_number s (frame_filter p.filters c) then Arrived c ∷ own_filter_events p s f es else own_filter_events p s f es
own_filter_events p s f (Cleared c n ∷ es) = if is_own_command s f c n then Cleared c n ∷ own_filter_events p s f es else own_filter_events p s f es

-- True if a result belongs to filter `s` with settings `f`. Such a result is the verdict on its frame, or a command for the filter, its
-- gate or its meter.
abbrev pub is_own_step : ℕ → FilterPlan → FilterStep → Bool
is_own_step s f (Unfiltered c) = false
is_own_step s f (Judged c n g v) = nat_eq n s
is_own_step s f (Commanded c n) = is_own_command s f c n

-- Results that belong to the filter: its frames, and commands for the filter, its stream gate and its meter.
abbrev pub own_steps : ℕ → FilterPlan → List FilterStep → List FilterStep
own_steps s f [] = []
own_steps s f (x ∷ xs) = if is_own_step s f x then x ∷ own_steps s f xs else own_steps s f xs

-- Holds if only the filter `f` has the number `s`, and no other filter uses its gate or its meter.
pub record HasOwnInstances (p : PolicePlans) (s : ℕ) (f : FilterPlan) : Type 0 where
  pub one : (g : FilterPlan) → IsMember (s, g) p.filters → f ≡ g
  pub gate : (n : ℕ) (g : FilterPlan) → IsMember (n, g) p.filters → g.gate ≡ f.gate → n ≡ s
  pub meter : (n m : ℕ) (g : FilterPlan) → f.meter ≡ Some m → IsMember (n, g) p.filters → g.meter ≡ Some m → n ≡ s
