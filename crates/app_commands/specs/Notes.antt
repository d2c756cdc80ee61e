-- Text for standard error about an accepted plan.
use Rattle.std.specs.Prelude.{◌≡◌, ◌&&◌, ℕ, Bool, true, false, List, [], Option, String, is_some, nat_eq}
use Rattle.std.specs.declared.alloc.Global.{Global}
use Rattle.bridge_filter.specs.declared.FilterPlan.{FilterPlan}
use Rattle.app_failure.specs.Accepting.{count_grouped, count_protected}
use Rattle.app_commands.specs.Outputs.{has_text}

-- Holds if `notes` and `warned` are allowed for an accepted plan. An explanation may have any text.
--
-- Without an explanation, `warned` is true exactly if `notes` isn't empty, and `notes` is empty unless warnings are errors.
abbrev pub AreNotes : Bool → Bool → List ℕ → Bool → Type 0
AreNotes strict true notes warned = Unit {0}
AreNotes true false notes warned = warned ≡ has_text notes
AreNotes false false notes warned = (notes ≡ []) × (warned ≡ false)

-- Holds if a warning is present exactly if the list has no protected and no grouped filter.
abbrev pub WarnsOfNone : List (ℕ × FilterPlan) → Option (String Global) → Type 0
WarnsOfNone filters warning = is_some warning ≡ (nat_eq (count_protected filters) 0 && nat_eq (count_grouped filters) 0)
