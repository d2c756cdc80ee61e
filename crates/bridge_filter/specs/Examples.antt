-- Examples of matching filters and of the size limit.
use Rattle.std.specs.Prelude.{◌≡◌, true, false, Some, None, refl}
use Rattle.bridge_filter.specs.Verdicts.{is_handle_match, is_priority_match, is_above_max}

pub any_handle : is_handle_match None None ≡ true
any_handle = refl

pub other_handle : is_handle_match (Some 1) (Some 2) ≡ false
other_handle = refl

pub no_handle : is_handle_match (Some 1) None ≡ false
no_handle = refl

pub any_priority : is_priority_match None 5 ≡ true
any_priority = refl

pub other_priority : is_priority_match (Some 7) 5 ≡ false
other_priority = refl

pub at_the_maximum : is_above_max (Some 500) 500 ≡ false
at_the_maximum = refl

pub above_the_maximum : is_above_max (Some 500) 501 ≡ true
above_the_maximum = refl
