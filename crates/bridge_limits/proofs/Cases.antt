-- Case distinction on a test; each case has its equation.
use Rattle.std.proofs.Common.{◌≡◌, Bool, true, false, ◌&&◌, refl, sym, ◌∙◌}

pub by_bool : {A : Type 0} (b : Bool) → (b ≡ true → A) → (b ≡ false → A) → A
by_bool true f g = f refl
by_bool false f g = g refl

-- If two tests don't both pass and the second passes, the first fails.
pub left_false : (a b : Bool) → (a && b) ≡ false → b ≡ true → a ≡ false
left_false true b h t = sym t ∙ h
left_false false b h t = refl
