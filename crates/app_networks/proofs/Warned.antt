-- A network with a warning, if warnings are errors.
use Rattle.std.proofs.Common.{◌≡◌, ℕ, Bool, true, false, List, [], ap, refl, sym, ◌∙◌}
use Rattle.std.proofs.lemmas.Bool.{false≢true}
use Rattle.net_file.specs.Model as file
use Rattle.net_model.specs.NetworkParts.{NetworkParts}
use Rattle.app_networks.specs.Losing.{AreWarningsIf, TellsWarnings, has_lines}

-- If there is a warning text, warnings are errors.
pub warned_if : {A : Type 0} (strict : Bool) (f : file.Network) (n : NetworkParts A) (text : List ℕ) → AreWarningsIf strict f n text → has_lines text ≡ true → (strict ≡ true) × TellsWarnings n f text
warned_if true f n text are some = (refl, (are, some))
warned_if false f n text are some = absurd (false≢true (sym (ap has_lines are) ∙ some))
