-- The longest window of a class decides which transmission times fit.
use Rattle.std.proofs.Common.{◌≡◌, ℕ, Bool}
use Rattle.std.specs.Prelude.{◌↔◌, IsTrue}
use Rattle.std.specs.Bool.{one_answer}
use Rattle.bridge_cycle.specs.Cyclic.{Cyclic, turn_by_time, IsLawful}
use Rattle.bridge_cycle.specs.Opens.{turn_opens}
use Rattle.bridge_cycle.specs.Runs.{IsLongestRun, Allows}
use Rattle.bridge_cycle.specs.declared.run.Run.{Run}
use Rattle.bridge_cycle.proofs.Lists.{allows_is}
use Rattle.bridge_port.specs.GateSchedule.{list_can_fit, list_opens}
use Rattle.bridge_port.proofs.Opening.{list_ever_is}

pub run_decides : (l : Cyclic ℕ) (run : Run) (c n : ℕ) (b : Bool) → IsLawful l → IsLongestRun (λ v. turn_opens (turn_by_time l v) c) run → IsTrue b ↔ Allows run n → b ≡ list_can_fit l c n
run_decides l run c n b lawful longest is =
    let fits = allows_is (list_opens l c) run longest n in
    let ever = list_ever_is l c n lawful in
    one_answer b (list_can_fit l c n) (λ h. fits.0 (is.0 h), λ some. is.1 (fits.1 some)) (ever.0, ever.1)
