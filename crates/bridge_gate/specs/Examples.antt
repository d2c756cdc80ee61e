-- Examples of octet limits and flags of a stream gate, computed.
use Rattle.std.specs.Prelude.{◌≡◌, true, false, Some, None, [], ◌∷◌, refl}
use Rattle.bridge_gate.specs.declared.stream_gate.GateAnswer.TheVariants.{Closed}
use Rattle.bridge_gate.specs.Gates.{is_over_limit, is_shut_by_rx, Answered, RxCleared}

pub at_the_limit : is_over_limit (Some 500) 500 ≡ false
at_the_limit = refl

pub above_the_limit : is_over_limit (Some 500) 501 ≡ true
above_the_limit = refl

pub without_a_limit : is_over_limit None 501 ≡ false
without_a_limit = refl

-- A frame met the closed gate at 300,000 ns; then a command cleared the flag.
pub after_a_closed_gate : is_shut_by_rx (Answered 300000 46 Closed ∷ []) ≡ true
after_a_closed_gate = refl

pub after_a_command : is_shut_by_rx (RxCleared ∷ Answered 300000 46 Closed ∷ []) ≡ false
after_a_command = refl
