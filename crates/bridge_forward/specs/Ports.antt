-- Sets of the ports 1 to 16, each as a number whose bit n - 1 is 1 if port n is in the set.
use Rattle.std.specs.Prelude.{◌≡◌, ◌≤◌, ℕ, Bool, false, ◌-◌, ◌^◌, nat_eq, bit_and}
use Rattle.std.specs.Int.{bit_at}

-- True if the set of ports `set` contains port number `port`: bit `port` - 1 of the set is 1.
abbrev pub has_port : ℕ → ℕ → Bool
has_port set port = nat_eq (bit_at set (port - 1)) 1

-- The set of ports `set` after port number `port` is removed; the ports have the numbers 1 to 16.
abbrev pub without_port : ℕ → ℕ → ℕ
without_port set port = bit_and set (65535 - 2 ^ (port - 1))

-- Holds if the set contains none of the ports 1 to 16.
abbrev pub IsEmpty : ℕ → Type 0
IsEmpty set = (q : ℕ) → 1 ≤ q → q ≤ 16 → has_port set q ≡ false
