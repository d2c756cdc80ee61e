-- Open classes and offsets in a cycle, computed.
use Rattle.std.specs.Prelude.{◌≡◌, true, false, refl}
use Rattle.bridge_cycle.specs.Fits.{is_open}
use Rattle.bridge_cycle.specs.Cyclic.{phase}

-- The gate state 80 (hexadecimal) opens class 7 only.
pub class_7_is_open : is_open 0x80 7 ≡ true
class_7_is_open = refl

pub class_6_is_closed : is_open 0x80 6 ≡ false
class_6_is_closed = refl

-- A cycle of 1,000,000 ns has the base time 250,000 ns; it also runs before its base time.
pub in_the_next_cycle : phase 250000 1000000 1300000 ≡ 50000
in_the_next_cycle = refl

pub before_the_base : phase 250000 1000000 100000 ≡ 850000
before_the_base = refl
