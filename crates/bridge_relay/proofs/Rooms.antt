-- Numbers of items that fit the reserved capacity.
use Rattle.std.proofs.Common.{◌≡◌, ℕ, Bool, true, false, ◌+◌, ◌<◌, ◌≤◌, arith}
use Rattle.std.specs.Prelude.{if◌then◌else◌}

-- A list with fewer items than its limit has capacity for one more.
pub room_left : (n p most cap : ℕ) → n ≤ p → p < most → most ≤ cap → n < cap
room_left n p most cap few here room = omega arith

pub few_more : (n m p : ℕ) → n ≤ p → m ≡ n + 1 → m ≤ p + 1
few_more n m p few is = omega arith

pub none_few : (n : ℕ) → n ≡ 0 → n ≤ 0
none_few n is = omega arith

pub room_kept : (most cap more : ℕ) → most ≤ cap → more ≡ cap → most ≤ more
room_kept most cap more room is = omega arith

pub in_octet : (p : ℕ) → p < 16 → p + 1 < 256
in_octet p here = omega arith

pub in_half : (p : ℕ) → p < 16 → p < 65536
in_half p here = omega arith

pub in_word : (p : ℕ) → p < 16 → p < 18446744073709551616
in_word p here = omega arith

pub is_end : (p most : ℕ) → p ≤ most → most ≤ p → p ≡ most
is_end p most to from = omega arith

pub at_most : (n p most : ℕ) → n ≤ p → p ≤ most → n ≤ most
at_most n p most low to = omega arith

-- One more sent copy doesn't overflow the counter.
pub sent_fits : (sent dropped offered : ℕ) → sent + dropped ≡ offered → offered < 16000000 → sent + 1 < 18446744073709551616
sent_fits sent dropped offered all few = omega arith

pub dropped_fits : (sent dropped offered : ℕ) → sent + dropped ≡ offered → offered < 16000000 → dropped + 1 < 18446744073709551616
dropped_fits sent dropped offered all few = omega arith

-- An open recorder has capacity for a verdict.
pub room_open : (n cap : ℕ) (b : Bool) → n + (if b then 1 else 0) ≤ cap → b ≡ true → n < cap
room_open n cap true room open_so = omega arith
room_open n cap false room open_so = absurd (cc)

-- After the verdict, the recorder is closed.
pub room_closed : (n cap m more : ℕ) (b : Bool) → n + (if b then 1 else 0) ≤ cap → b ≡ true → m ≡ n + 1 → more ≡ cap → m + 0 ≤ more
room_closed n cap m more true room open_so is kept = omega arith
room_closed n cap m more false room open_so is kept = absurd (cc)

-- The number of the verdict's frame has 32 bits.
pub number_fits : (n m : ℕ) (b : Bool) → n + (if b then 1 else 0) < 4294967296 → b ≡ true → m ≡ n + 1 → m + 0 < 4294967296
number_fits n m true few open_so is = omega arith
number_fits n m false few open_so is = absurd (cc)

pub same_few : (n k p : ℕ) → n ≡ k → k ≡ p → n ≤ p
same_few n k p is at = omega arith
