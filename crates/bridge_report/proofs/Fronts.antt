-- Octets that are written in front of others.
use Rattle.std.proofs.Common.{◌≡◌, ℕ, ◌+◌, ◌-◌, ◌≤◌, ◌<◌, ◌^◌, List, ◌++◌, length, take, drop, ap, sym, subst, ◌∙◌, arith, drop_at, length-take-le}
use Rattle.std.specs.Str.{IsUtf8}
use Rattle.std.specs.Fmt.{decimal}
use Rattle.std.proofs.lemmas.Str.{IsUtf8-append, IsUtf8-from_ascii}
use Rattle.std.proofs.lemmas.Fmt.{IsAscii-decimal, length-decimal-le}
use Rattle.std.proofs.lemmas.List.{length-append, length-drop}
use borrow.Rule.Slice.PartMut.{put_mid, post_of, Post-is}

-- The octets from the new start on are the written piece and the older octets.
pub drop-put_front : (a e : ℕ) (xs ys : List ℕ) → a ≤ e → a ≤ length xs → drop a (put_mid a (e - a) xs ys) ≡ ys ++ drop e xs
drop-put_front a e xs ys ordered within = drop_at (take a xs) (ys ++ post_of a (e - a) xs) a (length-take-le a xs within) ∙ ap (λ l. ys ++ l) (Post-is a e xs ordered)

-- Text in front of text is text.
pub text_in_front : (a e : ℕ) (xs ys piece : List ℕ) → a ≤ e → a ≤ length xs → ys ≡ piece → IsUtf8 piece → IsUtf8 (drop e xs) → IsUtf8 (drop a (put_mid a (e - a) xs ys))
text_in_front a e xs ys piece ordered within same first behind = subst IsUtf8 (sym (drop-put_front a e xs ys ordered within ∙ ap (λ l. l ++ drop e xs) same)) (IsUtf8-append piece (drop e xs) first behind)

-- Digits in front of text are text.
pub digits_in_front : (n : ℕ) (all behind : List ℕ) → all ≡ decimal n ++ behind → n < 2 ^ 64 → IsUtf8 behind → IsUtf8 all
digits_in_front n all behind is fits text = subst IsUtf8 (sym is) (IsUtf8-append (decimal n) behind (IsUtf8-from_ascii (decimal n) (IsAscii-decimal n fits)) text)

-- The line has space for the longest number.
pub room_in_front : (n start : ℕ) (octets text : List ℕ) → length octets ≡ 1920 → start ≤ 1920 → drop start octets ≡ text → 20 + length text ≤ 1920 → n < 2 ^ 64 → length (decimal n) ≤ start
room_in_front n start octets text wide within is room fits = omega (arith, wide, within, room, length-drop start octets, ap length is, length-decimal-le 20 n (omega arith) (omega (arith, fits)) fits)

-- The length of text with a number in front.
pub longer_in_front : (n : ℕ) (all behind : List ℕ) → all ≡ decimal n ++ behind → n < 2 ^ 64 → length all ≤ 20 + length behind
longer_in_front n all behind is fits = omega (arith, ap length is, length-append (decimal n) behind, length-decimal-le 20 n (omega arith) (omega (arith, fits)) fits)
