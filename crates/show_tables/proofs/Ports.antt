-- The ports from 1, one more at a time.
use Rattle.std.proofs.Common.{◌≡◌, ◌∙◌, ℕ, zero, suc, ◌+◌, ◌-◌, ◌≤◌, List, [], ◌∷◌, ◌++◌, ap, sym, arith}
use Rattle.std.specs.List.{flat_map, range_with_len}
use Rattle.std.proofs.lemmas.Grind.{flat_map-append}
use Rattle.std.proofs.lemmas.List.{append-nil}

range_more : (a n : ℕ) → range_with_len a (suc n) ≡ range_with_len a n ++ (a + n) ∷ []
range_more a zero = ap (λ m. m ∷ []) (omega arith)
range_more a (suc n) = ap (λ l. a ∷ l) (range_more (a + 1) n ∙ ap (λ m. range_with_len (a + 1) n ++ m ∷ []) (omega arith))

-- The text with one port more.
pub one_port_more : (f : ℕ → List ℕ) (port : ℕ) → 1 ≤ port → flat_map f (range_with_len 1 (port - 1)) ++ f port ≡ flat_map f (range_with_len 1 (port + 1 - 1))
one_port_more f port from =
    let before = range_with_len 1 (port - 1) in
    let count : suc (port - 1) ≡ port + 1 - 1 = omega (arith, from) in
    let last : 1 + (port - 1) ≡ port = omega (arith, from) in
    let ports : before ++ port ∷ [] ≡ range_with_len 1 (port + 1 - 1) = ap (λ q. before ++ q ∷ []) (sym last) ∙ (sym (range_more 1 (port - 1)) ∙ ap (range_with_len 1) count) in
    ap (λ z. flat_map f before ++ z) (sym (append-nil (f port))) ∙ (sym (flat_map-append f before (port ∷ [])) ∙ ap (flat_map f) ports)
