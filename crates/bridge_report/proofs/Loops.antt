-- Loops that append text for each item of a list.
use Rattle.std.proofs.Common.{◌≡◌, ℕ, ◌+◌, ◌<◌, ◌≤◌, List, [], ◌∷◌, ◌++◌, Option, length, take, get_or, ap, sym, ◌∙◌}
use Rattle.std.specs.List.{flat_map}
use Rattle.std.proofs.lemmas.Grind.{flat_map-append}
use Rattle.std.proofs.lemmas.List.{append-nil, take_all, take_more}
use Rattle.bridge_report.specs.Growth.{HasGrown}
use Rattle.bridge_report.proofs.Puts.{put_as, put_two}

module _ {T X : Type 0} (contents : T → Option (Option (List ℕ))) (f : X → List ℕ) (xs : List X) (i : ℕ) where
  -- The loop after one item more.
  pub item_put : (o p q : T) (x : X) → i < length xs → x ≡ get_or xs i x → HasGrown contents o (flat_map f (take i xs)) p → HasGrown contents p (f x) q
      → HasGrown contents o (flat_map f (take (i + 1) xs)) q
  item_put o p q x within is before more =
      let front : take (i + 1) xs ≡ take i xs ++ x ∷ [] = take_more xs i x within ∙ ap (λ y. take i xs ++ y ∷ []) (sym is) in
      let all : flat_map f (take (i + 1) xs) ≡ flat_map f (take i xs) ++ f x = ap (flat_map f) front ∙ flat_map-append f (take i xs) (x ∷ []) ∙ ap (λ l. flat_map f (take i xs) ++ l) (append-nil (f x)) in
      put_two contents o p q (flat_map f (take i xs)) (f x) _ before more (sym all)

  -- The loop after the last item.
  pub all_put : (o p : T) → length xs ≤ i → HasGrown contents o (flat_map f (take i xs)) p → HasGrown contents o (flat_map f xs) p
  all_put o p past before = put_as contents o p _ _ before (ap (flat_map f) (take_all i xs past))
