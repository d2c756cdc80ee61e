-- Proofs about pieces added to a text one after another.
use Rattle.std.proofs.Common.{◌≡◌, ℕ, ◌+◌, ◌<◌, ◌≤◌, List, [], ◌∷◌, ◌++◌, Option, Some, None, length, take, get_or, append_assoc, sym, ap, subst, ◌∙◌}
use Rattle.std.specs.Prelude.{IfOk, Result, Ok, Err, decimal, flat_map}
use Rattle.std.proofs.lemmas.Grind.{flat_map-append}
use Rattle.std.proofs.lemmas.List.{append-nil, take_all, take_more}
use Rattle.bridge_text.specs.Growth.{Grows, HasGrown}

pub grows_none : (o : Option (List ℕ)) → Grows o [] o
grows_none None = tt
grows_none (Some x) = sym (append-nil x)

pub grows_two : (o p q : Option (List ℕ)) (a b : List ℕ) → Grows o a p → Grows p b q → Grows o (a ++ b) q
grows_two o p None a b first second = tt
grows_two o None (Some z) a b first second = absurd second
grows_two None (Some y) (Some z) a b first second = absurd first
grows_two (Some x) (Some y) (Some z) a b first second = second ∙ ap (λ l. l ++ b) first ∙ append_assoc x a b

pub put_none : (o : Option (List ℕ)) → HasGrown o [] o
put_none o = record { grows = grows_none o }

-- Joins two added pieces.
pub put_piece : (o p q : Option (List ℕ)) (a b : List ℕ) → HasGrown o a p → HasGrown p b q → HasGrown o (a ++ b) q
put_piece o p q a b first second = record { grows = grows_two o p q a b first.grows second.grows }

-- Joins a pair of pieces with a third piece.
pub put_pair : (o p q : Option (List ℕ)) (a b c : List ℕ) → HasGrown o (a ++ b) p → HasGrown p c q → HasGrown o (a ++ (b ++ c)) q
put_pair o p q a b c first second = record { grows = subst (λ l. Grows o l q) (append_assoc a b c) (grows_two o p q (a ++ b) c first.grows second.grows) }

-- Joins a number, the piece after the number, and a further piece.
pub put_count : (o p q : Option (List ℕ)) (n : ℕ) (end c : List ℕ) → HasGrown o (decimal n ++ end) p → HasGrown p c q → HasGrown o (decimal n ++ (end ++ c)) q
put_count o p q n end c first second = put_pair o p q (decimal n) end c first second

-- Replaces the added octets by equal octets.
pub put_as : (o p : Option (List ℕ)) (a b : List ℕ) → HasGrown o a p → a ≡ b → HasGrown o b p
put_as o p a b first is = record { grows = subst (λ l. Grows o l p) is first.grows }

-- An empty text that grows by `a` ends as `a`.
pub whole : (o p : Option (List ℕ)) (a b : List ℕ) → o ≡ Some [] → HasGrown o a p → p ≡ Some b → b ≡ a
whole o p a b none grown some = subst (λ (x : Option (List ℕ)). Grows x a (Some b)) none (subst (λ (y : Option (List ℕ)). Grows o a y) some grown.grows)

-- A result that contains the text of an empty builder contains exactly the added octets.
pub whole_if : {T E : Type 0} (octets_of : T → List ℕ) (r : Result T E) (o p : Option (List ℕ)) (a : List ℕ) → o ≡ Some [] → HasGrown o a p → IfOk r (λ t. p ≡ Some (octets_of t)) → IfOk r (λ t. octets_of t ≡ a)
whole_if octets_of (Ok t) o p a none grown some = whole o p a (octets_of t) none grown some
whole_if octets_of (Err e) o p a none grown some = tt

module _ {X : Type 0} (f : X → List ℕ) (xs : List X) (i : ℕ) where
  -- Adds the piece of one more item.
  pub item_put : (o p q : Option (List ℕ)) (x : X) → i < length xs → x ≡ get_or xs i x → HasGrown o (flat_map f (take i xs)) p → HasGrown p (f x) q
      → HasGrown o (flat_map f (take (i + 1) xs)) q
  item_put o p q x within is before more =
      let front : take (i + 1) xs ≡ take i xs ++ x ∷ [] = take_more xs i x within ∙ ap (λ y. take i xs ++ y ∷ []) (sym is) in
      let all : flat_map f (take (i + 1) xs) ≡ flat_map f (take i xs) ++ f x = ap (flat_map f) front ∙ flat_map-append f (take i xs) (x ∷ []) ∙ ap (λ l. flat_map f (take i xs) ++ l) (append-nil (f x)) in
      put_as o q _ _ (put_piece o p q (flat_map f (take i xs)) (f x) before more) (sym all)

  -- After the last item, the text has the pieces of all items.
  pub all_put : (o p : Option (List ℕ)) → length xs ≤ i → HasGrown o (flat_map f (take i xs)) p → HasGrown o (flat_map f xs) p
  all_put o p past before = put_as o p _ _ before (ap (flat_map f) (take_all i xs past))
