-- Devices, index by index.
use Rattle.std.proofs.Common.{◌≡◌, ℕ, zero, suc, ◌<◌, ◌≤◌, map, take, Bool, false, Option, Some, List, [], ◌∷◌, ◌++◌, length, slice_get, refl, sym, ap, subst, ◌∙◌, arith}
use Rattle.std.specs.Io.KnownBytes.{Keeps}
use Rattle.std.proofs.KnownBytes.{Keeps-refl, Keeps-trans}
use Rattle.std.proofs.lemmas.List.{length-map, length-take, map-id}
use Rattle.std.proofs.lemmas.Option.{same_Some}
use Rattle.app_commands.specs.Flushed.{AllKept, NoneFailed}

-- The lists with one device more.
pub kept_push : {V W : Type 0} (f : V → Option (List ℕ)) (g : W → Option (List ℕ)) (vs : List V) (ws : List W) (v : V) (w : W) → AllKept f g vs ws → Keeps (f v) (g w) → AllKept f g (vs ++ v ∷ []) (ws ++ w ∷ [])
kept_push f g [] [] v w h k = (k, tt)
kept_push f g [] (y ∷ ws) v w h k = absurd h
kept_push f g (x ∷ vs) [] v w h k = absurd h
kept_push f g (x ∷ vs) (y ∷ ws) v w h k = (h.0, kept_push f g vs ws v w h.1 k)

pub kept_length : {V W : Type 0} (f : V → Option (List ℕ)) (g : W → Option (List ℕ)) (vs : List V) (ws : List W) → AllKept f g vs ws → length vs ≡ length ws
kept_length f g [] [] h = refl
kept_length f g [] (y ∷ ws) h = absurd h
kept_length f g (x ∷ vs) [] h = absurd h
kept_length f g (x ∷ vs) (y ∷ ws) h = ap suc (kept_length f g vs ws h.1)

pub kept_at : {V W : Type 0} (f : V → Option (List ℕ)) (g : W → Option (List ℕ)) (vs : List V) (ws : List W) (i : ℕ) (v : V) (w : W) → AllKept f g vs ws → slice_get vs i ≡ Some v → slice_get ws i ≡ Some w → Keeps (f v) (g w)
kept_at f g [] ws i v w h a b = absurd (cc)
kept_at f g (x ∷ vs) [] i v w h a b = absurd h
kept_at {V} {W} f g (x ∷ vs) (y ∷ ws) zero v w h a b = subst (λ (z : W). Keeps (f v) (g z)) (same_Some y w b) (subst (λ (z : V). Keeps (f z) (g y)) (same_Some x v a) h.0)
kept_at f g (x ∷ vs) (y ∷ ws) (suc i) v w h a b = kept_at f g vs ws i v w h.1 a b

pub kept_same : {V : Type 0} (f : V → Option (List ℕ)) (vs : List V) → AllKept f f vs vs
kept_same f [] = tt
kept_same f (v ∷ vs) = (Keeps-refl (f v), kept_same f vs)

pub kept_through : {U V W : Type 0} (f : U → Option (List ℕ)) (g : V → Option (List ℕ)) (h : W → Option (List ℕ)) (us : List U) (vs : List V) (ws : List W) → AllKept f g us vs → AllKept g h vs ws → AllKept f h us ws
kept_through f g h [] [] [] p q = tt
kept_through f g h [] [] (w ∷ ws) p q = absurd q
kept_through f g h [] (v ∷ vs) ws p q = absurd p
kept_through f g h (u ∷ us) [] ws p q = absurd p
kept_through f g h (u ∷ us) (v ∷ vs) [] p q = absurd q
kept_through f g h (u ∷ us) (v ∷ vs) (w ∷ ws) p q = (Keeps-trans (f u) (g v) (h w) p.0 q.0, kept_through f g h us vs ws p.1 q.1)

pub none_push : {V : Type 0} (failed : V → Bool) (vs : List V) (v : V) → NoneFailed failed vs → failed v ≡ false → NoneFailed failed (vs ++ v ∷ [])
none_push failed [] v h e = (e, tt)
none_push failed (x ∷ vs) v h e = (h.0, none_push failed vs v h.1 e)

pub none_at : {V : Type 0} (failed : V → Bool) (vs : List V) (i : ℕ) (v : V) → NoneFailed failed vs → slice_get vs i ≡ Some v → failed v ≡ false
none_at failed [] i v h e = absurd (cc)
none_at failed (x ∷ vs) zero v h e = ap failed (sym (same_Some x v e)) ∙ h.0
none_at failed (x ∷ vs) (suc i) v h e = none_at failed vs i v h.1 e

-- The items that a loop has yielded are a prefix of the list.
pub front_of : {X : Type 0} (xs yielded : List X) (n : ℕ) → map (λ y. y) yielded ≡ take (length yielded) xs → n ≡ length yielded → yielded ≡ take n xs
front_of xs yielded n so_far count = sym (map-id yielded) ∙ so_far ∙ ap (λ k. take k xs) (sym count)

pub front_few : {X : Type 0} (xs yielded : List X) (n : ℕ) → map (λ y. y) yielded ≡ take (length yielded) xs → n ≡ length yielded → n ≤ length xs
front_few xs yielded n so_far count = omega (arith, count, ap length so_far, length-map yielded (λ y. y), length-take (length yielded) xs)
