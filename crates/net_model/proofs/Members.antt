-- Members of lists of inputs.
use Rattle.std.proofs.Common.{◌≡◌, ◌<◌, ◌+◌, ℕ, true, List, [], ◌∷◌, map, arith, refl, ap, sym, ◌∙◌, subst, ◌⊎◌, inl, inr}
use Rattle.std.proofs.lemmas.Bool.{eq-eqb}
use Rattle.std.specs.Prelude.{nat_eq}
use Rattle.bridge_limits.specs.Members.{IsMember, IsOrdered}
use Rattle.bridge_limits.proofs.Members.{in_left, in_right, in_either, rising_push}
use Rattle.bridge_limits.proofs.Cases.{by_bool}
use Rattle.bridge_capture.specs.Grammar.{CapturedFrame}
use Rattle.bridge_filter.specs.declared.FilterPlan.{FilterPlan}
use Rattle.bridge_config.specs.Model.{Plan}
use Rattle.bridge_semantics.specs.Events.{is_own_event}
use Rattle.bridge_semantics.specs.Merge.{Input, capture_input, inputs_by_rank, capture_inputs, own_inputs, IsLater}
use Rattle.bridge_semantics.specs.Outputs.{LeavesEarlier}
use Rattle.bridge_semantics.proofs.Views.{after_all}
use Rattle.net_model.specs.Networks.{delayed_frame}

pub in_map : {X Y : Type 0} (f : X → Y) (y : Y) (xs : List X) → IsMember y (map f xs) → (x : X) × IsMember x xs × (y ≡ f x)
in_map f y [] i = absurd i
in_map f y (x ∷ xs) (inl e) = (x, inl refl, e)
in_map f y (x ∷ xs) (inr i) = let r = in_map f y xs i in (r.0, inr r.1, r.2)

pub map_in : {X Y : Type 0} (f : X → Y) (x : X) (xs : List X) → IsMember x xs → IsMember (f x) (map f xs)
map_in f x [] i = absurd i
map_in f x (y ∷ ys) (inl e) = inl (ap f e)
map_in f x (y ∷ ys) (inr i) = inr (map_in f x ys i)

-- An own input of a filter is an input and an own event of the filter.
pub in_own : {A : Type 0} (p : Plan A) (n : ℕ) (f : FilterPlan) (x : Input) (xs : List Input) → IsMember x (own_inputs p n f xs) → IsMember x xs × (is_own_event p n f x.event ≡ true)
in_own p n f x [] i = absurd i
in_own p n f x (y ∷ ys) i = by_bool (is_own_event p n f y.event)
    (λ k.
    let j : (x ≡ y) ⊎ IsMember x (own_inputs p n f ys) = rw k at i in
    elim j [ inl e ↦ (inl e, subst (λ (z : Input). is_own_event p n f z.event ≡ true) (sym e) k) | inr l ↦ let r = in_own p n f x ys l in (inr r.0, r.1) ])
    (λ k. let j : IsMember x (own_inputs p n f ys) = rw k at i in let r = in_own p n f x ys j in (inr r.0, r.1))

pub own_in : {A : Type 0} (p : Plan A) (n : ℕ) (f : FilterPlan) (x : Input) (xs : List Input) → IsMember x xs → is_own_event p n f x.event ≡ true → IsMember x (own_inputs p n f xs)
own_in p n f x [] i h = absurd i
own_in p n f x (y ∷ ys) (inl e) h = let k : is_own_event p n f y.event ≡ true = subst (λ (z : Input). is_own_event p n f z.event ≡ true) e h in rw k (inl e)
own_in p n f x (y ∷ ys) (inr i) h = by_bool (is_own_event p n f y.event) (λ k. rw k (inr (own_in p n f x ys i h))) (λ k. rw k (own_in p n f x ys i h))

-- An input of rank `q` is among the inputs of this rank.
pub rank_in : (q : ℕ) (x : Input) (xs : List Input) → IsMember x xs → x.rank ≡ q → IsMember x (inputs_by_rank q xs)
rank_in q x [] i e = absurd i
rank_in q x (y ∷ ys) (inl s) e = let k : nat_eq y.rank q ≡ true = eq-eqb y.rank q (ap (λ (z : Input). z.rank) (sym s) ∙ e) in rw k (inl s)
rank_in q x (y ∷ ys) (inr i) e = by_bool (nat_eq y.rank q) (λ k. rw k (inr (rank_in q x ys i e))) (λ k. rw k (rank_in q x ys i e))

-- An input of a port's capture is one of its frames.
pub in_inputs : (q : ℕ) (x : Input) (cs : List CapturedFrame) → IsMember x (capture_inputs q cs) → (c : CapturedFrame) × IsMember c cs × (x ≡ capture_input q c)
in_inputs q x [] i = absurd i
in_inputs q x (c ∷ cs) i = elim (in_either x (capture_inputs q cs) (capture_input q c ∷ []) i) [
  | inl a ↦ let r = in_inputs q x cs a in (r.0, inr r.1, r.2)
  | inr b ↦ elim b [ inl e ↦ (c, inl refl, e) | inr z ↦ absurd z ]
]

pub inputs_in : (q : ℕ) (c : CapturedFrame) (cs : List CapturedFrame) → IsMember c cs → IsMember (capture_input q c) (capture_inputs q cs)
inputs_in q c [] i = absurd i
inputs_in q c (d ∷ ds) (inl e) = in_right (capture_input q c) (capture_inputs q ds) (capture_input q d ∷ []) (inl (ap (capture_input q) e))
inputs_in q c (d ∷ ds) (inr i) = in_left (capture_input q c) (capture_inputs q ds) (capture_input q d ∷ []) (inputs_in q c ds i)

-- Frames that left a port arrive over its link one after another.
pub frames_apart : (q t : ℕ) (cs : List CapturedFrame) → IsOrdered LeavesEarlier cs → IsOrdered IsLater (capture_inputs q (map (delayed_frame t) cs))
frames_apart q t [] r = tt
frames_apart q t (c ∷ cs) r = rising_push IsLater (capture_inputs q (map (delayed_frame t) cs)) (capture_input q (delayed_frame t c)) (frames_apart q t cs r.1)
    (λ y i.
    let s = in_inputs q y (map (delayed_frame t) cs) i in
    let m = in_map (delayed_frame t) s.0 cs s.1 in
    let before : c.time < m.0.time = after_all LeavesEarlier c m.0 cs r.0 m.1 in
    let e : y.at ≡ m.0.time + t = ap (λ (z : Input). z.at) s.2 ∙ ap (λ (z : CapturedFrame). z.time) m.2 in
    let after : c.time + t < y.at = omega (arith, before, e) in
    after)
