-- The first result among a list's items.
use Rattle.std.proofs.Common.{◌≡◌, ◌<◌, ℕ, zero, suc, List, [], ◌∷◌, ◌++◌, Option, Some, None, refl, sym, ap, ◌∙◌, subst, arith, inl, inr, length, get_or}
use Rattle.std.specs.Prelude.{slice_get}
use Rattle.std.proofs.lemmas.Bool.{cases_lt}
use Rattle.std.proofs.lemmas.Option.{slice_get-get_or}
use Rattle.bridge_limits.specs.Members.{IsMember}
use Rattle.bridge_frame.specs.declared.Tag.{Tag}
use Rattle.bridge_check.specs.Faults.{first_option, first_among_numbers}
use Rattle.bridge_check.proofs.Isolated.{both_none}
use Rattle.net_model.specs.LinkFrames.{tag_by_priority, possible_tags, tags_by_priority}
use Rattle.net_model.specs.FrameSearch.{find_first}

-- THE FIRST OF TWO

pub first_right : {Y : Type 0} (a : Option Y) → first_option a None ≡ a
first_right None = refl
first_right (Some y) = refl

pub first_assoc : {Y : Type 0} (a b c : Option Y) → first_option (first_option a b) c ≡ first_option a (first_option b c)
first_assoc None b c = refl
first_assoc (Some y) b c = refl

pub first_append : {X Y : Type 0} (tell : X → Option Y) (xs ys : List X) → find_first tell (xs ++ ys) ≡ first_option (find_first tell xs) (find_first tell ys)
first_append tell [] ys = refl
first_append tell (x ∷ xs) ys = rw (first_append tell xs ys) (sym (first_assoc (tell x) (find_first tell xs) (find_first tell ys)))

two : {Y : Type 0} (a b : Option Y) → first_option a b ≡ first_option a (first_option b None)
two a b = rw (first_right b) refl

three : {Y : Type 0} (a b c : Option Y) → first_option (first_option a b) c ≡ first_option a (first_option b (first_option c None))
three None b c = two b c
three (Some y) b c = refl

four : {Y : Type 0} (a b c d : Option Y) → first_option (first_option (first_option a b) c) d ≡ first_option a (first_option b (first_option c (first_option d None)))
four None b c d = three b c d
four (Some y) b c d = refl

five : {Y : Type 0} (a b c d e : Option Y) → first_option (first_option (first_option (first_option a b) c) d) e ≡ first_option a (first_option b (first_option c (first_option d (first_option e None))))
five None b c d e = four b c d e
five (Some y) b c d e = refl

six : {Y : Type 0} (a b c d e f : Option Y) → first_option (first_option (first_option (first_option (first_option a b) c) d) e) f ≡ first_option a (first_option b (first_option c (first_option d (first_option e (first_option f None)))))
six None b c d e f = five b c d e f
six (Some y) b c d e f = refl

seven : {Y : Type 0} (a b c d e f g : Option Y) → first_option (first_option (first_option (first_option (first_option (first_option a b) c) d) e) f) g ≡ first_option a (first_option b (first_option c (first_option d (first_option e (first_option f (first_option g None))))))
seven None b c d e f g = six b c d e f g
seven (Some y) b c d e f g = refl

eight : {Y : Type 0} (a b c d e f g h : Option Y) → first_option (first_option (first_option (first_option (first_option (first_option (first_option a b) c) d) e) f) g) h ≡ first_option a (first_option b (first_option c (first_option d (first_option e (first_option f (first_option g (first_option h None)))))))
eight None b c d e f g h = seven b c d e f g h
eight (Some y) b c d e f g h = refl

-- The search by priority is the search by tag.
pub of_tags : {Y : Type 0} (tell : Option Tag → Option Y) (vid : ℕ) → first_among_numbers 8 (λ k. tell (Some (tag_by_priority k vid))) ≡ find_first tell (tags_by_priority vid)
unfolding first_among_numbers
of_tags tell vid = eight (tell (Some (tag_by_priority 0 vid))) (tell (Some (tag_by_priority 1 vid))) (tell (Some (tag_by_priority 2 vid))) (tell (Some (tag_by_priority 3 vid))) (tell (Some (tag_by_priority 4 vid))) (tell (Some (tag_by_priority 5 vid))) (tell (Some (tag_by_priority 6 vid))) (tell (Some (tag_by_priority 7 vid)))

-- The search over all tags: no tag, tags with VLAN identifier 0, and tags with the VLAN identifier.
pub of_all_tags : {Y : Type 0} (tell : Option Tag → Option Y) (vid : ℕ) (a b c : Option Y) → a ≡ tell None → b ≡ first_option a (find_first tell (tags_by_priority 0)) → c ≡ first_option b (find_first tell (tags_by_priority vid)) → c ≡ find_first tell (possible_tags vid)
of_all_tags tell vid a b c e f g =
    g ∙ ap (λ z. first_option z (find_first tell (tags_by_priority vid))) (f ∙ ap (λ z. first_option z (find_first tell (tags_by_priority 0))) e)
    ∙ first_assoc (tell None) (find_first tell (tags_by_priority 0)) (find_first tell (tags_by_priority vid))
    ∙ ap (first_option (tell None)) (sym (first_append tell (tags_by_priority 0) (tags_by_priority vid)))

-- The item at an index.
pub item_at : {X : Type 0} (xs : List X) (i : ℕ) (x : X) → i < length xs → x ≡ get_or xs i x → slice_get xs i ≡ Some x
item_at xs i x lt e = slice_get-get_or xs i x lt ∙ ap Some (sym e)

-- NO RESULT

pub none_in : {X Y : Type 0} (tell : X → Option Y) (xs : List X) → ((x : X) → tell x ≡ None) → find_first tell xs ≡ None
none_in tell [] h = refl
none_in tell (x ∷ xs) h = rw (h x) (none_in tell xs h)

pub none_of : {X Y : Type 0} (tell : X → Option Y) (xs : List X) (x : X) → find_first tell xs ≡ None → IsMember x xs → tell x ≡ None
none_of tell [] x h i = absurd i
none_of tell (y ∷ ys) x h (inl e) = ap tell e ∙ (both_none (tell y) (find_first tell ys) h).0
none_of tell (y ∷ ys) x h (inr i) = none_of tell ys x (both_none (tell y) (find_first tell ys) h).1 i

pub none_at : {Y : Type 0} (n : ℕ) (tell : ℕ → Option Y) → first_among_numbers n tell ≡ None → (k : ℕ) → k < n → tell k ≡ None
unfolding first_among_numbers
none_at zero tell h k lt = absurd (omega (arith, lt))
none_at (suc n) tell h k lt =
    let (before, last) = both_none (first_among_numbers n tell) (tell n) h in
    elim (cases_lt k n) [
      | inl a ↦ none_at n tell before k a
      | inr a ↦ let same : n ≡ k = omega (arith, lt, a) in subst (λ (m : ℕ). tell m ≡ None) same last
    ]

pub none_each : {X Y : Type 0} (tell : X → Option Y) (xs : List X) → ((x : X) → IsMember x xs → tell x ≡ None) → find_first tell xs ≡ None
none_each tell [] h = refl
none_each tell (x ∷ xs) h = rw (h x (inl refl)) (none_each tell xs (λ y i. h y (inr i)))
