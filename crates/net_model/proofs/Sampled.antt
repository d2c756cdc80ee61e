-- The example frames of a hop: their properties and their existence.
use Rattle.std.proofs.Common.{◌≡◌, ◌<◌, ◌+◌, ℕ, Bool, true, false, ◌&&◌, List, Option, Some, None, option_map, refl, sym, ap, ◌∙◌, length, get_or, drop}
use Rattle.std.specs.Prelude.{IfSome, is_some, slice_get}
use Rattle.std.proofs.lemmas.Option.{same_Some, slice_get-get_or}
use Rattle.bridge_frame.specs.declared.Tag.{Tag}
use Rattle.net_model.specs.LinkFrames.{possible_tags}
use Rattle.net_model.specs.FrameSearch.{find_first}
use Rattle.net_model.proofs.Walked.{passed, told}

pub if_some : {X : Type 0} {P Q : X → Type 0} (r : Option X) → ((x : X) → P x → Q x) → IfSome r P → IfSome r Q
if_some None f h = tt
if_some (Some x) f h = f x h

pub some_map : {X Y : Type 0} (f : X → Y) (o : Option X) → is_some (option_map f o) ≡ is_some o
some_map f None = refl
some_map f (Some x) = refl

pub and_false : (b : Bool) → (b && false) ≡ false
and_false true = refl
and_false false = refl

-- THE TAGS TO TRY

-- The tag at an index.
pub tag_there : (vid i : ℕ) (tag d : Option Tag) → i < 17 → slice_get (possible_tags vid) i ≡ Some tag → tag ≡ get_or (possible_tags vid) i d
tag_there vid i tag d less is = sym (same_Some (get_or (possible_tags vid) i d) tag (sym (slice_get-get_or (possible_tags vid) i d less) ∙ is))

-- EXISTENCE

module _ {X Y Z : Type 0} (tell : X → Option Y) (items xs : List X) (i : ℕ) (same : items ≡ xs) where
  -- If no earlier item has a result, the item at index `i` is the first with a result.
  pub told_some : (d : X) (r : Option Z) → is_some r ≡ is_some (tell (get_or items i d)) → i < length items → is_some r ≡ true → find_first tell (drop i xs) ≡ find_first tell xs → is_some r ≡ is_some (find_first tell xs)
  told_some d r is inside some before = is ∙ ap is_some (told tell items xs i same d (tell (get_or items i d)) refl inside (sym is ∙ some) before)

  -- The item at index `i` has no result either.
  pub passed_some : (d : X) (r : Option Z) → is_some r ≡ is_some (tell (get_or items i d)) → i < length items → is_some r ≡ false → find_first tell (drop i xs) ≡ find_first tell xs → find_first tell (drop (i + 1) xs) ≡ find_first tell xs
  passed_some d r is inside none before = passed tell items xs i same d (tell (get_or items i d)) refl inside (sym is ∙ none) before
