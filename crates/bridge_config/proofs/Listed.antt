-- Properties of read entries hold for the list made from them.
use Rattle.std.proofs.Common.{◌≡◌, ◌∙◌, ℕ, List, Option, Some, None, option_map, refl, sym, ap, subst}
use Rattle.std.proofs.lemmas.Option.{same_Some}
use Rattle.bridge_cycle.specs.Cyclic.{Cyclic}

pub listed : {S X : Type 0} (P : List (S × ℕ) → Type 0) (o : Option X) (f : X → List (S × ℕ)) (l : Option (Cyclic S)) (x : Cyclic S) → l ≡ Some x → option_map (λ (c : Cyclic S). c.entries) l ≡ option_map f o → ((v : X) → o ≡ Some v → P (f v)) → P x.entries
listed {S} P None f l x e same all =
    let known : Some x.entries ≡ None = sym (ap (option_map (λ (c : Cyclic S). c.entries)) e) ∙ same in
    absurd (cc)
listed {S} P (Some v) f l x e same all =
    let known : Some x.entries ≡ Some (f v) = sym (ap (option_map (λ (c : Cyclic S). c.entries)) e) ∙ same in
    subst P (sym (same_Some x.entries (f v) known)) (all v refl)
