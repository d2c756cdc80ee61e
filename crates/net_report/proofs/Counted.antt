-- Counts after one hop more.
use Rattle.std.proofs.Common.{◌≡◌, ℕ, zero, suc, ◌+◌, ◌≤◌, ◌<◌, Bool, List, [], ◌∷◌, Option, Some, drop, get_or, length, refl, sym, ap, subst, ◌∙◌, add-one, drop-cons, arith}
use Rattle.std.specs.Prelude.{false, nat_eq, slice_get, Vec}
use Rattle.std.proofs.lemmas.Option.{get_or_from_slice_get, slice_get_within}
use Rattle.std.proofs.lemmas.Bool.{ne_eqb}
use Rattle.net_model.specs.declared.links.Link.{Link}
use Rattle.net_report.specs.declared.copy_counting.HopRun.{HopRun}
use Rattle.net_report.specs.declared.copy_counting.CopyCounts.{CopyCounts}
use Rattle.net_report.specs.declared.sources.SourceFrame.{SourceFrame}
use Rattle.net_report.specs.Counting.{AreCounted, with_hop}
use Rattle.net_report.specs.Hops.{AreOnwardPorts}

-- The rest of a list from an index is the item there and the later items.
cut_at : {X : Type 0} (xs : List X) (i : ℕ) (d : X) → i < length xs → drop i xs ≡ get_or xs i d ∷ drop (i + 1) xs
cut_at xs i d l = rw (add-one, drop-cons xs i d) refl

from_place : {X : Type 0} (xs : List X) (i : ℕ) (x : X) → slice_get xs i ≡ Some x → drop i xs ≡ x ∷ drop (i + 1) xs
from_place xs i x e = cut_at xs i x (slice_get_within xs i x e) ∙ ap (λ y. y ∷ drop (i + 1) xs) (get_or_from_slice_get xs i x x e)

-- After its end a list has no item.
from_end : {X : Type 0} (xs : List X) (i : ℕ) → length xs ≤ i → drop i xs ≡ []
from_end [] zero h = refl
from_end [] (suc i) h = refl
from_end (x ∷ xs) zero h = absurd (omega (arith, h))
from_end (x ∷ xs) (suc i) h = from_end xs i (omega (arith, h))

-- A later index isn't the first.
not_first : (i : ℕ) → nat_eq (i + 1) 0 ≡ false
not_first i = ne_eqb (i + 1) 0 (λ e. omega (arith, e))

-- The counts from a hop on are the counts of this hop and of the later hops.
pub one_more : {A : Type 0} (links : List Link) (hops left : List (HopRun A)) (known : List (Vec (Option SourceFrame) A)) (i : ℕ) (h : HopRun A) (k : Vec (Option SourceFrame) A) (first : Bool)
    (ways : List Bool) (ts new us : List CopyCounts) → slice_get left i ≡ Some h → slice_get known i ≡ Some k → AreOnwardPorts links hops h.bridge ways
    → new ≡ with_hop first ways k.items ts h.view.now → AreCounted links hops (nat_eq (i + 1) 0) (drop (i + 1) left) (drop (i + 1) known) new us
    → AreCounted links hops first (drop i left) (drop i known) ts us
one_more {A} links hops left known i h k first ways ts new us there known_there are same rest =
    let later : AreCounted links hops false (drop (i + 1) left) (drop (i + 1) known) new us =
    subst (λ (b : Bool). AreCounted links hops b (drop (i + 1) left) (drop (i + 1) known) new us) (not_first i) rest in
    let behind : AreCounted links hops first (h ∷ drop (i + 1) left) (k ∷ drop (i + 1) known) ts us =
    (ways, are, subst (λ (t : List CopyCounts). AreCounted links hops false (drop (i + 1) left) (drop (i + 1) known) t us) same later) in
    subst (λ (l : List (HopRun A)). AreCounted links hops first l (drop i known) ts us) (sym (from_place left i h there))
    (subst (λ (l : List (Vec (Option SourceFrame) A)). AreCounted links hops first (h ∷ drop (i + 1) left) l ts us) (sym (from_place known i k known_there)) behind)

-- Without hops left, nothing is added.
pub at_end : {A : Type 0} (links : List Link) (hops left : List (HopRun A)) (known : List (Vec (Option SourceFrame) A)) (i : ℕ) (first : Bool) (ts : List CopyCounts)
    → length left ≤ i → AreCounted links hops first (drop i left) known ts ts
at_end {A} links hops left known i first ts h = subst (λ (l : List (HopRun A)). AreCounted links hops first l known ts ts) (sym (from_end left i h)) refl

none_known : {A : Type 0} (links : List Link) (hops left : List (HopRun A)) (first : Bool) (ts : List CopyCounts) → AreCounted links hops first left [] ts ts
none_known links hops [] first ts = refl
none_known links hops (h ∷ hs) first ts = refl

-- Without known sources left, nothing is added.
pub at_end_known : {A : Type 0} (links : List Link) (hops left : List (HopRun A)) (known : List (Vec (Option SourceFrame) A)) (i : ℕ) (first : Bool) (ts : List CopyCounts)
    → length known ≤ i → AreCounted links hops first left (drop i known) ts ts
at_end_known {A} links hops left known i first ts h =
    subst (λ (l : List (Vec (Option SourceFrame) A)). AreCounted links hops first left l ts ts) (sym (from_end known i h)) (none_known links hops left first ts)
