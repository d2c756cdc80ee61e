-- The rows of filters, one filter more at a time.
use Rattle.std.proofs.Common.{◌≡◌, ℕ, List, [], ◌∷◌, ◌++◌, Option, length, sym, subst, refl}
use Rattle.std.proofs.lemmas.List.{append-nil, append_assoc}
use Rattle.bridge_config.specs.Model.{Plan}
use Rattle.bridge_semantics.specs.declared.outcome.View.{View}
use Rattle.bridge_text.specs.Growth.{HasGrown}
use Rattle.bridge_text.proofs.Puts.{put_none, put_piece}
use Rattle.show_tables.specs.DelayTable.{AreFiltersRows, AreFilterRows}

-- Holds if rows were appended to a text which, with the rows of the remaining filters, are the rows of all filters.
pub record Reaches {A B : Type 0} (p : Plan A) (all left : List (ℕ × View B)) (old new : Option (List ℕ)) : Type 0 where
  pub rows : List ℕ
  pub put : HasGrown old rows new
  pub whole : (rest : List ℕ) → AreFiltersRows p left rest → AreFiltersRows p all (rows ++ rest)

pub reaches_first : {A B : Type 0} (p : Plan A) (all : List (ℕ × View B)) (old : Option (List ℕ)) → Reaches p all all old old
reaches_first p all old = record { rows = []; put = put_none old; whole = λ rest are. are }

pub reaches_more : {A B : Type 0} (p : Plan A) (all left behind : List (ℕ × View B)) (f : ℕ × View B) (old mid new : Option (List ℕ)) (more : List ℕ) → left ≡ f ∷ behind
    → Reaches p all left old mid → AreFilterRows p f.0 f.1 more → HasGrown mid more new → Reaches p all behind old new
reaches_more p all left behind f old mid new more is before are put = record {
  rows = before.rows ++ more;
  put = put_piece old mid new before.rows more before.put put;
  whole = λ rest others. subst (AreFiltersRows p all) (sym (append_assoc before.rows more rest)) (before.whole (more ++ rest) (subst (λ l. AreFiltersRows p l (more ++ rest)) (sym is) (more, rest, are, others, refl)));
}

pub reaches_end : {A B : Type 0} (p : Plan A) (all left : List (ℕ × View B)) (old new : Option (List ℕ)) → length left ≡ 0 → Reaches p all left old new → (rows : List ℕ) × AreFiltersRows p all rows × HasGrown old rows new
reaches_end p all [] old new none before = (before.rows, subst (AreFiltersRows p all) (append-nil before.rows) (before.whole [] refl), before.put)
reaches_end p all (f ∷ fs) old new none before = absurd (cc)
