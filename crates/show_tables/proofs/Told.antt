-- The rows of frames and filters, one more at a time.
use Rattle.std.proofs.Common.{true, false, ◌≡◌, ◌≢◌, ◌∙◌, ℕ, ◌+◌, List, [], ◌∷◌, ◌++◌, Option, Some, None, length, ap, sym, subst, refl, arith}
use Rattle.std.specs.Prelude.{nat_eq, IfSome}
use Rattle.std.proofs.lemmas.List.{length-append}
use Rattle.bridge_filter.specs.declared.Verdict.{Verdict}
use Rattle.bridge_semantics.specs.declared.outcome.Departure.{Departure}
use Rattle.bridge_semantics.specs.declared.outcome.Dropped.{Dropped}
use Rattle.bridge_semantics.specs.declared.outcome.Origin.{Origin}
use Rattle.bridge_semantics.specs.declared.outcome.View.{View}
use Rattle.bridge_text.specs.Growth.{HasGrown}
use Rattle.bridge_text.proofs.Puts.{put_as, put_piece}
use Rattle.show_tables.specs.declared.frame_rows.FilterFrame.{FilterFrame}
use Rattle.show_tables.specs.DelayTable.{rows_or_unsent, unsent_row}
use Rattle.show_tables.specs.FrameTable.{frame_drops, make_frame, frame_rows, frame_departures, lone_row, rows_or_lone, frames_rows, copies_or_lone_row}

-- A discarded text.
pub let_go : (o p : Option (List ℕ)) (a : List ℕ) → p ≡ None → HasGrown o a p
let_go o p a gone = subst (HasGrown o a) (sym gone) (record { grows = tt })

is_empty : (l : List ℕ) → length l ≡ 0 → l ≡ []
is_empty [] none = refl
is_empty (x ∷ l) none = absurd (cc)

-- A text that is longer than before received octets; otherwise it received none.
module _ (rows all : List ℕ) (before after : ℕ) where
  pub some_put : (o p : Option (List ℕ)) → IfSome o (λ l. before ≡ length l) → IfSome p (λ l. after ≡ length l) → after ≢ before → (rows ≢ [] → all ≡ rows) → HasGrown o rows p → HasGrown o all p
  some_put o None was is other same grown = record { grows = tt }
  some_put None (Some y) was is other same grown = absurd grown.grows
  some_put (Some x) (Some y) was is other same grown =
      put_as _ _ _ _ grown (sym (same (λ none. let longer = ap length grown.grows ∙ length-append x rows in let empty = ap length none in other (omega (arith, longer, empty, was, is)))))

  pub none_put : (o p q : Option (List ℕ)) (other : List ℕ) → IfSome o (λ l. before ≡ length l) → IfSome p (λ l. after ≡ length l) → after ≡ before → (rows ≡ [] → all ≡ other) → HasGrown o rows p → HasGrown p other q → HasGrown o all q
  none_put o p None other was is same alone grown more = record { grows = tt }
  none_put o None (Some z) other was is same alone grown more = absurd more.grows
  none_put None (Some y) (Some z) other was is same alone grown more = absurd grown.grows
  none_put (Some x) (Some y) (Some z) other was is same alone grown more =
      let longer = ap length grown.grows ∙ length-append x rows in
      let none : rows ≡ [] = is_empty rows (omega (arith, longer, was, is, same)) in
      put_as _ _ _ _ (put_piece _ _ _ [] other (put_as _ _ _ _ grown none) more) (sym (alone none))

-- The rows of a frame with copies, and the row of a frame without copies.
pub lone_some : (f : FilterFrame) (rows : List ℕ) → rows ≢ [] → rows_or_lone f rows ≡ rows
lone_some f [] some = absurd (some refl)
lone_some f (octet ∷ more) some = refl

pub lone_none : (f : FilterFrame) (rows : List ℕ) → rows ≡ [] → rows_or_lone f rows ≡ lone_row f
lone_none f [] none = refl
lone_none f (octet ∷ more) none = absurd (cc)

-- The rows of a filter with departures, of a filter without departures, and of a filter without frames.
pub sent_some : {A : Type 0} (n : ℕ) (v : View A) (rows : List ℕ) → rows ≢ [] → rows_or_unsent n v rows ≡ rows
sent_some n v [] some = absurd (some refl)
sent_some n v (octet ∷ more) some = refl

pub sent_none : {A : Type 0} (n : ℕ) (v : View A) (rows : List ℕ) → nat_eq (length v.verdicts.items) 0 ≡ false → rows ≡ [] → rows_or_unsent n v rows ≡ unsent_row n v
sent_none n v [] came none = rw came refl
sent_none n v (octet ∷ more) came none = absurd (cc)

pub sent_idle : {A : Type 0} (n : ℕ) (v : View A) (rows : List ℕ) → nat_eq (length v.verdicts.items) 0 ≡ true → rows_or_unsent n v rows ≡ rows
sent_idle n v [] idle = rw idle refl
sent_idle n v (octet ∷ more) idle = refl

-- Copies that are equal frame by frame have equal rows.
pub rows_same : (filter : ℕ) (ds es : List Departure) (xs ys : List Dropped) → ((own : ℕ) → frame_departures own ds ≡ frame_departures own es) → ((own : ℕ) → frame_drops own xs ≡ frame_drops own ys)
    → (own : ℕ) (origins : List Origin) (verdicts : List Verdict) → frames_rows filter ds xs own origins verdicts ≡ frames_rows filter es ys own origins verdicts
rows_same filter ds es xs ys left dropped own [] verdicts = refl
rows_same filter ds es xs ys left dropped own (o ∷ os) [] = refl
rows_same filter ds es xs ys left dropped own (o ∷ os) (v ∷ vs) =
    let f : FilterFrame = make_frame filter own o v in
    let first : frame_rows f ds xs ≡ frame_rows f es ys = ap (λ l. copies_or_lone_row f l (frame_drops own xs)) (left own) ∙ ap (copies_or_lone_row f (frame_departures own es)) (dropped own) in
    ap (λ l. l ++ frames_rows filter ds xs (own + 1) os vs) first ∙ ap (λ l. frame_rows f es ys ++ l) (rows_same filter ds es xs ys left dropped (own + 1) os vs)

-- Equal lists have equal rows.
pub filter_told : (filter : ℕ) (ds es fs : List Departure) (xs ys zs : List Dropped) (os ps : List Origin) (vs ws : List Verdict) → ds ≡ es → xs ≡ ys → os ≡ ps → vs ≡ ws
    → ((own : ℕ) → frame_departures own es ≡ frame_departures own fs) → ((own : ℕ) → frame_drops own ys ≡ frame_drops own zs) → frames_rows filter ds xs 1 os vs ≡ frames_rows filter fs zs 1 ps ws
filter_told filter ds es fs xs ys zs os ps vs ws a b c d left dropped = rw (a, b, c, d) (rows_same filter es fs ys zs left dropped 1 ps ws)
