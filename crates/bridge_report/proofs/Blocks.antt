-- Lists of lines that are written block by block.
use Rattle.std.proofs.Common.{◌≡◌, ℕ, ◌+◌, ◌-◌, ◌≤◌, List, [], ◌∷◌, ◌++◌, length, take, drop, ap, sym, ◌∙◌, append_assoc, arith}
use Rattle.std.specs.List.{flat_map}
use Rattle.std.proofs.Math.Seq.{take-add}
use Rattle.std.proofs.lemmas.Grind.{flat_map-append}
use Rattle.std.proofs.lemmas.List.{length-take}
use Rattle.bridge_filter.specs.declared.Verdict.{Verdict}
use Rattle.bridge_report.specs.Section.{frame_line, frame_lines}

frames_append : (n : ℕ) (a b : List Verdict) → frame_lines n (a ++ b) ≡ frame_lines n a ++ frame_lines (n + length a) b
frames_append n [] b = ap (λ k. frame_lines k b) (omega arith)
frames_append n (v ∷ a) b = ap (λ l. frame_line n v ++ l) (frames_append (n + 1) a b ∙ ap (λ k. frame_lines (n + 1) a ++ frame_lines k b) (omega arith)) ∙ sym (append_assoc (frame_line n v) (frame_lines (n + 1) a) (frame_lines (n + length (v ∷ a)) b))

-- The next block of a list.
block_is : {X : Type 0} (xs : List X) (from count : ℕ) → take (from + count - from) (drop from xs) ≡ take count (drop from xs)
block_is xs from count = ap (λ n. take n (drop from xs)) (omega arith)

-- The lines of a prefix, followed by the lines of the next block.
pub frames_after : (verdicts : List Verdict) (from count : ℕ) → from ≤ length verdicts → frame_lines 1 (take from verdicts) ++ frame_lines (from + 1) (take (from + count - from) (drop from verdicts)) ≡ frame_lines 1 (take (from + count) verdicts)
frames_after verdicts from count within =
    let many : 1 + length (take from verdicts) ≡ from + 1 = omega (arith, length-take from verdicts, within) in
    ap (λ l. frame_lines 1 (take from verdicts) ++ frame_lines (from + 1) l) (block_is verdicts from count) ∙ sym (ap (frame_lines 1) (take-add from count verdicts) ∙ (frames_append 1 (take from verdicts) (take count (drop from verdicts)) ∙ ap (λ k. frame_lines 1 (take from verdicts) ++ frame_lines k (take count (drop from verdicts))) many))

pub items_after : {X : Type 0} (f : X → List ℕ) (xs : List X) (from count : ℕ) → flat_map f (take from xs) ++ flat_map f (take (from + count - from) (drop from xs)) ≡ flat_map f (take (from + count) xs)
items_after f xs from count = ap (λ l. flat_map f (take from xs) ++ flat_map f l) (block_is xs from count) ∙ sym (ap (flat_map f) (take-add from count xs) ∙ flat_map-append f (take from xs) (take count (drop from xs)))
