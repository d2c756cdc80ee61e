-- The ports that lead to a hop, one port more.
use Rattle.std.proofs.Common.{◌≡◌, inl, inr, ℕ, ◌+◌, Bool, List, [], ◌∷◌, ◌++◌, length, sym, ap, ◌∙◌, arith}
use Rattle.bridge_limits.proofs.Lists.{pushed}
use Rattle.net_model.specs.declared.links.Link.{Link}
use Rattle.net_report.specs.declared.copy_counting.HopRun.{HopRun}
use Rattle.net_report.specs.Hops.{AreOnwardAnswers, has_next_hop}

pub answers_more : {A : Type 0} (links : List Link) (hops : List (HopRun A)) (b : ℕ) (ways : List Bool) (on : Bool) (q : ℕ) → length ways + 1 ≡ q → on ≡ has_next_hop links hops b q → AreOnwardAnswers links hops b ways
    → AreOnwardAnswers links hops b (ways ++ on ∷ [])
answers_more links hops b ways on q at is are i x there = elim (pushed ways on x i there) [
  | inl before ↦ are i x before
  | inr here ↦ sym here.1 ∙ (is ∙ ap (has_next_hop links hops b) (let last = here.0 in omega (arith, at, last)))
]
