use Rattle.std.proofs.Common.{◌≡◌, ◌+◌, ℕ, [], ◌∷◌, length, ap, sym, subst, ◌∙◌}
use Rattle.std.specs.Prelude.{All}
use Rattle.std.proofs.lemmas.List.{length-append}
use Rattle.std.proofs.lemmas.List.Elements.{All-push}
use Rattle.bridge_capture.specs.Memory.{MemoryDevice}
use Rattle.net_run.proofs.bridge_run.empty_sinks.Goals as goal

pub loop-place-preserved : goal.loop-place-preserved
loop-place-preserved g c =
    let items = c.in_ok-push.ensures.items in
    let so_far = c.loop-place.invariant.many in
    record {
      many = ap length items ∙ (length-append c.loop-place.sinks.items (c.new.result ∷ []) ∙ ap (λ (n : ℕ). n + 1) so_far);
      empty = subst (All (λ (d : MemoryDevice). d.octets ≡ [])) (sym items) (All-push (λ (d : MemoryDevice). d.octets ≡ []) c.loop-place.sinks.items c.new.result c.loop-place.invariant.empty c.new.ensures.octets);
    }
