use Rattle.std.proofs.Common.{◌≡◌, ◌+◌, ◌++◌, ◌∷◌, [], ℕ, length, arith, sym, ap, ◌∙◌, subst, inl, inr, rules}
use Rattle.std.proofs.lemmas.Bool.{cases_lt}
use Rattle.std.proofs.lemmas.List.{length_push}
use Rattle.bridge_port.specs.GateSchedule.{list_opens}
use Rattle.bridge_port.specs.Spans.{HasSpans, class_spans}
use Rattle.bridge_port.proofs.Fitting.{spans_kept, spans_last}
use Rattle.bridge_port.proofs.spans.class_spans.Goals as goal

pub loop-class-preserved : goal.loop-class-preserved
loop-class-preserved g c =
    let vs = c.loop-class.each.items in
    let v = c.in-Ok-open_spans.spans in
    let size : length vs ≡ c.loop-class.class = c.loop-class.invariant.size in
    let pushed : c.push.new.self.items ≡ vs ++ v ∷ [] = search rules in
    record {
      size = ap length pushed ∙ length_push vs v ∙ ap (λ (n : ℕ). n + 1) size;
      each = λ k l. rw pushed (elim (cases_lt k c.loop-class.class) [
        | inl a ↦ rw (spans_kept vs v k (omega (arith, a, size))) (c.loop-class.invariant.each k a)
        | inr a ↦
            let same : length vs ≡ k = omega (arith, a, l, size) in
            let last : class_spans (vs ++ v ∷ []) k ≡ v.items = subst (λ (n : ℕ). class_spans (vs ++ v ∷ []) n ≡ v.items) same (spans_last vs v) in
            let is : c.loop-class.class ≡ k = sym size ∙ same in
            rw last (subst (λ (n : ℕ). HasSpans (list_opens c.args.list.now n) v.items) is c.in-Ok-open_spans.ensures)
      ]);
    }
