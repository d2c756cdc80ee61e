-- Runs of single bridges that fit together are a run of the network.
use Rattle.std.proofs.Common.{◌≡◌, ℕ, zero, suc, List, [], ◌∷◌, sym, subst, Some}
use Rattle.std.specs.Prelude.{slice_get}
use Rattle.std.proofs.lemmas.Option.{same_Some}
use Rattle.bridge_capture.specs.Grammar.{CapturedFrame}
use Rattle.bridge_port.specs.Schedule.{Copy}
use Rattle.bridge_config.specs.declared.ports.PortPlan.{PortPlan}
use Rattle.bridge_config.specs.Model.{Plan}
use Rattle.bridge_config.specs.Rules.{find_port}
use Rattle.bridge_semantics.specs.declared.outcome.Outcome.{Outcome}
use Rattle.bridge_semantics.specs.Offers.{CarriedFrame}
use Rattle.bridge_semantics.specs.Merge.{Input, input_events}
use Rattle.bridge_semantics.specs.Outputs.{IsOutput}
use Rattle.bridge_semantics.specs.Runs.{IsOutcome}
use Rattle.net_model.specs.Networks.{Network, IsNetworkRun}
use Rattle.net_model.specs.ConsistentRuns.{AllRunsEnd, HasConsistentRuns}

lists_in : {A : Type 0} (ps : List (Plan A)) (inputs : ℕ → List Input) (left : ℕ → ℕ → List CapturedFrame) (o : ℕ → Outcome A) → AllRunsEnd ps inputs left o → ℕ → ℕ → List (Copy CarriedFrame)
lists_in [] inputs left o h b q = []
lists_in (p ∷ ps) inputs left o h zero q = h.0.lists q
lists_in (p ∷ ps) inputs left o h (suc b) q = lists_in ps (λ b. inputs (suc b)) (λ b. left (suc b)) (λ b. o (suc b)) h.1 b q

outcome_in : {A : Type 0} (ps : List (Plan A)) (inputs : ℕ → List Input) (left : ℕ → ℕ → List CapturedFrame) (o : ℕ → Outcome A) (h : AllRunsEnd ps inputs left o) (b : ℕ) (p : Plan A) → slice_get ps b ≡ Some p → IsOutcome p (input_events (inputs b)) (lists_in ps inputs left o h b) (o b)
unfolding lists_in
outcome_in [] inputs left o h b p e = absurd (cc)
outcome_in {A} (x ∷ xs) inputs left o h zero p e = subst (λ (z : Plan A). IsOutcome z (input_events (inputs zero)) (h.0.lists) (o zero)) (same_Some x p e) h.0.outcome
outcome_in (x ∷ xs) inputs left o h (suc b) p e = outcome_in xs (λ b. inputs (suc b)) (λ b. left (suc b)) (λ b. o (suc b)) h.1 b p e

output_in : {A : Type 0} (ps : List (Plan A)) (inputs : ℕ → List Input) (left : ℕ → ℕ → List CapturedFrame) (o : ℕ → Outcome A) (h : AllRunsEnd ps inputs left o) (b q : ℕ) (p : Plan A) (out : PortPlan A) → slice_get ps b ≡ Some p → find_port p.ports q ≡ Some out → IsOutput out.speed (lists_in ps inputs left o h b q) (left b q)
unfolding lists_in
output_in [] inputs left o h b q p out e at = absurd (cc)
output_in {A} (x ∷ xs) inputs left o h zero q p out e at = h.0.output q out (subst (λ (z : Plan A). find_port z.ports q ≡ Some out) (sym (same_Some x p e)) at)
output_in (x ∷ xs) inputs left o h (suc b) q p out e at = output_in xs (λ b. inputs (suc b)) (λ b. left (suc b)) (λ b. o (suc b)) h.1 b q p out e at

pub settled_is_run : {A : Type 0} (n : Network A) (commands : ℕ → List Input) (captures : ℕ → ℕ → List CapturedFrame) (o : ℕ → Outcome A) → HasConsistentRuns n commands captures o → IsNetworkRun n commands captures o
settled_is_run n commands captures o s = record {
  inputs = s.inputs;
  left = s.left;
  lists = lists_in n.bridges s.inputs s.left o s.ends;
  merged = s.merged;
  outcome = λ b p at. outcome_in n.bridges s.inputs s.left o s.ends b p at;
  output = λ b q p out at there. output_in n.bridges s.inputs s.left o s.ends b q p out at there;
}
