-- Lists of bridge inputs, built bridge by bridge, fit their lists of plans.
use Rattle.std.proofs.Common.{◌≡◌, ℕ, zero, suc, List, [], ◌∷◌, ◌++◌, length, Some, refl, ap, subst}
use Rattle.std.specs.Prelude.{slice_get}
use Rattle.std.proofs.lemmas.Option.{same_Some}
use Rattle.bridge_config.specs.Model.{Plan}
use Rattle.net_run.specs.declared.bridge_run.BridgeInput.{BridgeInput}
use Rattle.net_run.specs.Rounds.{AreBridgeInputs}
use Rattle.net_run.specs.BridgeRuns.{IsBridgeInput}
use Rattle.gate_greens.specs.Coming.{AllIncoming}

-- If inputs fit plans, then both lists with one more fitting item fit.
pub more_incoming : {A : Type 0} (ps : List (Plan A)) (cs : List (BridgeInput A)) (p : Plan A) (c : BridgeInput A) → AllIncoming ps cs → IsBridgeInput p c → AllIncoming (ps ++ p ∷ []) (cs ++ c ∷ [])
more_incoming [] [] p c are is = (is, tt)
more_incoming [] (y ∷ ys) p c are is = absurd are
more_incoming (x ∷ xs) [] p c are is = absurd are
more_incoming (x ∷ xs) (y ∷ ys) p c are is = (are.0, more_incoming xs ys p c are.1 is)

many : {A : Type 0} (ps : List (Plan A)) (cs : List (BridgeInput A)) → AllIncoming ps cs → length cs ≡ length ps
many [] [] are = refl
many [] (y ∷ ys) are = absurd are
many (x ∷ xs) [] are = absurd are
many (x ∷ xs) (y ∷ ys) are = ap suc (many xs ys are.1)

each : {A : Type 0} (ps : List (Plan A)) (cs : List (BridgeInput A)) (b : ℕ) (p : Plan A) (c : BridgeInput A) → AllIncoming ps cs → slice_get ps b ≡ Some p → slice_get cs b ≡ Some c → IsBridgeInput p c
each [] [] b p c are is_p is_c = absurd (cc)
each [] (y ∷ ys) b p c are is_p is_c = absurd are
each (x ∷ xs) [] b p c are is_p is_c = absurd are
each (x ∷ xs) (y ∷ ys) zero p c are is_p is_c =
    subst (λ q. IsBridgeInput q c) (same_Some x p is_p) (subst (λ d. IsBridgeInput x d) (same_Some y c is_c) are.0)
each (x ∷ xs) (y ∷ ys) (suc b) p c are is_p is_c = each xs ys b p c are.1 is_p is_c

-- Inputs that fit their plans are the inputs that a network run requires.
pub are_incoming : {A : Type 0} (ps : List (Plan A)) (cs : List (BridgeInput A)) → AllIncoming ps cs → AreBridgeInputs ps cs
are_incoming ps cs are = record {
  many = many ps cs are;
  each = λ b p c is_p is_c. each ps cs b p c are is_p is_c;
}
