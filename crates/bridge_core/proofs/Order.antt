-- The next inputs follow the inputs so far.
use Rattle.std.proofs.Common.{◌≡◌, ℕ, ◌<◌, ◌≤◌, false, List, [], ◌∷◌, ◌++◌, arith, refl, ap, sym, subst, ◌∙◌, inl, inr, Option, Some, None}
use Rattle.std.specs.Prelude.{nat_eq, if◌then◌else◌, IfSome}
use Rattle.std.proofs.lemmas.Bool.Decides.{nat_tests}
use Rattle.std.proofs.lemmas.Bool.{eqb-true}
use Rattle.bridge_limits.specs.Members.{RelatesToEach, IsOrdered}
use Rattle.bridge_limits.proofs.Cases.{by_bool}
use Rattle.bridge_limits.proofs.Orders.{swapped, same_eq}
use Rattle.bridge_limits.proofs.Options.{none_some}
use Rattle.bridge_capture.specs.Grammar.{CapturedFrame}
use Rattle.bridge_capture.specs.StandsFor.{HasReadFrames}
use Rattle.bridge_config.specs.declared.ports.PortPlan.{PortPlan}
use Rattle.bridge_config.specs.Model.{Plan}
use Rattle.bridge_config.specs.Rules.{find_port}
use Rattle.bridge_semantics.specs.Merge.{Input, capture_input, FollowsInput, inputs_by_rank, IsMerged, capture_inputs, input_streams}
use Rattle.bridge_core.specs.Running.{FollowsInputs, HasTakenInputs}

trans : (a b c : Input) → FollowsInput a b → FollowsInput b c → FollowsInput a c
trans a b c (inl l) (inl m) = inl (omega (arith, l, m))
trans a b c (inl l) (inr m) = inl (let e = m.0 in omega (arith, l, e))
trans a b c (inr l) (inl m) = inl (let e = l.0 in omega (arith, m, e))
trans a b c (inr l) (inr m) = let e = l.0 in let f = m.0 in let g = l.1 in let h = m.1 in inr (omega (arith, e, f), omega (arith, g, h))

after_next : (y x : Input) (xs : List Input) → FollowsInput y x → RelatesToEach FollowsInput x xs → RelatesToEach FollowsInput y xs
after_next y x [] n h = tt
after_next y x (z ∷ xs) n h = (trans y x z n h.0, after_next y x xs n h.1)

pub in_order_next : (y : Input) (xs : List Input) → IsOrdered FollowsInput xs → FollowsInputs y xs → IsOrdered FollowsInput (y ∷ xs)
in_order_next y [] r f = (tt, tt)
in_order_next y (x ∷ xs) r f = ((f, after_next y x xs f r.0), r)

pub inputs_push : (q : ℕ) (cs : List CapturedFrame) (c : CapturedFrame) → capture_inputs q (cs ++ c ∷ []) ≡ capture_input q c ∷ capture_inputs q cs
inputs_push q [] c = refl
inputs_push q (d ∷ cs) c = ap (λ l. l ++ capture_input q d ∷ []) (inputs_push q cs c)

not_zero : (n : ℕ) → 1 ≤ n → nat_eq n 0 ≡ false
not_zero n l = grind (arith, nat_tests)

-- The frames of each port, with one frame more of port `q`.
abbrev pub with_frame : (ℕ → List CapturedFrame) → ℕ → CapturedFrame → ℕ → List CapturedFrame
with_frame frames q c r = if nat_eq r q then frames r ++ c ∷ [] else frames r

pub frames_here : (frames : ℕ → List CapturedFrame) (q : ℕ) (c : CapturedFrame) → with_frame frames q c q ≡ frames q ++ c ∷ []
frames_here frames q c = rw (same_eq q) refl

pub frames_there : (frames : ℕ → List CapturedFrame) (q : ℕ) (c : CapturedFrame) (r : ℕ) → nat_eq r q ≡ false → with_frame frames q c r ≡ frames r
frames_there frames q c r e = rw e refl

merged_here : (commanded : List Input) (frames : ℕ → List CapturedFrame) (inputs : List Input) (q : ℕ) (c : CapturedFrame) → 1 ≤ q → inputs_by_rank q inputs ≡ input_streams commanded frames q → inputs_by_rank q (capture_input q c ∷ inputs) ≡ input_streams commanded (with_frame frames q c) q
merged_here commanded frames inputs q c from e =
    let z : inputs_by_rank q inputs ≡ capture_inputs q (frames q) = rw (not_zero q from) at e in
    rw (same_eq q, not_zero q from) (ap (λ l. capture_input q c ∷ l) z ∙ sym (inputs_push q (frames q) c))

merged_there : (commanded : List Input) (frames : ℕ → List CapturedFrame) (inputs : List Input) (q r : ℕ) (c : CapturedFrame) → nat_eq q r ≡ false → inputs_by_rank r inputs ≡ input_streams commanded frames r → inputs_by_rank r (capture_input q c ∷ inputs) ≡ input_streams commanded (with_frame frames q c) r
merged_there commanded frames inputs q r c n e = rw (n, swapped q r n) e

pub merged_frame : (commanded : List Input) (frames : ℕ → List CapturedFrame) (inputs : List Input) (q : ℕ) (c : CapturedFrame) → 1 ≤ q → IsMerged (input_streams commanded frames) inputs → FollowsInputs (capture_input q c) inputs → IsMerged (input_streams commanded (with_frame frames q c)) (capture_input q c ∷ inputs)
merged_frame commanded frames inputs q c from m f = record {
  in_order = in_order_next (capture_input q c) inputs m.in_order f;
  each = λ r. by_bool (nat_eq q r)
      (λ e. subst (λ (n : ℕ). inputs_by_rank n (capture_input q c ∷ inputs) ≡ input_streams commanded (with_frame frames q c) n) (eqb-true q r e) (merged_here commanded frames inputs q c from (m.each q)))
      (λ n. merged_there commanded frames inputs q r c n (m.each r));
}

later_command : (next : Option Input) (x : Input) (xs : List Input) → IfSome next (λ y. x.at < y.at) → IfSome next (λ y. FollowsInputs y (x ∷ xs))
later_command None x xs h = tt
later_command (Some y) x xs h = inl h

-- The inputs so far, with one frame more.
pub taken_frame : {A : Type 0} (p : Plan A) (texts : ℕ → List ℕ) (commanded : List Input) (next : Option Input) (frames : ℕ → List CapturedFrame) (inputs : List Input) (q : ℕ) (c : CapturedFrame) (out : PortPlan A) → HasTakenInputs p texts commanded next frames inputs → 1 ≤ q → find_port p.ports q ≡ Some out → HasReadFrames (texts q) (frames q ++ c ∷ []) → FollowsInputs (capture_input q c) inputs → IfSome next (λ y. c.time < y.at) → HasTakenInputs p texts commanded next (with_frame frames q c) (capture_input q c ∷ inputs)
taken_frame {A} p texts commanded next frames inputs q c out t from at gave f before = record {
  gave = λ r v e. by_bool (nat_eq r q)
      (λ s. subst (λ (n : ℕ). HasReadFrames (texts n) (with_frame frames q c n)) (sym (eqb-true r q s)) (subst (HasReadFrames (texts q)) (sym (frames_here frames q c)) gave))
      (λ n. subst (HasReadFrames (texts r)) (sym (frames_there frames q c r n)) (t.gave r v e));
  others = λ r e. by_bool (nat_eq r q)
      (λ s. absurd (none_some (find_port p.ports q) out (subst (λ (n : ℕ). find_port p.ports n ≡ None) (eqb-true r q s) e) at))
      (λ n. frames_there frames q c r n ∙ t.others r e);
  merged = merged_frame commanded frames inputs q c from t.merged f;
  commands = later_command next (capture_input q c) inputs before;
}
