-- The bridges of a network before the first round.
use Rattle.std.proofs.Common.{◌≡◌, ℕ, zero, suc, ◌+◌, ◌≤◌, ◌<◌, inl, inr, List, [], ◌∷◌, ◌++◌, length, drop, nat_eq, slice_set, Option, Some, None, sym, ap, ◌∙◌, subst, arith}
use Rattle.std.specs.Prelude.{slice_get}
use Rattle.std.proofs.lemmas.Bool.{eqb-false, eqb-true}
use Rattle.std.proofs.lemmas.List.{length-drop}
use Rattle.std.proofs.lemmas.Option.{slice_get_within, same_Some}
use Rattle.bridge_limits.proofs.Cases.{by_bool}
use Rattle.bridge_limits.proofs.Lists.{pushed, there_is, set_is}
use Rattle.bridge_config.specs.Model.{Plan}
use Rattle.bridge_capture.specs.WrittenCapture.{written_text}
use Rattle.net_model.specs.Networks.{Sender}
use Rattle.net_model.specs.NetworkParts.{NetworkParts}
use Rattle.net_run.specs.declared.bridge_run.BridgeInput.{BridgeInput}
use Rattle.net_run.specs.BridgeRuns.{IsInitialRun, NoInput, NoInputBeforeIndex, BridgeRunState}
use Rattle.net_run.specs.Rounds.{AreInitialRuns, AreBridgeInputs}
use Rattle.net_run.proofs.Feeding.{set_else}

-- The rest of a list after an index.
pub left_at : {X : Type 0} (xs : List X) (n : ℕ) (x : X) (rest : List X) → drop n xs ≡ x ∷ rest → (slice_get xs n ≡ Some x) × (drop (suc n) xs ≡ rest)
left_at [] zero x rest e = absurd (cc)
left_at [] (suc n) x rest e = absurd (cc)
left_at (y ∷ xs) zero x rest e = (cc, cc)
left_at (y ∷ xs) (suc n) x rest e = left_at xs n x rest e

-- The bridges up to now are in their initial state.
abbrev pub AreBegunSoFar : {A : Type 0} → NetworkParts A → List (BridgeInput A) → List (BridgeRunState A) → Type 0
AreBegunSoFar {A} n came xs = (b : ℕ) (p : Plan A) (c : BridgeInput A) (x : BridgeRunState A) → slice_get n.plans b ≡ Some p → slice_get came b ≡ Some c → slice_get xs b ≡ Some x → IsInitialRun p n.links b c x

pub begun_more : {A : Type 0} (n : NetworkParts A) (came : List (BridgeInput A)) (xs : List (BridgeRunState A)) (p : Plan A) (c : BridgeInput A) (x : BridgeRunState A) (b : ℕ) → b ≡ length xs → slice_get n.plans b ≡ Some p → slice_get came b ≡ Some c → IsInitialRun p n.links b c x → AreBegunSoFar n came xs → AreBegunSoFar n came (xs ++ x ∷ [])
begun_more {A} n came xs p c x b last plan own begun before i q d y is_q is_d is_y = elim (pushed xs x y i is_y) [
  | inl there ↦ before i q d y is_q is_d there
  | inr here ↦
      let at : b ≡ i = last ∙ sym here.0 in
      let same_plan : p ≡ q = same_Some p q (sym plan ∙ (ap (slice_get n.plans) at ∙ is_q)) in
      let same_came : c ≡ d = same_Some c d (sym own ∙ (ap (slice_get came) at ∙ is_d)) in
      subst (λ (z : BridgeRunState A). IsInitialRun q n.links i d z) here.1
      (subst (λ (z : ℕ). IsInitialRun q n.links z d x) at
      (subst (λ (z : BridgeInput A). IsInitialRun q n.links b z x) same_came
      (subst (λ (z : Plan A). IsInitialRun z n.links b c x) same_plan begun)))
]

-- Conditions for the next bridge.
pub record Next {A : Type 0} (n : NetworkParts A) (came : List (BridgeInput A)) (xs : List (BridgeRunState A)) (c : BridgeInput A) (rest : List (BridgeInput A)) : Type 0 where
  pub own : slice_get came (length xs) ≡ Some c
  pub behind : drop (length xs + 1) came ≡ rest
  pub within : length xs < length n.plans

pub next_is : {A : Type 0} (n : NetworkParts A) (came : List (BridgeInput A)) (xs : List (BridgeRunState A)) (c : BridgeInput A) (rest left : List (BridgeInput A)) → AreBridgeInputs n.plans came → left ≡ c ∷ rest → left ≡ drop (length xs) came → Next n came xs c rest
next_is {A} n came xs c rest left are step at =
    let l = left_at came (length xs) c rest (sym at ∙ step) in
    let inside = slice_get_within came (length xs) c l.0 in
    let many = are.many in
    record {
      own = l.0;
      behind = ap (λ (k : ℕ). drop k came) {x = length xs + 1} {y = suc (length xs)} (omega arith) ∙ l.1;
      within = omega (arith, inside, many);
    }

-- If no bridge is left, all are in their initial state.
pub begun_all : {A : Type 0} (n : NetworkParts A) (came : List (BridgeInput A)) (xs : List (BridgeRunState A)) (rest : List (BridgeInput A)) → AreBridgeInputs n.plans came → length rest ≡ 0 → rest ≡ drop (length xs) came → length xs ≤ length came → AreBegunSoFar n came xs → AreInitialRuns n came xs
begun_all n came xs rest are none left few begun =
    let gone = ap length (sym left) in
    let size = length-drop (length xs) came in
    let many = are.many in
    record { many = omega (arith, none, gone, size, many, few); each = begun }

-- None of the bridges has run.
pub begun_idle : {A : Type 0} (n : NetworkParts A) (came : List (BridgeInput A)) (xs : List (BridgeRunState A)) → AreBridgeInputs n.plans came → AreInitialRuns n came xs → (b : ℕ) (x : BridgeRunState A) → slice_get xs b ≡ Some x → x.outcome ≡ None
begun_idle n came xs are begun b x at =
    let within = slice_get_within xs b x at in
    let as_many = begun.many in
    let many = are.many in
    let p = there_is n.plans b (omega (arith, within, as_many)) in
    let c = there_is came b (omega (arith, within, as_many, many)) in
    (begun.each b p.0 c.0 x p.1 c.1 at).idle

-- One linked port more has a capture without frames.
pub none_more : (senders : List (Option Sender)) (texts : List (List ℕ)) (i : ℕ) (t : List ℕ) → t ≡ written_text [] → NoInputBeforeIndex i senders texts → NoInputBeforeIndex (i + 1) senders (slice_set texts i t)
none_more senders texts i t empty before j s u less has came =
    by_bool (nat_eq j i)
    (λ e. sym (set_is texts i t u (ap (slice_get (slice_set texts i t)) (sym (eqb-true j i e)) ∙ came)) ∙ empty)
    (λ e.
    let apart = eqb-false j i e in
    before j s u (omega (arith, less, apart)) has (sym (set_else texts i j t (λ same. apart (sym same))) ∙ came))

-- An open port needs no such capture.
pub none_open : (senders : List (Option Sender)) (texts : List (List ℕ)) (i : ℕ) → slice_get senders i ≡ Some None → NoInputBeforeIndex i senders texts → NoInputBeforeIndex (i + 1) senders texts
none_open senders texts i none before j s u less has came =
    by_bool (nat_eq j i)
    (λ e. let wrong : Some None ≡ Some (Some s) = sym none ∙ (ap (slice_get senders) (sym (eqb-true j i e)) ∙ has) in absurd (cc))
    (λ e. let apart = eqb-false j i e in before j s u (omega (arith, less, apart)) has came)

-- All linked ports have captures without frames.
pub none_all : (senders : List (Option Sender)) (texts : List (List ℕ)) (n : ℕ) → length senders ≤ n → NoInputBeforeIndex n senders texts → NoInput senders texts
none_all senders texts n all before i s u has came = before i s u (let within = slice_get_within senders i (Some s) has in omega (arith, within, all)) has came
