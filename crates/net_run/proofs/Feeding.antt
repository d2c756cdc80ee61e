-- Delivery of sent frames, port by port.
use Rattle.std.proofs.Common.{◌≡◌, ◌≢◌, ℕ, zero, suc, ◌+◌, ◌≤◌, ◌<◌, List, [], ◌∷◌, length, map, nat_eq, option_map, slice_set, Option, Some, None, refl, sym, ap, ◌∙◌, subst, arith}
use Rattle.std.specs.Prelude.{slice_get}
use Rattle.std.proofs.lemmas.Bool.{eqb-false, eqb-true}
use Rattle.std.proofs.lemmas.Option.{slice_get-map, slice_get_within, same_Some}
use Rattle.bridge_limits.proofs.Cases.{by_bool}
use Rattle.bridge_limits.proofs.Lists.{set_is}
use Rattle.net_model.specs.Networks.{Sender}
use Rattle.net_run.specs.BridgeRuns.{AreGiven, AreGivenBeforePort, ConstantPart, IsPortUpToDate, IsDelayedCapture, BridgeRunState, constant_part, sent_capture, run_captures, text_of_port}

-- The set item is at its index.
pub set_here : {X : Type 0} (xs : List X) (i : ℕ) (x y : X) → slice_get xs i ≡ Some y → slice_get (slice_set xs i x) i ≡ Some x
set_here [] i x y is = absurd (cc)
set_here (z ∷ xs) zero x y is = refl
set_here (z ∷ xs) (suc i) x y is = set_here xs i x y is

-- All other items stay the same.
pub set_else : {X : Type 0} (xs : List X) (i j : ℕ) (x : X) → i ≢ j → slice_get (slice_set xs i x) j ≡ slice_get xs j
set_else [] i j x apart = refl
set_else (z ∷ xs) zero zero x apart = absurd (apart refl)
set_else (z ∷ xs) zero (suc j) x apart = refl
set_else (z ∷ xs) (suc i) zero x apart = refl
set_else (z ∷ xs) (suc i) (suc j) x apart = set_else xs i j x (λ e. apart (ap suc e))

-- Setting an item to its own value changes nothing.
pub set_there : {X : Type 0} (xs : List X) (i : ℕ) (x : X) → slice_get xs i ≡ Some x → xs ≡ slice_set xs i x
set_there [] i x is = refl
set_there (z ∷ xs) zero x is = ap (λ y. y ∷ xs) (same_Some z x is)
set_there (z ∷ xs) (suc i) x is = ap (λ l. z ∷ l) (set_there xs i x is)

-- If a new item has an equal image, the list of images stays the same.
pub same_of : {X Y : Type 0} (f : X → Y) (xs : List X) (i : ℕ) (x y : X) → slice_get xs i ≡ Some y → f x ≡ f y → map f (slice_set xs i x) ≡ map f xs
same_of f [] i x y is e = refl
same_of {X} {Y} f (z ∷ xs) zero x y is e = ap (λ (u : Y). u ∷ map f xs) (e ∙ ap f (sym (same_Some z y is)))
same_of {X} {Y} f (z ∷ xs) (suc i) x y is e = ap (λ (l : List Y). f z ∷ l) (same_of f xs i x y is e)

-- The sent capture depends only on the ports and the sent captures.
abbrev tap_by : {A : Type 0} → Option (ConstantPart A) → Option (List (List ℕ)) → ℕ → List ℕ
tap_by None taps q = []
tap_by (Some g) None q = []
tap_by (Some g) (Some taps) q = text_of_port g.ports taps q

tap_parts : {A : Type 0} (o : Option (BridgeRunState A)) (q : ℕ) → sent_capture o q ≡ tap_by (option_map constant_part o) (option_map run_captures o) q
tap_parts None q = refl
tap_parts (Some x) q = refl

pub tap_kept : {A : Type 0} (ran given : List (BridgeRunState A)) (b q : ℕ) → map constant_part given ≡ map constant_part ran → map run_captures given ≡ map run_captures ran → sent_capture (slice_get given b) q ≡ sent_capture (slice_get ran b) q
tap_kept {A} ran given b q same taps =
    let grounds = sym (slice_get-map constant_part given b) ∙ (ap (λ (l : List (ConstantPart A)). slice_get l b) same ∙ slice_get-map constant_part ran b) in
    let tapped = sym (slice_get-map run_captures given b) ∙ (ap (λ (l : List (List (List ℕ))). slice_get l b) taps ∙ slice_get-map run_captures ran b) in
    tap_parts (slice_get given b) q ∙ (ap (λ (o : Option (ConstantPart A)). tap_by o (option_map run_captures (slice_get given b)) q) grounds
    ∙ (ap (λ (o : Option (List (List ℕ))). tap_by (option_map constant_part (slice_get ran b)) o q) tapped ∙ sym (tap_parts (slice_get ran b) q)))

-- A port gets the frames sent to it.
module _ {A : Type 0} (ran given : List (BridgeRunState A)) (b i : ℕ) (x w : BridgeRunState A) (s : Sender) (text : List ℕ)
    (is : slice_get given b ≡ Some x) (same : constant_part w ≡ constant_part x) (taps : w.taps ≡ x.taps) (texts : w.texts ≡ slice_set x.texts i text)
    (linked : slice_get x.senders i ≡ Some (Some s)) (sent : IsDelayedCapture s.delay (sent_capture (slice_get given s.from.bridge) s.from.port) text)
    (before : AreGivenBeforePort ran given b i) where
  senders : w.senders ≡ x.senders
  senders = ap (λ (g : ConstantPart A). g.senders) same

  here : IsPortUpToDate ran w i
  here r u has came =
      let sender : s ≡ r = same_Some s r (same_Some (Some s) (Some r) (sym linked ∙ (ap (λ (l : List (Option Sender)). slice_get l i) (sym senders) ∙ has))) in
      let own : text ≡ u = set_is x.texts i text u (ap (λ (l : List (List ℕ)). slice_get l i) (sym texts) ∙ came) in
      subst (λ (z : Sender). IsDelayedCapture z.delay (sent_capture (slice_get ran z.from.bridge) z.from.port) u) sender
      (subst (IsDelayedCapture s.delay (sent_capture (slice_get ran s.from.bridge) s.from.port)) own
      (subst (λ (t : List ℕ). IsDelayedCapture s.delay t text) (tap_kept ran given s.from.bridge s.from.port before.same before.taps) sent))

  other : (j : ℕ) → j < i → IsPortUpToDate ran w j
  other j less r u has came = before.ports j x less is r u (ap (λ (l : List (Option Sender)). slice_get l j) (sym senders) ∙ has)
      (sym (set_else x.texts i j text (λ e. omega (arith, e, less))) ∙ (ap (λ (l : List (List ℕ)). slice_get l j) (sym texts) ∙ came))

  pub given_more : AreGivenBeforePort ran (slice_set given b w) b (i + 1)
  given_more = record {
    same = same_of constant_part given b w x is same ∙ before.same;
    taps = same_of run_captures given b w x is taps ∙ before.taps;
    bridges = λ c j y less at within. before.bridges c j y less (sym (set_else given b c w (λ e. omega (arith, e, less))) ∙ at) within;
    ports = λ j y less at.
        let own : w ≡ y = set_is given b w y at in
        subst (λ (z : BridgeRunState A). IsPortUpToDate ran z j) own
        (by_bool (nat_eq j i) (λ e. subst (IsPortUpToDate ran w) (sym (eqb-true j i e)) here) (λ e. other j (let apart = eqb-false j i e in omega (arith, less, apart))));
  }

-- An open port gets no frames.
pub given_open : {A : Type 0} (ran given : List (BridgeRunState A)) (b i : ℕ) (x : BridgeRunState A) → slice_get given b ≡ Some x → slice_get x.senders i ≡ Some None → AreGivenBeforePort ran given b i → AreGivenBeforePort ran given b (i + 1)
given_open {A} ran given b i x is none before = record {
  same = before.same;
  taps = before.taps;
  bridges = before.bridges;
  ports = λ j y less at.
      by_bool (nat_eq j i)
      (λ e r u has came.
      let own : x ≡ y = same_Some x y (sym is ∙ at) in
      let here : slice_get y.senders j ≡ Some None = ap (slice_get y.senders) (eqb-true j i e) ∙ (ap (λ (z : BridgeRunState A). slice_get z.senders i) (sym own) ∙ none) in
      let wrong : Some None ≡ Some (Some r) = sym here ∙ has in absurd (cc))
      (λ e. before.ports j y (let apart = eqb-false j i e in omega (arith, less, apart)) at);
}

-- At first no port has got frames.
pub given_none : {A : Type 0} (ran : List (BridgeRunState A)) → AreGivenBeforePort ran ran 0 0
given_none ran = record { same = refl; taps = refl; bridges = λ c j x less at within. absurd (omega (arith, less)); ports = λ j x less at. absurd (omega (arith, less)) }

-- All ports of a bridge got their frames.
pub given_bridge : {A : Type 0} (ran given : List (BridgeRunState A)) (b n : ℕ) (x : BridgeRunState A) → slice_get given b ≡ Some x → length x.ports ≤ n → AreGivenBeforePort ran given b n → AreGivenBeforePort ran given (b + 1) 0
given_bridge {A} ran given b n x is all before = record {
  same = before.same;
  taps = before.taps;
  bridges = λ c j y less at within.
      by_bool (nat_eq c b)
      (λ e.
      let there : slice_get given b ≡ Some y = ap (slice_get given) (sym (eqb-true c b e)) ∙ at in
      let own : x ≡ y = same_Some x y (sym is ∙ there) in
      let many = ap (λ (z : BridgeRunState A). length z.ports) own in
      before.ports j y (omega (arith, within, many, all)) there)
      (λ e. before.bridges c j y (let apart = eqb-false c b e in omega (arith, less, apart)) at within);
  ports = λ j y less at. absurd (omega (arith, less));
}

-- All bridges got their frames.
pub given_all : {A : Type 0} (ran given : List (BridgeRunState A)) (b : ℕ) → length given ≤ b → AreGivenBeforePort ran given b 0 → AreGiven ran given
given_all ran given b all before = record {
  same = before.same;
  each = λ c i x at within. before.bridges c i x (let inside = slice_get_within given c x at in omega (arith, inside, all)) at within;
}
