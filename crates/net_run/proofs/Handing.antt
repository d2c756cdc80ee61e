-- Delivery of sent frames, port by port, and the first port whose input changes.
use Rattle.std.proofs.Common.{◌≡◌, ℕ, Bool, false, ◌+◌, ◌≤◌, zero, suc, inl, inr, List, [], ◌∷◌, ◌++◌, length, map, nat_eq, option_map, slice_set, Option, Some, None, refl, sym, ap, ◌∙◌, subst, arith}
use Rattle.std.specs.Prelude.{slice_get}
use Rattle.std.specs.Option.{option_or}
use Rattle.std.proofs.lemmas.Bool.{eqb-false, eqb-true}
use Rattle.std.proofs.lemmas.Option.{slice_get_within, same_Some}
use Rattle.bridge_limits.proofs.Cases.{by_bool}
use Rattle.bridge_limits.proofs.Lists.{pushed, set_is}
use Rattle.net_model.specs.Networks.{Sender}
use Rattle.net_run.specs.Delivery.{AreBridgesFed, AreOthersFed, AreRunsFed, IsBridgeFed, AreUnchanged, IsPortFed}
use Rattle.net_run.specs.BridgeRuns.{AreUpToDate, IsBridgeUpToDate, AreGivenBeforePort, ConstantPart, HasRun, IsPortUpToDate, IsFirstOutdatedPort, IsFirstOutdated, IsDelayedCapture, IsPortOutdated, BridgeRunState, constant_part, sent_capture, run_captures, run_texts}
use Rattle.net_run.proofs.Feeding.{given_all, given_bridge, given_more, given_none, same_of, set_else, set_here, tap_kept}
use Rattle.net_run.proofs.Turns.{AllFedBefore, AreFedBefore, all_more, fed_more, ground_kept, texts_kept}

-- A PORT UP TO DATE

-- A port with an unchanged text and an unchanged sender stays up to date.
pub fed_moved : {A : Type 0} (xs ys : List (BridgeRunState A)) (x w : BridgeRunState A) (i : ℕ) → slice_get w.senders i ≡ slice_get x.senders i → slice_get w.texts i ≡ slice_get x.texts i
    → ((s : Sender) → slice_get x.senders i ≡ Some (Some s) → sent_capture (slice_get xs s.from.bridge) s.from.port ≡ sent_capture (slice_get ys s.from.bridge) s.from.port) → IsPortUpToDate xs x i → IsPortUpToDate ys w i
fed_moved xs ys x w i senders texts taps fed r u has came =
    let own = sym senders ∙ has in
    subst (λ (t : List ℕ). IsDelayedCapture r.delay t u) (taps r own) (fed r u own (sym texts ∙ came))

-- An open port is up to date.
pub fed_open : {A : Type 0} (xs : List (BridgeRunState A)) (x : BridgeRunState A) (i : ℕ) → slice_get x.senders i ≡ Some None → IsPortUpToDate xs x i
fed_open xs x i none r u has came = let wrong : Some None ≡ Some (Some r) = sym none ∙ has in absurd (cc)

-- A port that got the frames sent to it is up to date.
given_here : {A : Type 0} (xs ys : List (BridgeRunState A)) (x w : BridgeRunState A) (i : ℕ) (s : Sender) (text : List ℕ) → w.senders ≡ x.senders → w.texts ≡ slice_set x.texts i text → slice_get x.senders i ≡ Some (Some s)
    → sent_capture (slice_get xs s.from.bridge) s.from.port ≡ sent_capture (slice_get ys s.from.bridge) s.from.port → IsDelayedCapture s.delay (sent_capture (slice_get xs s.from.bridge) s.from.port) text → IsPortUpToDate ys w i
given_here xs ys x w i s text senders texts linked taps sent r u has came =
    let sender : s ≡ r = same_Some s r (same_Some (Some s) (Some r) (sym linked ∙ (ap (λ (l : List (Option Sender)). slice_get l i) (sym senders) ∙ has))) in
    let own : text ≡ u = set_is x.texts i text u (ap (λ (l : List (List ℕ)). slice_get l i) (sym texts) ∙ came) in
    subst (λ (z : Sender). IsDelayedCapture z.delay (sent_capture (slice_get ys z.from.bridge) z.from.port) u) sender
    (subst (IsDelayedCapture s.delay (sent_capture (slice_get ys s.from.bridge) s.from.port)) own
    (subst (λ (t : List ℕ). IsDelayedCapture s.delay t text) taps sent))

-- BRIDGES THAT DIDN'T RUN

-- One bridge more, which ran or is unchanged.
pub kept_more : {A : Type 0} (ran : List Bool) (old mid : List (BridgeRunState A)) (b : ℕ) (r : Bool) (x w : BridgeRunState A) → length ran ≡ b → AreUnchanged ran old mid → ((c : ℕ) → b ≤ c → slice_get mid c ≡ slice_get old c)
    → slice_get mid b ≡ Some x → HasRun w → (r ≡ false → w ≡ x) → AreUnchanged (ran ++ r ∷ []) old (slice_set mid b w)
kept_more {A} ran old mid b r x w many kept rest is run same c flag = elim (pushed ran r false c flag) [
  | inl there ↦
      let k = kept c there in
      let less = slice_get_within ran c false there in
      (k.0, k.1, k.2, set_else mid b c w (λ e. omega (arith, less, many, e)) ∙ k.3)
  | inr here ↦
      let at : c ≡ b = here.0 ∙ many in
      let same_list : w ≡ x = same here.1 in (
        x,
        sym (rest c (omega (arith, at))) ∙ (ap (slice_get mid) at ∙ is),
        subst HasRun same_list run,
        ap (slice_get (slice_set mid b w)) at ∙ (set_here mid b w x is ∙ ap (λ (z : BridgeRunState A). Some z) same_list),
      )
]

pub rest_more : {A : Type 0} (old mid : List (BridgeRunState A)) (b : ℕ) (w : BridgeRunState A) → ((c : ℕ) → b ≤ c → slice_get mid c ≡ slice_get old c) → (c : ℕ) → b + 1 ≤ c → slice_get (slice_set mid b w) c ≡ slice_get old c
rest_more old mid b w rest c more = set_else mid b c w (λ e. omega (arith, e, more)) ∙ rest c (omega (arith, more))

-- Inputs from bridges that didn't run in a round are the frames that they sent.
pub fed_but : {A : Type 0} (ran : List Bool) (old new : List (BridgeRunState A)) → map constant_part new ≡ map constant_part old → map run_texts new ≡ map run_texts old → AreUnchanged ran old new → AreRunsFed old → AreOthersFed ran new
fed_but {A} ran old new same texts kept fed b i x s at within linked stood =
    let k = kept s.from.bridge stood in
    let y = old_at same b x at in
    let grounds : constant_part x ≡ constant_part y.0 = ground_kept new old b x y.0 same at y.1 in
    let senders : x.senders ≡ y.0.senders = ap (λ (g : ConstantPart A). g.senders) grounds in
    let many = ap (λ (g : ConstantPart A). length g.ports) grounds in
    let own : slice_get y.0.senders i ≡ Some (Some s) = ap (λ (l : List (Option Sender)). slice_get l i) (sym senders) ∙ linked in
    let moved : slice_get old s.from.bridge ≡ slice_get new s.from.bridge = k.1 ∙ sym k.3 in
    fed_moved old new y.0 x i (ap (λ (l : List (Option Sender)). slice_get l i) senders) (ap (λ (l : List (List ℕ)). slice_get l i) (texts_kept new old b x y.0 texts at y.1))
    (λ r has.
    let sender : s ≡ r = same_Some s r (same_Some (Some s) (Some r) (sym own ∙ has)) in
    subst (λ (z : Sender). sent_capture (slice_get old z.from.bridge) z.from.port ≡ sent_capture (slice_get new z.from.bridge) z.from.port) sender
    (ap (λ (o : Option (BridgeRunState A)). sent_capture o s.from.port) moved))
    (fed b i y.0 k.0 s y.1 (omega (arith, within, many)) own k.1 k.2)
  where
    old_at : map constant_part new ≡ map constant_part old → (c : ℕ) (x : BridgeRunState A) → slice_get new c ≡ Some x → (y : BridgeRunState A) × (slice_get old c ≡ Some y)
    old_at e c x at = go new old c x e at
      where
        go : (xs ys : List (BridgeRunState A)) (c : ℕ) (x : BridgeRunState A) → map constant_part xs ≡ map constant_part ys → slice_get xs c ≡ Some x → (y : BridgeRunState A) × (slice_get ys c ≡ Some y)
        go [] ys c x e at = absurd (cc)
        go (z ∷ xs) [] c x e at = absurd (cc)
        go (z ∷ xs) (u ∷ ys) zero x e at = (u, refl)
        go (z ∷ xs) (u ∷ ys) (suc c) x e at = go xs ys c x (tails e) at
          where
            tails : {X : Type 0} {a b : X} {l m : List X} → a ∷ l ≡ b ∷ m → l ≡ m
            tails h = cc

-- Delivery to one port takes nothing from other ports.
still_set : {A : Type 0} (ran : List Bool) (given : List (BridgeRunState A)) (b i : ℕ) (x w : BridgeRunState A) (s : Sender) (text : List ℕ) → slice_get given b ≡ Some x → constant_part w ≡ constant_part x → w.taps ≡ x.taps → w.texts ≡ slice_set x.texts i text
    → slice_get x.senders i ≡ Some (Some s) → IsDelayedCapture s.delay (sent_capture (slice_get given s.from.bridge) s.from.port) text → AreOthersFed ran given → AreOthersFed ran (slice_set given b w)
still_set {A} ran given b i x w s text is same taps texts linked sent but c j z r at within has stood =
    by_bool (nat_eq c b)
    (λ e.
    let own : w ≡ z = set_is given b w z (ap (slice_get (slice_set given b w)) (sym (eqb-true c b e)) ∙ at) in
    let many = ap (λ (v : BridgeRunState A). length v.ports) own in
    let as_many = ap (λ (g : ConstantPart A). length g.ports) same in
    let there : slice_get x.senders j ≡ Some (Some r) = ap (λ (l : List (Option Sender)). slice_get l j) (sym senders) ∙ (ap (λ (v : BridgeRunState A). slice_get v.senders j) own ∙ has) in
    subst (λ (v : BridgeRunState A). IsPortUpToDate (slice_set given b w) v j) own
    (by_bool (nat_eq j i)
    (λ f. subst (IsPortUpToDate (slice_set given b w) w) (sym (eqb-true j i f)) (given_here given (slice_set given b w) x w i s text senders texts linked (sent_same s.from.bridge s.from.port) sent))
    (λ f.
    fed_moved given (slice_set given b w) x w j (ap (λ (l : List (Option Sender)). slice_get l j) senders) (ap (λ (l : List (List ℕ)). slice_get l j) texts ∙ set_else x.texts i j text (λ g. eqb-false j i f (sym g)))
    (λ t h. sent_same t.from.bridge t.from.port) (but b j x r is (omega (arith, within, many, as_many)) there stood))))
    (λ e. fed_moved given (slice_set given b w) z z j refl refl (λ t h. sent_same t.from.bridge t.from.port) (but c j z r (sym (set_else given b c w (λ g. eqb-false c b e (sym g))) ∙ at) within has stood))
  where
    senders : w.senders ≡ x.senders
    senders = ap (λ (g : ConstantPart A). g.senders) same

    sent_same : (n q : ℕ) → sent_capture (slice_get given n) q ≡ sent_capture (slice_get (slice_set given b w) n) q
    sent_same n q = sym (tap_kept given (slice_set given b w) n q (same_of constant_part given b w x is same) (same_of run_captures given b w x is taps))

-- ONE PORT

-- A port whose text is already the delivered capture is done.
given_same : {A : Type 0} (ran given : List (BridgeRunState A)) (b i : ℕ) (x : BridgeRunState A) → slice_get given b ≡ Some x → IsPortUpToDate given x i → AreGivenBeforePort ran given b i → AreGivenBeforePort ran given b (i + 1)
given_same {A} ran given b i x is fed before = record {
  same = before.same;
  taps = before.taps;
  bridges = before.bridges;
  ports = λ j y less at.
      by_bool (nat_eq j i)
      (λ e.
      subst (IsPortUpToDate ran y) (sym (eqb-true j i e))
      (subst (λ (z : BridgeRunState A). IsPortUpToDate ran z i) (same_Some x y (sym is ∙ at))
      (fed_moved given ran x x i refl refl (λ s h. tap_kept ran given s.from.bridge s.from.port before.same before.taps) fed)))
      (λ e. before.ports j y (let apart = eqb-false j i e in omega (arith, less, apart)) at);
}

pub handed_same : {A : Type 0} (old : List (BridgeRunState A)) (b i : ℕ) (x : BridgeRunState A) → slice_get old b ≡ Some x → IsPortUpToDate old x i → IsPortFed old old b i None
handed_same {A} old b i x is fed = record {
  same = refl;
  gives = λ ran before. given_same ran old b i x is fed before;
  still = λ ran but. but;
  unchanged = λ e. refl;
  fed = λ y e at. subst (λ (z : BridgeRunState A). IsPortUpToDate old z i) (same_Some x y (sym is ∙ at)) fed;
  port = λ q y e at. absurd (cc);
  unfed = λ q y e at. absurd (cc);
}

pub handed_other : {A : Type 0} (old : List (BridgeRunState A)) (b i q : ℕ) (x w : BridgeRunState A) (s : Sender) (text : List ℕ) → slice_get old b ≡ Some x → constant_part w ≡ constant_part x → w.taps ≡ x.taps → w.texts ≡ slice_set x.texts i text
    → slice_get x.senders i ≡ Some (Some s) → IsDelayedCapture s.delay (sent_capture (slice_get old s.from.bridge) s.from.port) text → slice_get x.ports i ≡ Some q → IsPortOutdated old x i → IsPortFed old (slice_set old b w) b i (Some q)
handed_other {A} old b i q x w s text is same taps texts linked sent port unfed = record {
  same = same_of constant_part old b w x is same;
  gives = λ ran before. given_more ran old b i x w s text is same taps texts linked sent before;
  still = λ ran but. still_set ran old b i x w s text is same taps texts linked sent but;
  unchanged = λ e. absurd (cc);
  fed = λ y e at. absurd (cc);
  port = λ p y e at. subst (λ (z : BridgeRunState A). slice_get z.ports i ≡ Some p) (same_Some x y (sym is ∙ at)) (port ∙ e);
  unfed = λ p y e at. subst (λ (z : BridgeRunState A). IsPortOutdated old z i) (same_Some x y (sym is ∙ at)) unfed;
}

-- THE PORTS OF A BRIDGE

-- The ports of a bridge before an index got the frames sent to them.
pub record HandedBefore {A : Type 0} (old new : List (BridgeRunState A)) (b i : ℕ) (found : Option ℕ) : Type 0 where
  pub same : map constant_part new ≡ map constant_part old
  pub gives : (ran : List (BridgeRunState A)) → AreGivenBeforePort ran old b 0 → AreGivenBeforePort ran new b i
  pub still : (ran : List Bool) → AreOthersFed ran old → AreOthersFed ran new
  pub unchanged : found ≡ None → new ≡ old
  pub fed : found ≡ None → AreFedBefore old b i
  pub first : (q : ℕ) → found ≡ Some q → IsFirstOutdatedPort old b q

pub handed_none : {A : Type 0} (old : List (BridgeRunState A)) (b : ℕ) → HandedBefore old old b 0 None
handed_none old b = record {
  same = refl;
  gives = λ ran before. before;
  still = λ ran but. but;
  unchanged = λ e. refl;
  fed = λ e i x is less. absurd (omega (arith, less));
  first = λ q e. absurd (cc);
}

pub handed_more : {A : Type 0} (old mid new : List (BridgeRunState A)) (b i : ℕ) (x : BridgeRunState A) (found more : Option ℕ) → slice_get old b ≡ Some x → HandedBefore old mid b i found → IsPortFed mid new b i more → HandedBefore old new b (i + 1) (option_or found more)
handed_more {A} old mid new b i x None None is before one =
    let same_list : mid ≡ old = before.unchanged refl in
    record {
      same = one.same ∙ before.same;
      gives = λ ran all. one.gives ran (before.gives ran all);
      still = λ ran but. one.still ran (before.still ran but);
      unchanged = λ e. one.unchanged refl ∙ same_list;
      fed = λ e. fed_more old b i (before.fed refl) (λ y at. subst (λ (l : List (BridgeRunState A)). IsPortUpToDate l y i) same_list (one.fed y refl (ap (λ (l : List (BridgeRunState A)). slice_get l b) same_list ∙ at)));
      first = λ q e. absurd (cc);
    }
handed_more {A} old mid new b i x None (Some r) is before one =
    let same_list : mid ≡ old = before.unchanged refl in
    record {
      same = one.same ∙ before.same;
      gives = λ ran all. one.gives ran (before.gives ran all);
      still = λ ran but. one.still ran (before.still ran but);
      unchanged = λ e. absurd (cc);
      fed = λ e. absurd (cc);
      first = λ q e. record {
        bridge = x;
        there = is;
        place = i;
        port = one.port q x e (ap (λ (l : List (BridgeRunState A)). slice_get l b) same_list ∙ is);
        unfed = subst (λ (l : List (BridgeRunState A)). IsPortOutdated l x i) same_list (one.unfed q x e (ap (λ (l : List (BridgeRunState A)). slice_get l b) same_list ∙ is));
        before = λ j less. before.fed refl j x is less;
      };
    }
handed_more {A} old mid new b i x (Some r) more is before one = record {
  same = one.same ∙ before.same;
  gives = λ ran all. one.gives ran (before.gives ran all);
  still = λ ran but. one.still ran (before.still ran but);
  unchanged = λ e. absurd (cc);
  fed = λ e. absurd (cc);
  first = λ q e. before.first q e;
}

pub handed_bridge : {A : Type 0} (old new : List (BridgeRunState A)) (b n : ℕ) (x y : BridgeRunState A) (found : Option ℕ) → slice_get old b ≡ Some x → slice_get new b ≡ Some y → length x.ports ≤ n → HandedBefore old new b n found → IsBridgeFed old new b found
handed_bridge {A} old new b n x y found is at all before =
    let many = ap (λ (g : ConstantPart A). length g.ports) (ground_kept new old b y x before.same at is) in
    record {
      same = before.same;
      gives = λ ran first. given_bridge ran new b n y at (omega (arith, all, many)) (before.gives ran first);
      still = before.still;
      unchanged = before.unchanged;
      fed = λ e i z there within.
          let own = ap (λ (v : BridgeRunState A). length v.ports) (same_Some x z (sym is ∙ there)) in
          before.fed e i z there (omega (arith, within, all, own));
      first = before.first;
    }

-- ALL BRIDGES

-- The bridges before an index got the frames sent to them.
pub record HandedTo {A : Type 0} (old new : List (BridgeRunState A)) (b : ℕ) (found : Option (ℕ × ℕ)) : Type 0 where
  pub gives : AreGivenBeforePort old new b 0
  pub still : (ran : List Bool) → AreOthersFed ran old → AreOthersFed ran new
  pub unchanged : found ≡ None → new ≡ old
  pub fed : found ≡ None → AllFedBefore old b
  pub first : (c q : ℕ) → found ≡ Some (c, q) → IsFirstOutdated old c q

pub to_none : {A : Type 0} (old : List (BridgeRunState A)) → HandedTo old old 0 None
to_none old = record { gives = given_none old; still = λ ran but. but; unchanged = λ e. refl; fed = λ e b less. absurd (omega (arith, less)); first = λ c q e. absurd (cc) }

pub to_more : {A : Type 0} (old mid new : List (BridgeRunState A)) (b : ℕ) (found : Option (ℕ × ℕ)) (more : Option ℕ) → HandedTo old mid b found → IsBridgeFed mid new b more → HandedTo old new (b + 1) (option_or found (option_map (λ q. (b, q)) more))
to_more {A} old mid new b None None before one =
    let same_list : mid ≡ old = before.unchanged refl in
    record {
      gives = one.gives old before.gives;
      still = λ ran but. one.still ran (before.still ran but);
      unchanged = λ e. one.unchanged refl ∙ same_list;
      fed = λ e. all_more old b (before.fed refl) (subst (λ (l : List (BridgeRunState A)). IsBridgeUpToDate l b) same_list (one.fed refl));
      first = λ c q e. absurd (cc);
    }
to_more {A} old mid new b None (Some r) before one =
    let same_list : mid ≡ old = before.unchanged refl in
    record {
      gives = one.gives old before.gives;
      still = λ ran but. one.still ran (before.still ran but);
      unchanged = λ e. absurd (cc);
      fed = λ e. absurd (cc);
      first = λ c q e.
          let pair : (b, r) ≡ (c, q) = cc in
          let place : b ≡ c = ap (λ (p : ℕ × ℕ). p.0) pair in
          let port : r ≡ q = ap (λ (p : ℕ × ℕ). p.1) pair in
          subst (λ (z : ℕ). IsFirstOutdated old z q) place
          (subst (λ (z : ℕ). IsFirstOutdated old b z) port
          (record { port = subst (λ (l : List (BridgeRunState A)). IsFirstOutdatedPort l b r) same_list (one.first r refl); before = before.fed refl }));
    }
to_more {A} old mid new b (Some p) more before one = record {
  gives = one.gives old before.gives;
  still = λ ran but. one.still ran (before.still ran but);
  unchanged = λ e. absurd (cc);
  fed = λ e. absurd (cc);
  first = λ c q e. before.first c q e;
}

pub handed_all : {A : Type 0} (old new : List (BridgeRunState A)) (b : ℕ) (found : Option (ℕ × ℕ)) → length new ≤ b → HandedTo old new b found → AreBridgesFed old new found
handed_all {A} old new b found all before =
    let given = given_all old new b all before.gives in
    record {
      given = given;
      fed = λ c i x at within. fed_moved old new x x i refl refl (λ s h. sym (tap_kept old new s.from.bridge s.from.port before.gives.same before.gives.taps)) (given.each c i x at within);
      unchanged = before.unchanged;
      first = before.first;
    }

-- THE NEXT ROUND

-- If all ports are up to date, so are the ports whose senders have run.
pub fed_by_run : {A : Type 0} (xs : List (BridgeRunState A)) → AreUpToDate xs → AreRunsFed xs
fed_by_run xs fed b i x y s at within linked there run = fed b i x at within

-- Before the first round no bridge has run.
pub none_ran : {A : Type 0} (xs : List (BridgeRunState A)) → ((b : ℕ) (x : BridgeRunState A) → slice_get xs b ≡ Some x → x.outcome ≡ None) → AreRunsFed xs
none_ran xs idle b i x y s at within linked there run = let wrong : None ≡ Some run.0 = sym (idle s.from.bridge y there) ∙ run.1 in absurd (cc)
