-- The bridges of a network from step to step of a loop.
use Rattle.std.proofs.Common.{◌≡◌, ◌≢◌, ℕ, zero, suc, Bool, true, false, ◌+◌, ◌≤◌, ◌<◌, List, [], ◌∷◌, ◌++◌, length, map, take, drop, drop_of_length-le, nat_eq, nat_lt, append-nil, slice_index_or, slice_set, Option, Some, None, refl, sym, ap, ◌∙◌, subst, arith}
use Rattle.std.proofs.lemmas.Option.{slice_get-get_or, same_Some}
use Rattle.std.specs.Prelude.{All, Result, Ok, slice_get, is_some, if◌then◌else◌}
use Rattle.std.proofs.lemmas.Bool.{eq-eqb, eqb-false, eqb-true}
use Rattle.std.proofs.lemmas.Bool.Decides.{nat_tests}
use Rattle.net_model.specs.Networks.{Sender}
use Rattle.std.proofs.lemmas.List.Elements.{All-cons, All-head, All-nil, All-tail}
use Rattle.bridge_limits.proofs.Cases.{by_bool}
use Rattle.bridge_capture.specs.declared.fault.RunFault.{RunFault}
use Rattle.net_run.specs.BridgeRuns.{IsBridgeUpToDate, ConstantPart, HasRun, IsPortUpToDate, IsDelayedCapture, BridgeRunState, StopsBridge, constant_part, open_texts, sent_capture, text_of_port, run_texts}

-- If a new item has an equal image, the list of images stays the same.
pub map_set : {X Y : Type 0} (f : X → Y) (xs : List X) (i : ℕ) (d x : X) → f x ≡ f (slice_index_or xs i d) → map f (slice_set xs i x) ≡ map f xs
map_set f [] i d x e = refl
map_set f (y ∷ xs) zero d x e = ap (λ z. z ∷ map f xs) e
map_set f (y ∷ xs) (suc i) d x e = ap (λ z. f y ∷ z) (map_set f xs i d x e)

-- All ports of a bridge before an index are up to date.
abbrev pub AreFedBefore : {A : Type 0} → List (BridgeRunState A) → ℕ → ℕ → Type 0
AreFedBefore {A} xs b place = (i : ℕ) (x : BridgeRunState A) → slice_get xs b ≡ Some x → i < place → IsPortUpToDate xs x i

-- All bridges before an index are up to date.
abbrev pub AllFedBefore : {A : Type 0} → List (BridgeRunState A) → ℕ → Type 0
AllFedBefore {A} xs place = (b : ℕ) → b < place → IsBridgeUpToDate xs b

-- THE TEXT OF A PORT, STEP BY STEP

text_none : (ports : List ℕ) (q : ℕ) → text_of_port ports [] q ≡ []
text_none [] q = refl
text_none (p ∷ ports) q = refl

pub text_behind : (ports : List ℕ) (taps : List (List ℕ)) (q place : ℕ) → length taps ≤ place → text_of_port (drop place ports) (drop place taps) q ≡ []
text_behind ports taps q place behind = ap (λ (l : List (List ℕ)). text_of_port (drop place ports) l q) (drop_of_length-le taps behind) ∙ text_none (drop place ports) q

pub text_past : (ports : List ℕ) (taps : List (List ℕ)) (q place : ℕ) → length ports ≤ place → text_of_port (drop place ports) (drop place taps) q ≡ []
text_past ports taps q place behind = ap (λ (l : List ℕ). text_of_port l (drop place taps) q) (drop_of_length-le ports behind)

pub text_here : (ports : List ℕ) (taps : List (List ℕ)) (q place d : ℕ) (e : List ℕ) → place < length ports → place < length taps → slice_index_or ports place d ≡ q → text_of_port (drop place ports) (drop place taps) q ≡ slice_index_or taps place e
text_here [] taps q place d e in_ports in_taps is = absurd (omega (arith, in_ports))
text_here (p ∷ ports) [] q place d e in_ports in_taps is = absurd (omega (arith, in_taps))
text_here (p ∷ ports) (t ∷ taps) q zero d e in_ports in_taps is = ap (λ (b : Bool). if b then t else text_of_port ports taps q) (eq-eqb p q is)
text_here (p ∷ ports) (t ∷ taps) q (suc place) d e in_ports in_taps is = text_here ports taps q place d e (omega (arith, in_ports)) (omega (arith, in_taps)) is

pub text_next : (ports : List ℕ) (taps : List (List ℕ)) (q place d : ℕ) → place < length ports → place < length taps → slice_index_or ports place d ≢ q → text_of_port (drop (suc place) ports) (drop (suc place) taps) q ≡ text_of_port (drop place ports) (drop place taps) q
text_next [] taps q place d in_ports in_taps not = absurd (omega (arith, in_ports))
text_next (p ∷ ports) [] q place d in_ports in_taps not = absurd (omega (arith, in_taps))
text_next (p ∷ ports) (t ∷ taps) q zero d in_ports in_taps not = let other : nat_eq p q ≡ false = grind (arith, nat_tests, not) in sym (ap (λ (b : Bool). if b then t else text_of_port ports taps q) other)
text_next (p ∷ ports) (t ∷ taps) q (suc place) d in_ports in_taps not = text_next ports taps q place d (omega (arith, in_ports)) (omega (arith, in_taps)) not

-- CHANGED TEXTS

pub map_of_set : {X Y : Type 0} (f : X → Y) (xs : List X) (i : ℕ) (x : X) → map f (slice_set xs i x) ≡ slice_set (map f xs) i (f x)
map_of_set f [] i x = refl
map_of_set f (y ∷ xs) zero x = refl
map_of_set f (y ∷ xs) (suc i) x = ap (λ z. f y ∷ z) (map_of_set f xs i x)

-- A changed text of a linked port keeps the texts of open ports.
pub open_set : (senders : List (Option Sender)) (texts : List (List ℕ)) (i : ℕ) (s : Sender) (t : List ℕ) → slice_get senders i ≡ Some (Some s) → open_texts senders (slice_set texts i t) ≡ open_texts senders texts
open_set [] texts i s t is = absurd (cc)
open_set (o ∷ senders) [] i s t is = refl
open_set (o ∷ senders) (x ∷ texts) zero s t is = let e : o ≡ Some s = same_Some o (Some s) is in ap (λ (p : Option Sender). (if is_some p then [] else t) ∷ open_texts senders texts) e ∙ sym (ap (λ (p : Option Sender). (if is_some p then [] else x) ∷ open_texts senders texts) e)
open_set (o ∷ senders) (x ∷ texts) (suc i) s t is = ap (λ (l : List (List ℕ)). (if is_some o then [] else x) ∷ l) (open_set senders texts i s t is)

pub index_map : {X Y : Type 0} (f : X → Y) (xs : List X) (i : ℕ) (d : X) → slice_index_or (map f xs) i (f d) ≡ f (slice_index_or xs i d)
index_map f [] i d = refl
index_map f (x ∷ xs) zero d = refl
index_map f (x ∷ xs) (suc i) d = index_map f xs i d

-- A changed text of a linked port keeps the constant part of the bridge.
pub ground_given : {A : Type 0} (v : BridgeRunState A) (i : ℕ) (s : Sender) (t : List ℕ) (w : BridgeRunState A) → slice_get v.senders i ≡ Some (Some s) → w ≡ record v { texts = slice_set v.texts i t; outcome = None } → constant_part w ≡ constant_part v
ground_given {A} v i s t w linked is =
    ap constant_part is ∙ ap (λ (l : List (List ℕ)). record { plan = v.plan; commands = v.commands; ports = v.ports; senders = v.senders; outside = l }) (open_set v.senders v.texts i s t linked)

-- The item at an index.
pub at_place : {X : Type 0} (xs : List X) (i : ℕ) (d x : X) → i < length xs → slice_get xs i ≡ Some x → slice_index_or xs i d ≡ x
at_place [] i d x l is = absurd (cc)
at_place (y ∷ xs) zero d x l is = same_Some y x is
at_place (y ∷ xs) (suc i) d x l is = at_place xs i d x (omega (arith, l)) is

-- The sent capture of a bridge that was looked up.
pub tap_there : {A : Type 0} (xs : List (BridgeRunState A)) (b q : ℕ) (y : BridgeRunState A) → slice_get xs b ≡ Some y → text_of_port y.ports y.taps q ≡ sent_capture (slice_get xs b) q
tap_there xs b q y is = sym (ap (λ (o : Option _). sent_capture o q) is)

-- A port whose text is the delayed capture of its sender is up to date.
pub fed_one : {A : Type 0} (xs : List (BridgeRunState A)) (b i : ℕ) (st x : BridgeRunState A) (s : Sender) (t : List ℕ) → st ≡ x → slice_get st.senders i ≡ Some (Some s) → slice_get st.texts i ≡ Some t
    → IsDelayedCapture s.delay (sent_capture (slice_get xs s.from.bridge) s.from.port) t → IsPortUpToDate xs x i
fed_one {A} xs b i st x s t same sent text is_later r u is_r is_u =
    let sender : s ≡ r = same_Some s r (same_Some (Some s) (Some r) (sym sent ∙ (ap (λ (z : BridgeRunState A). slice_get z.senders i) same ∙ is_r))) in
    let own : t ≡ u = same_Some t u (sym text ∙ (ap (λ (z : BridgeRunState A). slice_get z.texts i) same ∙ is_u)) in
    subst (λ (z : Sender). IsDelayedCapture z.delay (sent_capture (slice_get xs z.from.bridge) z.from.port) u) sender
    (subst (IsDelayedCapture s.delay (sent_capture (slice_get xs s.from.bridge) s.from.port)) own is_later)

-- Setting an item to its own value changes nothing.
pub set_same : {X : Type 0} (xs : List X) (i : ℕ) (d x : X) → x ≡ slice_index_or xs i d → slice_set xs i x ≡ xs
set_same [] i d x e = refl
set_same (y ∷ xs) zero d x e = ap (λ z. z ∷ xs) e
set_same (y ∷ xs) (suc i) d x e = ap (λ z. y ∷ z) (set_same xs i d x e)

-- An item that was looked up.
pub looked_up : {X : Type 0} (xs : List X) (i : ℕ) (d x : X) → true ≡ nat_lt i (length xs) → x ≡ slice_index_or xs i d → slice_get xs i ≡ Some x
looked_up xs i d x test e = let within : i < length xs = grind (arith, nat_tests) in slice_get-get_or xs i d within ∙ ap (λ z. Some z) (sym e)

ground_at : {A : Type 0} (xs : List (BridgeRunState A)) (b : ℕ) (x : BridgeRunState A) → slice_get xs b ≡ Some x → slice_get (map constant_part xs) b ≡ Some (constant_part x)
ground_at [] b x is = absurd (cc)
ground_at (y ∷ xs) zero x is = ap (λ z. Some (constant_part z)) (same_Some y x is)
ground_at (y ∷ xs) (suc b) x is = ground_at xs b x is

-- If two lists of bridges have equal constant parts, each bridge has.
pub ground_kept : {A : Type 0} (xs ys : List (BridgeRunState A)) (b : ℕ) (x y : BridgeRunState A) → map constant_part xs ≡ map constant_part ys → slice_get xs b ≡ Some x → slice_get ys b ≡ Some y → constant_part x ≡ constant_part y
ground_kept {A} xs ys b x y same is at = same_Some (constant_part x) (constant_part y) (sym (ground_at xs b x is) ∙ (ap (λ (l : List (ConstantPart A)). slice_get l b) same ∙ ground_at ys b y at))

pub ports_kept : {A : Type 0} (xs ys : List (BridgeRunState A)) (b : ℕ) (x y : BridgeRunState A) → map constant_part xs ≡ map constant_part ys → slice_get xs b ≡ Some x → slice_get ys b ≡ Some y → x.ports ≡ y.ports
ports_kept {A} xs ys b x y same is at = ap (λ (g : ConstantPart A). g.ports) (ground_kept xs ys b x y same is at)

-- One port more.
pub fed_more : {A : Type 0} (xs : List (BridgeRunState A)) (b place : ℕ) → AreFedBefore xs b place → ((x : BridgeRunState A) → slice_get xs b ≡ Some x → IsPortUpToDate xs x place) → AreFedBefore xs b (place + 1)
fed_more {A} xs b place before here i x is lt =
    by_bool (nat_eq i place)
    (λ e. subst (IsPortUpToDate xs x) (sym (eqb-true i place e)) (here x is))
    (λ e. before i x is (let other = eqb-false i place e in omega (arith, lt, other)))

-- Two found ports are equal.
pub same_found : {E X : Type 0} (x y : X) (r : Result (Option X) E) → r ≡ Ok (Some x) → r ≡ Ok (Some y) → x ≡ y
same_found x y r one other = cc

pub same_ok : {E X : Type 0} (x y : X) (r : Result X E) → r ≡ Ok x → r ≡ Ok y → x ≡ y
same_ok x y r one other = cc

-- One bridge more.
pub all_more : {A : Type 0} (xs : List (BridgeRunState A)) (place : ℕ) → AllFedBefore xs place → IsBridgeUpToDate xs place → AllFedBefore xs (place + 1)
all_more xs place before here b lt =
    by_bool (nat_eq b place)
    (λ e. subst (IsBridgeUpToDate xs) (sym (eqb-true b place e)) here)
    (λ e. before b (let other = eqb-false b place e in omega (arith, lt, other)))

texts_at : {A : Type 0} (xs : List (BridgeRunState A)) (b : ℕ) (x : BridgeRunState A) → slice_get xs b ≡ Some x → slice_get (map run_texts xs) b ≡ Some x.texts
texts_at [] b x is = absurd (cc)
texts_at (y ∷ xs) zero x is = ap (λ z. Some (run_texts z)) (same_Some y x is)
texts_at (y ∷ xs) (suc b) x is = texts_at xs b x is

pub texts_kept : {A : Type 0} (xs ys : List (BridgeRunState A)) (b : ℕ) (x y : BridgeRunState A) → map run_texts xs ≡ map run_texts ys → slice_get xs b ≡ Some x → slice_get ys b ≡ Some y → x.texts ≡ y.texts
texts_kept xs ys b x y same is at = same_Some x.texts y.texts (sym (texts_at xs b x is) ∙ (ap (λ (l : List (List (List ℕ))). slice_get l b) same ∙ texts_at ys b y at))

-- A bridge that stops over its texts stops over its inputs.
pub stops_kept : {A : Type 0} (xs ys : List (BridgeRunState A)) (b : ℕ) (x y : BridgeRunState A) (f : RunFault) → map constant_part xs ≡ map constant_part ys → map run_texts xs ≡ map run_texts ys → slice_get xs b ≡ Some x → slice_get ys b ≡ Some y
    → StopsBridge x.plan x.ports x.commands x.texts f → StopsBridge y.plan y.ports y.commands y.texts f
stops_kept {A} xs ys b x y f grounds texts is at stops =
    let own = texts_kept xs ys b x y texts is at in
    subst (λ (t : List (List ℕ)). StopsBridge y.plan y.ports y.commands t f) own
    (subst (λ (g : ConstantPart A). StopsBridge g.plan g.ports g.commands x.texts f) (ground_kept xs ys b x y grounds is at) stops)

-- One bridge more has run.
pub ran_more : {A : Type 0} (xs : List (BridgeRunState A)) (b : ℕ) (x : BridgeRunState A) → b < length xs → All HasRun (take b xs) → HasRun x → All HasRun (take (b + 1) (slice_set xs b x))
ran_more {A} xs b x l before own = ap_take (go xs b l before)
  where
    ap_take : All HasRun (take (suc b) (slice_set xs b x)) → All HasRun (take (b + 1) (slice_set xs b x))
    ap_take h = let e : suc b ≡ b + 1 = omega arith in subst (λ (n : ℕ). All HasRun (take n (slice_set xs b x))) e h

    go : (ys : List (BridgeRunState A)) (i : ℕ) → i < length ys → All HasRun (take i ys) → All HasRun (take (suc i) (slice_set ys i x))
    go [] i lt all = absurd (omega (arith, lt))
    go (y ∷ ys) zero lt all = All-cons HasRun x [] own (All-nil HasRun)
    go (y ∷ ys) (suc i) lt all = All-cons HasRun y (take (suc i) (slice_set ys i x)) (All-head HasRun y (take i ys) all) (go ys i (omega (arith, lt)) (All-tail HasRun y (take i ys) all))

-- Moving an item from one list to another keeps their common image.
pub moved : {X Y Z : Type 0} (f : X → Z) (h : Y → Z) (done : List X) (s : X) (x : Y) (rest : List Y) (whole : List Z) → map f done ++ map h (x ∷ rest) ≡ whole → f s ≡ h x → map f (done ++ s ∷ []) ++ map h rest ≡ whole
moved f h [] s x rest whole so_far same = ap (λ z. z ∷ map h rest) same ∙ so_far
moved {X} {Y} {Z} f h (d ∷ done) s x rest whole so_far same = ap (λ z. f d ∷ z) (moved f h done s x rest (map f done ++ map h (x ∷ rest)) refl same) ∙ so_far

none_left : {X : Type 0} (xs : List X) → length xs ≡ 0 → xs ≡ []
none_left [] e = refl
none_left (x ∷ xs) e = absurd (omega (arith, e))

-- If no item is left to move, the other list has all.
pub all_moved : {X Y Z : Type 0} (f : X → Z) (h : Y → Z) (done : List X) (rest : List Y) (whole : List Z) → length rest ≡ 0 → map f done ++ map h rest ≡ whole → map f done ≡ whole
all_moved {X} {Y} {Z} f h done rest whole none so_far = sym (append-nil (map f done)) ∙ (sym (ap (λ (l : List Y). map f done ++ map h l) (none_left rest none)) ∙ so_far)
