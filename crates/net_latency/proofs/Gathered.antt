-- Delays, added queue by queue and row by row.
use Rattle.std.proofs.Common.{◌≡◌, ◌<◌, ◌≤◌, ◌+◌, ℕ, Bool, zero, suc, get_or, take, inl, inr, true, false, Result, Ok, Err, List, [], ◌∷◌, ◌++◌, length, refl, ap, sym, subst, ◌∙◌, arith}
use Rattle.std.proofs.lemmas.List.{append-nil, append_assoc, length-take-le, map_more, take_more}
use Rattle.std.specs.Prelude.{nat_eq, ◌||◌, ◌≢◌, map, IfErr, IfOk}
use Rattle.std.proofs.lemmas.Bool.{false≢true}
use Rattle.bridge_limits.specs.Members.{IsMember}
use Rattle.bridge_limits.proofs.Cases.{by_bool}
use Rattle.bridge_config.specs.Model.{Plan}
use Rattle.bridge_config.specs.Rules.{IsPlan}
use Rattle.bridge_config.proofs.PlanPorts.{number_is}
use Rattle.bridge_check.specs.Reach.{some_number_passes}
use Rattle.bridge_check.proofs.Isolated.{class_few}
use Rattle.bridge_bounds.specs.Bounds.{HasNoBound, IsQueueBound}
use Rattle.bridge_groups.specs.declared.shared_queues.SharedQueue.{SharedQueue}
use Rattle.net_file.specs.declared.traffic_row.TalkerRow.{TalkerRow}
use Rattle.net_file.specs.declared.traffic_row.TrafficRow.{TrafficRow}
use Rattle.net_file.specs.TrafficRows.{row_filter}
use Rattle.net_latency.specs.declared.bounds.QueueBound.{QueueBound}
use Rattle.net_latency.specs.declared.timings.QueueTiming.{QueueTiming}
use Rattle.net_latency.specs.declared.timings.TrafficFigures.{TrafficFigures}
use Rattle.net_latency.specs.declared.timings.TrafficFigures.TheVariants as figures
use Rattle.net_latency.specs.TalkerRows.{AreTimingsOfRow, AreTimingsOfRows}
use Rattle.net_latency.specs.Traffic.{AreRowTimings, Begins, IsRowTiming, row_figures}

pub begins_more : {X : Type 0} (P : X → Type 0) (Q R : List X → Type 0) (x : X) (xs : List X) → ((ys : List X) → Q ys → R (ys ++ x ∷ [])) → Begins P Q xs → Begins P R (xs ++ x ∷ [])
begins_more P Q R x [] go h = absurd h
begins_more P Q R x (y ∷ ys) go (a, b) = (a, go ys b)

pub begins_as : {X : Type 0} (P : X → Type 0) (Q R : List X → Type 0) (xs : List X) → ((ys : List X) → Q ys → R ys) → Begins P Q xs → Begins P R xs
begins_as P Q R [] go h = absurd h
begins_as P Q R (y ∷ ys) go (a, b) = (a, go ys b)

-- The first item has the property.
pub begins_first : {X : Type 0} (P : X → Type 0) (Q : List X → Type 0) (xs : List X) → Begins P Q xs → (x : X) × IsMember x xs × P x
begins_first P Q [] h = absurd h
begins_first P Q (x ∷ xs) (a, b) = (x, inl refl, a)

-- Each item is the first one, or one of the others.
pub begins_member : {X T : Type 0} (P : X → Type 0) (Q : List X → Type 0) (x : X) (xs : List X) → (P x → T) → ((ys : List X) → Q ys → IsMember x ys → T) → Begins P Q xs → IsMember x xs → T
begins_member P Q x [] first later h i = absurd h
begins_member P Q x (y ∷ ys) first later (a, b) (inl same) = first (subst P (sym same) a)
begins_member P Q x (y ∷ ys) first later (a, b) (inr i) = later ys b i

-- An item among the others.
pub begins_later : {X : Type 0} (P R : X → Type 0) (Q : List X → Type 0) (xs : List X) → ((ys : List X) → Q ys → (x : X) × IsMember x ys × R x) → Begins P Q xs → (x : X) × IsMember x xs × R x
begins_later P R Q [] later h = absurd h
begins_later P R Q (y ∷ ys) later (a, b) = let (x, i, is) = later ys b in (x, inr i, is)

-- The delays of one more queue of the row's filter.
pub row_more : {A : Type 0} (p : Plan A) (index : ℕ) (r : TrafficRow) (b : QueueBound) (x : QueueTiming) (bs : List QueueBound) (xs : List QueueTiming) → nat_eq b.filter r.filter ≡ true → IsRowTiming p index r b x → AreRowTimings p index r bs xs → AreRowTimings p index r (bs ++ b ∷ []) (xs ++ x ∷ [])
row_more p index r b x [] xs own is h = rw (h, own) (is, refl)
row_more p index r b x (a ∷ bs) xs own is h = by_bool (nat_eq a.filter r.filter)
    (λ k.
    let here : Begins (IsRowTiming p index r a) (AreRowTimings p index r bs) xs = rw k at h in
    rw k (begins_more (IsRowTiming p index r a) (AreRowTimings p index r bs) (AreRowTimings p index r (bs ++ b ∷ [])) x xs (λ ys more. row_more p index r b x bs ys own is more) here))
    (λ k. let past : AreRowTimings p index r bs xs = rw k at h in rw k (row_more p index r b x bs xs own is past))

-- A queue of another filter adds nothing.
pub row_past : {A : Type 0} (p : Plan A) (index : ℕ) (r : TrafficRow) (b : QueueBound) (bs : List QueueBound) (xs : List QueueTiming) → nat_eq b.filter r.filter ≡ false → AreRowTimings p index r bs xs → AreRowTimings p index r (bs ++ b ∷ []) xs
row_past p index r b [] xs other h = rw other h
row_past p index r b (a ∷ bs) xs other h = by_bool (nat_eq a.filter r.filter)
    (λ k.
    let here : Begins (IsRowTiming p index r a) (AreRowTimings p index r bs) xs = rw k at h in
    rw k (begins_as (IsRowTiming p index r a) (AreRowTimings p index r bs) (AreRowTimings p index r (bs ++ b ∷ [])) xs (λ ys more. row_past p index r b bs ys other more) here))
    (λ k. let past : AreRowTimings p index r bs xs = rw k at h in rw k (row_past p index r b bs xs other past))

-- One item more after earlier items.
pub map_behind : {X Y : Type 0} (f : X → Y) (old : List Y) (xs : List X) (i : ℕ) (d : X) (now new : List Y) → i < length xs → now ≡ old ++ map f (take i xs) → new ≡ now ++ f (get_or xs i d) ∷ [] → new ≡ old ++ map f (take (i + 1) xs)
map_behind f old xs i d now new there so_far is =
    is ∙ (ap (λ l. l ++ f (get_or xs i d) ∷ []) so_far ∙ (append_assoc old (map f (take i xs)) (f (get_or xs i d) ∷ []) ∙ ap (λ l. old ++ l) (sym (map_more f xs i d there))))

-- A row with at least one queue has the delays of its queues.
pub figures_of : (row filter : ℕ) (xs : List QueueTiming) → length xs ≢ 0 → row_figures row filter xs ≡ map figures.Queue xs
figures_of row filter [] some = absurd (some refl)
figures_of row filter (x ∷ xs) some = refl

-- One row more.
pub rows_more : {A : Type 0} (p : Plan A) (bounds : List QueueBound) (shared : List SharedQueue) (index : ℕ) (r : TalkerRow) (rs : List TalkerRow) (xs : List TrafficFigures) (ys : List QueueTiming) → AreTimingsOfRows p bounds shared index rs xs → AreTimingsOfRow p bounds shared (index + length rs) r ys → AreTimingsOfRows p bounds shared index (rs ++ r ∷ []) (xs ++ row_figures (index + length rs) (row_filter r) ys)
rows_more p bounds shared index r [] xs ys h more =
    let same : index + length {A = TalkerRow} [] ≡ index = omega arith in
    (ys, [], ap (λ zs. zs ++ row_figures (index + length {A = TalkerRow} []) (row_filter r) ys) h ∙ (ap (λ (i : ℕ). row_figures i (row_filter r) ys) same ∙ sym (append-nil (row_figures index (row_filter r) ys))), subst (λ (i : ℕ). AreTimingsOfRow p bounds shared i r ys) same more, refl)
rows_more p bounds shared index r (a ∷ rs) xs ys h more =
    let (us, vs, e, here, rest) = h in
    let same : index + length (a ∷ rs) ≡ index + 1 + length rs = omega arith in
    let front : List TrafficFigures = row_figures index (row_filter a) us in
    let back : ℕ → List TrafficFigures = λ i. row_figures i (row_filter r) ys in
    (us, vs ++ back (index + 1 + length rs), ap (λ zs. zs ++ back (index + length (a ∷ rs))) e ∙ (append_assoc front vs (back (index + length (a ∷ rs))) ∙ ap (λ (i : ℕ). front ++ (vs ++ back i)) same), here, rows_more p bounds shared (index + 1) r rs vs ys rest (subst (λ (i : ℕ). AreTimingsOfRow p bounds shared i r ys) same more))

-- The row at index `k`.
pub next_row : {A : Type 0} (p : Plan A) (bounds : List QueueBound) (shared : List SharedQueue) (bs : List QueueBound) (ss : List SharedQueue) (rows : List TalkerRow) (k index filter : ℕ) (d : TalkerRow) (made : List TrafficFigures) (more slice : List QueueTiming) (new : List TrafficFigures) → k < length rows → index ≡ k + 1 → bs ≡ bounds → ss ≡ shared → AreTimingsOfRows p bounds shared 1 (take k rows) made → AreTimingsOfRow p bs ss index (get_or rows k d) more → slice ≡ more → filter ≡ row_filter (get_or rows k d) → new ≡ made ++ row_figures index filter slice → AreTimingsOfRows p bounds shared 1 (take (k + 1) rows) new
next_row p bounds shared bs ss rows k index filter d made more slice new before at same same_shared timings row is own grown =
    let counted : length (take k rows) ≡ k = length-take-le k rows (omega (arith, before)) in
    let place : index ≡ 1 + length (take k rows) = omega (arith, at, counted) in
    let r : TalkerRow = get_or rows k d in
    let here : AreTimingsOfRow p bounds shared index r more = subst (λ (xs : List SharedQueue). AreTimingsOfRow p bounds xs index r more) same_shared (subst (λ (xs : List QueueBound). AreTimingsOfRow p xs ss index r more) same row) in
    let there : AreTimingsOfRow p bounds shared (1 + length (take k rows)) r more = subst (λ (i : ℕ). AreTimingsOfRow p bounds shared i r more) place here in
    let all = rows_more p bounds shared 1 r (take k rows) made more timings there in
    let longer : made ++ row_figures (1 + length (take k rows)) (row_filter r) more ≡ new =
    ap (λ (i : ℕ). made ++ row_figures i (row_filter r) more) (sym place) ∙ (ap (λ (xs : List QueueTiming). made ++ row_figures index (row_filter r) xs) (sym is) ∙ (ap (λ (n : ℕ). made ++ row_figures index n slice) (sym own) ∙ sym grown)) in
    subst (λ (xs : List TrafficFigures). AreTimingsOfRows p bounds shared 1 (take (k + 1) rows) xs) longer
    (subst (λ (rs : List TalkerRow). AreTimingsOfRows p bounds shared 1 rs (made ++ row_figures (1 + length (take k rows)) (row_filter r) more)) (sym (take_more rows k d before)) all)

-- A QUEUE THAT HAS A BOUND

-- A queue has one of eight classes at one of 16 ports.
pub record IsPlaced (q c : ℕ) : Type 0 where
  pub from : 1 ≤ q
  pub to : q ≤ 16
  pub class : c < 8

pub placed : {A : Type 0} (p : Plan A) (n q c b : ℕ) → IsPlan p → IsQueueBound p n q c b → IsPlaced q c
placed p n q c b plan bound =
    let (from, to) = number_is p.ports q bound.out plan.ports bound.at in
    record { from = from; to = to; class = class_few p bound.filter q c bound.out plan bound.at bound.reach }

-- A queue with a bound isn't a queue without bound.
pub not_without : {A : Type 0} (p : Plan A) (n q c b : ℕ) → HasNoBound p n q c → IsQueueBound p n q c b → ⊥
not_without p n q c b none bound = false≢true (sym (none bound.filter bound.found bound.protected) ∙ bound.reach)

-- MEMBERS

-- The item at an index is a member.
pub in_at : {X : Type 0} (xs : List X) (i : ℕ) (d : X) → i < length xs → IsMember (get_or xs i d) xs
in_at [] i d h = absurd (omega (arith, h))
in_at (x ∷ xs) zero d h = inl refl
in_at (x ∷ xs) (suc i) d h = inr (in_at xs i d (omega (arith, h)))

-- TESTS OF NUMBERS

-- One number more was tested.
pub below_more : (n : ℕ) (t : ℕ → Bool) (a b r : Bool) → r ≡ (a || b) → a ≡ some_number_passes n t → b ≡ t n → r ≡ some_number_passes (n + 1) t
below_more n t a b r is before here =
    let next : suc n ≡ n + 1 = omega arith in
    is ∙ (ap (λ x. x || b) before ∙ (ap (λ x. some_number_passes n t || x) here ∙ ap (λ k. some_number_passes k t) next))

-- ANSWERS

-- A weaker statement about a result.
pub ok_as : {X F : Type 0} (r : Result X F) (P Q : X → Type 0) → ((x : X) → P x → Q x) → IfOk r P → IfOk r Q
ok_as (Ok x) P Q go h = go x h
ok_as (Err e) P Q go h = tt

pub err_as : {X F : Type 0} (r : Result X F) (P Q : F → Type 0) → ((f : F) → P f → Q f) → IfErr r P → IfErr r Q
err_as (Ok x) P Q go h = tt
err_as (Err e) P Q go h = go e h
