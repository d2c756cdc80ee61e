-- Keys read one after another give the result of the chained definitions.
use Rattle.std.proofs.Common.{◌≡◌, ◌≤◌, ℕ, Bool, true, false, not, Option, Some, None, Result, Ok, Err, refl, sym, ap, subst, ◌∙◌, if◌then◌else◌, arith}
use Rattle.std.proofs.lemmas.Bool.{not-true}
use Rattle.std.proofs.lemmas.Option.{none-some}
use Rattle.std.proofs.lemmas.Result.{IfOk-weaker}
use Rattle.std.specs.Result.{IfOk, IfErr, IsErrAnd}
use Rattle.bridge_schema.specs.declared.plan_fault.PlanFault.{PlanFault}
use Rattle.bridge_schema.specs.declared.plan_fault.PlanFault.TheVariants as fault
use Rattle.bridge_schema.specs.Readers.{◌>>=◌, IsReadFault, MatchesReading, MatchesReadingView, is_no_memory}
use Rattle.bridge_config.specs.Sections.{provided}
use Rattle.bridge_config.specs.FirstFaults.{read_fault, value_or, first_fault, unless_fault, TakesRead, Expects, EndsReading, ReadsLists, ReadsUnlessFault}
use Rattle.bridge_schema.proofs.Faults.{fails_on, handed_on, unless_holds}

-- A fault is the fault of the whole, unless memory ran out.
pub fails_of : {B : Type 0} (e : PlanFault) (whole : Result B PlanFault) → whole ≡ Err e → IsReadFault e whole
fails_of e whole is = unless_holds (is_no_memory e) is

-- Holds if without a fault, the result of the whole is the result of the remaining readers.
abbrev pub StandsBy : {A : Type 0} → Option PlanFault → Result A PlanFault → Result A PlanFault → Type 0
StandsBy None rest whole = whole ≡ rest
StandsBy (Some e) rest whole = IsReadFault e whole

pub record Stands {A : Type 0} (fault : Option PlanFault) (rest whole : Result A PlanFault) : Type 0 where
  pub stands : StandsBy fault rest whole

tested_by : {B : Type 0} (f : Option PlanFault) (b : Bool) (e : PlanFault) (k : Bool → Result B PlanFault) (whole : Result B PlanFault)
    → StandsBy f (provided b e >>= k) whole → StandsBy (first_fault f (if b then None else Some e)) (k true) whole
tested_by None true e k whole before = before
tested_by None false e k whole before = fails_of e whole before
tested_by (Some x) b e k whole before = before

-- Extends the chain by a test.
pub tested : {B : Type 0} {f g : Option PlanFault} {b : Bool} {e : PlanFault} {whole : Result B PlanFault} (is : Bool) (k : Bool → Result B PlanFault)
    → Expects f b e g → b ≡ is → Stands f (provided is e >>= k) whole → Stands g (k true) whole
tested {f = f} {b = b} {e = e} {whole = whole} is k expects same before =
    let stands : StandsBy f (provided b e >>= k) whole = subst (λ is. StandsBy f (provided is e >>= k) whole) (sym same) before.stands in
    record { stands = subst (λ h. StandsBy h (k true) whole) (sym expects.fault) (tested_by f b e k whole stands) }

-- Starts the chain with a test.
pub begun : {B : Type 0} {g : Option PlanFault} {b : Bool} {e : PlanFault} (is : Bool) (k : Bool → Result B PlanFault) → Expects None b e g → b ≡ is → Stands g (k true) (provided is e >>= k)
begun is k expects same = tested is k expects same (record { stands = refl })

taken_by : {A B : Type 0} (f : Option PlanFault) (other : A) (m : Result A PlanFault) (k : A → Result B PlanFault) (whole : Result B PlanFault)
    → StandsBy f (m >>= k) whole → StandsBy (first_fault f (read_fault m)) (k (value_or other m)) whole
taken_by None other (Ok x) k whole before = before
taken_by None other (Err e) k whole before = fails_of e whole before
taken_by (Some e) other m k whole before = before

-- Extends the chain by a key.
pub taken : {A B : Type 0} {f g : Option PlanFault} {other x : A} {m : Result A PlanFault} {whole : Result B PlanFault} (k : A → Result B PlanFault)
    → TakesRead f other m g x → Stands f (m >>= k) whole → Stands g (k x) whole
taken {f = f} {g = g} {other = other} {m = m} {whole = whole} k takes before =
    let by : StandsBy (first_fault f (read_fault m)) (k (value_or other m)) whole = taken_by f other m k whole before.stands in
    record { stands = subst (λ y. StandsBy g (k y) whole) (sym takes.value) (subst (λ h. StandsBy h (k (value_or other m)) whole) (sym takes.fault) by) }

read_by : {A B : Type 0} (f g : Option PlanFault) (x : A) (m : Result A PlanFault) (k : A → Result B PlanFault) (whole : Result B PlanFault)
    → ReadsUnlessFault f m g x → StandsBy f (m >>= k) whole → StandsBy g (k x) whole
read_by None None x m k whole reads before = before ∙ ap (λ n. n >>= k) reads
read_by None (Some e) x m k whole reads before = subst (IsReadFault e) (sym before) (fails_on e m k reads)
read_by (Some e) g x m k whole reads before = subst (λ h. StandsBy h (k x) whole) (sym reads) before

-- Extends the chain by a reader that allocates memory.
pub read : {A B : Type 0} {f g : Option PlanFault} {x : A} {m : Result A PlanFault} {whole : Result B PlanFault} (k : A → Result B PlanFault)
    → ReadsLists f m g x → Stands f (m >>= k) whole → Stands g (k x) whole
read {f = f} {g = g} {x = x} {m = m} {whole = whole} k reads before = record { stands = read_by f g x m k whole reads.reads before.stands }

told_by : {X A : Type 0} (view : X → A) (f : Option PlanFault) (x : X) (whole : Result A PlanFault) → StandsBy f (Ok (view x)) whole → MatchesReadingView view (unless_fault f x) whole
told_by view None x whole before = before
told_by view (Some e) x whole before = before

-- Ends the chain: all keys were read.
pub told : {A : Type 0} {f : Option PlanFault} {x : A} {r whole : Result A PlanFault} → EndsReading f x r → Stands f (Ok x) whole → MatchesReading r whole
told {f = f} {x = x} {whole = whole} ends before = subst (λ r. MatchesReading r whole) (sym ends.is) (told_by (λ x. x) f x whole before.stands)

-- Ends the chain: all keys were read, and the result is mapped.
pub view_told : {X A : Type 0} {f : Option PlanFault} {x : X} {r : Result X PlanFault} {whole : Result A PlanFault} (view : X → A) → EndsReading f x r → Stands f (Ok (view x)) whole → MatchesReadingView view r whole
view_told {f = f} {x = x} {whole = whole} view ends before = subst (λ r. MatchesReadingView view r whole) (sym ends.is) (told_by view f x whole before.stands)

err_of : {B : Type 0} (e : PlanFault) (m : Result B PlanFault) → IsReadFault e m → (e ≡ fault.NoMemory → ⊥) → m ≡ Err e
err_of fault.Syntax m fails memory = fails
err_of fault.TooLong m fails memory = fails
err_of (fault.UnknownKey a b) m fails memory = fails
err_of (fault.NotAList a) m fails memory = fails
err_of (fault.Missing a) m fails memory = fails
err_of (fault.WrongKind a) m fails memory = fails
err_of (fault.OutOfRange a) m fails memory = fails
err_of (fault.Duplicate a b) m fails memory = fails
err_of (fault.Unresolved a) m fails memory = fails
err_of (fault.TooMany a) m fails memory = fails
err_of (fault.BadList a b c) m fails memory = fails
err_of fault.NoPorts m fails memory = fails
err_of fault.NoMemory m fails memory = absurd (memory refl)

viewed_by : {X A : Type 0} (view : X → A) (f g : Option PlanFault) (other x : X) (r : Result X PlanFault) (m : Result A PlanFault)
    → TakesRead f other r g x → MatchesReadingView view r m → IfErr r (λ e. e ≡ fault.NoMemory → ⊥) → TakesRead f (view other) m g (view x)
viewed_by view f g other x (Ok y) m takes gives memory = subst (λ m. TakesRead f (view other) m g (view x)) (sym gives) (record { fault = takes.fault; value = ap view takes.value })
viewed_by view f g other x (Err e) m takes gives memory = subst (λ m. TakesRead f (view other) m g (view x)) (sym (err_of e m gives memory)) (record { fault = takes.fault; value = ap view takes.value })

-- Extends the chain by a mapped call that allocates no memory.
pub viewed : {X A : Type 0} {f g : Option PlanFault} {other x : X} {r : Result X PlanFault} (view : X → A) (m : Result A PlanFault)
    → TakesRead f other r g x → MatchesReadingView view r m → IfErr r (λ e. e ≡ fault.NoMemory → ⊥) → TakesRead f (view other) m g (view x)
viewed {f = f} {g = g} {other = other} {x = x} {r = r} view m takes gives memory = viewed_by view f g other x r m takes gives memory

-- Readers that return at once after a fault.

-- Start: nothing was read yet.
pub at_first : {A : Type 0} (whole : Result A PlanFault) → Stands None whole whole
at_first whole = record { stands = refl }

-- The next reader succeeded.
pub goes_on : {A B : Type 0} {x : A} {m : Result A PlanFault} {whole : Result B PlanFault} (k : A → Result B PlanFault) → m ≡ Ok x → Stands None (m >>= k) whole → Stands None (k x) whole
goes_on k is before = record { stands = before.stands ∙ ap (λ n. n >>= k) is }

-- The next reader failed.
pub goes_out : {X A B : Type 0} {whole : Result B PlanFault} (view : X → B) (e : PlanFault) (m : Result A PlanFault) (k : A → Result B PlanFault) (r : Result X PlanFault) → IsReadFault e m → IsErrAnd r (λ x. x ≡ e) → Stands None (m >>= k) whole → MatchesReadingView view r whole
goes_out {whole = whole} view e m k r fails is before = handed_on view e whole r (subst (IsReadFault e) (sym before.stands) (fails_on e m k fails)) is

-- Properties of read values.

fits_by : {A : Type 0} (P : A → Type 0) (other : A) (r : Result A PlanFault) → P other → IfOk r P → P (value_or other r)
fits_by P other (Ok y) low of = of
fits_by P other (Err e) low of = low

-- A property of the read value and of the replacement holds for the result.
pub fits : {A : Type 0} {f g : Option PlanFault} {other x : A} {r : Result A PlanFault} (P : A → Type 0) → TakesRead f other r g x → P other → IfOk r P → P x
fits {other = other} {r = r} P takes low of = subst P (sym takes.value) (fits_by P other r low of)

made_by : {A : Type 0} (f : Option PlanFault) (x : A) (P : A → Type 0) → (f ≡ None → P x) → IfOk (unless_fault f x) P
made_by None x P of = of refl
made_by (Some e) x P of = tt

-- A property that holds without a fault holds for the final result.
pub made_if : {A : Type 0} {f : Option PlanFault} {x : A} {r : Result A PlanFault} (P : A → Type 0) → EndsReading f x r → (f ≡ None → P x) → IfOk r P
made_if {f = f} {x = x} P ends of = subst (λ r. IfOk r P) (sym ends.is) (made_by f x P of)

-- A property of the value holds for the final result.
pub made : {A : Type 0} {f : Option PlanFault} {x : A} {r : Result A PlanFault} (P : A → Type 0) → EndsReading f x r → P x → IfOk r P
made P ends of = made_if P ends (λ none. of)

none_first : (f next : Option PlanFault) → first_fault f next ≡ None → f ≡ None
none_first None next none = refl
none_first (Some e) next none = absurd (none-some e (sym none))

-- If there is no fault after a key, there was none before it.
pub before : {A : Type 0} {f g : Option PlanFault} {other x : A} {r : Result A PlanFault} → TakesRead f other r g x → g ≡ None → f ≡ None
before {f = f} {r = r} takes none = none_first f (read_fault r) (sym takes.fault ∙ none)

-- If there is no fault after a test, there was none before it.
pub before_test : {f g : Option PlanFault} {b : Bool} {e : PlanFault} → Expects f b e g → g ≡ None → f ≡ None
before_test {f = f} {b = b} {e = e} expects none = none_first f (if b then None else Some e) (sym expects.fault ∙ none)

holds_by : (f : Option PlanFault) (b : Bool) (e : PlanFault) → first_fault f (if b then None else Some e) ≡ None → b ≡ true
holds_by f true e none = refl
holds_by None false e none = absurd (none-some e (sym none))
holds_by (Some x) false e none = absurd (none-some x (sym none))

-- If there is no fault after a test, the test holds.
pub holds : {f g : Option PlanFault} {b : Bool} {e : PlanFault} → Expects f b e g → g ≡ None → b ≡ true
holds {f = f} {b = b} {e = e} expects none = holds_by f b e (sym expects.fault ∙ none)

fits_if_by : {A : Type 0} (P : A → Type 0) (f : Option PlanFault) (other : A) (r : Result A PlanFault) → IfOk r P → first_fault f (read_fault r) ≡ None → P (value_or other r)
fits_if_by P f other (Ok y) of none = of
fits_if_by P None other (Err e) of none = absurd (none-some e (sym none))
fits_if_by P (Some x) other (Err e) of none = absurd (none-some x (sym none))

-- If there is no fault, a property of the read value holds for the result.
pub fits_if : {A : Type 0} {f g : Option PlanFault} {other x : A} {r : Result A PlanFault} (P : A → Type 0) → TakesRead f other r g x → IfOk r P → g ≡ None → P x
fits_if {f = f} {other = other} {r = r} P takes of none = subst P (sym takes.value) (fits_if_by P f other r of (sym takes.fault ∙ none))

-- A number from 0 is at most `high`.
pub at_most : {f g : Option PlanFault} {x : ℕ} {r : Result ℕ PlanFault} (high : ℕ) → TakesRead f 0 r g x → IfOk r (λ n. (0 ≤ n) × (n ≤ high)) → x ≤ high
at_most high takes of = let (above, below) = fits (λ n. (0 ≤ n) × (n ≤ high)) takes (omega arith, omega arith) of in below

-- If there is no fault, the instance equals no earlier instance.
pub own : {A : Type 0} {f g : Option PlanFault} {b : Bool} {e : PlanFault} {x : A} {r : Result A PlanFault} (is : A → Bool) → Expects f (not b) e g → b ≡ is x → EndsReading g x r → IfOk r (λ y. is y ≡ false)
own {b = b} is expects same ends = made_if (λ y. is y ≡ false) ends (λ none. sym same ∙ not-true b (holds expects none))

-- A number is in its range.
pub in_range : {f g : Option PlanFault} {other x : ℕ} {r : Result ℕ PlanFault} (low high : ℕ) → TakesRead f other r g x → IfOk r (λ n. (low ≤ n) × (n ≤ high)) → low ≤ other → other ≤ high → (low ≤ x) × (x ≤ high)
in_range low high takes of above below = fits (λ n. (low ≤ n) × (n ≤ high)) takes (above, below) of

-- A number of an existing instance is in its range.
pub known_in_range : {f g : Option PlanFault} {other x : ℕ} {r : Result ℕ PlanFault} (low high : ℕ) (has : ℕ → Bool) → TakesRead f other r g x → IfOk r (λ n. (low ≤ n) × (n ≤ high) × (has n ≡ true)) → low ≤ other → other ≤ high → (low ≤ x) × (x ≤ high)
known_in_range {r = r} low high has takes of above below =
    in_range low high takes (IfOk-weaker r (λ n. (low ≤ n) × (n ≤ high) × (has n ≡ true)) (λ n. (low ≤ n) × (n ≤ high)) (λ n all. let (a, b, there) = all in (a, b)) of) above below
