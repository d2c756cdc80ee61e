-- Transmissions that fit at some time.
use Rattle.std.proofs.Common.{◌≡◌, ◌≢◌, ℕ, Bool, true, false, ◌<◌, ◌≤◌, ◌+◌, ◌*◌, Some, List, arith, ap, ◌∙◌, refl, sym, subst, inl, inr, get_or-set_other, get_or-set_same}
use Rattle.std.specs.Prelude.{◌↔◌, IsTrue, slice_index_or, slice_set, length}
use Rattle.std.proofs.lemmas.Bool.{cases_lt, and_parts, and_from}
use Rattle.bridge_cycle.specs.Fits.{Fits, IsFirstFit, is_open}
use Rattle.bridge_cycle.specs.Cyclic.{Cyclic, IsLawful}
use Rattle.bridge_cycle.specs.ChangingList.{Joined}
use Rattle.bridge_cycle.specs.Opens.{turn_opens}
use Rattle.bridge_cycle.specs.GateControlLists.{turn_by_time}
use Rattle.bridge_cycle.specs.GateControlLists as egress_of
use Rattle.bridge_cycle.specs.GateControlListsLaws.{lists_turn_is_exact}
use Rattle.bridge_cycle.specs.ChangingListLaws.{IsTimelineTurn}
use Rattle.bridge_cycle.specs.declared.timeline.Turn.{Turn}
use lib.Signed.{◌≤ℤ◌}
use lib.IntN.{pos}
use Rattle.std.proofs.lemmas.Int.{ints}
use Rattle.bridge_cycle.specs.declared.gate_control_lists.Egress.{Egress}
use Rattle.bridge_cycle.specs.declared.gate_control_lists.Egress.TheVariants as egress
use Rattle.bridge_cycle.specs.declared.cyclic_list.TheConstants.{LONGEST_CYCLE}
use Rattle.bridge_cycle.specs.Runs.{IsLongestRun, Allows}
use Rattle.bridge_cycle.specs.declared.run.Run.{Run}
use Rattle.bridge_cycle.specs.declared.run.Run.TheVariants.{Never}
use Rattle.bridge_cycle.specs.declared.run.Run.TheVariants as run
use Rattle.bridge_cycle.proofs.Changes.{opens_after, opens_before, soon_over}
use Rattle.bridge_cycle.proofs.Fitting.{some_fits_is}
use Rattle.bridge_cycle.proofs.Repeats.{fits_near}
use Rattle.bridge_cycle.proofs.Lists.{list_repeats, allows_is}
use Rattle.bridge_port.specs.GateSchedule.{Always, RunsMatchTest, can_fit, Changing, HasRuns, IsListsTurn, HasLawfulLists, list_can_fit, list_opens, One, GateSchedule, gate_schedule, opens}

-- A port opens a class exactly if the interval of its lists does.
pub opens_at : {A : Type 0} (e : Egress A) (c u : ℕ) → opens (gate_schedule (Some e)) c u ≡ turn_opens (turn_by_time e u) c
opens_at (egress.Cyclic l) c u = refl
opens_at (egress.Joined j) c u = refl

pub fits_at : {A : Type 0} (e : Egress A) (c n t : ℕ) → Fits (opens (gate_schedule (Some e)) c) n t → Fits (λ v. turn_opens (turn_by_time e v) c) n t
fits_at (egress.Cyclic l) c n t f = f
fits_at (egress.Joined j) c n t f = f

pub first_at : {A : Type 0} (e : Egress A) (c n from t : ℕ) → IsFirstFit (λ v. turn_opens (turn_by_time e v) c) n from t → IsFirstFit (opens (gate_schedule (Some e)) c) n from t
first_at (egress.Cyclic l) c n from t f = f
first_at (egress.Joined j) c n from t f = f

-- Kept interval.

-- An interval of lawful lists is the interval of each time within it.
pub turn_kept : {A : Type 0} (e : Egress A) (t : ℕ) (x : Turn ℕ) → egress_of.IsLawful e → turn_by_time e t ≡ Some x → IsListsTurn e x
turn_kept e t x lawful h = λ u begins ends. (lists_turn_is_exact e t x lawful h).same u begins ends

-- From one time of an interval to its end, the interval's state decides whether a class is open.
in_turn : {A : Type 0} (e : Egress A) (c from u : ℕ) (x : Turn ℕ) → egress_of.IsLawful e → turn_by_time e from ≡ Some x → from ≤ u → u < x.end → turn_opens (turn_by_time e u) c ≡ is_open x.state c
in_turn e c from u x lawful h a b =
    let turned : IsTimelineTurn (turn_by_time e) (egress_of.cycle_length e) from x = lists_turn_is_exact e from x lawful h in
    let begins : x.start ≤ℤ pos from = turned.begins in
    ap (λ o. turn_opens o c) (turned.same u (omega (arith, ints)) b)

-- If the class is open long enough in the interval, a transmission fits at once.
pub first_open : {A : Type 0} (e : Egress A) (c n from : ℕ) (x : Turn ℕ) → egress_of.IsLawful e → turn_by_time e from ≡ Some x → is_open x.state c ≡ true → from + n ≤ x.end → IsFirstFit (λ v. turn_opens (turn_by_time e v) c) n from from
first_open e c n from x lawful h opened enough = record {
  after = omega arith;
  fits = λ u a b. in_turn e c from u x lawful h a (omega (arith, b, enough)) ∙ opened;
  least = λ v a b. absurd (omega (arith, a, b));
}

-- If the class is closed in the interval, nothing fits before its end.
none_closed : {A : Type 0} (e : Egress A) (c n from v : ℕ) (x : Turn ℕ) → egress_of.IsLawful e → turn_by_time e from ≡ Some x → is_open x.state c ≡ false → 0 < n → from ≤ v → v < x.end → Fits (λ u. turn_opens (turn_by_time e u) c) n v → ⊥
none_closed e c n from v x lawful h closed some a b fits =
    let opened = fits v (omega arith) (omega (arith, some)) in
    let shut = in_turn e c from v x lawful h a b ∙ closed in
    cc

pub fits_behind : {A : Type 0} (e : Egress A) (c n from u : ℕ) (x : Turn ℕ) → egress_of.IsLawful e → turn_by_time e from ≡ Some x → is_open x.state c ≡ false → 0 < n → from ≤ u → Fits (λ v. turn_opens (turn_by_time e v) c) n u → x.end ≤ u
fits_behind e c n from u x lawful h closed some a fits = elim (cases_lt u x.end) [ inl l ↦ absurd (none_closed e c n from u x lawful h closed some a l fits) | inr l ↦ l ]

pub first_behind : {A : Type 0} (e : Egress A) (c n from t : ℕ) (x : Turn ℕ) → egress_of.IsLawful e → turn_by_time e from ≡ Some x → is_open x.state c ≡ false → 0 < n → IsFirstFit (λ v. turn_opens (turn_by_time e v) c) n x.end t → IsFirstFit (λ v. turn_opens (turn_by_time e v) c) n from t
first_behind e c n from t x lawful h closed some is =
    let turned : IsTimelineTurn (turn_by_time e) (egress_of.cycle_length e) from x = lists_turn_is_exact e from x lawful h in
    record {
      after = let late = is.after in let ends = turned.ends in omega (arith, late, ends);
      fits = is.fits;
      least = λ v a b fits. is.least v (fits_behind e c n from v x lawful h closed some a fits) b fits;
    }

pub end_soon : {A : Type 0} (e : Egress A) (from : ℕ) (x : Turn ℕ) → egress_of.IsLawful e → turn_by_time e from ≡ Some x → from ≤ x.end
end_soon e from x lawful h = let ends = (lists_turn_is_exact e from x lawful h).ends in omega (arith, ends)

-- Lists in a lawful schedule are lawful.
pub made_is : {A : Type 0} (e : Egress A) → HasLawfulLists (gate_schedule (Some e)) → egress_of.IsLawful e
made_is (egress.Cyclic l) made = made
made_is (egress.Joined j) made = made

-- `list_can_fit` is true exactly if a transmission fits under the list at some time.
pub list_ever_is : (l : Cyclic ℕ) (c n : ℕ) → IsLawful l → (list_can_fit l c n ≡ true) ↔ ((t : ℕ) × Fits (list_opens l c) n t)
list_ever_is l c n lawful = some_fits_is (list_opens l c) l.cycle n lawful.cycle_some (list_repeats l c lawful)

-- A transmission that can fit under a list fits within a longest cycle of any time.
pub list_soon : (l : Cyclic ℕ) (c n from : ℕ) → IsLawful l → list_can_fit l c n ≡ true → (u : ℕ) × (from ≤ u) × (u ≤ from + LONGEST_CYCLE) × Fits (list_opens l c) n u
list_soon l c n from lawful can =
    let some = (list_ever_is l c n lawful).0 can in
    let near = fits_near (list_opens l c) l.cycle n some.0 from lawful.cycle_some (list_repeats l c lawful) some.1 in
    let short = lawful.cycle in
    (near.0, near.1, (let before = near.2 in omega arith), near.3)

-- A transmission that can fit under each list fits within two longest cycles of any time, despite a schedule change.
pub ever_soon : (list : GateSchedule) (c n from : ℕ) → HasLawfulLists list → can_fit list c n ≡ true → (u : ℕ) × (from ≤ u) × (u ≤ from + 2 * LONGEST_CYCLE) × Fits (opens list c) n u
ever_soon Always c n from made can = (from, omega arith, omega arith, λ u a b. refl)
ever_soon (One l) c n from made can =
    let near = list_soon l c n from made can in
    (near.0, near.1, (let before = near.2 in omega arith), near.3)
ever_soon (Changing j) c n from made can =
    let both = and_parts (list_can_fit j.old c n) (list_can_fit j.new c n) can in
    soon_over j c n from (λ v. list_soon j.old c n v made.old both.0) (λ v. list_soon j.new c n v made.new both.1)

-- A transmission that can fit fits at some time.
pub ever_fits : (list : GateSchedule) (c n : ℕ) → HasLawfulLists list → can_fit list c n ≡ true → (t : ℕ) × Fits (opens list c) n t
ever_fits list c n made can = let soon = ever_soon list c n 0 made can in (soon.0, soon.3)

-- If every length can fit under a list, the class is always open.
pub list_always : (l : Cyclic ℕ) (c u : ℕ) → IsLawful l → ((n : ℕ) → list_can_fit l c n ≡ true) → list_opens l c u ≡ true
list_always l c u lawful all =
    let some = (list_ever_is l c (2 * l.cycle) lawful).0 (all (2 * l.cycle)) in
    let repeats = list_repeats l c lawful in
    let near = fits_near (list_opens l c) l.cycle (2 * l.cycle) some.0 u lawful.cycle_some repeats some.1 in
    let cycle_some = lawful.cycle_some in
    let behind = near.1 in
    let before = near.2 in
    sym (repeats u) ∙ near.3 (u + l.cycle) (omega (arith, before)) (omega (arith, behind, cycle_some))

-- If every length can fit under each list of a port, the class is always open.
pub always_open : (list : GateSchedule) (c u : ℕ) → HasLawfulLists list → ((n : ℕ) → can_fit list c n ≡ true) → opens list c u ≡ true
always_open Always c u made all = refl
always_open (One l) c u made all = list_always l c u made all
always_open (Changing j) c u made all = elim (cases_lt u j.at) [
  | inl a ↦ opens_before j c u a ∙ list_always j.old c u made.old (λ n. (and_parts (list_can_fit j.old c n) (list_can_fit j.new c n) (all n)).0)
  | inr b ↦ opens_after j c u b ∙ list_always j.new c u made.new (λ n. (and_parts (list_can_fit j.old c n) (list_can_fit j.new c n) (all n)).1)
]

-- In a class that is always open, a frame fits at once.
pub first_at_once : (list : GateSchedule) (runs : List Run) (c n from : ℕ) → HasRuns list runs → c < 8 → slice_index_or runs c Never ≡ run.Always → IsFirstFit (opens list c) n from from
first_at_once list runs c n from has l always =
    let all : (m : ℕ) → can_fit list c m ≡ true = λ m. (has.allow c l m).0 (rw always tt) in
    record {
      after = omega arith;
      fits = λ u a b. always_open list c u has.made all;
      least = λ v a b. absurd (omega (arith, a, b));
    }

-- With a schedule change, `can_fit` is true exactly if the transmission fits under both lists at some time.
pub exchanged_ever_is : (j : Joined ℕ) (c n : ℕ) → HasLawfulLists (Changing j) → (can_fit (Changing j) c n ≡ true) ↔ (((t : ℕ) × Fits (list_opens j.old c) n t) × ((t : ℕ) × Fits (list_opens j.new c) n t))
exchanged_ever_is j c n lawful =
    let old = list_ever_is j.old c n lawful.old in
    let new = list_ever_is j.new c n lawful.new in (
      λ h. let both = and_parts (list_can_fit j.old c n) (list_can_fit j.new c n) h in (old.0 both.0, new.0 both.1),
      λ f. and_from (list_can_fit j.old c n) (list_can_fit j.new c n) (old.1 f.0) (new.1 f.1),
    )

pub same_bool : (a b : Bool) → (a ≡ true → b ≡ true) → (b ≡ true → a ≡ true) → a ≡ b
same_bool true b f g = sym (f refl)
same_bool false true f g = g refl
same_bool false false f g = refl

-- The run of a class decides whether a transmission can fit.
pub run_decides : (test : ℕ → ℕ → Bool) (runs : List Run) (c n : ℕ) (b : Bool) → RunsMatchTest test runs → c < 8 → IsTrue b ↔ Allows (slice_index_or runs c Never) n → b ≡ test c n
run_decides test runs c n b are l is =
    let allows = are c l n in
    same_bool b (test c n) (λ h. allows.0 (is.0 h)) (λ h. is.1 (allows.1 h))

-- The longest runs of a list match `list_can_fit`.
pub longest_are : (l : Cyclic ℕ) (runs : List Run) → IsLawful l → ((c : ℕ) → c < 8 → IsLongestRun (list_opens l c) (slice_index_or runs c Never)) → RunsMatchTest (list_can_fit l) runs
longest_are l runs lawful longest c b n =
    let fits = allows_is (list_opens l c) (slice_index_or runs c Never) (longest c b) n in
    let is = list_ever_is l c n lawful in
    (λ h. is.1 (fits.0 h), λ h. fits.1 (is.0 h))

-- With a schedule change, the shorter runs of each class match `can_fit`.
pub shorter_are : (j : Joined ℕ) (old new runs : List Run) → RunsMatchTest (list_can_fit j.old) old → RunsMatchTest (list_can_fit j.new) new → ((c : ℕ) → c < 8 → (n : ℕ) → Allows (slice_index_or runs c Never) n ↔ (Allows (slice_index_or old c Never) n × Allows (slice_index_or new c Never) n)) → RunsMatchTest (can_fit (Changing j)) runs
shorter_are j old new runs one other both c b n =
    let of_old = one c b n in
    let of_new = other c b n in
    let is = both c b n in (
      λ h. let each = is.0 h in and_from (list_can_fit j.old c n) (list_can_fit j.new c n) (of_old.0 each.0) (of_new.0 each.1),
      λ h. let each = and_parts (list_can_fit j.old c n) (list_can_fit j.new c n) h in is.1 (of_old.1 each.0, of_new.1 each.1),
    )

pub first_soon : (opens : ℕ → Bool) (n from first u : ℕ) → IsFirstFit opens n from first → from ≤ u → u ≤ from + 2 * LONGEST_CYCLE → Fits opens n u → first ≤ from + 2 * LONGEST_CYCLE
first_soon opens n from first u is a b f = elim (cases_lt u first) [ inl l ↦ absurd (is.least u a l f) | inr l ↦ omega arith ]

-- Extends the runs by one more class.
pub runs_more : (P : ℕ → Run → Type 0) (runs : List Run) (i : ℕ) (run : Run) → i < length runs → P i run → ((c : ℕ) → c < i → P c (slice_index_or runs c Never)) → (c : ℕ) → c < i + 1 → P c (slice_index_or (slice_set runs i run) c Never)
runs_more P runs i run l is before c k = elim (cases_lt c i) [
  | inl a ↦ let other : c ≢ i = omega arith in rw get_or-set_other (before c a)
  | inr a ↦
      let same : i ≡ c = omega arith in
      let Q : ℕ → Type 0 = λ n. P n (slice_index_or (slice_set runs i run) n Never) in
      subst Q same (rw get_or-set_same is)
]
