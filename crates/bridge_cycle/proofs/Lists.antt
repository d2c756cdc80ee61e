use Rattle.std.proofs.Common.{◌≡◌, ℕ, Bool, false, ◌+◌, ◌-◌, ◌%◌, ◌<◌, ◌≤◌, Option, Some, None, List, [], ◌∷◌, arith, inl, inr, refl, ap, ◌∙◌, sym}
use Rattle.std.proofs.lemmas.Bool.{cases_lt}
use Rattle.std.proofs.Math.Nat.{add-mod_right}
use Rattle.std.specs.Prelude.{◌↔◌}
use Rattle.bridge_limits.specs.Members.{IsMember}
use Rattle.bridge_cycle.specs.declared.run.Run.{Run}
use Rattle.bridge_cycle.specs.declared.run.Run.TheVariants.{Never, For, Always}
use Rattle.bridge_cycle.specs.declared.timeline.Turn.{Turn}
use Rattle.bridge_cycle.specs.declared.cyclic_list.TheConstants.{LONGEST_CYCLE}
use Rattle.bridge_cycle.specs.Cyclic.{Cyclic, EntryInterval, IsLawful, phase, entry_interval, interval_turn, turn_by_time}
use Rattle.bridge_cycle.specs.CyclicLaws.{turn_back, place_here, place_next}
use Rattle.bridge_cycle.specs.Fits.{Fits, IsPeriodic}
use Rattle.bridge_cycle.specs.Opens.{turn_opens}
use Rattle.bridge_cycle.specs.Runs.{IsLongestRun, Allows}
use Rattle.bridge_cycle.proofs.Repeats.{fits_near}

phase_repeats : (base cycle t : ℕ) → 0 < cycle → phase base cycle (t + cycle) ≡ phase base cycle t
phase_repeats base cycle t some =
    let k = cycle - base % cycle in
    let e : t + cycle + k ≡ t + k + cycle = omega arith in
    ap (λ n. n % cycle) e ∙ add-mod_right (t + k) cycle

opens_of : (t u p c : ℕ) (o : Option (EntryInterval ℕ)) → turn_opens (interval_turn t p o) c ≡ turn_opens (interval_turn u p o) c
opens_of t u p c None = refl
opens_of t u p c (Some x) = refl

-- The open times of a list repeat with its cycle time.
pub list_repeats : (l : Cyclic ℕ) (c : ℕ) → IsLawful l → IsPeriodic (λ v. turn_opens (turn_by_time l v) c) l.cycle
list_repeats l c lawful u =
    let e = phase_repeats l.base l.cycle u lawful.cycle_some in
    rw e (opens_of (u + l.cycle) u (phase l.base l.cycle u) c (entry_interval l.entries 0 l.cycle (phase l.base l.cycle u)))

none_fits : (opens : ℕ → Bool) (occ t : ℕ) → ((u : ℕ) → opens u ≡ false) → Fits opens occ t → occ ≡ 0
none_fits opens occ t shut f = elim (cases_lt 0 occ) [
  | inl a ↦ let p = f t (omega arith) (omega arith) in let q = shut t in absurd (cc)
  | inr b ↦ omega arith
]

-- A length is allowed by the longest run exactly if it fits somewhere.
pub allows_is : (opens : ℕ → Bool) (run : Run) → IsLongestRun opens run → (occ : ℕ) → Allows run occ ↔ ((t : ℕ) × Fits opens occ t)
allows_is opens Never h occ = (λ e. (0, λ u p q. absurd (omega arith)), λ f. none_fits opens occ f.0 h f.1)
allows_is opens (For r) h occ = ((h.1 occ).1, (h.1 occ).0)
allows_is opens Always h occ = (λ e. (0, λ u p q. h u), λ f. tt)

-- A length allowed by the longest run of a list fits within a longest cycle of any time.
pub allowed_soon : (l : Cyclic ℕ) (c : ℕ) (run : Run) → IsLawful l → IsLongestRun (λ v. turn_opens (turn_by_time l v) c) run → (occ from : ℕ) → Allows run occ → (u : ℕ) × (from ≤ u) × (u ≤ from + LONGEST_CYCLE) × Fits (λ v. turn_opens (turn_by_time l v) c) occ u
allowed_soon l c run lawful h occ from a =
    let opens : ℕ → Bool = λ v. turn_opens (turn_by_time l v) c in
    let some : (t : ℕ) × Fits opens occ t = (allows_is opens run h occ).0 a in
    let near : (u : ℕ) × (from ≤ u) × (u < from + l.cycle) × Fits opens occ u = fits_near opens l.cycle occ some.0 from lawful.cycle_some (list_repeats l c lawful) some.1 in
    let k = near.2 in
    let m = lawful.cycle in
    (near.0, near.1, omega arith, near.3)

-- The state of an entry's interval is the state of an entry.
place_among : {S : Type 0} (es : List (S × ℕ)) (start cycle p : ℕ) (y : EntryInterval S) → entry_interval es start cycle p ≡ Some y → (e : S × ℕ) × IsMember e es × (e.0 ≡ y.state)
place_among [] start cycle p y h = absurd (cc)
place_among (e ∷ []) start cycle p y h = (e, inl refl, cc)
place_among {S} (e ∷ f ∷ es) start cycle p y h = elim (cases_lt p (start + e.1)) [
  | inl a ↦ let here : Some (let z : EntryInterval S = record { state = e.0; start = start; end = start + e.1 } in z) ≡ Some y = sym (place_here e f es start cycle p a) ∙ h in (e, inl refl, cc)
  | inr b ↦ let r : (g : S × ℕ) × IsMember g (f ∷ es) × (g.0 ≡ y.state) = place_among (f ∷ es) (start + e.1) cycle p y (sym (place_next e f es start cycle p b) ∙ h) in (r.0, inr r.1, r.2)
]

-- The state of an interval is the state of an entry of the list.
pub among : {S : Type 0} (l : Cyclic S) (t : ℕ) (x : Turn S) → turn_by_time l t ≡ Some x → (e : S × ℕ) × IsMember e l.entries × (e.0 ≡ x.state)
among {S} l t x h =
    let p = phase l.base l.cycle t in
    let b = turn_back t p (entry_interval l.entries 0 l.cycle p) x h in
    let y : EntryInterval S = b.0 in
    let r : (e : S × ℕ) × IsMember e l.entries × (e.0 ≡ y.state) = place_among l.entries 0 l.cycle p y b.1 in
    let is = b.2 in
    (r.0, r.1, r.2 ∙ cc)
