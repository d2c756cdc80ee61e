use Rattle.std.proofs.Common.{◌≡◌, ℕ, ◌+◌, ◌*◌, ◌<◌, ◌≤◌, Option, Some, None, ◌⊎◌, arith, inl, inr, refl, ap, sym, ◌∙◌}
use Rattle.std.proofs.lemmas.Bool.{cases_lt}
use Rattle.std.proofs.lemmas.Option.{same_Some}
use Rattle.bridge_limits.specs.Members.{IsMember}
use Rattle.bridge_cycle.specs.declared.run.Run.{Run}
use Rattle.bridge_cycle.specs.declared.timeline.Turn.{Turn}
use Rattle.bridge_cycle.specs.declared.cyclic_list.TheConstants.{LONGEST_CYCLE}
use Rattle.bridge_cycle.specs.Cyclic.{turn_by_time}
use Rattle.bridge_cycle.specs.ChangingList.{Joined, IsLawful, clip_end, clip_start}
use Rattle.bridge_cycle.specs.ChangingList as joined
use Rattle.bridge_cycle.specs.ChangingListLaws.{turn_is_old, turn_is_new}
use Rattle.bridge_cycle.specs.Fits.{Fits}
use Rattle.bridge_cycle.specs.Opens.{turn_opens}
use Rattle.bridge_cycle.specs.Runs.{IsLongestRun, Allows}
use Rattle.bridge_cycle.proofs.Lists.{allowed_soon, among}

cut_opens : (m c : ℕ) (o : Option (Turn ℕ)) → turn_opens (clip_end m o) c ≡ turn_opens o c
cut_opens m c None = refl
cut_opens m c (Some x) = refl

raised_opens : (m c : ℕ) (o : Option (Turn ℕ)) → turn_opens (clip_start m o) c ≡ turn_opens o c
raised_opens m c None = refl
raised_opens m c (Some x) = refl

-- Before the schedule change, the joined list opens a class exactly as the old list does.
pub opens_before : (j : Joined ℕ) (c t : ℕ) → t < j.at → turn_opens (joined.turn_by_time j t) c ≡ turn_opens (turn_by_time j.old t) c
opens_before j c t h = ap (λ o. turn_opens o c) (turn_is_old j t h) ∙ cut_opens j.at c (turn_by_time j.old t)

-- From the schedule change on, the joined list opens a class exactly as the new list does.
pub opens_after : (j : Joined ℕ) (c t : ℕ) → j.at ≤ t → turn_opens (joined.turn_by_time j t) c ≡ turn_opens (turn_by_time j.new t) c
opens_after j c t h = ap (λ o. turn_opens o c) (turn_is_new j t h) ∙ raised_opens j.at c (turn_by_time j.new t)

-- A transmission that fits the new list at `v` fits the joined list at `v`. Its fit in the old list would end after the change.
fits_over : (j : Joined ℕ) (c occ u v : ℕ) → j.at < u + occ → u ≤ v → Fits (λ w. turn_opens (turn_by_time j.old w) c) occ u → Fits (λ w. turn_opens (turn_by_time j.new w) c) occ v → Fits (λ w. turn_opens (joined.turn_by_time j w) c) occ v
fits_over j c occ u v over later f g w p q = elim (cases_lt w j.at) [
  | inl a ↦ opens_before j c w a ∙ f w (omega arith) (omega arith)
  | inr b ↦ opens_after j c w b ∙ g w p q
]

-- A transmission that fits both lists within one longest cycle of any time fits the joined list within two.
pub soon_over : (j : Joined ℕ) (c occ from : ℕ) → ((v : ℕ) → (u : ℕ) × (v ≤ u) × (u ≤ v + LONGEST_CYCLE) × Fits (λ w. turn_opens (turn_by_time j.old w) c) occ u) → ((v : ℕ) → (u : ℕ) × (v ≤ u) × (u ≤ v + LONGEST_CYCLE) × Fits (λ w. turn_opens (turn_by_time j.new w) c) occ u) → (u : ℕ) × (from ≤ u) × (u ≤ from + 2 * LONGEST_CYCLE) × Fits (λ v. turn_opens (joined.turn_by_time j v) c) occ u
soon_over j c occ from old new =
    let f : (u : ℕ) × (from ≤ u) × (u ≤ from + LONGEST_CYCLE) × Fits (λ v. turn_opens (turn_by_time j.old v) c) occ u = old from in
    let g : (v : ℕ) × (f.0 ≤ v) × (v ≤ f.0 + LONGEST_CYCLE) × Fits (λ v. turn_opens (turn_by_time j.new v) c) occ v = new f.0 in
    let f_low = f.1 in
    let f_high = f.2 in
    let g_low = g.1 in
    let g_high = g.2 in
    elim (cases_lt j.at (f.0 + occ)) [
      | inl over ↦ (g.0, omega arith, omega arith, fits_over j c occ f.0 g.0 over g_low f.3 g.3)
      | inr through ↦ (f.0, f_low, omega arith, λ w p q. opens_before j c w (omega arith) ∙ f.3 w p q)
    ]

-- A transmission that the longest runs of both lists allow fits the joined list within two longest cycles of any time.
pub allowed_over : (j : Joined ℕ) (c : ℕ) (old new : Run) → IsLawful j → IsLongestRun (λ v. turn_opens (turn_by_time j.old v) c) old → IsLongestRun (λ v. turn_opens (turn_by_time j.new v) c) new → (occ from : ℕ) → Allows old occ → Allows new occ → (u : ℕ) × (from ≤ u) × (u ≤ from + 2 * LONGEST_CYCLE) × Fits (λ v. turn_opens (joined.turn_by_time j v) c) occ u
allowed_over j c old new lawful h k occ from a b = soon_over j c occ from (λ v. allowed_soon j.old c old lawful.old h occ v a) (λ v. allowed_soon j.new c new lawful.new k occ v b)

-- An interval with a clipped end keeps its state.
cut_state : {S : Type 0} (m : ℕ) (o : Option (Turn S)) (x : Turn S) → clip_end m o ≡ Some x → (y : Turn S) × (o ≡ Some y) × (y.state ≡ x.state)
cut_state m None x h = absurd (cc)
cut_state m (Some y) x h = (y, refl, ap (λ (z : Turn _). z.state) (same_Some _ x h))

raised_state : {S : Type 0} (m : ℕ) (o : Option (Turn S)) (x : Turn S) → clip_start m o ≡ Some x → (y : Turn S) × (o ≡ Some y) × (y.state ≡ x.state)
raised_state m None x h = absurd (cc)
raised_state m (Some y) x h = (y, refl, ap (λ (z : Turn _). z.state) (same_Some _ x h))

-- The state of an interval of the joined list is the state of an entry of one of its lists.
pub among_both : {S : Type 0} (j : Joined S) (t : ℕ) (x : Turn S) → joined.turn_by_time j t ≡ Some x → ((e : S × ℕ) × IsMember e j.old.entries × (e.0 ≡ x.state)) ⊎ ((e : S × ℕ) × IsMember e j.new.entries × (e.0 ≡ x.state))
among_both {S} j t x h = elim (cases_lt t j.at) [
  | inl l ↦
      let b : (y : Turn S) × (turn_by_time j.old t ≡ Some y) × (y.state ≡ x.state) = cut_state j.at (turn_by_time j.old t) x (sym (turn_is_old j t l) ∙ h) in
      let a : (e : S × ℕ) × IsMember e j.old.entries × (e.0 ≡ b.0.state) = among j.old t b.0 b.1 in
      inl (a.0, a.1, a.2 ∙ b.2)
  | inr r ↦
      let b : (y : Turn S) × (turn_by_time j.new t ≡ Some y) × (y.state ≡ x.state) = raised_state j.at (turn_by_time j.new t) x (sym (turn_is_new j t r) ∙ h) in
      let a : (e : S × ℕ) × IsMember e j.new.entries × (e.0 ≡ b.0.state) = among j.new t b.0 b.1 in
      inr (a.0, a.1, a.2 ∙ b.2)
]
