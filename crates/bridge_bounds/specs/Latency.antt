-- Waiting times of the frames of a protected filter.
use Rattle.std.specs.Prelude.{◌≡◌, ℕ, Bool, true, ◌+◌, ◌*◌, ◌≤◌, List, [], ◌∷◌}
use Rattle.bridge_limits.specs.Members.{IsMember, IsOrdered}
use Rattle.bridge_cycle.specs.Fits.{Fits, IsFirstFit}
use Rattle.bridge_frame.specs.Link.{transmission_time}
use Rattle.bridge_port.specs.GateSchedule.{lists_can_fit}
use Rattle.bridge_port.specs.Schedule.{Copy, Fate, Started}
use Rattle.bridge_config.specs.declared.ports.PortPlan.{PortPlan}
use Rattle.bridge_config.specs.Model.{Plan}
use Rattle.bridge_semantics.specs.Events.{Event}
use Rattle.bridge_semantics.specs.Merge.{Input}
use Rattle.bridge_semantics.specs.Offers.{CarriedFrame, Offer, port_offers, class_offers}

-- Transmission time in ns of a copy with contents `y` on the link of port `out`, with preamble and gap.
abbrev pub link_time : {A : Type 0} → PortPlan A → CarriedFrame → ℕ
link_time out y = transmission_time y.len out.speed

-- Transmission time in ns of an offer on the link of port `out`, with preamble and gap.
abbrev pub offer_time : {A : Type 0} → PortPlan A → Offer → ℕ
offer_time out o = link_time out o.item

-- ONE WAIT

-- Holds if, at most `wait` ns after any time, a frame with transmission time `occ` fits the open times `opens`.
abbrev pub FitsWithinWait : (ℕ → Bool) → ℕ → ℕ → Type 0
FitsWithinWait opens occ wait = (t : ℕ) → (u : ℕ) × (t ≤ u) × (u ≤ t + wait) × Fits opens occ u

-- Holds if offer `a` is at least `gap` ns after offer `b`.
abbrev pub IsPaced : ℕ → Offer → Offer → Type 0
IsPaced gap a b = b.at + gap ≤ a.at

-- Holds if the offers that the events `es` make in class `c` at port `out` are at least `gap` ns apart.
--
-- Each offer's transmission time is at most `occ` ns, and it fits at some time.
pub record Conforms {A : Type 0} (p : Plan A) (out : PortPlan A) (c : ℕ) (es : List Event) (occ gap : ℕ) : Type 0
  where
    pub paced : IsOrdered (IsPaced gap) (class_offers c (port_offers p out es))
    pub short : (o : Offer) → IsMember o (class_offers c (port_offers p out es)) → offer_time out o ≤ occ
    pub fits : (o : Offer) → IsMember o (class_offers c (port_offers p out es)) → lists_can_fit out.list c (offer_time out o) ≡ true

-- Holds if the frame started at its first fit from time `t` on, at most `wait` ns after `t`.
abbrev pub StartsWithinWait : (ℕ → Bool) → ℕ → ℕ → ℕ → Fate → Type 0
StartsWithinWait opens occ wait t f = (s : ℕ) × (f ≡ Started s) × IsFirstFit opens occ t s × (s ≤ t + wait)

-- PERIODS

-- Holds if the time `p` in ns is a multiple of `base`, so that a period of `base` ns begins at `p`.
abbrev pub IsMultiple : ℕ → ℕ → Type 0
IsMultiple base p = (k : ℕ) × (p ≡ k * base)

-- Holds if the offers, newest first, have periods of their own, which begin at multiples of `base`, at least `period` ns apart. The newest
-- period ends by time `next`.
--
-- Each offer arrives at a phase from `from` to `upto`, and its transmission time `occ` is from `least` to `most` ns.
abbrev pub OffersInPeriods : ℕ → (Offer → ℕ) → ℕ → ℕ → ℕ → ℕ → ℕ → ℕ → List Offer → Type 0
OffersInPeriods base occ period from upto least most next [] = Unit {0}
OffersInPeriods base occ period from upto least most next (o ∷ os) =
    (p : ℕ) × IsMultiple base p × (p + period ≤ next) × (from + p ≤ o.at) × (o.at ≤ upto + p)
    × (least ≤ occ o) × (occ o ≤ most) × OffersInPeriods base occ period from upto least most p os

-- Holds if the frame started at its first fit from time `t` on, between phases `first` and `last` of the period that begins at `p`.
abbrev pub StartsInPeriod : (ℕ → Bool) → ℕ → ℕ → ℕ → ℕ → ℕ → Fate → Type 0
StartsInPeriod opens occ t first last p f =
    (s : ℕ) × (f ≡ Started s) × IsFirstFit opens occ t s × (first + p ≤ s) × (s ≤ last + p)

-- Holds if the copies, newest first, start in periods of their own, between phases `first` and `last`. Periods begin at
-- least `period` ns apart; the newest one ends by time `next`.
abbrev pub StartInPeriods : ℕ → (ℕ → Bool) → (CarriedFrame → ℕ) → ℕ → ℕ → ℕ → ℕ → List (Copy CarriedFrame) → Type 0
StartInPeriods base opens occ period first last next [] = Unit {0}
StartInPeriods base opens occ period first last next (x ∷ xs) =
    (p : ℕ) × IsMultiple base p × (p + period ≤ next)
    × StartsInPeriod opens (occ x.item) x.at first last p x.fate
    × StartInPeriods base opens occ period first last p xs

-- Holds if the inputs, newest first, arrive in periods of their own, between phases `from` and `upto`. Periods begin at multiples of
-- `base`, at least `period` ns apart. The newest period ends by time `next`.
abbrev pub InputsInPeriods : ℕ → ℕ → ℕ → ℕ → ℕ → List Input → Type 0
InputsInPeriods base period from upto next [] = Unit {0}
InputsInPeriods base period from upto next (x ∷ xs) =
    (p : ℕ) × IsMultiple base p × (p + period ≤ next) × (from + p ≤ x.at) × (x.at ≤ upto + p)
    × InputsInPeriods base period from upto p xs

-- Holds if input `x` is the arrival of a started copy of `ys` after a link: `delay` ns after the copy's end of
-- transmission.
pub record IsDelayedCopy (occ : CarriedFrame → ℕ) (delay : ℕ) (ys : List (Copy CarriedFrame)) (x : Input) : Type 0 where
  pub copy : Copy CarriedFrame
  pub start : ℕ
  pub listed : IsMember copy ys
  pub started : copy.fate ≡ Started start
  pub at : x.at ≡ start + occ copy.item + delay
