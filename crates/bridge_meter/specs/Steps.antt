-- One step of the meter, from buckets to buckets. Only contracts of private functions use it.
use Rattle.std.specs.Prelude.{ℕ, Bool, ◌≤◌, ◌+◌, ◌-◌, ◌*◌, ◌&&◌, min, if◌then◌else◌}
use Rattle.bridge_meter.specs.declared.TheConstants.{HIGHEST_RATE, LARGEST_BURST}
use Rattle.bridge_meter.specs.declared.Colour.{Colour}
use Rattle.bridge_meter.specs.declared.Colour.TheVariants.{Green, Yellow, Red}
use Rattle.bridge_meter.specs.declared.MeterPlan.{MeterPlan}
use Rattle.bridge_meter.specs.declared.Buckets.{Buckets}
use Rattle.bridge_meter.specs.Bounds.{Limits, coupled_overflow}
use Rattle.bridge_meter.specs.Colours.{octet_units, meter_limits, colour_by_contents, is_red}
use Rattle.bridge_meter.specs.StandsFor.{MeterState}

-- Holds if both rates of the plan are at most 100 Gbit/s, and both bursts are below 2^32 octets.
pub record IsWithinLimits (p : MeterPlan) : Type 0 where
  pub cir : p.cir ≤ HIGHEST_RATE
  pub eir : p.eir ≤ HIGHEST_RATE
  pub cbs : p.cbs ≤ LARGEST_BURST
  pub ebs : p.ebs ≤ LARGEST_BURST

-- Buckets after the refill up to time `t` ns. Neither level exceeds its size; with `coupling`, overflow of the
-- committed bucket enters the excess bucket.
unfoldable pub refill_buckets : Limits → Buckets → ℕ → Buckets
refill_buckets l b t =
    let c = min l.cbs (b.committed + l.cir * (t - b.at)) in
    record { committed = c; excess = min l.ebs (b.excess + l.eir * (t - b.at) + coupled_overflow l (b.committed + l.cir * (t - b.at) - c)); at = t; all_red = b.all_red }

-- Colour of a frame from the levels of the refilled buckets.
abbrev pub colour_by_buckets : MeterPlan → Buckets → ℕ → Bool → Colour
colour_by_buckets p b octets dei = colour_by_contents p b.committed b.excess octets dei

-- Buckets after a frame took its units: a green frame from the committed bucket, a yellow one from the excess bucket, a
-- red one none. The red flag becomes `all_red`.
abbrev pub spend_tokens : Buckets → ℕ → Colour → Bool → Buckets
spend_tokens b octets Green all_red = record { committed = b.committed - octets * octet_units; excess = b.excess; at = b.at; all_red = all_red }
spend_tokens b octets Yellow all_red = record { committed = b.committed; excess = b.excess - octets * octet_units; at = b.at; all_red = all_red }
spend_tokens b octets Red all_red = record { committed = b.committed; excess = b.excess; at = b.at; all_red = all_red }

-- State of a meter after it judged a frame with the refilled buckets `b`.
abbrev pub meter_after_judging : MeterPlan → ℕ → Bool → Buckets → MeterState
meter_after_judging p octets dei b = record { plan = p; buckets = spend_tokens b octets (colour_by_buckets p b octets dei) (p.mark_all_red && is_red (colour_by_buckets p b octets dei)) }

-- Meter after a frame; unchanged while the red flag is set.
abbrev pub meter_step : MeterState → ℕ → ℕ → Bool → MeterState
meter_step m t octets dei = if m.buckets.all_red then m else meter_after_judging m.plan octets dei (refill_buckets (meter_limits m.plan) m.buckets t)

-- Colour that the meter gives a frame: red while the red flag is set, otherwise by the refilled buckets.
abbrev pub meter_reply : MeterState → ℕ → ℕ → Bool → Colour
meter_reply m t octets dei = if m.buckets.all_red then Red else colour_by_buckets m.plan (refill_buckets (meter_limits m.plan) m.buckets t) octets dei
