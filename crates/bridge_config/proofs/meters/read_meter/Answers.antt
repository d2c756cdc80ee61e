use Rattle.std.proofs.Common.{◌≡◌, ◌≤◌, ℕ, true, ◌&&◌, nat_le, refl, ap, arith, not}
use Rattle.std.proofs.lemmas.Bool.{le-leb}
use Rattle.bridge_meter.specs.declared.MeterPlan.{MeterPlan}
use Rattle.bridge_meter.specs.declared.TheConstants.{HIGHEST_RATE, LARGEST_BURST}
use Rattle.bridge_meter.specs.Colours.{is_within_limits}
use Rattle.bridge_config.specs.Sections as sections
use Rattle.bridge_config.proofs.Taken.{begun, tested, taken, told, made, at_most, own}
use Rattle.bridge_config.proofs.meters.read_meter.Goals as goal

within : (cir eir cbs ebs : ℕ) → cir ≤ HIGHEST_RATE → eir ≤ HIGHEST_RATE → cbs ≤ LARGEST_BURST → ebs ≤ LARGEST_BURST
    → (nat_le cir HIGHEST_RATE && nat_le eir HIGHEST_RATE && nat_le cbs LARGEST_BURST && nat_le ebs LARGEST_BURST) ≡ true
within cir eir cbs ebs a b c d = rw (le-leb cir HIGHEST_RATE a, le-leb eir HIGHEST_RATE b, le-leb cbs LARGEST_BURST c, le-leb ebs LARGEST_BURST d) refl

pub overflow_cast-number : goal.overflow_cast-number
overflow_cast-number c = let below = at_most _ c.read_required-number.ensures.takes c.read_required-number.ensures.fits in omega (arith, below)

pub returns-clause-reads : goal.returns-clause-reads
unfolding sections.read_meter
returns-clause-reads c =
    let read = begun _ _ c.begin-first.ensures c.has_meter_keys.ensures in
    let read = taken _ c.read_required-number.ensures.takes read in
    let read = taken _ c.read_required-cir.ensures.takes read in
    let read = taken _ c.read_required-cbs.ensures.takes read in
    let read = taken _ c.read_required-eir.ensures.takes read in
    let read = taken _ c.read_required-ebs.ensures.takes read in
    let read = taken _ c.read_or_default-coupling.ensures.takes read in
    let read = taken _ c.read_or_default-aware.ensures.takes read in
    let read = taken _ c.read_or_default-drop_yellow.ensures.takes read in
    let read = taken _ c.read_or_default-mark_all_red.ensures.takes read in
    told c.finish.ensures (tested _ _ c.expect.ensures (ap not c.has_number.ensures) read)

pub returns-clause-own : goal.returns-clause-own
returns-clause-own c = own (λ (m : ℕ × MeterPlan). sections.has_number c.args.meters.now m.0) c.expect.ensures c.has_number.ensures c.finish.ensures

pub returns-clause-limits : goal.returns-clause-limits
returns-clause-limits c =
    made (λ (m : ℕ × MeterPlan). is_within_limits m.1 ≡ true) c.finish.ensures
    (within _ _ _ _ (at_most _ c.read_required-cir.ensures.takes c.read_required-cir.ensures.fits) (at_most _ c.read_required-eir.ensures.takes c.read_required-eir.ensures.fits)
    (at_most _ c.read_required-cbs.ensures.takes c.read_required-cbs.ensures.fits) (at_most _ c.read_required-ebs.ensures.takes c.read_required-ebs.ensures.fits))
