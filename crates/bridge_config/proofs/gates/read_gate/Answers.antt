use Rattle.std.proofs.Common.{◌≡◌, ◌≤◌, ◌∙◌, ℕ, Option, None, Some, true, refl, ap, arith, not}
use Rattle.std.proofs.lemmas.Bool.{le-leb}
use Rattle.std.specs.Option.{ForSome}
use Rattle.bridge_gate.specs.Schedules.{is_valid_priority}
use Rattle.bridge_config.specs.Sections as sections
use Rattle.bridge_config.proofs.Taken.{at_most, begun, made, own, read, taken, tested, told}
use Rattle.bridge_config.proofs.gates.read_gate.Goals as goal

priority_of : (o : Option ℕ) → ForSome o (λ n. (0 ≤ n) × (n ≤ 7)) → is_valid_priority o ≡ true
priority_of None of = refl
priority_of (Some n) of = le-leb n 7 (of n refl).1

pub optional_u8-requires : goal.optional_u8-requires
optional_u8-requires g c n is = let (above, below) = c.read_optional-ipv.ensures.fits n is in omega (arith, below)

pub schedule_or_fixed-requires-clause-ipv : goal.schedule_or_fixed-requires-clause-ipv
schedule_or_fixed-requires-clause-ipv g c = ap is_valid_priority c.optional_u8.ensures ∙ priority_of _ c.read_optional-ipv.ensures.fits

pub schedule_or_fixed-requires-clause-priorities : goal.schedule_or_fixed-requires-clause-priorities
schedule_or_fixed-requires-clause-priorities g c = c.take_gate_lists-lists.ensures.priorities

pub schedule_or_fixed-requires-clause-lawful : goal.schedule_or_fixed-requires-clause-lawful
schedule_or_fixed-requires-clause-lawful g c = c.take_gate_lists-lists.ensures.lawful

pub overflow_cast-number : goal.overflow_cast-number
overflow_cast-number g c = let below = at_most _ c.read_required-number.ensures.takes c.read_required-number.ensures.fits in omega (arith, below)

pub returns-clause-reads : goal.returns-clause-reads
unfolding sections.read_gate
returns-clause-reads g c =
    let so_far = begun _ _ c.begin-first.ensures c.has_gate_keys.ensures in
    let so_far = taken _ c.read_required-number.ensures.takes so_far in
    let so_far = taken _ c.read_or_default-shut_on_rx.ensures.takes so_far in
    let so_far = taken _ c.read_or_default-shut_on_octets.ensures.takes so_far in
    let so_far = taken _ c.take_fixed_state-lets.ensures so_far in
    let so_far = taken _ c.read_optional-ipv.ensures.takes so_far in
    let so_far = read _ c.take_gate_lists-lists.ensures.reads so_far in
    let so_far = tested _ _ c.expect.ensures (ap not c.has_number.ensures) so_far in
    told c.finish.ensures (rw (c.schedule_or_fixed.ensures.schedule, c.optional_u8.ensures) so_far)

pub returns-clause-own : goal.returns-clause-own
returns-clause-own g c = own _ c.expect.ensures c.has_number.ensures c.finish.ensures

pub returns-clause-priorities : goal.returns-clause-priorities
returns-clause-priorities g c = made _ c.finish.ensures c.schedule_or_fixed.ensures.priorities

pub returns-clause-lawful : goal.returns-clause-lawful
returns-clause-lawful g c = made _ c.finish.ensures c.schedule_or_fixed.ensures.lawful
