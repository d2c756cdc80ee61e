use Rattle.std.proofs.Common.{◌∙◌, ap, arith, not, sym}
use Rattle.bridge_config.specs.Sections as sections
use Rattle.bridge_config.proofs.Taken.{at_most, before, before_test, begun, fits_if, known_in_range, made, made_if, own, taken, tested, told}
use Rattle.bridge_config.proofs.filters.read_filter_by_lookup.Goals as goal

pub optional_u32-requires : goal.optional_u32-requires
optional_u32-requires g c n is = (c.read_optional-handle.ensures.fits n is).1

pub optional_u8-requires : goal.optional_u8-requires
optional_u8-requires g c n is = let (above, below) = c.read_optional-priority.ensures.fits n is in omega (arith, below)

pub optional_u32-requires-2 : goal.optional_u32-requires-2
optional_u32-requires-2 g c n is = let (above, below) = c.read_optional-max_sdu.ensures.fits n is in omega (arith, below)

pub optional_u32-requires-3 : goal.optional_u32-requires-3
optional_u32-requires-3 g c n is = let (above, below, there) = c.read_optional-meter.ensures.fits n is in below

pub optional_u32-requires-4 : goal.optional_u32-requires-4
optional_u32-requires-4 g c n is = (c.read_optional-group.ensures.fits n is).1

pub overflow_cast-plan : goal.overflow_cast-plan
overflow_cast-plan g c =
    let (above, below) = known_in_range _ _ _ c.read_required-gate.ensures.takes c.read_required-gate.ensures.fits (omega arith) (omega arith) in
    omega (arith, below)

pub overflow_cast-number : goal.overflow_cast-number
overflow_cast-number g c = let below = at_most _ c.read_required-number.ensures.takes c.read_required-number.ensures.fits in omega (arith, below)

pub returns-clause-reads : goal.returns-clause-reads
unfolding sections.read_filter_by_lookup
returns-clause-reads g c =
    let read = begun _ _ c.begin-first.ensures c.has_filter_keys.ensures in
    let read = taken _ c.read_required-number.ensures.takes read in
    let read = taken _ c.read_optional-handle.ensures.takes read in
    let read = taken _ c.read_optional-priority.ensures.takes read in
    let read = taken _ c.read_required-gate.ensures.takes read in
    let read = taken _ c.read_optional-max_sdu.ensures.takes read in
    let read = taken _ c.read_optional-meter.ensures.takes read in
    let read = taken _ c.read_or_default-block_oversize.ensures.takes read in
    let read = taken _ c.read_or_default-protected.ensures.takes read in
    let read = taken _ c.read_optional-group.ensures.takes read in
    let read = tested _ _ c.expect.ensures (ap not c.has.ensures.among) read in
    told c.finish.ensures (rw (c.optional_u32.ensures, c.optional_u8.ensures, c.optional_u32-2.ensures, c.optional_u32-3.ensures, c.optional_u32-4.ensures) read)

pub returns-clause-own : goal.returns-clause-own
returns-clause-own g c = own _ c.expect.ensures c.has.ensures.among c.finish.ensures

pub returns-clause-filter : goal.returns-clause-filter
returns-clause-filter g c = made _ c.finish.ensures (record {
  priority = λ n e. (c.read_optional-priority.ensures.fits n (sym c.optional_u8.ensures ∙ e)).1;
  max_sdu = λ n e. (c.read_optional-max_sdu.ensures.fits n (sym c.optional_u32-2.ensures ∙ e)).1;
})

pub returns-clause-gate : goal.returns-clause-gate
returns-clause-gate g c = made_if _ c.finish.ensures (λ none.
    let last = before c.read_or_default-block_oversize.ensures.takes (before c.read_or_default-protected.ensures.takes (before c.read_optional-group.ensures.takes (before_test c.expect.ensures none))) in
    let still = before c.read_optional-max_sdu.ensures.takes (before c.read_optional-meter.ensures.takes last) in
    let (above, below, there) = fits_if _ c.read_required-gate.ensures.takes c.read_required-gate.ensures.fits still in
    there)

pub returns-clause-meter : goal.returns-clause-meter
returns-clause-meter g c = made _ c.finish.ensures (λ n e. let (above, below, there) = c.read_optional-meter.ensures.fits n (sym c.optional_u32-3.ensures ∙ e) in there)
