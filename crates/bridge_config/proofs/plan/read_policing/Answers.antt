use Rattle.std.proofs.Common.{arith, sym}
use Rattle.bridge_config.specs.Arrays.{array_items}
use Rattle.bridge_config.specs.Document as doc
use Rattle.bridge_config.proofs.Taken.{at_first, goes_on, goes_out}
use Rattle.bridge_config.proofs.plan.read_policing.Goals as goal

pub returns-in_err-gates : goal.returns-in_err-gates
unfolding doc.read_policing
returns-in_err-gates g c =
    let read = at_first (doc.read_policing c.args.change (array_items c.args.arrays)) in
    goes_out _ _ _ _ _ c.in_err-gates.ensures.reads c.from_residual.ensures.1 read

pub returns-in_err-meters : goal.returns-in_err-meters
unfolding doc.read_policing
returns-in_err-meters g c =
    let read = at_first (doc.read_policing c.args.change (array_items c.args.arrays)) in
    let read = goes_on _ c.in_ok-gates.ensures.reads read in
    goes_out _ _ _ _ _ c.in_err-meters.ensures.reads c.from_residual-in_err-meters.ensures.1 read

pub returns-in_err-filters : goal.returns-in_err-filters
unfolding doc.read_policing
returns-in_err-filters g c =
    let read = at_first (doc.read_policing c.args.change (array_items c.args.arrays)) in
    let read = goes_on _ c.in_ok-gates.ensures.reads read in
    let read = goes_on _ c.in_ok-meters.ensures.reads read in
    goes_out _ _ _ _ _ (rw (c.deref.ensures.value, c.deref-2.ensures.value) at c.in_err-filters.ensures.reads) c.from_residual-in_err-filters.ensures.1 read

pub invariant_of-result : goal.invariant_of-result
invariant_of-result g c = record {
  few_gates = omega (arith, c.in_ok-gates.ensures.few, c.requires.few.gates);
  few_meters = omega (arith, c.in_ok-meters.ensures.few, c.requires.few.meters);
  few_filters = c.in_ok-filters.ensures.few;
  gates = c.in_ok-gates.ensures.keeps.1;
  meters = c.in_ok-meters.ensures.keeps;
  filters = rw (sym c.deref.ensures.value, sym c.deref-2.ensures.value) c.in_ok-filters.ensures.keeps;
}
