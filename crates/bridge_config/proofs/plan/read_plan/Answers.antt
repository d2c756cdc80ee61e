use Rattle.std.proofs.Common.{◌≡◌, ℕ, ◌∙◌, sym, ap, subst, arith}
use Rattle.bridge_config.specs.Rules.{port_set, AreVlans, AreStatics}
use Rattle.bridge_config.specs.Document as doc
use Rattle.bridge_config.specs.Arrays.{array_items}
use Rattle.bridge_config.proofs.Counts.{as_many}
use Rattle.bridge_config.proofs.Taken.{at_first, goes_on, goes_out}
use Rattle.bridge_config.proofs.plan.read_plan.Goals as goal

pub invariant_of-result : goal.invariant_of-result
invariant_of-result g c =
    let ports = c.in_ok-ports.ports.items in
    let vlans = c.in_ok-vlans.vlans.items in
    let statics = c.in_ok-statics.statics.items in
    let same_vlans : c.in-Ok.forwarding.vlans ≡ vlans = ap (λ d. d.vlans) c.in-Ok.ensures in
    let same_statics : c.in-Ok.forwarding.statics ≡ statics = ap (λ d. d.statics) c.in-Ok.ensures in
    let all : c.port_set-all.result ≡ port_set ports = c.port_set-all.ensures ∙ ap port_set c.deref.ensures.value in
    let V : ℕ → Type 0 = λ a. AreVlans a vlans in
    let S : ℕ → Type 0 = λ a. AreStatics a vlans statics in
    record {
      some_port = as_many c.in_ok-change.change ports c.args.arrays.ports.now c.in_ok-ports.ensures.reads c.requires.tables c.requires.some_port;
      few_ports = omega (arith, c.in_ok-ports.ensures.few, c.requires.ports);
      few_vlans = rw same_vlans (omega (arith, c.in_ok-vlans.ensures.few, c.requires.vlans));
      few_statics = rw same_statics (omega (arith, c.in_ok-statics.ensures.few, c.requires.statics));
      few_streams = omega (arith, c.in_ok-streams.ensures.few, c.requires.streams);
      few_gates = c.policing.invariant.few_gates;
      few_meters = c.policing.invariant.few_meters;
      few_filters = c.policing.invariant.few_filters;
      ports = c.in_ok-ports.ensures.keeps.1;
      vlans = rw same_vlans (subst V all c.in_ok-vlans.ensures.keeps);
      statics = rw (same_vlans, same_statics) (subst S all (rw (sym c.deref-2.ensures.value) c.in_ok-statics.ensures.keeps));
      streams = rw (sym c.deref-3.ensures.value) c.in_ok-streams.ensures.keeps;
      gates = c.policing.invariant.gates;
      meters = c.policing.invariant.meters;
      filters = c.policing.invariant.filters;
    }

pub returns-in_err-ports : goal.returns-in_err-ports
unfolding doc.read_plan
returns-in_err-ports g c =
    let read = at_first (doc.read_plan (array_items c.args.arrays)) in
    let read = goes_on _ c.in_ok-change.ensures.reads read in
    goes_out _ _ _ _ _ c.in_err-ports.ensures.reads c.from_residual-in_err-ports.ensures.1 read

pub returns-in_err-vlans : goal.returns-in_err-vlans
unfolding doc.read_plan
returns-in_err-vlans g c =
    let read = at_first (doc.read_plan (array_items c.args.arrays)) in
    let read = goes_on _ c.in_ok-change.ensures.reads read in
    let all : c.port_set-all.result ≡ port_set c.in_ok-ports.ports.items = c.port_set-all.ensures ∙ ap port_set c.deref.ensures.value in
    let read = goes_on _ c.in_ok-ports.ensures.reads read in
    goes_out _ _ _ _ _ (rw all at c.in_err-vlans.ensures.reads) c.from_residual-in_err-vlans.ensures.1 read

pub returns-in_err-statics : goal.returns-in_err-statics
unfolding doc.read_plan
returns-in_err-statics g c =
    let read = at_first (doc.read_plan (array_items c.args.arrays)) in
    let read = goes_on _ c.in_ok-change.ensures.reads read in
    let all : c.port_set-all.result ≡ port_set c.in_ok-ports.ports.items = c.port_set-all.ensures ∙ ap port_set c.deref.ensures.value in
    let read = goes_on _ c.in_ok-ports.ensures.reads read in
    let read = goes_on _ (rw all at c.in_ok-vlans.ensures.reads) read in
    goes_out _ _ _ _ _ (rw (all, c.deref-2.ensures.value) at c.in_err-statics.ensures.reads) c.from_residual-in_err-statics.ensures.1 read

pub returns-in_err-streams : goal.returns-in_err-streams
unfolding doc.read_plan
returns-in_err-streams g c =
    let read = at_first (doc.read_plan (array_items c.args.arrays)) in
    let read = goes_on _ c.in_ok-change.ensures.reads read in
    let all : c.port_set-all.result ≡ port_set c.in_ok-ports.ports.items = c.port_set-all.ensures ∙ ap port_set c.deref.ensures.value in
    let read = goes_on _ c.in_ok-ports.ensures.reads read in
    let read = goes_on _ (rw all at c.in_ok-vlans.ensures.reads) read in
    let read = goes_on _ (rw (all, c.deref-2.ensures.value) at c.in_ok-statics.ensures.reads) read in
    goes_out _ _ _ _ _ (rw c.deref-3.ensures.value at c.in_err-streams.ensures.reads) c.from_residual-in_err-streams.ensures.1 read

pub returns-in_err-policing : goal.returns-in_err-policing
unfolding doc.read_plan
returns-in_err-policing g c =
    let read = at_first (doc.read_plan (array_items c.args.arrays)) in
    let read = goes_on _ c.in_ok-change.ensures.reads read in
    let all : c.port_set-all.result ≡ port_set c.in_ok-ports.ports.items = c.port_set-all.ensures ∙ ap port_set c.deref.ensures.value in
    let read = goes_on _ c.in_ok-ports.ensures.reads read in
    let read = goes_on _ (rw all at c.in_ok-vlans.ensures.reads) read in
    let read = goes_on _ (rw (all, c.deref-2.ensures.value) at c.in_ok-statics.ensures.reads) read in
    let read = goes_on _ (rw c.deref-3.ensures.value at c.in_ok-streams.ensures.reads) read in
    goes_out _ _ _ _ _ c.in_err-policing.ensures c.from_residual-in_err-policing.ensures.1 read

pub returns : goal.returns
unfolding doc.read_plan
returns g c =
    let read = at_first (doc.read_plan (array_items c.args.arrays)) in
    let read = goes_on _ c.in_ok-change.ensures.reads read in
    let all : c.port_set-all.result ≡ port_set c.in_ok-ports.ports.items = c.port_set-all.ensures ∙ ap port_set c.deref.ensures.value in
    let read = goes_on _ c.in_ok-ports.ensures.reads read in
    let read = goes_on _ (rw all at c.in_ok-vlans.ensures.reads) read in
    let read = goes_on _ (rw (all, c.deref-2.ensures.value) at c.in_ok-statics.ensures.reads) read in
    let read = goes_on _ (rw c.deref-3.ensures.value at c.in_ok-streams.ensures.reads) read in
    let read = goes_on _ (rw (← c.policing.view_is) at c.in_ok-policing.ensures) read in
    rw c.in-Ok.ensures read.stands
