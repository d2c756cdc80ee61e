use Rattle.std.proofs.Common.{◌≡◌, ◌-◌, ◌≤◌, ℕ, Option, sym, ap, subst, ◌∙◌, arith}
use Rattle.std.specs.Prelude.{Vec}
use Rattle.net_report.specs.declared.sources.SourceFrame.{SourceFrame}
use Rattle.net_report.specs.Passes.{contents, port_step, traces}
use Rattle.net_report.specs.SourceFrames.{IsPortExhausted}
use Rattle.net_report.proofs.Passes.{ports_all, ports_next}
use Rattle.net_report.proofs.Traced.{one_more}
use Rattle.net_report.proofs.sources.trace_hop.Goals as goal

pub loop-port-preserved : goal.loop-port-preserved
loop-port-preserved g c =
    let before = c.loop-port.invariant in
    let here = c.in_ok-found.ensures in
    let links = c.args.links.now in
    let hops = c.args.hops.now in
    record {
      many = here.many;
      sound = λ are. here.sound (before.sound are);
      same = λ none. here.same (c.either-more.ensures.other none) ∙ before.same (c.either-more.ensures.one none);
      exhausted = λ none q from below. one_more (λ (n : ℕ). 1 ≤ n → IsPortExhausted links hops c.args.all.now.items c.args.place n) c.loop-port.port
          (λ n l low. before.exhausted (c.either-more.ensures.one none) n low l)
          (λ low. subst (λ (v : Vec (Vec (Option SourceFrame) g.row.A.Denot) g.row.A.Denot). IsPortExhausted links hops v.items c.args.place c.loop-port.port) (before.same (c.either-more.ensures.one none)) (here.exhausted (c.either-more.ensures.other none)))
          q below from;
      traced = λ are. here.traced (before.sound are)
          ∙ (ap (port_step links (traces hops) c.args.place c.loop-port.port) (before.traced are)
          ∙ sym (ports_next links (traces hops) c.args.place c.loop-port.port (contents c.args.all.now.items) c.loop-port.auto.port));
    }

pub returns : goal.returns
returns g c =
    let end = c.loop-port-test.false in
    let least = c.loop-port.auto.port in
    let most = c.loop-port.auto.port-end in
    let all : c.loop-port.port - 1 ≡ 16 = omega (arith, end, least, most) in
    record {
      many = c.loop-port.invariant.many;
      sound = c.loop-port.invariant.sound;
      same = c.loop-port.invariant.same;
      exhausted = λ none q from high. c.loop-port.invariant.exhausted none q from (omega (arith, high, end));
      traced = λ are. c.loop-port.invariant.traced are
          ∙ ports_all c.args.links.now (traces c.args.hops.now) c.args.place (c.loop-port.port - 1) (contents c.args.all.now.items) all;
    }
