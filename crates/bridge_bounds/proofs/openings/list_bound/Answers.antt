use Rattle.std.proofs.Common.{◌≡◌, ◌+◌, ◌-◌, ℕ, Bool, true, ap, sym, subst, ◌∙◌, inl}
use Rattle.bridge_frame.specs.Link.{transmission_time}
use Rattle.bridge_port.specs.GateSchedule.{GateSchedule, One, can_fit, lists_open, opens}
use Rattle.bridge_check.specs.Windows.{longest_frame}
use Rattle.bridge_semantics.specs.Offers.{egress_rules}
use Rattle.bridge_bounds.specs.Bounds.{IsOpeningsTime}
use Rattle.bridge_bounds.specs.Openings.{fills_at}
use Rattle.bridge_bounds.proofs.openings.list_bound.Goals as goal

pub openings_longest_time-requires-clause-ever : goal.openings_longest_time-requires-clause-ever
openings_longest_time-requires-clause-ever g c =
    let out = c.args.port.now in
    let occ : c.occupation-occ.result ≡ transmission_time (longest_frame c.args.sdu) out.speed = c.occupation-occ.ensures.exact ∙ ap (λ (n : ℕ). transmission_time n out.speed) c.min.ensures in
    let ever = subst (λ (o : GateSchedule). can_fit o c.args.class (transmission_time (longest_frame c.args.sdu) out.speed) ≡ true) c.requires.list c.requires.ever in
    subst (λ (n : ℕ). can_fit (One c.args.list.now) c.args.class n ≡ true) (sym occ) ever

pub returns-in-Some-openings_longest_time : goal.returns-in-Some-openings_longest_time
returns-in-Some-openings_longest_time g c =
    let out = c.args.port.now in
    let lets : ℕ → Bool = fills_at out c.args.priority c.args.class c.args.gate.now in
    let room : ℕ = (egress_rules out).room c.args.class in
    let longest : ℕ = c.in-Some-openings_longest_time.longest in
    let occ : c.occupation-occ.result ≡ transmission_time (longest_frame c.args.sdu) out.speed = c.occupation-occ.ensures.exact ∙ ap (λ (n : ℕ). transmission_time n out.speed) c.min.ensures in
    let time : IsOpeningsTime lets (opens (One c.args.list.now) c.args.class) c.occupation-occ.result room longest = c.in-Some-openings_longest_time.ensures.longest in
    let own = subst (λ (o : GateSchedule). IsOpeningsTime lets (opens o c.args.class) c.occupation-occ.result room longest) (sym c.requires.list) time in
    inl (
      (c.in-Some.span, c.in-Some.ensures),
      inl (record {
        longest = longest;
        is = subst (λ (n : ℕ). IsOpeningsTime lets (lists_open out.list c.args.class) n room longest) occ own;
        bound = ap (λ (n : ℕ). n - 1 + longest) occ;
      }),
    )
