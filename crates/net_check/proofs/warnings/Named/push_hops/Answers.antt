use Rattle.std.proofs.Common.{◌≡◌, ◌≤◌, ◌∙◌, ◌++◌, List, ℕ, Option, Some, ap, arith, get_or, length, string_bytes, subst, sym}
use Rattle.std.specs.Prelude.{slice_get}
use Rattle.std.proofs.lemmas.Option.{slice_get-get_or}
use Rattle.net_model.specs.LoopSteps.{collect_below}
use Rattle.net_model.proofs.Stepping.{next_below}
use Rattle.net_model.specs.declared.links.StreamHop.{StreamHop}
use Rattle.net_check.specs.Warnings.{place_text}
use Rattle.net_check.proofs.warnings.Named.push_hops.Goals as goal

pub push_hop-requires-clause-hop : goal.push_hop-requires-clause-hop
push_hop-requires-clause-hop g c = omega (arith, c.requires.few, c.loop-k-test.true)

pub loop-k-preserved : goal.loop-k-preserved
loop-k-preserved g c =
    let text = λ (k : ℕ) (h : Option StreamHop). place_text c.args.self.now.file.now c.args.self.now.network.now c.args.bounds.now c.args.i c.args.periodic k h in
    let hops = c.args.hops.now in
    let none : StreamHop = record { bridge = 0; filter = 0 } in
    let there : slice_get hops c.loop-k.k ≡ Some (get_or hops c.loop-k.k none) = slice_get-get_or hops c.loop-k.k none c.loop-k-test.true in
    next_below (λ (k : ℕ). text k (slice_get hops k)) c.loop-k.k (string_bytes c.args.text.now) (string_bytes c.loop-k.text) _ c.loop-k.invariant
    (subst (λ (h : Option StreamHop). string_bytes c.push_hop.new.text ≡ string_bytes c.loop-k.text ++ text c.loop-k.k h) (sym there) c.in-Ok.ensures)

pub returns : goal.returns
returns g c =
    let most = c.loop-k.auto.k-end in
    let least = c.loop-k-test.false in
    let all : c.loop-k.k ≡ length c.args.hops.now = omega (arith, most, least) in
    c.loop-k.invariant
    ∙ ap (λ n. string_bytes c.args.text.now ++ collect_below n (λ (k : ℕ). place_text c.args.self.now.file.now c.args.self.now.network.now c.args.bounds.now c.args.i c.args.periodic k (slice_get c.args.hops.now k))) all
