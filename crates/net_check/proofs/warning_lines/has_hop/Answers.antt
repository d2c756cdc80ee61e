use Rattle.std.proofs.Common.{◌≡◌, ℕ, ◌+◌, ◌<◌, Bool, true, false, ◌||◌, List, length, drop, get_or, ap, sym, subst, ◌∙◌}
use Rattle.std.specs.List.{list_any}
use Rattle.std.proofs.lemmas.List.{at_drop_more, at_drop_all}
use Rattle.net_file.specs.Model.{Stream}
use Rattle.net_check.specs.Telling.{is_hop}
use Rattle.net_check.proofs.warning_lines.has_hop.Goals as goal

-- A stream, and the later streams.
one_more : (f : Stream → Bool) (ss : List Stream) (k : ℕ) (s : Stream) (t : Bool) → k < length ss → s ≡ get_or ss k s → t ≡ f s → list_any f (drop k ss) ≡ (t || list_any f (drop (k + 1) ss))
one_more f ss k s t there is holds = at_drop_more (list_any f) ss k s there ∙ ap (λ b. b || list_any f (drop (k + 1) ss)) (ap f (sym is) ∙ sym holds)

pub loop-stream-preserved : goal.loop-stream-preserved
loop-stream-preserved g c =
    c.loop-stream.invariant ∙ one_more (λ (s : Stream). is_hop s.hops c.args.bridge c.args.filter) c.args.streams.now c.loop-stream.stream-index c.stream-item.result false c.loop-stream-test.true c.stream-item.is
    (subst (λ hops. false ≡ is_hop hops c.args.bridge c.args.filter) c.hops.ensures c.if-is_hop.ensures)

pub returns-then-is_hop : goal.returns-then-is_hop
returns-then-is_hop g c =
    sym (c.loop-stream.invariant ∙ one_more (λ (s : Stream). is_hop s.hops c.args.bridge c.args.filter) c.args.streams.now c.loop-stream.stream-index c.stream-item.result true c.loop-stream-test.true c.stream-item.is
    (subst (λ hops. true ≡ is_hop hops c.args.bridge c.args.filter) c.hops.ensures c.if-is_hop.ensures))

pub returns : goal.returns
returns g c =
    sym (c.loop-stream.invariant ∙ at_drop_all (list_any (λ (s : Stream). is_hop s.hops c.args.bridge c.args.filter)) c.args.streams.now c.loop-stream.stream-index c.loop-stream-test.false)
