use Rattle.std.proofs.Common.{◌≡◌, ◌≤◌, ◌∙◌, ◌++◌, List, ℕ, append-nil, arith, get_or, length, subst, sym, ap, string_bytes}
use Rattle.std.proofs.lemmas.List.{at_drop_all}
use Rattle.net_file.specs.Model.{Stream}
use Rattle.net_check.specs.Telling.{sdu_falls, stream_sdu_falls}
use Rattle.net_check.proofs.Told.{falls_next}
use Rattle.net_check.proofs.warning_lines.push_sdu_falls.Goals as goal

pub push_stream_sdu_falls-requires-clause-few : goal.push_stream_sdu_falls-requires-clause-few
push_stream_sdu_falls-requires-clause-few g c =
    let here : length (get_or c.args.streams.now c.loop-i.i c.index-streams-i.result).hops ≤ 64 = c.requires.each c.loop-i.i c.index-streams-i.result c.loop-i-test.true in
    let same : (get_or c.args.streams.now c.loop-i.i c.index-streams-i.result).hops ≡ c.hops.result.now = ap (λ (s : Stream). s.hops) (sym c.index-streams-i.is) ∙ sym c.hops.ensures in
    subst (λ (hops : List (ℕ × ℕ)). length hops ≤ 64) same here

pub loop-i-preserved : goal.loop-i-preserved
loop-i-preserved g c =
    let same : c.hops.result.now ≡ (get_or c.args.streams.now c.loop-i.i c.index-streams-i.result).hops = c.hops.ensures ∙ ap (λ (s : Stream). s.hops) c.index-streams-i.is in
    falls_next c.args.plans.now c.args.streams.now c.loop-i.i c.index-streams-i.result _ _ _ c.loop-i-test.true c.loop-i.invariant
    (subst (λ (hops : List (ℕ × ℕ)). string_bytes c.push_stream_sdu_falls.new.text ≡ string_bytes c.loop-i.text ++ stream_sdu_falls c.args.plans.now c.loop-i.i hops) same c.in-Ok.ensures)

pub push_stream_sdu_falls-requires-clause-stream : goal.push_stream_sdu_falls-requires-clause-stream
push_stream_sdu_falls-requires-clause-stream g c = omega (arith, c.requires.few, c.loop-i-test.true)

pub returns : goal.returns
returns g c =
    sym (append-nil (string_bytes c.loop-i.text)) ∙ ap (λ l. string_bytes c.loop-i.text ++ l) (sym (at_drop_all (sdu_falls c.args.plans.now c.loop-i.i) c.args.streams.now c.loop-i.i c.loop-i-test.false)) ∙ c.loop-i.invariant
