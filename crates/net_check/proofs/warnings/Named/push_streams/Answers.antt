use Rattle.std.proofs.Common.{◌≡◌, ◌≤◌, ◌∙◌, ◌++◌, List, ℕ, append-nil, arith, get_or, length, refl, subst, sym, ap, string_bytes}
use Rattle.std.proofs.lemmas.List.{at_drop_all}
use Rattle.net_file.specs.Model.{Stream}
use Rattle.net_check.specs.Warnings.{stream_text, streams_text}
use Rattle.net_check.proofs.Told.{streams_next}
use Rattle.net_check.proofs.warnings.Named.push_streams.Goals as goal

pub push_stream-requires-clause-few : goal.push_stream-requires-clause-few
push_stream-requires-clause-few g c =
    let here : length (get_or c.args.streams.now c.loop-i.i c.index-streams-i.result).hops ≤ 64 = c.requires.each c.loop-i.i c.index-streams-i.result c.loop-i-test.true in
    subst (λ (s : Stream). length s.hops ≤ 64) (sym c.index-streams-i.is) here

pub push_stream-requires-clause-stream : goal.push_stream-requires-clause-stream
push_stream-requires-clause-stream g c = omega (arith, c.requires.few, c.loop-i-test.true)

pub loop-i-preserved : goal.loop-i-preserved
loop-i-preserved g c =
    streams_next (stream_text c.args.self.now.file.now c.args.self.now.network.now c.args.bounds.now) (streams_text c.args.self.now.file.now c.args.self.now.network.now c.args.bounds.now) c.args.streams.now c.loop-i.i c.index-streams-i.result _ _ _ (λ i s ss. refl) c.loop-i-test.true c.loop-i.invariant
    (subst (λ (s : Stream). string_bytes c.push_stream.new.text ≡ string_bytes c.loop-i.text ++ stream_text c.args.self.now.file.now c.args.self.now.network.now c.args.bounds.now c.loop-i.i s) c.index-streams-i.is c.in-Ok.ensures)

pub returns : goal.returns
returns g c =
    sym (append-nil (string_bytes c.loop-i.text))
    ∙ ap (λ l. string_bytes c.loop-i.text ++ l) (sym (at_drop_all (streams_text c.args.self.now.file.now c.args.self.now.network.now c.args.bounds.now c.loop-i.i) c.args.streams.now c.loop-i.i c.loop-i-test.false))
    ∙ c.loop-i.invariant
