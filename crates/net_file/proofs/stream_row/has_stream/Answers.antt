use Rattle.std.proofs.Common.{sym, subst, ◌∙◌, ◌≡◌, true, false}
use Rattle.std.specs.Str.{bytes_eq}
use Rattle.net_file.proofs.Named.{any_here, any_later, any_none}
use Rattle.net_file.specs.Model.{Stream}
use Rattle.net_file.proofs.stream_row.has_stream.Goals as goal

pub loop-stream-preserved : goal.loop-stream-preserved
loop-stream-preserved g c =
    any_later (λ (x : Stream). bytes_eq x.name c.args.name.now) c.args.streams.now c.loop-stream.stream-index c.stream-item.result c.loop-stream-test.true c.stream-item.is
    (subst (λ n. false ≡ bytes_eq n c.args.name.now) c.name.ensures c.if-eq.ensures) ∙ c.loop-stream.invariant

pub returns-then-eq : goal.returns-then-eq
returns-then-eq g c =
    sym (any_here (λ (x : Stream). bytes_eq x.name c.args.name.now) c.args.streams.now c.loop-stream.stream-index c.stream-item.result c.loop-stream-test.true c.stream-item.is
    (subst (λ n. true ≡ bytes_eq n c.args.name.now) c.name.ensures c.if-eq.ensures)) ∙ c.loop-stream.invariant

pub returns : goal.returns
returns g c = sym (any_none (λ (x : Stream). bytes_eq x.name c.args.name.now) c.args.streams.now c.loop-stream.stream-index c.loop-stream-test.false) ∙ c.loop-stream.invariant
