use Rattle.std.proofs.Common.{◌≡◌, ◌≤◌, ◌++◌, All, List, length, subst, sym, string_bytes}
use Rattle.std.specs.Prelude.{OnOk}
use Rattle.net_file.specs.Model.{Stream}
use Rattle.net_check.specs.Telling.{sdu_falls}
use Rattle.net_check.proofs.warning_lines.push_file_sdu_falls.Goals as goal

pub push_sdu_falls-requires-clause-few : goal.push_sdu_falls-requires-clause-few
push_sdu_falls-requires-clause-few g c = subst (λ (ss : List Stream). length ss ≤ 1024) (sym c.streams.ensures.streams) c.streams.ensures.rules.few_streams

pub push_sdu_falls-requires-clause-each : goal.push_sdu_falls-requires-clause-each
push_sdu_falls-requires-clause-each g c =
    subst (λ (ss : List Stream). All (λ (s : Stream). length s.hops ≤ 64) ss) (sym c.streams.ensures.streams) (λ k d less. (c.streams.ensures.rules.streams.each k d less).few_hops)

pub returns : goal.returns
returns g c =
    subst (λ ss. OnOk c.push_sdu_falls.result (string_bytes c.push_sdu_falls.new.text ≡ string_bytes c.args.text.now ++ sdu_falls c.args.plans.now 0 ss)) c.streams.ensures.streams c.push_sdu_falls.ensures
