use Rattle.std.proofs.Common.{◌≡◌, ◌≤◌, ◌+◌, ◌++◌, ◌∷◌, ◌∙◌, [], List, ap, arith, length, subst, sym, take, ℕ}
use Rattle.std.proofs.lemmas.List.{take_more}
use Rattle.std.proofs.lemmas.List.Sums.{sum_by-append}
use Rattle.net_file.specs.Model.{Stream}
use Rattle.net_check.specs.Networks.{count_hops}
use Rattle.net_check.proofs.network.count_hops.Goals as goal

pub loop-stream-preserved : goal.loop-stream-preserved
loop-stream-preserved g c =
    let k = c.loop-stream.stream-index in
    let streams = c.args.streams.now in
    let s : Stream = c.stream-item.result in
    let own : length c.hops.result.now ≡ length s.hops = ap (λ (hs : List (ℕ × ℕ)). length hs) c.hops.ensures in
    let one : length s.hops ≤ 64 = subst (λ (z : Stream). length z.hops ≤ 64) (sym c.stream-item.is) (c.requires.each k _ c.loop-stream-test.true) in
    let cut : take (k + 1) streams ≡ take k streams ++ s ∷ [] = take_more streams k _ c.loop-stream-test.true ∙ ap (λ (z : Stream). take k streams ++ z ∷ []) (sym c.stream-item.is) in
    let sum : count_hops (take (k + 1) streams) ≡ count_hops (take k streams) + count_hops (s ∷ []) = ap (λ (ss : List Stream). count_hops ss) cut ∙ sum_by-append (λ (z : Stream). length z.hops) (take k streams) (s ∷ []) in
    let so_far = c.loop-stream.invariant.counted in
    let few = c.loop-stream.invariant.few in
    record {
      counted = omega (arith, own, sum, so_far);
      few = omega (arith, own, one, few);
    }
