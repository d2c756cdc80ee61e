use Rattle.std.proofs.Common.{◌≡◌, ◌<◌, ℕ, arith, subst, ◌∙◌, length-set, length}
use Rattle.bridge_port.specs.Rings.{ring_queues}
use Rattle.bridge_port.specs.Heads.{IsBestHead}
use Rattle.bridge_port.proofs.Best.{best_more, fits_set_behind, fits_set_ahead, fits_all}
use Rattle.bridge_port.proofs.heads.refresh_fits.Goals as goal

pub loop-class-preserved : goal.loop-class-preserved
loop-class-preserved g c =
    let size : length c.loop-class.fits ≡ 8 = c.loop-class.invariant.size in
    let queues = ring_queues c.args.rings.now.items in
    let set = c.refresh_fit-fit.ensures.fits in
    let within : c.loop-class.class < length c.loop-class.fits = omega arith in
    record {
      gates = c.refresh_fit-fit.ensures.same ∙ c.loop-class.invariant.gates;
      size = rw set (length-set c.loop-class.fits c.loop-class.class c.refresh_fit-fit.result ∙ size);
      behind = rw set (fits_set_behind c.args.gates.now c.args.speed c.args.from queues c.loop-class.fits c.loop-class.class c.refresh_fit-fit.result within (rw c.loop-class.invariant.gates at c.refresh_fit-fit.ensures.fit) c.loop-class.invariant.behind);
      ahead = rw set (fits_set_ahead c.args.gates.now c.args.speed c.args.from queues c.loop-class.fits c.loop-class.class c.refresh_fit-fit.result c.loop-class.invariant.ahead);
      best = rw (set, c.sooner_optional_head-best.ensures) (best_more c.loop-class.fits c.loop-class.class c.refresh_fit-fit.result c.loop-class.best within c.loop-class.invariant.best);
    }

pub returns-clause-fits : goal.returns-clause-fits
returns-clause-fits g c =
    let queues = ring_queues c.args.rings.now.items in
    let end : c.loop-class.class ≡ 8 = omega arith in
    fits_all c.args.gates.now c.args.speed c.args.from queues c.loop-class.fits c.loop-class.invariant.size
    (λ d l. c.loop-class.invariant.behind d (omega arith))
    (λ d l past. c.loop-class.invariant.ahead d (omega arith) past)

pub returns-clause-best : goal.returns-clause-best
returns-clause-best g c =
    let end : c.loop-class.class ≡ 8 = omega arith in
    subst (λ (n : ℕ). IsBestHead c.loop-class.fits n c.loop-class.best) end c.loop-class.invariant.best
