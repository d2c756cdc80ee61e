-- The steps of frames, port by port and bridge by bridge.
use Rattle.std.proofs.Common.{◌≡◌, ◌<◌, ◌+◌, ℕ, suc, List, [], ◌∷◌, ◌++◌, drop, drop-cons, length, get_or, refl, append_assoc, arith}
use Rattle.bridge_config.specs.Model.{Plan}
use Rattle.net_model.specs.declared.links.Link.{Link}
use Rattle.net_model.specs.declared.links.BridgePort.{BridgePort}
use Rattle.net_model.specs.declared.step.Step.{Step}
use Rattle.net_model.specs.declared.frame_groups.FrameGroup.{FrameGroup}
use Rattle.net_model.specs.LoopSteps.{collect_below, steps_of_bridge, group_steps, steps_over_links}

-- Frames without egress port take no step.
pub nothing_on : (links : List Link) (from : BridgePort) (outs : ℕ) → outs ≡ 0 → steps_over_links links from outs ≡ []
nothing_on links from outs is = rw is refl

-- One number more.
pub next_below : {X : Type 0} (f : ℕ → List X) (i : ℕ) (start before after : List X) → before ≡ start ++ collect_below i f → after ≡ before ++ f i → after ≡ start ++ collect_below (i + 1) f
next_below f i start before after was is =
    let one : i + 1 ≡ suc i = omega arith in
    rw (is, was, one) (append_assoc start (collect_below i f) (f i))

-- The steps of the bridge at index `i` precede the steps of later bridges.
pub steps_next : {A : Type 0} (links : List Link) (g : FrameGroup) (plans : List (Plan A)) (i : ℕ) (d : Plan A) (before after whole : List Step) → i < length plans
    → before ++ group_steps links g i (drop i plans) ≡ whole → after ≡ before ++ steps_of_bridge links g i (get_or plans i d) → after ++ group_steps links g (i + 1) (drop (i + 1) plans) ≡ whole
steps_next links g plans i d before after whole less was is =
    let cut : drop i plans ≡ get_or plans i d ∷ drop (suc i) plans = drop-cons plans i d less in
    let one : i + 1 ≡ suc i = omega arith in
    rw (is, one, append_assoc) (rw cut at was)
