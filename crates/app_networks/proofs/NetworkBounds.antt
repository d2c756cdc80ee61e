-- Copies of a complete network run leave within their least bounds, because the frames were read from captures in order.
use Rattle.std.proofs.Common.{◌≡◌, ℕ, zero, suc, List, [], ◌∷◌, map, Option, Some, None, refl, subst}
use Rattle.std.specs.Prelude.{nat_eq, slice_get}
use Rattle.bridge_limits.specs.Members.{IsMember}
use Rattle.bridge_limits.proofs.Cases.{by_bool}
use Rattle.bridge_config.specs.Model.{Plan}
use Rattle.bridge_semantics.specs.declared.outcome.Outcome.{Outcome}
use Rattle.bridge_semantics.specs.Merge.{Input, capture_inputs, input_events}
use Rattle.bridge_groups.specs.Curves.{AreArrivalsInOrder}
use Rattle.bridge_groups.proofs.MergedOrder.{HasInputTime, commands_timed, in_order, inputs_timed}
use Rattle.net_model.specs.Networks.{IsNetwork, Sender, delayed_frame, external_inputs, inputs_over_link, sender}
use Rattle.net_model.specs.NetworkParts.{NetworkParts, link_value, network_value}
use Rattle.net_model.proofs.Members.{rank_in}
use Rattle.bridge_groups.specs.GateBounds.{IsLeastBound}
use Rattle.net_run.specs.Rounds.{AreOutcomes, RunsNetwork, commands_of_bridge}
use Rattle.net_run.specs.declared.rounds.BridgeResult.{BridgeResult}
use Rattle.net_run.specs.declared.bridge_run.BridgeInput.{BridgeInput}
use Rattle.app_networks.proofs.Lengths.{each_short}
use Rattle.app_networks.proofs.Measured.{LeaveInTime}
use Rattle.app_networks.proofs.PrintedBounds.{left_in_least_bound}

came_in_time : {A : Type 0} (came : List (BridgeInput A)) (b : ℕ) (x : Input) → IsMember x (commands_of_bridge came b) → HasInputTime x
came_in_time [] b x i = absurd i
came_in_time (c ∷ came) zero x i = commands_timed c.commands.items x i
came_in_time (c ∷ came) (suc b) x i = came_in_time came b x i

module _ {A : Type 0} (n : NetworkParts A) (came : List (BridgeInput A)) (settled : List (BridgeResult A)) (o : ℕ → Outcome A) (network : IsNetwork (network_value n)) (ran : RunsNetwork n came settled) (outcomes : AreOutcomes settled o) where
  -- The inputs of a port have their own times.
  port_in_time : (b q : ℕ) (m : Option Sender) (x : Input) → IsMember x (inputs_over_link m (external_inputs (commands_of_bridge came) ran.frames b q) (ran.run o outcomes).left q) → HasInputTime x
  port_in_time b q (Some s) x i = inputs_timed q (map (delayed_frame s.delay) ((ran.run o outcomes).left s.from.bridge s.from.port)) x i
  port_in_time b q None x i = by_bool (nat_eq q 0)
      (λ k. let j : IsMember x (commands_of_bridge came b) = rw k at i in came_in_time came b x j)
      (λ k. let j : IsMember x (capture_inputs q (ran.frames b q)) = rw k at i in inputs_timed q (ran.frames b q) x j)

  -- Frames arrive at a bridge in order.
  arrive_in_order : (b : ℕ) (p : Plan A) → slice_get n.plans b ≡ Some p → AreArrivalsInOrder (input_events ((ran.run o outcomes).inputs b))
  arrive_in_order b p there =
      let merged = (ran.run o outcomes).merged b p there in
      in_order ((ran.run o outcomes).inputs b)
      (λ x i. port_in_time b x.rank (sender (map link_value n.links) b x.rank) x (subst (IsMember x) (merged.each x.rank) (rank_in x.rank x ((ran.run o outcomes).inputs b) i refl)))
      merged.in_order

  -- Each copy leaves within the least bound of its queue.
  pub leaves_by_octets : LeaveInTime (λ (p : Plan A) (m q c b : ℕ). IsLeastBound p m q c b) (network_value n) (ran.run o outcomes).lists
  leaves_by_octets b m q s most p out y there at listed flow started is =
      let bridge = (ran.run o outcomes).outcome b p there in
      let within = each_short ((ran.run o outcomes).inputs b) (λ x i. ran.lengths o outcomes b p x there i) in
      left_in_least_bound p (input_events ((ran.run o outcomes).inputs b)) bridge.moments ((ran.run o outcomes).lists b) q s out y (network.plan b p there) (network.acceptable b p there) bridge.run bridge.whole
      (arrive_in_order b p there) at listed started m most within flow is
