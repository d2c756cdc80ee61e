-- Filters that reach a queue of a port.
use Rattle.std.proofs.Common.{◌≡◌, ℕ, zero, suc, Bool, false, None, refl}
use Rattle.bridge_filter.specs.declared.FilterPlan.{FilterPlan}
use Rattle.bridge_config.specs.Model.{Plan}
use Rattle.bridge_config.specs.Rules.{find_port}
use Rattle.bridge_check.specs.Reach.{some_number_passes, reaches_queue}
use Rattle.bridge_check.proofs.Told as told
use Rattle.net_model.specs.LinkFrames.{can_wait_at_port_number}

none_below : (n : ℕ) (test : ℕ → Bool) → ((k : ℕ) → test k ≡ false) → some_number_passes n test ≡ false
none_below zero test none = refl
none_below (suc n) test none = rw (none_below n test none) (none n)

-- No filter reaches a queue of a missing port.
pub unreached : {A : Type 0} (p : Plan A) (f : FilterPlan) (q : ℕ) → find_port p.ports q ≡ None → can_wait_at_port_number p f q ≡ false
unreached p f q at = none_below 8 (reaches_queue p f q) (λ c. told.unreached p f q c at)
