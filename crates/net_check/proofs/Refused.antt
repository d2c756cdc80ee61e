-- A network without a fault can be refused only for its talkers' periods.
use Rattle.std.proofs.Common.{◌≡◌, List, None, inr}
use Rattle.bridge_config.specs.Model.{Plan}
use Rattle.net_model.specs.Faults.{first_fault}
use Rattle.net_model.specs.NetworkParts.{NetworkParts}
use Rattle.net_file.specs.Model as file
use Rattle.app_failure.specs.declared.fault.Failure.{Failure}
use Rattle.app_failure.specs.declared.fault.Failure.TheVariants as fault
use Rattle.net_check.specs.Networks.{IsNetworkOfFile, RefusesNetwork, RefusesPeriods}

pub refused_for : {A : Type 0} (f : file.Network) (plans : List (Plan A)) (n : NetworkParts A) (e : Failure) → IsNetworkOfFile f plans n → first_fault n ≡ None → RefusesPeriods f n.plans e → RefusesNetwork f plans e
refused_for f plans n (fault.Network line) made accepted refused = (n, made, inr (accepted, refused))
refused_for f plans n fault.NoMemory made accepted refused = refused
refused_for f plans n (fault.Run e) made accepted refused = absurd refused
refused_for f plans n (fault.Text x) made accepted refused = absurd refused
refused_for f plans n (fault.Plan x) made accepted refused = absurd refused
refused_for f plans n (fault.Check x) made accepted refused = absurd refused
refused_for f plans n (fault.Commands x) made accepted refused = absurd refused
refused_for f plans n (fault.Rounds x) made accepted refused = absurd refused
refused_for f plans n (fault.File x) made accepted refused = absurd refused
refused_for f plans n fault.Words made accepted refused = absurd refused
