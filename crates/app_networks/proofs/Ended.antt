-- Faults that end the reading and the run of a network.
use Rattle.std.proofs.Common.{◌≡◌, ℕ, List, Result, Ok, Err, Some, None, Option, refl, sym, subst, arith, inl, inr}
use Rattle.std.specs.Prelude.{IfErr, slice_get, string_bytes}
use Rattle.std.specs.Result.{IsErrAnd}
use Rattle.bridge_config.specs.Document.{text_commands}
use Rattle.bridge_config.specs.Model.{Plan}
use Rattle.bridge_cycle.specs.declared.cyclic_list.ListFault.{ListFault}
use Rattle.bridge_cycle.specs.declared.cyclic_list.ListFault.TheVariants as list
use Rattle.app_failure.specs.declared.fault.Failure.{Failure}
use Rattle.app_failure.specs.declared.fault.Failure.TheVariants as fault
use Rattle.app_failure.specs.Status.{plan_fault_status}
use Rattle.net_file.specs.Model.{Bridge}
use Rattle.net_file.specs.Model as file
use Rattle.net_model.specs.Faults.{first_fault}
use Rattle.net_model.specs.NetworkParts.{NetworkParts}
use Rattle.net_check.specs.Naming.{bridge_name}
use Rattle.net_check.specs.Networks.{EndsPlans, EndsText, IsNetworkOfFile, RefusesNetwork}
use Rattle.net_latency.specs.Talkers.{first_misfit}
use Rattle.net_run.specs.declared.rounds.RoundsFault.{RoundsFault}
use Rattle.net_run.specs.declared.bridge_run.BridgeInput.{BridgeInput}
use Rattle.net_run.specs.Rounds.{AreBridgeInputs, StopsNetworkRun}
use Rattle.bridge_schema.specs.declared.plan_fault.PlanFault.{PlanFault}
use Rattle.bridge_schema.specs.declared.plan_fault.PlanFault.TheVariants as plan
use Rattle.bridge_schema.specs.Readers.{IsReadFault}
use Rattle.net_model.specs.declared.links.Link.{Link}
use Rattle.app_networks.specs.OutputFiles.{folder_path}
use Rattle.app_networks.specs.Folders.{EndsBridge, EndsCommands, EndsReading, EndsRounds, EndsRun, IsMostRounds, SaysCommands, IsStoppedRunFault}

-- The result when `?` returns an error.
pub goes_out : {T E : Type 0} (P : E → Type 0) (r : Result T E) (e : E) → IsErrAnd r (λ y. y ≡ e) → P e → IfErr r P
goes_out P (Ok x) e is p = tt
goes_out P (Err y) e is p = subst P (sym is) p

-- A fault of a call, except out of memory, is the fault of the reading.
fails_is : {Y : Type 0} (e : PlanFault) (read : Result Y PlanFault) → plan_fault_status e ≡ 1 → IsReadFault e read → read ≡ Err e
fails_is plan.Syntax read one fails = fails
fails_is plan.TooLong read one fails = fails
fails_is (plan.UnknownKey section index) read one fails = fails
fails_is (plan.NotAList section) read one fails = fails
fails_is (plan.Missing place) read one fails = fails
fails_is (plan.WrongKind place) read one fails = fails
fails_is (plan.OutOfRange place) read one fails = fails
fails_is (plan.Duplicate section index) read one fails = fails
fails_is (plan.Unresolved place) read one fails = fails
fails_is (plan.TooMany section) read one fails = fails
fails_is (plan.BadList section index f) read one fails = fails
fails_is plan.NoPorts read one fails = fails
fails_is plan.NoMemory read one fails = absurd (omega (arith, one))

-- Refused commands end the reading of a bridge's commands.
pub bridge_commands : {A : Type 0} (p : Plan A) (name folder text : List ℕ) (e : PlanFault) (f : Failure) → IsReadFault e (text_commands p text) → SaysCommands name e f → EndsCommands p name folder f
bridge_commands p name folder text e (fault.Text t) fails says = absurd says
bridge_commands p name folder text e fault.NoMemory fails says = tt
bridge_commands p name folder text e (fault.Run r) fails says = absurd says
bridge_commands p name folder text e (fault.Plan t) fails says = absurd says
bridge_commands p name folder text e (fault.Check t) fails says = absurd says
bridge_commands p name folder text e (fault.Commands t) fails says = absurd says
bridge_commands p name folder text e (fault.Network lines) fails says = (text, e, fails_is e (text_commands p text) says.0 fails, says.1)
bridge_commands p name folder text e (fault.Rounds line) fails says = absurd says
bridge_commands p name folder text e fault.Words fails says = absurd says
bridge_commands p name folder text e (fault.File x) fails says = absurd says

-- A fault of the input of the bridge at an index ends the reading.
pub reading_at : {A : Type 0} (links : List Link) (plans : List (Plan A)) (bridges : List Bridge) (input name folder : List ℕ) (b : ℕ) (p : Plan A) (f : Failure)
    → slice_get plans b ≡ Some p → name ≡ bridge_name bridges b → folder ≡ folder_path input name → EndsBridge links b p name folder f → EndsReading links plans bridges input f
reading_at links plans bridges input name folder b p f there named at ends =
    (b, p, there, subst (λ n. EndsBridge links b p n (folder_path input n) f) named (subst (λ x. EndsBridge links b p name x f) at ends))

-- The plans and links of the network are those of the reading.
pub reading_for : {A : Type 0} (links more : List Link) (ps qs : List (Plan A)) (bridges : List Bridge) (input : List ℕ) (f : Failure)
    → links ≡ more → ps ≡ qs → EndsReading links ps bridges input f → EndsReading more qs bridges input f
reading_for links more ps qs bridges input f joined same ends =
    subst (λ (l : List (Plan _)). EndsReading more l bridges input f) same (subst (λ (l : List Link). EndsReading l ps bridges input f) joined ends)

-- The fault of a stopped run ends the network run.
pub run_stopped : {A : Type 0} (n : NetworkParts A) (bridges : List Bridge) (input output : List ℕ) (picture : Option (List ℕ)) (came : List (BridgeInput A)) (rounds : ℕ) (e : RoundsFault) (f : Failure)
    → AreBridgeInputs n.plans came → IsMostRounds n rounds → StopsNetworkRun n came rounds e → IsStoppedRunFault bridges e f → EndsRun n bridges input output picture f
run_stopped n bridges input output picture came rounds e (fault.Text t) are most stops says = absurd says
run_stopped n bridges input output picture came rounds e fault.NoMemory are most stops says = tt
run_stopped n bridges input output picture came rounds e (fault.Run r) are most stops says = absurd says
run_stopped n bridges input output picture came rounds e (fault.Plan t) are most stops says = absurd says
run_stopped n bridges input output picture came rounds e (fault.Check t) are most stops says = absurd says
run_stopped n bridges input output picture came rounds e (fault.Commands t) are most stops says = absurd says
run_stopped n bridges input output picture came rounds e (fault.Network lines) are most stops says = absurd says
run_stopped n bridges input output picture came rounds e (fault.Rounds line) are most stops says = (came, rounds, e, are, most, stops, says)
run_stopped n bridges input output picture came rounds e fault.Words are most stops says = absurd says
run_stopped n bridges input output picture came rounds e (fault.File x) are most stops says = absurd says

-- Faults that end the job.
pub job_memory : (A : Type 0) (path input output : List ℕ) (picture : Option (List ℕ)) (f : Failure) → f ≡ fault.NoMemory → EndsRounds A path input output picture f
job_memory A path input output picture f e = inl (inl e)

pub job_text : (A : Type 0) (path at input output : List ℕ) (picture : Option (List ℕ)) (f : Failure) → at ≡ path → EndsText at f → EndsRounds A path input output picture f
job_text A path at input output picture f same e = inl (inr (inl (subst (λ p. EndsText p f) same e)))

pub job_plans : (A : Type 0) (path at input output : List ℕ) (picture : Option (List ℕ)) (x : file.Network) (bridges : List Bridge) (f : Failure) → at ≡ path → bridges ≡ x.bridges → EndsPlans A at bridges f → EndsRounds A path input output picture f
job_plans A path at input output picture x bridges f same are e =
    inl (inr (inr (x, inl (subst (λ p. EndsPlans A p x.bridges f) same (subst (λ (b : List Bridge). EndsPlans A at b f) are e)))))

pub job_network : (A : Type 0) (path input output : List ℕ) (picture : Option (List ℕ)) (x : file.Network) (plans : List (Plan A)) (f : Failure) → RefusesNetwork x plans f → EndsRounds A path input output picture f
job_network A path input output picture x plans f e = inl (inr (inr (x, inr (plans, e))))

pub job_run : (A : Type 0) (path input output : List ℕ) (picture : Option (List ℕ)) (x : file.Network) (plans : List (Plan A)) (n : NetworkParts A) (f : Failure) → IsNetworkOfFile x plans n → first_fault n ≡ None → first_misfit n.plans 1 x.streams ≡ None → EndsRun n x.bridges input output picture f → EndsRounds A path input output picture f
job_run A path input output picture x plans n f made none suit e = inr (x, plans, n, made, none, suit, e)
