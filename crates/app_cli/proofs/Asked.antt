-- The command that the arguments request.
use Rattle.std.proofs.Common.{◌≡◌, ◌≢◌, ◌∙◌, ℕ, List, [], Option, Some, option_map, Result, Ok, Err, IfOk, sym, ap, subst, inl, inr, refl, rules, string_bytes, codes}
use Rattle.bridge_frame.specs.declared.Speed.{Speed}
use Rattle.clap.specs.Words.{Row, Text, fault_of, subcommand_of}
use Rattle.clap.specs.declared.error.kind.ErrorKind.{ErrorKind}
use Rattle.clap.specs.declared.error.kind.ErrorKind.TheVariants as kind
use Rattle.clap.proofs.OnLiterals.{clap_on_literals}
use Rattle.app_cli.specs.declared.job.Command.{Command}
use Rattle.app_cli.specs.declared.job.Command.TheVariants as job
use Rattle.app_cli.specs.CommandLine.{AsksFor, AsksForBounds, AsksForCheck, AsksForNetwork, AsksForNetworkRun, AsksForPicture, AsksForRun, AsksForWire, IsBoundsJob, IsCheckJob, IsNetworkJob, IsPictureJob, IsRunJob, IsWireJob, commands, fault_of_kind}
use Rattle.app_cli.specs.declared.words_fault.ArgumentsFault.{ArgumentsFault}
use Rattle.app_cli.specs.declared.words_fault.ArgumentsFault.TheVariants as fault
use Rattle.app_cli.specs.Helping.{IsHelp}

-- A command that was found has one name and one list of values.
named_so : (name : Text) (found : Option (Text × List Row)) (other : Text) (own : List Row) → option_map (λ p. p.0) found ≡ Some name → found ≡ Some (other, own) → name ≡ other
named_so name found other own named is =
    let same : Some name ≡ Some other = sym named ∙ ap (option_map (λ p. p.0)) is in
    cc

values_so : (values : List Row) (found : Option (Text × List Row)) (other : Text) (own : List Row) → option_map (λ p. p.1) found ≡ Some values → found ≡ Some (other, own) → own ≡ values
values_so values found other own rows is =
    let same : Some own ≡ Some values = sym (ap (option_map (λ p. p.1)) is) ∙ rows in
    cc

-- Arguments that name a command request no job, if its values request none.
pub asks_for_none : (words : List Text) (name : Text) (values : List Row) (found : Option (Text × List Row)) → ¬ (words ≡ []) → found ≡ subcommand_of commands words → option_map (λ p. p.0) found ≡ Some name → option_map (λ p. p.1) found ≡ Some values
    → (name ≡ codes "wire" → (speed : Speed) (room : ℕ) (input output : Text) → ¬ AsksForWire values speed room input output)
    → (name ≡ codes "check" → (plan : Text) → ¬ AsksForCheck values plan)
    → (name ≡ codes "run" → (plan input output : Text) (commands : Option Text) → ¬ AsksForRun values plan input output commands)
    → (name ≡ codes "picture" → (plan file : Text) → ¬ AsksForPicture values plan file)
    → (name ≡ codes "bounds" → (plan : Text) (traffic : Option Text) → ¬ AsksForBounds values plan traffic)
    → (name ≡ codes "net" → (network : Text) → ¬ AsksForNetwork values network)
    → (name ≡ codes "net" → (network input output : Text) (picture : Option Text) → ¬ AsksForNetworkRun values network input output picture)
    → (asked : Command) → ¬ AsksFor words asked
asks_for_none words name values found some same named rows wire check run picture bounds net nets job.Text asks = some asks
asks_for_none words name values found some same named rows wire check run picture bounds net nets (job.Wire speed room input output) (own, names, asks) =
    wire (named_so name found _ own named (same ∙ names.named)) speed room (string_bytes input) (string_bytes output)
    (subst (λ v. AsksForWire v speed room (string_bytes input) (string_bytes output)) (values_so values found _ own rows (same ∙ names.named)) asks)
asks_for_none words name values found some same named rows wire check run picture bounds net nets (job.Check plan) (own, names, asks) =
    check (named_so name found _ own named (same ∙ names.named)) (string_bytes plan)
    (subst (λ v. AsksForCheck v (string_bytes plan)) (values_so values found _ own rows (same ∙ names.named)) asks)
asks_for_none words name values found some same named rows wire check run picture bounds net nets (job.Run plan input output file) (own, names, asks) =
    run (named_so name found _ own named (same ∙ names.named)) (string_bytes plan) (string_bytes input) (string_bytes output) (option_map string_bytes file)
    (subst (λ v. AsksForRun v (string_bytes plan) (string_bytes input) (string_bytes output) (option_map string_bytes file)) (values_so values found _ own rows (same ∙ names.named)) asks)
asks_for_none words name values found some same named rows wire check run picture bounds net nets (job.Picture plan file) (own, names, asks) =
    picture (named_so name found _ own named (same ∙ names.named)) (string_bytes plan) (string_bytes file)
    (subst (λ v. AsksForPicture v (string_bytes plan) (string_bytes file)) (values_so values found _ own rows (same ∙ names.named)) asks)
asks_for_none words name values found some same named rows wire check run picture bounds net nets (job.Bounds plan traffic) (own, names, asks) =
    bounds (named_so name found _ own named (same ∙ names.named)) (string_bytes plan) (option_map string_bytes traffic)
    (subst (λ v. AsksForBounds v (string_bytes plan) (option_map string_bytes traffic)) (values_so values found _ own rows (same ∙ names.named)) asks)
asks_for_none words name values found some same named rows wire check run picture bounds net nets (job.Network network) (own, names, asks) =
    net (named_so name found _ own named (same ∙ names.named)) (string_bytes network)
    (subst (λ v. AsksForNetwork v (string_bytes network)) (values_so values found _ own rows (same ∙ names.named)) asks)
asks_for_none words name values found some same named rows wire check run picture bounds net nets (job.RunNetwork network input output file) (own, names, asks) =
    nets (named_so name found _ own named (same ∙ names.named)) (string_bytes network) (string_bytes input) (string_bytes output) (option_map string_bytes file)
    (subst (λ v. AsksForNetworkRun v (string_bytes network) (string_bytes input) (string_bytes output) (option_map string_bytes file)) (values_so values found _ own rows (same ∙ names.named)) asks)

-- The names of the commands differ.
wire_check : ¬ (codes "wire" ≡ codes "check")
wire_check = search rules

wire_run : ¬ (codes "wire" ≡ codes "run")
wire_run = search rules

wire_picture : ¬ (codes "wire" ≡ codes "picture")
wire_picture = search rules

wire_bounds : ¬ (codes "wire" ≡ codes "bounds")
wire_bounds = search rules

wire_net : ¬ (codes "wire" ≡ codes "net")
wire_net = search rules

check_run : ¬ (codes "check" ≡ codes "run")
check_run = search rules

check_picture : ¬ (codes "check" ≡ codes "picture")
check_picture = search rules

check_bounds : ¬ (codes "check" ≡ codes "bounds")
check_bounds = search rules

check_net : ¬ (codes "check" ≡ codes "net")
check_net = search rules

run_picture : ¬ (codes "run" ≡ codes "picture")
run_picture = search rules

run_bounds : ¬ (codes "run" ≡ codes "bounds")
run_bounds = search rules

run_net : ¬ (codes "run" ≡ codes "net")
run_net = search rules

picture_bounds : ¬ (codes "picture" ≡ codes "bounds")
picture_bounds = search rules

picture_net : ¬ (codes "picture" ≡ codes "net")
picture_net = search rules

bounds_net : ¬ (codes "bounds" ≡ codes "net")
bounds_net = search rules

-- Arguments that name `wire` request no job, if the values request none.
pub no_wire : (words : List Text) (name : Text) (values : List Row) → ¬ (words ≡ []) → subcommand_of commands words ≡ Some (name, values) → name ≡ codes "wire"
    → ((speed : Speed) (room : ℕ) (input output : Text) → ¬ AsksForWire values speed room input output) → (asked : Command) → ¬ AsksFor words asked
no_wire words name values some named is own = asks_for_none words name values _ some refl (ap (option_map (λ p. p.0)) named) (ap (option_map (λ p. p.1)) named)
    (λ e. own) (λ e plan asks. wire_check (sym is ∙ e)) (λ e plan input output commands asks. wire_run (sym is ∙ e)) (λ e plan file asks. wire_picture (sym is ∙ e)) (λ e plan traffic asks. wire_bounds (sym is ∙ e)) (λ e network asks. wire_net (sym is ∙ e)) (λ e network input output picture asks. wire_net (sym is ∙ e))

-- Arguments that name `check` request no job, if the values request none.
pub no_check : (words : List Text) (name : Text) (values : List Row) → ¬ (words ≡ []) → subcommand_of commands words ≡ Some (name, values) → name ≡ codes "check"
    → ((plan : Text) → ¬ AsksForCheck values plan) → (asked : Command) → ¬ AsksFor words asked
no_check words name values some named is own = asks_for_none words name values _ some refl (ap (option_map (λ p. p.0)) named) (ap (option_map (λ p. p.1)) named)
    (λ e speed room input output asks. wire_check (sym e ∙ is)) (λ e. own) (λ e plan input output commands asks. check_run (sym is ∙ e)) (λ e plan file asks. check_picture (sym is ∙ e)) (λ e plan traffic asks. check_bounds (sym is ∙ e)) (λ e network asks. check_net (sym is ∙ e)) (λ e network input output picture asks. check_net (sym is ∙ e))

-- Arguments that name `run` request no job, if the values request none.
pub no_run : (words : List Text) (name : Text) (values : List Row) → ¬ (words ≡ []) → subcommand_of commands words ≡ Some (name, values) → name ≡ codes "run"
    → ((plan input output : Text) (commands : Option Text) → ¬ AsksForRun values plan input output commands) → (asked : Command) → ¬ AsksFor words asked
no_run words name values some named is own = asks_for_none words name values _ some refl (ap (option_map (λ p. p.0)) named) (ap (option_map (λ p. p.1)) named)
    (λ e speed room input output asks. wire_run (sym e ∙ is)) (λ e plan asks. check_run (sym e ∙ is)) (λ e. own) (λ e plan file asks. run_picture (sym is ∙ e)) (λ e plan traffic asks. run_bounds (sym is ∙ e)) (λ e network asks. run_net (sym is ∙ e)) (λ e network input output picture asks. run_net (sym is ∙ e))

-- Arguments that name `picture` request no job, if the values request none.
pub no_picture : (words : List Text) (name : Text) (values : List Row) → ¬ (words ≡ []) → subcommand_of commands words ≡ Some (name, values) → name ≡ codes "picture"
    → ((plan file : Text) → ¬ AsksForPicture values plan file) → (asked : Command) → ¬ AsksFor words asked
no_picture words name values some named is own = asks_for_none words name values _ some refl (ap (option_map (λ p. p.0)) named) (ap (option_map (λ p. p.1)) named)
    (λ e speed room input output asks. wire_picture (sym e ∙ is)) (λ e plan asks. check_picture (sym e ∙ is)) (λ e plan input output commands asks. run_picture (sym e ∙ is)) (λ e. own) (λ e plan traffic asks. picture_bounds (sym is ∙ e)) (λ e network asks. picture_net (sym is ∙ e)) (λ e network input output picture asks. picture_net (sym is ∙ e))

-- Arguments that name `bounds` request no job, if the values request none.
pub no_bounds : (words : List Text) (name : Text) (values : List Row) → ¬ (words ≡ []) → subcommand_of commands words ≡ Some (name, values) → name ≡ codes "bounds"
    → ((plan : Text) (traffic : Option Text) → ¬ AsksForBounds values plan traffic) → (asked : Command) → ¬ AsksFor words asked
no_bounds words name values some named is own = asks_for_none words name values _ some refl (ap (option_map (λ p. p.0)) named) (ap (option_map (λ p. p.1)) named)
    (λ e speed room input output asks. wire_bounds (sym e ∙ is)) (λ e plan asks. check_bounds (sym e ∙ is)) (λ e plan input output commands asks. run_bounds (sym e ∙ is)) (λ e plan file asks. picture_bounds (sym e ∙ is)) (λ e. own) (λ e network asks. bounds_net (sym is ∙ e)) (λ e network input output picture asks. bounds_net (sym is ∙ e))

-- Arguments that name `net` request no job, if the values request none.
pub no_net : (words : List Text) (name : Text) (values : List Row) → ¬ (words ≡ []) → subcommand_of commands words ≡ Some (name, values) → name ≡ codes "net"
    → ((network : Text) → ¬ AsksForNetwork values network) → ((network input output : Text) (picture : Option Text) → ¬ AsksForNetworkRun values network input output picture) → (asked : Command) → ¬ AsksFor words asked
no_net words name values some named is own nets = asks_for_none words name values _ some refl (ap (option_map (λ p. p.0)) named) (ap (option_map (λ p. p.1)) named)
    (λ e speed room input output asks. wire_net (sym e ∙ is)) (λ e plan asks. check_net (sym e ∙ is)) (λ e plan input output commands asks. run_net (sym e ∙ is)) (λ e plan file asks. picture_net (sym e ∙ is)) (λ e plan traffic asks. bounds_net (sym e ∙ is)) (λ e. own) (λ e. nets)

-- A job of `wire` is the job that the arguments request.
pub of_wire : (words : List Text) (name : Text) (values : List Row) (r : Result Command ArgumentsFault) → fault_of commands words ≡ [] → subcommand_of commands words ≡ Some (name, values) → name ≡ codes "wire"
    → IfOk r (IsWireJob values) → IfOk r (AsksFor words)
of_wire words name values (Err fault) taken named is ok = tt
of_wire words name values (Ok job.Text) taken named is ok = absurd ok
of_wire words name values (Ok (job.Wire speed room input output)) taken named is ok = (values, (record { faultless = taken; named = subst (λ n. subcommand_of commands words ≡ Some (n, values)) is named }), ok)
of_wire words name values (Ok (job.Check plan)) taken named is ok = absurd ok
of_wire words name values (Ok (job.Run plan input output file)) taken named is ok = absurd ok
of_wire words name values (Ok (job.Picture plan file)) taken named is ok = absurd ok
of_wire words name values (Ok (job.Bounds plan traffic)) taken named is ok = absurd ok
of_wire words name values (Ok (job.Network network)) taken named is ok = absurd ok
of_wire words name values (Ok (job.RunNetwork network input output picture)) taken named is ok = absurd ok

-- A job of `check` is the job that the arguments request.
pub of_check : (words : List Text) (name : Text) (values : List Row) (r : Result Command ArgumentsFault) → fault_of commands words ≡ [] → subcommand_of commands words ≡ Some (name, values) → name ≡ codes "check"
    → IfOk r (IsCheckJob values) → IfOk r (AsksFor words)
of_check words name values (Err fault) taken named is ok = tt
of_check words name values (Ok job.Text) taken named is ok = absurd ok
of_check words name values (Ok (job.Wire speed room input output)) taken named is ok = absurd ok
of_check words name values (Ok (job.Check plan)) taken named is ok = (values, (record { faultless = taken; named = subst (λ n. subcommand_of commands words ≡ Some (n, values)) is named }), ok)
of_check words name values (Ok (job.Run plan input output file)) taken named is ok = absurd ok
of_check words name values (Ok (job.Picture plan file)) taken named is ok = absurd ok
of_check words name values (Ok (job.Bounds plan traffic)) taken named is ok = absurd ok
of_check words name values (Ok (job.Network network)) taken named is ok = absurd ok
of_check words name values (Ok (job.RunNetwork network input output picture)) taken named is ok = absurd ok

-- A job of `run` is the job that the arguments request.
pub of_run : (words : List Text) (name : Text) (values : List Row) (r : Result Command ArgumentsFault) → fault_of commands words ≡ [] → subcommand_of commands words ≡ Some (name, values) → name ≡ codes "run"
    → IfOk r (IsRunJob values) → IfOk r (AsksFor words)
of_run words name values (Err fault) taken named is ok = tt
of_run words name values (Ok job.Text) taken named is ok = absurd ok
of_run words name values (Ok (job.Wire speed room input output)) taken named is ok = absurd ok
of_run words name values (Ok (job.Check plan)) taken named is ok = absurd ok
of_run words name values (Ok (job.Run plan input output file)) taken named is ok = (values, (record { faultless = taken; named = subst (λ n. subcommand_of commands words ≡ Some (n, values)) is named }), ok)
of_run words name values (Ok (job.Picture plan file)) taken named is ok = absurd ok
of_run words name values (Ok (job.Bounds plan traffic)) taken named is ok = absurd ok
of_run words name values (Ok (job.Network network)) taken named is ok = absurd ok
of_run words name values (Ok (job.RunNetwork network input output picture)) taken named is ok = absurd ok

-- A job of `picture` is the job that the arguments request.
pub of_picture : (words : List Text) (name : Text) (values : List Row) (r : Result Command ArgumentsFault) → fault_of commands words ≡ [] → subcommand_of commands words ≡ Some (name, values) → name ≡ codes "picture"
    → IfOk r (IsPictureJob values) → IfOk r (AsksFor words)
of_picture words name values (Err fault) taken named is ok = tt
of_picture words name values (Ok job.Text) taken named is ok = absurd ok
of_picture words name values (Ok (job.Wire speed room input output)) taken named is ok = absurd ok
of_picture words name values (Ok (job.Check plan)) taken named is ok = absurd ok
of_picture words name values (Ok (job.Run plan input output file)) taken named is ok = absurd ok
of_picture words name values (Ok (job.Picture plan file)) taken named is ok = (values, (record { faultless = taken; named = subst (λ n. subcommand_of commands words ≡ Some (n, values)) is named }), ok)
of_picture words name values (Ok (job.Bounds plan traffic)) taken named is ok = absurd ok
of_picture words name values (Ok (job.Network network)) taken named is ok = absurd ok
of_picture words name values (Ok (job.RunNetwork network input output picture)) taken named is ok = absurd ok

-- A job of `bounds` is the job that the arguments request.
pub of_bounds : (words : List Text) (name : Text) (values : List Row) (r : Result Command ArgumentsFault) → fault_of commands words ≡ [] → subcommand_of commands words ≡ Some (name, values) → name ≡ codes "bounds"
    → IfOk r (IsBoundsJob values) → IfOk r (AsksFor words)
of_bounds words name values (Err fault) taken named is ok = tt
of_bounds words name values (Ok job.Text) taken named is ok = absurd ok
of_bounds words name values (Ok (job.Wire speed room input output)) taken named is ok = absurd ok
of_bounds words name values (Ok (job.Check plan)) taken named is ok = absurd ok
of_bounds words name values (Ok (job.Run plan input output file)) taken named is ok = absurd ok
of_bounds words name values (Ok (job.Picture plan file)) taken named is ok = absurd ok
of_bounds words name values (Ok (job.Bounds plan traffic)) taken named is ok = (values, (record { faultless = taken; named = subst (λ n. subcommand_of commands words ≡ Some (n, values)) is named }), ok)
of_bounds words name values (Ok (job.Network network)) taken named is ok = absurd ok
of_bounds words name values (Ok (job.RunNetwork network input output picture)) taken named is ok = absurd ok

-- A job of `net` is the job that the arguments request.
pub of_net : (words : List Text) (name : Text) (values : List Row) (r : Result Command ArgumentsFault) → fault_of commands words ≡ [] → subcommand_of commands words ≡ Some (name, values) → name ≡ codes "net"
    → IfOk r (IsNetworkJob values) → IfOk r (AsksFor words)
of_net words name values (Err fault) taken named is ok = tt
of_net words name values (Ok job.Text) taken named is ok = absurd ok
of_net words name values (Ok (job.Wire speed room input output)) taken named is ok = absurd ok
of_net words name values (Ok (job.Check plan)) taken named is ok = absurd ok
of_net words name values (Ok (job.Run plan input output file)) taken named is ok = absurd ok
of_net words name values (Ok (job.Picture plan file)) taken named is ok = absurd ok
of_net words name values (Ok (job.Bounds plan traffic)) taken named is ok = absurd ok
of_net words name values (Ok (job.Network network)) taken named is ok = (values, (record { faultless = taken; named = subst (λ n. subcommand_of commands words ≡ Some (n, values)) is named }), ok)
of_net words name values (Ok (job.RunNetwork network input output picture)) taken named is ok = (values, (record { faultless = taken; named = subst (λ n. subcommand_of commands words ≡ Some (n, values)) is named }), ok)

-- The empty list of arguments is valid.
no_words : fault_of commands [] ≡ []
unfolding clap_on_literals
no_words = refl

no_help : ¬ IsHelp []
no_help (inl help) = help
no_help (inr version) = version

-- Arguments that request help or the version request no job.
pub no_job : (words : List Text) (asked : Command) → IsHelp (fault_of commands words) → ¬ AsksFor words asked
no_job words job.Text help asks = no_help (subst IsHelp (ap (fault_of commands) asks ∙ no_words) help)
no_job words (job.Wire speed room input output) help (own, names, asks) = no_help (subst IsHelp names.faultless help)
no_job words (job.Check plan) help (own, names, asks) = no_help (subst IsHelp names.faultless help)
no_job words (job.Run plan input output file) help (own, names, asks) = no_help (subst IsHelp names.faultless help)
no_job words (job.Bounds plan traffic) help (own, names, asks) = no_help (subst IsHelp names.faultless help)
no_job words (job.RunNetwork network input output file) help (own, names, asks) = no_help (subst IsHelp names.faultless help)
no_job words (job.Network network) help (own, names, asks) = no_help (subst IsHelp names.faultless help)
no_job words (job.Picture plan file) help (own, names, asks) = no_help (subst IsHelp names.faultless help)

-- Arguments that request a job are valid.
faultless : (words : List Text) (asked : Command) → AsksFor words asked → fault_of commands words ≡ []
faultless words job.Text asks = ap (fault_of commands) asks ∙ no_words
faultless words (job.Wire speed room input output) (own, names, asks) = names.faultless
faultless words (job.Check plan) (own, names, asks) = names.faultless
faultless words (job.Run plan input output file) (own, names, asks) = names.faultless
faultless words (job.Bounds plan traffic) (own, names, asks) = names.faultless
faultless words (job.RunNetwork network input output file) (own, names, asks) = names.faultless
faultless words (job.Network network) (own, names, asks) = names.faultless
faultless words (job.Picture plan file) (own, names, asks) = names.faultless

no_memory : {X : Type 0} (f : ArgumentsFault) (r : Result X ArgumentsFault) → r ≡ Err f → f ≡ fault.NoMemory → r ≡ Err fault.Words → ⊥
no_memory f r fails is same = absurd (cc)

-- Arguments that `clap` refuses, except if memory ran out, request no job.
pub refused_by_clap : {X : Type 0} (words : List Text) (k : ErrorKind) (f : ArgumentsFault) (r : Result X ArgumentsFault) → r ≡ Err f → f ≡ fault_of_kind k → (k ≢ kind.OutOfMemory → fault_of commands words ≢ []) → r ≡ Err fault.Words → (asked : Command) → ¬ AsksFor words asked
refused_by_clap words k f r fails is refused same asked asks = refused (λ memory. no_memory f r fails (is ∙ ap fault_of_kind memory) same) (faultless words asked asks)
