use Rattle.std.proofs.Common.{◌≡◌, ℕ, Global, IfSome, Option, String, ap, string_bytes, subst, sym, ◌∙◌}
use Rattle.app_networks.specs.Folders.{TellsRunIn}
use Rattle.app_networks.specs.Losing.{TellsRunLosses, has_lines}
use Rattle.app_networks.proofs.job.run_accepted.Goals as goal

pub returns-in-Ok-run_network_folders-clause-rounds : goal.returns-in-Ok-run_network_folders-clause-rounds
returns-in-Ok-run_network_folders-clause-rounds g c =
    let n = c.args.network.now in
    let f = c.args.file.now in
    subst (λ (o : Option (String Global)). IfSome o (λ line. TellsRunIn n f (string_bytes line) c.ran.result.rounds)) (sym c.ran.ensures.line)
    (subst (λ (k : ℕ). TellsRunIn n f (string_bytes c.in-Ok-run_network_folders.lines.line) k) (sym c.ran.ensures.rounds) c.in-Ok-run_network_folders.ensures.rounds)

pub returns-in-Ok-run_network_folders-clause-told : goal.returns-in-Ok-run_network_folders-clause-told
returns-in-Ok-run_network_folders-clause-told g c =
    let n = c.args.network.now in
    let f = c.args.file.now in
    let strict = c.args.flags.is_strict in
    let lines = c.in-Ok-run_network_folders.lines in
    subst (λ (o : Option (String Global)). IfSome o (λ line. TellsRunLosses n f strict (string_bytes line) c.ran.result.rounds (string_bytes c.ran.result.told))) (sym c.ran.ensures.line)
    (subst (λ (t : String Global). TellsRunLosses n f strict (string_bytes lines.line) c.ran.result.rounds (string_bytes t)) (sym c.ran.ensures.told)
    (subst (λ (k : ℕ). TellsRunLosses n f strict (string_bytes lines.line) k (string_bytes lines.lost)) (sym c.ran.ensures.rounds) c.in-Ok-run_network_folders.ensures.lost))

pub returns-in-Ok-run_network_folders-clause-lossy : goal.returns-in-Ok-run_network_folders-clause-lossy
returns-in-Ok-run_network_folders-clause-lossy g c =
    subst (λ (o : Option (String Global)). IfSome o (λ _. c.ran.result.is_lossy ≡ has_lines (string_bytes c.ran.result.told))) (sym c.ran.ensures.line)
    (c.ran.ensures.lossy ∙ sym (ap (λ (t : String Global). has_lines (string_bytes t)) c.ran.ensures.told))
