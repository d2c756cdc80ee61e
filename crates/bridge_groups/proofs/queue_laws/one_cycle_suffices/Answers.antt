use Rattle.bridge_groups.proofs.Cycles as rounds
use Rattle.bridge_groups.proofs.queue_laws.one_cycle_suffices.Goals as goal

pub returns-clause-bound : goal.returns-clause-bound
returns-clause-bound c = λ opens occ least b cycle n curve repeats some one fits low slow within. rounds.by_one_cycle opens occ cycle repeats some least curve b n one fits low slow within

pub returns-clause-fits : goal.returns-clause-fits
returns-clause-fits c = λ opens occ cycle n at repeats some one here nth. rounds.has_fits_in opens occ cycle repeats some n at here nth one
