use Rattle.bridge_groups.proofs.Candidates as candidates
use Rattle.bridge_groups.proofs.queue_laws.few_spans_suffice.Goals as goal

pub returns-clause-fit : goal.returns-clause-fit
returns-clause-fit c = λ opens occ least curve b u w some here h. candidates.from_behind opens occ least curve b some u w here h

pub returns-clause-shut : goal.returns-clause-shut
returns-clause-shut c = λ opens occ least curve b u w some shut h. candidates.from_before opens occ least curve b some u w shut h

pub returns-clause-cycle : goal.returns-clause-cycle
returns-clause-cycle c = λ opens occ least curve b cycle n u w some fits low slow h. candidates.in_next_cycle opens occ least curve b some cycle n u w fits low slow h

pub returns-clause-run : goal.returns-clause-run
returns-clause-run c = λ opens occ least curve b u from w n length first some nth run before low reaches slow rises ends within. candidates.in_run opens occ least curve b some u from w n length first nth run before low reaches slow rises ends within
