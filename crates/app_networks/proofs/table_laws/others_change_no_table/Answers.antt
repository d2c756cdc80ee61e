use Rattle.app_networks.proofs.Unchanged.{tables_same}
use Rattle.app_networks.proofs.table_laws.others_change_no_table.Goals as goal

pub returns : goal.returns
returns g c = λ f plans n came other_came settled other bounds a b x y made network closed none ran also first one two.
    tables_same f plans n came other_came settled other bounds a b x y made network closed none ran also first one two
