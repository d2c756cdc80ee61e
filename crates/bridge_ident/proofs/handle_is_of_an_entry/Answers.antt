use Rattle.bridge_ident.proofs.Entries.{given}
use Rattle.bridge_ident.proofs.handle_is_of_an_entry.Goals as goal

pub returns : goal.returns
returns c = λ entries port vid h head has. given entries port head vid h has
