use Rattle.std.proofs.Common.{arith, rules}
use Rattle.app_files.proofs.Folders.{folder}
use Rattle.app_files.proofs.paths.parent_folder.Goals as goal

pub returns-in-Some : goal.returns-in-Some
returns-in-Some c =
    let here = folder 47 c.args.path.now c.rsplit_once.result c.rsplit_once.ensures.cases (omega arith) in
    rw (← here) (grind rules)

pub returns-in-None : goal.returns-in-None
returns-in-None c =
    let here = folder 47 c.args.path.now c.rsplit_once.result c.rsplit_once.ensures.cases (omega arith) in
    rw (← here) (grind rules)
