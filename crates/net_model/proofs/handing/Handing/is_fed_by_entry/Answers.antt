use Rattle.std.proofs.Common.{◌&&◌, Bool, None, ap, sym}
use Rattle.std.proofs.lemmas.List.Folds.{list_all-append}
use Rattle.net_model.specs.LinkFrames.{tags_by_priority}
use Rattle.net_model.specs.Handed.{hands_tag}
use Rattle.net_model.proofs.handing.Handing.is_fed_by_entry.Goals as goal

pub returns : goal.returns
returns g c =
    let f = hands_tag c.args.self.now c.args.entry.now c.args.from.now in
    rw (c.hands_tag-untagged.ensures, c.hands_tagged-priority.ensures, c.hands_tagged-tagged.ensures)
    (sym (ap (λ (b : Bool). f None && b) (list_all-append f (tags_by_priority 0) (tags_by_priority c.args.entry.now.vid))))
