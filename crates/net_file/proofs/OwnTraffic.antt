-- One row more, whose filter no earlier row has.
use Rattle.std.proofs.Common.{◌≡◌, false, List, [], ◌∷◌, ◌++◌}
use Rattle.std.specs.Prelude.{nat_eq}
use Rattle.bridge_limits.proofs.Lists.{are_own-push, each_push}
use Rattle.net_file.specs.declared.traffic_row.TalkerRow.{TalkerRow}
use Rattle.net_file.specs.TrafficRows.{AreRows, IsTalkerRow, has_filter, row_filter}

pub rows_push : (rows : List TalkerRow) (r : TalkerRow) → AreRows rows → has_filter rows (row_filter r) ≡ false → IsTalkerRow r → AreRows (rows ++ r ∷ [])
rows_push rows r are new is = record {
  each = each_push IsTalkerRow rows r are.each is;
  own = are_own-push (λ r s. nat_eq (row_filter r) (row_filter s)) rows r are.own new;
}
