use Rattle.std.proofs.Common.{◌≤◌, length, vec_len, vec_capacity}
use Rattle.bridge_relay.proofs.Viewing.{IsViewing}
use Rattle.bridge_relay.proofs.finish.make_views.Given as goal

abbrev pub invariant-loop-entry : goal.invariant-loop-entry
invariant-loop-entry g l = record {
  viewing : IsViewing l.police l.fn.tables.entries l.tables.entries l.order l.entry-index l.views.items;
  few : vec_len l.views ≤ l.entry-index;
  room : length l.order ≤ vec_capacity l.views;
}
