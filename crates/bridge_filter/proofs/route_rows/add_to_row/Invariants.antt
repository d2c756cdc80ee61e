use Rattle.std.proofs.Common.{◌≡◌, ◌<◌, ◌≤◌, ℕ, length}
use Rattle.bridge_filter.specs.Routes.{slot, add_to_slot, read_row}
use Rattle.bridge_filter.proofs.route_rows.add_to_row.Given as goal

abbrev pub invariant-loop-k : goal.invariant-loop-k
invariant-loop-k l = record {
  size : length l.row ≡ 8;
  before : (c : ℕ) → c < l.k → slot (read_row l.routes l.row) c ≡ add_to_slot (slot (read_row l.routes l.fn.row) c) l.asked l.route c;
  after : (c : ℕ) → l.k ≤ c → slot (read_row l.routes l.row) c ≡ slot (read_row l.routes l.fn.row) c;
}
