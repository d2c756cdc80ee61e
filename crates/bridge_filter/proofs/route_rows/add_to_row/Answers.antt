use Rattle.std.proofs.Common.{arith, ℕ, List, Option, ◌<◌, ◌≤◌, ◌+◌, ◌≡◌, ◌∙◌, ap, sym, subst, length-set}
use Rattle.std.specs.Prelude.{slice_get}
use Rattle.std.proofs.lemmas.List.{length-map}
use Rattle.bridge_filter.specs.declared.route.Route.{Route}
use Rattle.bridge_filter.specs.Routes.{slot, add_to_slot, read_row}
use Rattle.bridge_filter.proofs.Rowed.{put_more, put_left, slot-read, read-set}
use Rattle.bridge_filter.proofs.route_rows.add_to_row.Goals as goal

pub loop-k-preserved : goal.loop-k-preserved
loop-k-preserved c =
    let a = c.args in
    let i = c.loop-k.invariant in
    let size = i.size in
    let routes = a.routes.now in
    let k = c.loop-k.k in
    let n = c.add_to_slot.result in
    let was = read_row routes a.row.now in
    let row = read_row routes c.loop-k.row in
    let o = slice_get routes n in
    let is : o ≡ add_to_slot (slot row k) a.asked a.route k = c.add_to_slot.ensures ∙ ap (λ (x : Option Route). add_to_slot x a.asked a.route k) (sym (slot-read routes c.loop-k.row k (omega arith))) in
    let within = length-map c.loop-k.row (λ (j : ℕ). slice_get routes j) in
    record {
      size = length-set c.loop-k.row k n ∙ size;
      before = subst (λ (r : List (Option Route)). (c : ℕ) → c < k + 1 → slot r c ≡ add_to_slot (slot was c) a.asked a.route c) (sym (read-set routes c.loop-k.row k n)) (put_more was row k a.asked a.route o (omega arith) is i.before i.after);
      after = subst (λ (r : List (Option Route)). (c : ℕ) → k + 1 ≤ c → slot r c ≡ slot was c) (sym (read-set routes c.loop-k.row k n)) (put_left was row k o i.after);
    }
