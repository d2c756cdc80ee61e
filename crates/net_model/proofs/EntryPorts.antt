-- Ports with entries of a handle, one entry more at a time; a hop gets no frames at other ports.
use Rattle.std.proofs.Common.{◌≡◌, ◌<◌, ◌+◌, ℕ, zero, suc, Bool, true, false, ◌&&◌, ◌||◌, List, [], ◌∷◌, length, take, get_or, nat_eq, Option, Some, None, refl, sym, ap, ◌∙◌, arith}
use Rattle.std.specs.Prelude.{slice_get, option_map}
use Rattle.std.specs.List.{list_any}
use Rattle.std.proofs.lemmas.Bool.{and_parts, eqb-true, false≢true, false_from_ne_true}
use Rattle.std.proofs.lemmas.List.Folds.{list_any_more}
use Rattle.std.proofs.Math.Bool.{or-false}
use Rattle.bridge_limits.proofs.Cases.{by_bool}
use Rattle.bridge_limits.proofs.Orders.{same_eq}
use Rattle.bridge_frame.specs.declared.Tag.{Tag}
use Rattle.bridge_ident.specs.declared.StreamEntry.{StreamEntry}
use Rattle.bridge_ident.specs.Identification.{accepts_tag}
use Rattle.bridge_filter.specs.OwnEvents.{is_filter_number}
use Rattle.bridge_config.specs.declared.ports.PortPlan.{PortPlan}
use Rattle.bridge_config.specs.Model.{Plan}
use Rattle.bridge_config.specs.Rules.{find_port}
use Rattle.bridge_config.proofs.PlanPorts.{at_port}
use Rattle.bridge_check.specs.ReachTables.{test_results}
use Rattle.bridge_check.specs.FrameInput.{frame_vid, frame_priority}
use Rattle.bridge_check.proofs.Told.{told_at}
use Rattle.net_model.specs.declared.network_tests.TestedHop.{TestedHop}
use Rattle.net_model.specs.declared.sending_port.FoundFrames.{FoundFrames}
use Rattle.net_model.specs.declared.sending_port.FrameQuery.{FrameQuery}
use Rattle.net_model.specs.Networks.{End}
use Rattle.net_model.specs.NetworkParts.{peer_port, stream_value}
use Rattle.net_model.specs.LinkFrames.{is_feeding_entry, matching_filter, possible_tags}
use Rattle.net_model.specs.FrameSearch.{find_first, first_taken_of_entry, first_taken_of_sender, first_taken_of_sender_port, first_taken_over_link, first_taken_with_tag}
use Rattle.net_model.specs.Faults.{first_taken_at_port, first_taken_at_port_number, has_entry}
use Rattle.net_model.specs.ClosedTest.{has_hop}
use Rattle.net_model.specs.TestedNetwork.{IsTestedHop, tested_parts}
use Rattle.net_model.proofs.Firsts.{none_in}

-- THE FLAGS

told_same : (n : ℕ) (f g : ℕ → Bool) → ((k : ℕ) → k < n → f k ≡ g k) → test_results n f ≡ test_results n g
told_same zero f g h = refl
told_same (suc n) f g h = rw (told_same n f g (λ k lt. h k (omega (arith, lt))), h n (omega arith)) refl

-- True if entry `e` has port `q` and handle `m`.
abbrev gives : ℕ → ℕ → StreamEntry → Bool
gives q m e = nat_eq e.port q && nat_eq e.handle m

-- True if one of these entries has port `q` and handle `m`.
abbrev pub gives_some : List StreamEntry → ℕ → ℕ → Bool
gives_some es q m = list_any (gives q m) es

-- An entry of the handle adds its port.
pub marked_more : (n m : ℕ) (es : List StreamEntry) (k : ℕ) (d : StreamEntry) (ports : List Bool) → k < length es → (get_or es k d).handle ≡ m → ports ≡ test_results n (λ i. gives_some (take k es) (i + 1) m) → test_results n (λ i. get_or ports i false || nat_eq (get_or es k d).port (i + 1)) ≡ test_results n (λ i. gives_some (take (k + 1) es) (i + 1) m)
marked_more n m es k d ports lt own told = told_same n _ _ each
  where
    right_true : (a b : Bool) → b ≡ true → (a && b) ≡ a
    right_true true b h = h
    right_true false b h = refl

    each : (i : ℕ) → i < n → (get_or ports i false || nat_eq (get_or es k d).port (i + 1)) ≡ gives_some (take (k + 1) es) (i + 1) m
    each i below =
        let before : get_or ports i false ≡ gives_some (take k es) (i + 1) m = ap (λ xs. get_or xs i false) told ∙ told_at n i (λ i. gives_some (take k es) (i + 1) m) false below in
        let is : nat_eq (get_or es k d).handle m ≡ true = rw own (same_eq m) in
        rw (before, list_any_more (gives (i + 1) m) es k d lt, right_true (nat_eq (get_or es k d).port (i + 1)) (nat_eq (get_or es k d).handle m) is) refl

-- An entry of another handle adds no port.
pub marked_past : (n m : ℕ) (es : List StreamEntry) (k : ℕ) (d : StreamEntry) → k < length es → ¬ ((get_or es k d).handle ≡ m) → test_results n (λ i. gives_some (take k es) (i + 1) m) ≡ test_results n (λ i. gives_some (take (k + 1) es) (i + 1) m)
marked_past n m es k d lt other =
    let is : nat_eq (get_or es k d).handle m ≡ false = false_from_ne_true (nat_eq (get_or es k d).handle m) (λ e. other (eqb-true (get_or es k d).handle m e)) in
    told_same n _ _ (λ i below. sym (rw (list_any_more (gives (i + 1) m) es k d lt, right_false (nat_eq (get_or es k d).port (i + 1)) (nat_eq (get_or es k d).handle m) is) (or-false (gives_some (take k es) (i + 1) m))))
  where
    right_false : (a b : Bool) → b ≡ false → (a && b) ≡ false
    right_false true b h = h
    right_false false b h = refl

-- A PORT WITHOUT FLAG

left_or : (a b : Bool) → (a || b) ≡ false → a ≡ false
left_or true b h = h
left_or false b h = refl

right_or : (a b : Bool) → (a || b) ≡ false → b ≡ false
right_or true b h = absurd (false≢true (sym h))
right_or false b h = h

-- A hop gets no frames at a port without an entry of its handle.
pub none_at_port : {A : Type 0} (w : FrameQuery) (c : TestedHop A) (q : ℕ) → IsTestedHop c → has_entry c.next.now q c.handle ≡ false → first_taken_at_port_number w (tested_parts c.case) c.stream.now c.hop c.next.now q ≡ None
none_at_port {A} w c q tested none = by_on (find_port c.next.now.ports q) refl
  where
    with_tag : (p : Plan A) (is_hop : ℕ → Bool) (out : ℕ) (on : PortPlan A) (e : StreamEntry) → on.number ≡ q → gives q c.handle e ≡ false → (tag : Option Tag) → first_taken_with_tag w p is_hop out c.next.now on c.hop.filter e tag ≡ None
    with_tag p is_hop out on e at other tag = by_bool (is_feeding_entry c.next.now on c.hop.filter e tag)
        (λ k.
        let (before, number) = and_parts (nat_eq e.port on.number && nat_eq e.vid (frame_vid on tag) && accepts_tag e.tag tag) (is_filter_number c.hop.filter (matching_filter c.next.now (Some e.handle) (frame_priority on tag))) k in
        let (both, _) = and_parts (nat_eq e.port on.number && nat_eq e.vid (frame_vid on tag)) (accepts_tag e.tag tag) before in
        let (port, _) = and_parts (nat_eq e.port on.number) (nat_eq e.vid (frame_vid on tag)) both in
        let here : nat_eq e.port q ≡ true = ap (nat_eq e.port) (sym at) ∙ port in
        let own : e.handle ≡ c.handle = tested.names e.handle (frame_priority on tag) number in
        let is : gives q c.handle e ≡ true = rw (here, own) (same_eq c.handle) in
        absurd (false≢true (sym other ∙ is)))
        (λ k. rw k refl)

    of_entries : (p : Plan A) (is_hop : ℕ → Bool) (out : ℕ) (on : PortPlan A) (es : List StreamEntry) → on.number ≡ q → gives_some es q c.handle ≡ false → find_first (first_taken_of_entry w p is_hop out c.next.now on c.hop.filter) es ≡ None
    of_entries p is_hop out on [] at other = refl
    of_entries p is_hop out on (e ∷ es) at other =
        let here : first_taken_of_entry w p is_hop out c.next.now on c.hop.filter e ≡ None = none_in (first_taken_with_tag w p is_hop out c.next.now on c.hop.filter e) (possible_tags e.vid) (with_tag p is_hop out on e at (left_or (gives q c.handle e) (gives_some es q c.handle) other)) in
        rw here (of_entries p is_hop out on es at (right_or (gives q c.handle e) (gives_some es q c.handle) other))

    of_sender : (e : End) (on : PortPlan A) (o : Option (Plan A)) → on.number ≡ q → first_taken_of_sender w o (stream_value c.stream.now) e c.next.now on c.hop.filter ≡ None
    of_sender e on None at = refl
    of_sender e on (Some p) at = by_out (find_port p.ports e.port)
      where
        by_out : (o : Option (PortPlan A)) → first_taken_of_sender_port w p (has_hop (stream_value c.stream.now) e.bridge) e.port o c.next.now on c.hop.filter ≡ None
        by_out None = refl
        by_out (Some out) = of_entries p (has_hop (stream_value c.stream.now) e.bridge) e.port on c.next.now.streams at none

    over_link : (on : PortPlan A) (o : Option End) → on.number ≡ q → first_taken_over_link w c.case.plans.now (stream_value c.stream.now) o c.next.now on c.hop.filter ≡ None
    over_link on None at = refl
    over_link on (Some e) at = of_sender e on (slice_get c.case.plans.now e.bridge) at

    by_on : (o : Option (PortPlan A)) → find_port c.next.now.ports q ≡ o → option_map {U = ℕ × FoundFrames} (λ (f : FoundFrames). (q, f)) (first_taken_at_port w (tested_parts c.case) c.stream.now c.hop c.next.now o) ≡ None
    by_on None at = refl
    by_on (Some on) at = ap (option_map {U = ℕ × FoundFrames} (λ (f : FoundFrames). (q, f))) (over_link on (peer_port c.case.links.now c.hop.bridge on.number) (at_port c.next.now.ports q on at).number)
