-- If the search finds no stray frames, a hop accepts only frames of the stream.
use Rattle.std.proofs.Common.{◌≡◌, ◌↔◌, ◌<◌, ◌+◌, ◌-◌, ℕ, Bool, true, false, not, List, [], ◌∷◌, Option, Some, None, nat_eq, refl, sym, ap, subst, arith, inl, inr}
use Rattle.std.specs.List.{list_all, list_any}
use Rattle.std.proofs.lemmas.Bool.{and_parts, eq-eqb, false≢true}
use Rattle.bridge_limits.specs.Members.{IsMember, has_no_duplicate}
use Rattle.bridge_limits.proofs.Cases.{by_bool}
use Rattle.bridge_limits.proofs.Members.{each_passes, passes_any, each_in}
use Rattle.bridge_frame.specs.declared.Tag.{Tag}
use Rattle.bridge_ident.specs.declared.StreamEntry.{StreamEntry}
use Rattle.bridge_filter.specs.declared.FilterPlan.{FilterPlan}
use Rattle.bridge_config.specs.declared.ports.PortPlan.{PortPlan}
use Rattle.bridge_config.specs.Model.{Plan}
use Rattle.bridge_config.specs.Rules.{ArePorts, IsPlan, IsPort, find_port}
use Rattle.bridge_config.proofs.PlanPorts.{at_port}
use Rattle.bridge_check.specs.FrameInput.{frame_vid, frame_priority}
use Rattle.bridge_check.proofs.Told.{none_below}
use Rattle.net_model.specs.declared.sending_port.FrameQuery.TheVariants.{Strays}
use Rattle.net_model.specs.LinkFrames.{FramePattern, possible_handles, matching_filter, is_safe_filter, can_leave, sends_only_from_ingress, sends_only, possible_tags, is_feeding_entry, frame_pattern, takes_only_with_tag, takes_only}
use Rattle.net_model.specs.FrameSearch.{find_first, frames_if_asked, frames_by_handle, first_frame_on_ingress, first_frame_on_ingress_if_any, first_sent_frame, first_taken_with_tag, first_taken_of_entry, first_taken}
use Rattle.net_model.proofs.Firsts.{none_each, none_of, none_at}

pub all_pass : {X : Type 0} (t : X → Bool) (xs : List X) → ((x : X) → IsMember x xs → t x ≡ true) → list_all t xs ≡ true
all_pass t [] h = refl
all_pass t (x ∷ xs) h = rw (h x (inl refl)) (all_pass t xs (λ y i. h y (inr i)))

-- If the ports have different numbers, each port is found by its number.
own_port : {A : Type 0} (ports : List (PortPlan A)) (on : PortPlan A) → has_no_duplicate (λ (p q : PortPlan A). nat_eq p.number q.number) ports ≡ true → IsMember on ports → find_port ports on.number ≡ Some on
own_port [] on own i = absurd i
own_port (x ∷ xs) on own (inl e) =
    let here : nat_eq x.number on.number ≡ true = eq-eqb x.number on.number (ap (λ z. z.number) (sym e)) in
    rw here (ap Some (sym e))
own_port {A} (x ∷ xs) on own (inr i) =
    let (apart, rest) = and_parts (not (list_any (λ (y : PortPlan A). nat_eq x.number y.number) xs)) (has_no_duplicate (λ (p q : PortPlan A). nat_eq p.number q.number) xs) own in
    by_bool (nat_eq x.number on.number)
    (λ k.
    let any : list_any (λ (y : PortPlan A). nat_eq x.number y.number) xs ≡ true = passes_any (λ (y : PortPlan A). nat_eq x.number y.number) xs on i k in
    let no : false ≡ true = rw any at apart in
    absurd (false≢true no))
    (λ k. rw k (own_port xs on rest i))

pub record IsOwnPort {A : Type 0} (ports : List (PortPlan A)) (on : PortPlan A) : Type 0 where
  pub place : ℕ
  pub below : place < 16
  pub at : find_port ports (place + 1) ≡ Some on

-- Each port of a plan is found by its number.
pub port_found : {A : Type 0} (ports : List (PortPlan A)) (on : PortPlan A) → ArePorts ports → IsMember on ports → IsOwnPort ports on
port_found ports on are i =
    let is : IsPort on = each_in IsPort ports on are.each i in
    let from = is.number_from in
    let to = is.number_to in
    let back : on.number ≡ (on.number - 1) + 1 = omega (arith, from) in
    record { place = on.number - 1; below = omega (arith, from, to); at = subst (λ (q : ℕ). find_port ports q ≡ Some on) back (own_port ports on are.own i) }

not_found : (b : Bool) (m : Option (ℕ × FilterPlan)) (from : ℕ) → frames_if_asked (not b) m from ≡ None → b ≡ true
not_found true m from h = refl
not_found false m from h = absurd (cc)

none_sent : {A : Type 0} (p : Plan A) (is_of_stream : ℕ → Bool) (q : ℕ) (s : FramePattern) (on : PortPlan A) → first_frame_on_ingress Strays p is_of_stream q s on ≡ None → sends_only_from_ingress p is_of_stream q s on ≡ true
none_sent p is_of_stream q s on h = by_bool (can_leave p.database on.number (frame_vid on s.tag) s q)
    (λ k.
    let none : find_first (frames_by_handle Strays p is_of_stream q on.number (frame_priority on s.tag)) (possible_handles p.streams on.number (frame_vid on s.tag) s) ≡ None = rw k at h in
    rw k (all_pass (λ (z : Option ℕ). is_safe_filter p is_of_stream q (matching_filter p z (frame_priority on s.tag))) (possible_handles p.streams on.number (frame_vid on s.tag) s)
    (λ z i. not_found (is_safe_filter p is_of_stream q (matching_filter p z (frame_priority on s.tag))) (matching_filter p z (frame_priority on s.tag)) on.number
    (none_of (frames_by_handle Strays p is_of_stream q on.number (frame_priority on s.tag)) (possible_handles p.streams on.number (frame_vid on s.tag) s) z none i))))
    (λ k. rw k refl)

none_of_sort : {A : Type 0} (p : Plan A) (is_of_stream : ℕ → Bool) (q : ℕ) (s : FramePattern) → IsPlan p → first_sent_frame Strays p is_of_stream q s ≡ None → sends_only p is_of_stream q s ≡ true
none_of_sort p is_of_stream q s plan h = all_pass (sends_only_from_ingress p is_of_stream q s) p.ports (λ on i.
    let own = port_found p.ports on plan.ports i in
    let none : first_frame_on_ingress_if_any Strays p is_of_stream q s (find_port p.ports (own.place + 1)) ≡ None = none_at 16 (λ i. first_frame_on_ingress_if_any Strays p is_of_stream q s (find_port p.ports (i + 1))) h own.place own.below in
    none_sent p is_of_stream q s on (subst (λ o. first_frame_on_ingress_if_any Strays p is_of_stream q s o ≡ None) own.at none))

none_by : {A : Type 0} (p : Plan A) (is_of_stream : ℕ → Bool) (q : ℕ) (next : Plan A) (on : PortPlan A) (n : ℕ) (e : StreamEntry) (tag : Option Tag) → IsPlan p → first_taken_with_tag Strays p is_of_stream q next on n e tag ≡ None → takes_only_with_tag p is_of_stream q next on n e tag ≡ true
none_by p is_of_stream q next on n e tag plan h = by_bool (is_feeding_entry next on n e tag)
    (λ k.
    let none : first_sent_frame Strays p is_of_stream q (frame_pattern e tag) ≡ None = rw k at h in
    rw (k, none_of_sort p is_of_stream q (frame_pattern e tag) plan none) refl)
    (λ k. rw k refl)

-- If the search finds no stray frames, the hop accepts only frames of the stream.
pub none_strays : {A : Type 0} (p : Plan A) (is_of_stream : ℕ → Bool) (q : ℕ) (next : Plan A) (on : PortPlan A) (n : ℕ) → IsPlan p → first_taken Strays p is_of_stream q next on n ≡ None → takes_only p is_of_stream q next on n ≡ true
none_strays p is_of_stream q next on n plan h =
    all_pass (λ (e : StreamEntry). list_all (takes_only_with_tag p is_of_stream q next on n e) (possible_tags e.vid)) next.streams (λ e i.
    let named : first_taken_of_entry Strays p is_of_stream q next on n e ≡ None = none_of (first_taken_of_entry Strays p is_of_stream q next on n) next.streams e h i in
    all_pass (takes_only_with_tag p is_of_stream q next on n e) (possible_tags e.vid) (λ tag j.
    none_by p is_of_stream q next on n e tag plan (none_of (first_taken_with_tag Strays p is_of_stream q next on n e) (possible_tags e.vid) tag named j)))

-- THE CONVERSE

no_stray_found : (b : Bool) (m : Option (ℕ × FilterPlan)) (from : ℕ) → b ≡ true → frames_if_asked (not b) m from ≡ None
no_stray_found true m from h = refl
no_stray_found false m from h = absurd (false≢true h)

sends_none : {A : Type 0} (p : Plan A) (is_of_stream : ℕ → Bool) (q : ℕ) (s : FramePattern) (on : PortPlan A) → sends_only_from_ingress p is_of_stream q s on ≡ true → first_frame_on_ingress Strays p is_of_stream q s on ≡ None
sends_none p is_of_stream q s on h = by_bool (can_leave p.database on.number (frame_vid on s.tag) s q)
    (λ k.
    let all : list_all (λ (z : Option ℕ). is_safe_filter p is_of_stream q (matching_filter p z (frame_priority on s.tag))) (possible_handles p.streams on.number (frame_vid on s.tag) s) ≡ true = rw k at h in
    rw k (none_each (frames_by_handle Strays p is_of_stream q on.number (frame_priority on s.tag)) (possible_handles p.streams on.number (frame_vid on s.tag) s)
    (λ z i. no_stray_found (is_safe_filter p is_of_stream q (matching_filter p z (frame_priority on s.tag))) (matching_filter p z (frame_priority on s.tag)) on.number
    (each_passes (λ (z : Option ℕ). is_safe_filter p is_of_stream q (matching_filter p z (frame_priority on s.tag))) (possible_handles p.streams on.number (frame_vid on s.tag) s) z all i))))
    (λ k. rw k refl)

none_if : {A : Type 0} (p : Plan A) (is_of_stream : ℕ → Bool) (q : ℕ) (s : FramePattern) (k : ℕ) (o : Option (PortPlan A)) → sends_only p is_of_stream q s ≡ true → find_port p.ports k ≡ o → first_frame_on_ingress_if_any Strays p is_of_stream q s o ≡ None
none_if p is_of_stream q s k None h e = refl
none_if p is_of_stream q s k (Some on) h e = sends_none p is_of_stream q s on (each_passes (sends_only_from_ingress p is_of_stream q s) p.ports on h (at_port p.ports k on e).listed)

by_none : {A : Type 0} (p : Plan A) (is_of_stream : ℕ → Bool) (q : ℕ) (next : Plan A) (on : PortPlan A) (n : ℕ) (e : StreamEntry) (tag : Option Tag) → takes_only_with_tag p is_of_stream q next on n e tag ≡ true → first_taken_with_tag Strays p is_of_stream q next on n e tag ≡ None
by_none p is_of_stream q next on n e tag h = by_bool (is_feeding_entry next on n e tag)
    (λ k.
    let only : sends_only p is_of_stream q (frame_pattern e tag) ≡ true = rw k at h in
    rw k (none_below 16 (λ i. first_frame_on_ingress_if_any Strays p is_of_stream q (frame_pattern e tag) (find_port p.ports (i + 1))) (λ i. none_if p is_of_stream q (frame_pattern e tag) (i + 1) (find_port p.ports (i + 1)) only refl)))
    (λ k. rw k refl)

-- If the hop accepts only frames of the stream, the search finds no stray frames.
pub strays_none : {A : Type 0} (p : Plan A) (is_of_stream : ℕ → Bool) (q : ℕ) (next : Plan A) (on : PortPlan A) (n : ℕ) → takes_only p is_of_stream q next on n ≡ true → first_taken Strays p is_of_stream q next on n ≡ None
strays_none p is_of_stream q next on n h =
    none_each (first_taken_of_entry Strays p is_of_stream q next on n) next.streams (λ e i.
    let one : list_all (takes_only_with_tag p is_of_stream q next on n e) (possible_tags e.vid) ≡ true = each_passes (λ (e : StreamEntry). list_all (takes_only_with_tag p is_of_stream q next on n e) (possible_tags e.vid)) next.streams e h i in
    none_each (first_taken_with_tag Strays p is_of_stream q next on n e) (possible_tags e.vid) (λ tag j.
    by_none p is_of_stream q next on n e tag (each_passes (takes_only_with_tag p is_of_stream q next on n e) (possible_tags e.vid) tag one j)))

pub found_exactly : {A : Type 0} (p next : Plan A) (is_of_stream : ℕ → Bool) (q n : ℕ) (on : PortPlan A) → IsPlan p → (first_taken Strays p is_of_stream q next on n ≡ None) ↔ (takes_only p is_of_stream q next on n ≡ true)
found_exactly p next is_of_stream q n on plan = (none_strays p is_of_stream q next on n plan, strays_none p is_of_stream q next on n)
