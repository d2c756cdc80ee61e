-- Rows of the groups whose frames may loop.
use Rattle.std.proofs.Common.{◌≡◌, ◌<◌, ◌+◌, ℕ, List, [], ◌∷◌, ◌++◌, take, length, get_or, sym, subst, inl, inr, Result, Ok, Err, IfOk, Vec}
use Rattle.std.proofs.lemmas.List.{take_more}
use Rattle.bridge_limits.specs.Members.{IsMember, IsOrdered}
use Rattle.bridge_limits.proofs.Members.{in_end, in_left, in_push, rising_push}
use Rattle.bridge_config.specs.Model.{Plan}
use Rattle.net_model.specs.declared.links.Link.{Link}
use Rattle.net_model.specs.declared.links.BridgePort.{BridgePort}
use Rattle.net_model.proofs.Filtered.{in_take}
use Rattle.net_model.specs.declared.frame_groups.FrameGroup.{FrameGroup}
use Rattle.net_model.specs.declared.forwarding_loop.ForwardingLoop.{ForwardingLoop}
use Rattle.net_model.specs.FrameGroups.{Differ, all_groups}
use Rattle.net_model.specs.ForwardingLoops.{AreForwardingLoops, AreGroupLoops, DifferInGroup, AddsGroupLoop, MayLoop}
use Rattle.net_model.proofs.AllGroups.{all_named_once, earlier_at}
use Rattle.net_model.proofs.Named.{is_among_all}

-- No groups have no loops.
pub told_none : {A : Type 0} (plans : List (Plan A)) (links : List Link) → AreGroupLoops plans links [] []
told_none plans links = record { sound = λ c i. absurd i; listed = λ c i. absurd i; once = tt; told = λ g x i. absurd i }

-- The groups up to an index are among the groups with one more.
still_in : (groups : List FrameGroup) (i : ℕ) (d g : FrameGroup) → i < length groups → IsMember g (take i groups) → IsMember g (take (i + 1) groups)
still_in groups i d g less j = subst (λ gs. IsMember g gs) (sym (take_more groups i d less)) (in_left g (take i groups) (get_or groups i d ∷ []) j)

-- The group at the index is among them.
also_in : (groups : List FrameGroup) (i : ℕ) (d : FrameGroup) → i < length groups → IsMember (get_or groups i d) (take (i + 1) groups)
also_in groups i d less = subst (λ gs. IsMember (get_or groups i d) gs) (sym (take_more groups i d less)) (in_end (get_or groups i d) (take i groups))

-- A group more, whose frames can't loop.
pub told_still : {A : Type 0} (plans : List (Plan A)) (links : List Link) (groups : List FrameGroup) (rows : List ForwardingLoop) (i : ℕ) (d : FrameGroup) → i < length groups
    → ((x : BridgePort) → ¬ MayLoop plans links (get_or groups i d) x) → AreGroupLoops plans links (take i groups) rows → AreGroupLoops plans links (take (i + 1) groups) rows
told_still plans links groups rows i d less none are = record {
  sound = λ c j. are.sound c j;
  listed = λ c j. still_in groups i d c.group less (are.listed c j);
  once = are.once;
  told = λ g x j round. elim (in_take groups i d g less j) [
    | inl old ↦ are.told g x old round
    | inr e ↦ absurd (none x (subst (λ h. MayLoop plans links h x) e round))
  ];
}

-- A group more, whose frames may loop, with its row.
pub told_more : {A : Type 0} (plans : List (Plan A)) (links : List Link) (groups : List FrameGroup) (rows more : List ForwardingLoop) (i : ℕ) (d : FrameGroup) (at : BridgePort) → i < length groups → IsOrdered Differ groups
    → MayLoop plans links (get_or groups i d) at → more ≡ rows ++ record { group = get_or groups i d; at = at } ∷ [] → AreGroupLoops plans links (take i groups) rows → AreGroupLoops plans links (take (i + 1) groups) more
told_more plans links groups rows more i d at less own may is are = rw is (
    let new : ForwardingLoop = record { group = get_or groups i d; at = at } in
    record {
      sound = λ c j. elim (in_push c new rows j) [
        | inl old ↦ are.sound c old
        | inr last ↦ subst (λ r. MayLoop plans links r.group r.at) (sym last) may
      ];
      listed = λ c j. elim (in_push c new rows j) [
        | inl old ↦ still_in groups i d c.group less (are.listed c old)
        | inr last ↦ subst (λ r. IsMember r.group (take (i + 1) groups)) (sym last) (also_in groups i d less)
      ];
      once = rising_push DifferInGroup rows new are.once (λ c j. earlier_at Differ groups i d c.group less own (are.listed c j));
      told = λ g x j round. elim (in_take groups i d g less j) [
        | inl old ↦ let h = are.told g x old round in record { row = h.row; listed = in_left h.row rows (new ∷ []) h.listed; is = h.is }
        | inr e ↦ record { row = new; listed = in_end new rows; is = sym e }
      ];
    })

-- The rows of all named groups.
pub told_all : {A : Type 0} (plans : List (Plan A)) (links : List Link) (groups : List FrameGroup) (rows : List ForwardingLoop) → groups ≡ all_groups plans → AreGroupLoops plans links groups rows → AreForwardingLoops plans links rows
told_all plans links groups rows is are = record {
  sound = are.sound;
  named = λ c j. (all_named_once plans).named c.group (subst (IsMember c.group) is (are.listed c j));
  once = are.once;
  told = λ g x named round. are.told g x (subst (IsMember g) (sym is) (is_among_all plans g named)) round;
}

-- All groups differ.
pub all_once : {A : Type 0} (plans : List (Plan A)) (groups : List FrameGroup) → groups ≡ all_groups plans → IsOrdered Differ groups
all_once plans groups is = subst (IsOrdered Differ) (sym is) (all_named_once plans).once

-- A group more, with its row if its frames may loop.
pub told_next : {A : Type 0} (plans : List (Plan A)) (links : List Link) (groups : List FrameGroup) (rows more : List ForwardingLoop) (i : ℕ) (d : FrameGroup) → i < length groups → IsOrdered Differ groups
    → AddsGroupLoop plans links (get_or groups i d) rows more → AreGroupLoops plans links (take i groups) rows → AreGroupLoops plans links (take (i + 1) groups) more
told_next plans links groups rows more i d less own (inl (x, may, is)) are = told_more plans links groups rows more i d x less own may is are
told_next plans links groups rows more i d less own (inr (none, is)) are = rw is (told_still plans links groups rows i d less none are)

-- The result has the rows of all named groups, unless memory ran out.
pub rows_all : {A E : Type 0} (plans : List (Plan A)) (links : List Link) (groups : List FrameGroup) (r : Result (Vec ForwardingLoop A) E) → groups ≡ all_groups plans
    → IfOk r (λ rows. AreGroupLoops plans links groups rows.items) → IfOk r (λ rows. AreForwardingLoops plans links rows.items)
rows_all plans links groups (Ok rows) is are = told_all plans links groups rows.items is are
rows_all plans links groups (Err e) is are = tt
