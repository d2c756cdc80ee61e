-- Repeating starts: if a frame starts whole cycles after the first, all later frames repeat.
use Rattle.std.proofs.Common.{◌≡◌, ℕ, zero, suc, Bool, true, ◌<◌, ◌≤◌, ◌+◌, ◌-◌, ◌*◌, ◌/◌, ◌%◌, Fits, w64, arith, subst, sym}
use Rattle.bridge_cycle.specs.Cyclic.{Cyclic, IsLawful}
use Rattle.bridge_cycle.specs.Fits.{IsFirstFit, IsPeriodic}
use Rattle.bridge_cycle.specs.declared.cyclic_list.TheConstants.{LONGEST_CYCLE}
use Rattle.bridge_cycle.proofs.Lists.{list_repeats}
use Rattle.bridge_port.specs.GateSchedule.{list_can_fit, list_opens}
use Rattle.bridge_port.proofs.Alone.{first_one}
use Rattle.bridge_bounds.specs.Bounds.{FramesEnd}
use Rattle.bridge_bounds.proofs.Steps.{ends_after, ends_alike, ends_from, first_rises}
use Rattle.bridge_bounds.proofs.Edges.{ends_up, first_up}
use Rattle.bridge_bounds.proofs.Lists.{fit_soon}

-- Frames after other frames.
pub ends_join : (opens : ℕ → Bool) (occ a b u v w : ℕ) → FramesEnd opens occ a u v → FramesEnd opens occ b v w → FramesEnd opens occ (a + b) u w
ends_join opens occ a zero u v w e f =
    let none : a ≡ a + zero = omega arith in
    subst (λ (i : ℕ). FramesEnd opens occ i u w) none (subst (FramesEnd opens occ a u) (sym f) e)
ends_join opens occ a (suc b) u v w e (x, s, f, first, is) =
    let one : suc (a + b) ≡ a + suc b = omega arith in
    subst (λ (i : ℕ). FramesEnd opens occ i u w) one (x, s, ends_join opens occ a b u v x e f, first, is)

-- One round more.
next_round : (opens : ℕ → Bool) (cycle occ k n j from end s : ℕ) → IsPeriodic opens cycle → FramesEnd opens occ (suc k) from end → IsFirstFit opens occ from s → IsFirstFit opens occ end (s + n * cycle) → FramesEnd opens occ (suc k) (end + j * n * cycle) (end + suc j * n * cycle)
next_round opens cycle occ k n j from end s r e first next =
    let later : FramesEnd opens occ (suc k) (from + (suc j * n) * cycle) (end + (suc j * n) * cycle) = ends_up opens cycle occ (suc j * n) (suc k) from end r e in
    let there : IsFirstFit opens occ (from + (suc j * n) * cycle) (s + (suc j * n) * cycle) = first_up opens cycle occ (suc j * n) from s r first in
    let here : IsFirstFit opens occ (end + (j * n) * cycle) ((s + n * cycle) + (j * n) * cycle) = first_up opens cycle occ (j * n) end (s + n * cycle) r next in
    let same : (s + n * cycle) + (j * n) * cycle ≡ s + (suc j * n) * cycle = grind arith in
    let on : IsFirstFit opens occ (end + (j * n) * cycle) (s + (suc j * n) * cycle) = subst (IsFirstFit opens occ (end + (j * n) * cycle)) same here in
    ends_alike opens occ k (from + (suc j * n) * cycle) (end + (j * n) * cycle) (end + (suc j * n) * cycle) (λ t f. let is = first_one opens occ (from + (suc j * n) * cycle) (s + (suc j * n) * cycle) t there f in subst (IsFirstFit opens occ (end + (j * n) * cycle)) is on) later

-- `j` rounds.
rounds : (opens : ℕ → Bool) (cycle occ k n j from end s : ℕ) → IsPeriodic opens cycle → FramesEnd opens occ (suc k) from end → IsFirstFit opens occ from s → IsFirstFit opens occ end (s + n * cycle) → FramesEnd opens occ (suc k + j * suc k) from (end + j * n * cycle)
rounds opens cycle occ k n zero from end s r e first next =
    let few : suc k ≡ suc k + zero * suc k = omega arith in
    let near : end ≡ end + zero * n * cycle = omega arith in
    subst (λ (i : ℕ). FramesEnd opens occ i from (end + zero * n * cycle)) few (subst (FramesEnd opens occ (suc k) from) near e)
rounds opens cycle occ k n (suc j) from end s r e first next =
    let before = rounds opens cycle occ k n j from end s r e first next in
    let more = next_round opens cycle occ k n j from end s r e first next in
    let all : (suc k + j * suc k) + suc k ≡ suc k + suc j * suc k = grind arith in
    subst (λ (i : ℕ). FramesEnd opens occ i from (end + suc j * n * cycle)) all (ends_join opens occ (suc k + j * suc k) (suc k) from (end + j * n * cycle) (end + suc j * n * cycle) before more)

-- The next frame starts whole cycles after the first one.
pub whole_rounds : (opens : ℕ → Bool) (cycle occ k whole round from end s : ℕ) → 0 < cycle → IsPeriodic opens cycle → 1 ≤ k → FramesEnd opens occ k from end → IsFirstFit opens occ from s → IsFirstFit opens occ end (s + round) → round % cycle ≡ 0 → FramesEnd opens occ (k + whole * k) from (end + whole * round)
whole_rounds opens cycle occ zero whole round from end s some r one e first next even = absurd (omega (arith, one))
whole_rounds opens cycle occ (suc k) whole round from end s some r one e first next even =
    let n = round / cycle in
    let is : round ≡ n * cycle = omega (arith, even, some) in
    let there : IsFirstFit opens occ end (s + n * cycle) = subst (λ (i : ℕ). IsFirstFit opens occ end (s + i)) is next in
    let all : end + whole * n * cycle ≡ end + whole * round = grind (arith, is) in
    subst (FramesEnd opens occ (suc k + whole * suc k) from) all (rounds opens cycle occ k n whole from end s r e first there)

-- Frames under a list take at most two longest cycles each.
pub ends_soon : (l : Cyclic ℕ) (class occ k u v : ℕ) → IsLawful l → list_can_fit l class occ ≡ true → occ ≤ LONGEST_CYCLE → FramesEnd (list_opens l class) occ k u v → v ≤ u + k * (2 * LONGEST_CYCLE)
ends_soon l class occ zero u v lawful can short e = omega (arith, e)
ends_soon l class occ (suc k) u v lawful can short (w, s, e, first, is) =
    let before = ends_soon l class occ k u w lawful can short e in
    let soon = fit_soon l class occ w s lawful can first in
    omega (arith, before, soon, is, short)

few_rounds : (room done : ℕ) → 1 ≤ done → done ≤ room → done + (room - done) / done * done ≤ room
few_rounds room done some within =
    let divided : done * ((room - done) / done) + (room - done) % done ≡ room - done = omega (arith, some) in
    omega (arith, divided, within)

-- The rounds of a list, and their latest end.
pub list_rounds : (l : Cyclic ℕ) (class occ room done from end s t : ℕ) → IsLawful l → list_can_fit l class occ ≡ true → occ ≤ LONGEST_CYCLE → 1 ≤ done → done ≤ room → FramesEnd (list_opens l class) occ done from end → IsFirstFit (list_opens l class) occ from s → IsFirstFit (list_opens l class) occ end t → (t - s) % l.cycle ≡ 0 → FramesEnd (list_opens l class) occ (done + (room - done) / done * done) from (end + (room - done) / done * (t - s)) × (end + (room - done) / done * (t - s) ≤ from + room * (2 * LONGEST_CYCLE))
list_rounds l class occ room done from end s t lawful can short some within e first next even =
    let opens = list_opens l class in
    let later = ends_after opens occ done from end e in
    let rises = first_rises opens occ occ from end s t (omega arith) later first next in
    let same : t ≡ s + (t - s) = omega (arith, rises) in
    let there : IsFirstFit opens occ end (s + (t - s)) = subst (IsFirstFit opens occ end) same next in
    let ends = whole_rounds opens l.cycle occ done ((room - done) / done) (t - s) from end s lawful.cycle_some (list_repeats l class lawful) some e first there even in
    let soon = ends_soon l class occ (done + (room - done) / done * done) from (end + (room - done) / done * (t - s)) lawful can short ends in
    let few = few_rounds room done some within in
    (ends, at_most (done + (room - done) / done * done) room from (end + (room - done) / done * (t - s)) soon few)
  where
    at_most : (k room from z : ℕ) → z ≤ from + k * (2 * LONGEST_CYCLE) → k ≤ room → z ≤ from + room * (2 * LONGEST_CYCLE)
    at_most k room from z h few = omega (arith, h, few)

-- The frames that are left after the rounds.
pub rounds_and : (opens : ℕ → Bool) (occ room done from v w : ℕ) → 1 ≤ done → done ≤ room → FramesEnd opens occ (done + (room - done) / done * done) from v → FramesEnd opens occ ((room - done) % done) v w → FramesEnd opens occ room from w
rounds_and opens occ room done from v w some within e f =
    let divided : done * ((room - done) / done) + (room - done) % done ≡ room - done = omega (arith, some) in
    let all : done + (room - done) / done * done + (room - done) % done ≡ room = omega (arith, divided, within) in
    subst (λ (i : ℕ). FramesEnd opens occ i from w) all (ends_join opens occ (done + (room - done) / done * done) ((room - done) % done) from v w e f)

-- Frames of one window more.
pub window_more : (l : Cyclic ℕ) (class occ done frames from end start : ℕ) → IsLawful l → list_can_fit l class occ ≡ true → occ ≤ LONGEST_CYCLE → 1 ≤ frames → FramesEnd (list_opens l class) occ done from end → IsFirstFit (list_opens l class) occ end start → FramesEnd (list_opens l class) occ frames start (start + frames * occ) → FramesEnd (list_opens l class) occ (done + frames) from (start + frames * occ) × (start + frames * occ ≤ from + (done + frames) * (2 * LONGEST_CYCLE))
window_more l class occ done frames from end start lawful can short some e first window =
    let opens = list_opens l class in
    let behind = ends_from opens occ frames end start (start + frames * occ) some first window in
    let all = ends_join opens occ done frames from end (start + frames * occ) e behind in
    (all, ends_soon l class occ (done + frames) from (start + frames * occ) lawful can short all)

-- The frames of the first window, and the others behind them.
pub lead_and : (l : Cyclic ℕ) (class occ room lead from start end : ℕ) → IsLawful l → list_can_fit l class occ ≡ true → occ ≤ LONGEST_CYCLE → 1 ≤ lead → lead ≤ room → IsFirstFit (list_opens l class) occ from start → FramesEnd (list_opens l class) occ lead start (start + lead * occ) → FramesEnd (list_opens l class) occ (room - lead) (start + lead * occ) end → FramesEnd (list_opens l class) occ room from end × (from ≤ end) × (end ≤ from + room * (2 * LONGEST_CYCLE))
lead_and l class occ room lead from start end lawful can short some within first window rest =
    let opens = list_opens l class in
    let behind = ends_from opens occ lead from start (start + lead * occ) some first window in
    let all : lead + (room - lead) ≡ room = omega (arith, within) in
    let ends = subst (λ (i : ℕ). FramesEnd opens occ i from end) all (ends_join opens occ lead (room - lead) from (start + lead * occ) end behind rest) in
    (ends, ends_after opens occ room from end ends, ends_soon l class occ room from end lawful can short ends)

-- The end of few frames is a number of 64 bits.
pub fits_soon : (end from k room : ℕ) → end ≤ from + k * (2 * LONGEST_CYCLE) → k ≤ room → room < 65536 → from ≤ 8000000000000000000 → Fits w64 end
fits_soon end from k room soon few most early = omega (arith, soon, few, most, early)
