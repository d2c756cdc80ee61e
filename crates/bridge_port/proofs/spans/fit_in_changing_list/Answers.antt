use Rattle.std.proofs.Common.{◌≡◌, ◌+◌, ◌-◌, ◌<◌, ◌≤◌, ℕ, arith, sym, ◌∙◌, subst}
use Rattle.bridge_cycle.specs.Cyclic.{Cyclic}
use Rattle.bridge_cycle.specs.Fits.{Fits, IsFirstFit}
use Rattle.bridge_port.specs.GateSchedule.{Changing, list_opens, opens}
use Rattle.bridge_port.specs.Spans.{open_or_stopped}
use Rattle.bridge_port.proofs.Fitting.{first_across, first_after, first_before, first_behind, lists_over, some_so}
use Rattle.bridge_port.proofs.spans.fit_in_changing_list.Goals as goal

pub returns-then-at-from : goal.returns-then-at-from
returns-then-at-from g c =
    let j = c.args.lists.now in
    let class = c.args.class in
    let late : j.at ≤ c.args.from = subst (λ (n : ℕ). n ≤ c.args.from) c.change_time-at.ensures.at c.if-at-from.true in
    some_so c.fit_in_list.result c.fit_in_list.ensures (λ t fit. first_behind (list_opens j.old class) (list_opens j.new class) (opens (Changing j) class) j.at c.args.occ c.args.from t (lists_over j class) (subst (λ (l : Cyclic ℕ). IsFirstFit (list_opens l class) c.args.occ c.args.from t) c.lists.ensures.new fit) late)

pub returns-in-Some : goal.returns-in-Some
returns-in-Some g c =
    let j = c.args.lists.now in
    let class = c.args.class in
    let first = c.in-Some.first in
    let of_old : IsFirstFit (open_or_stopped (list_opens j.old class) c.change_time-at.result) c.args.occ c.args.from first = subst (λ (l : Cyclic ℕ). IsFirstFit (open_or_stopped (list_opens l class) c.change_time-at.result) c.args.occ c.args.from first) c.lists.ensures.old c.in-Some.ensures.fit in
    let fit : IsFirstFit (open_or_stopped (list_opens j.old class) j.at) c.args.occ c.args.from first = subst (λ (n : ℕ). IsFirstFit (open_or_stopped (list_opens j.old class) n) c.args.occ c.args.from first) c.change_time-at.ensures.at of_old in
    let through : first + c.args.occ ≤ j.at = subst (λ (n : ℕ). first + c.args.occ ≤ n) c.change_time-at.ensures.at c.if-first-occ.true in
    first_before (list_opens j.old class) (list_opens j.new class) (opens (Changing j) class) j.at c.args.occ c.args.from first (lists_over j class) fit through

pub returns-in-Some-fit_in_list : goal.returns-in-Some-fit_in_list
returns-in-Some-fit_in_list g c =
    let j = c.args.lists.now in
    let class = c.args.class in
    let first = c.in-Some.first in
    let at = c.change_time-at.result in
    let need : ℕ = first + c.args.occ - at in
    let of_old : IsFirstFit (open_or_stopped (list_opens j.old class) at) c.args.occ c.args.from first = subst (λ (l : Cyclic ℕ). IsFirstFit (open_or_stopped (list_opens l class) at) c.args.occ c.args.from first) c.lists.ensures.old c.in-Some.ensures.fit in
    let fit : IsFirstFit (open_or_stopped (list_opens j.old class) j.at) c.args.occ c.args.from first = subst (λ (n : ℕ). IsFirstFit (open_or_stopped (list_opens j.old class) n) c.args.occ c.args.from first) c.change_time-at.ensures.at of_old in
    let of_new : IsFirstFit (list_opens j.new class) need at c.in-Some-fit_in_list.behind = subst (λ (l : Cyclic ℕ). IsFirstFit (list_opens l class) need at c.in-Some-fit_in_list.behind) c.lists.ensures.new c.in-Some-fit_in_list.ensures in
    let is : c.in-Some-fit_in_list.behind ≡ j.at = c.if-behind-at.true ∙ c.change_time-at.ensures.at in
    let behind : Fits (list_opens j.new class) need j.at = subst (λ (n : ℕ). Fits (list_opens j.new class) need n) is of_new.fits in
    let over = c.if-first-occ.false in
    let same = c.change_time-at.ensures.at in
    first_across (list_opens j.old class) (list_opens j.new class) (opens (Changing j) class) j.at c.args.occ need c.args.from first (lists_over j class) fit (omega (arith, over, same)) behind

pub returns-in-Some-2-fit_in_list : goal.returns-in-Some-2-fit_in_list
returns-in-Some-2-fit_in_list g c =
    let j = c.args.lists.now in
    let class = c.args.class in
    let first = c.in-Some.first in
    let at = c.change_time-at.result in
    let need : ℕ = first + c.args.occ - at in
    let of_old : IsFirstFit (open_or_stopped (list_opens j.old class) at) c.args.occ c.args.from first = subst (λ (l : Cyclic ℕ). IsFirstFit (open_or_stopped (list_opens l class) at) c.args.occ c.args.from first) c.lists.ensures.old c.in-Some.ensures.fit in
    let fit : IsFirstFit (open_or_stopped (list_opens j.old class) j.at) c.args.occ c.args.from first = subst (λ (n : ℕ). IsFirstFit (open_or_stopped (list_opens j.old class) n) c.args.occ c.args.from first) c.change_time-at.ensures.at of_old in
    let of_new : IsFirstFit (list_opens j.new class) need at c.in-Some-fit_in_list.behind = subst (λ (l : Cyclic ℕ). IsFirstFit (list_opens l class) need at c.in-Some-fit_in_list.behind) c.lists.ensures.new c.in-Some-fit_in_list.ensures in
    let same = c.change_time-at.ensures.at in
    let over = c.if-first-occ.false in
    let early = c.if-at-from.false in
    let apart = c.if-behind-at.false in
    let after = of_new.after in
    let later : at < c.in-Some-fit_in_list.behind = grind (arith, apart, after) in
    let short : Fits (list_opens j.new class) need j.at → ⊥ = λ f. of_new.least at (omega arith) later (subst (λ (n : ℕ). Fits (list_opens j.new class) need n) (sym same) f) in
    some_so c.fit_in_list-in-Some-2-fit_in_list.result c.fit_in_list-in-Some-2-fit_in_list.ensures (λ t found.
    let of_list : IsFirstFit (list_opens j.new class) c.args.occ at t = subst (λ (l : Cyclic ℕ). IsFirstFit (list_opens l class) c.args.occ at t) c.lists.ensures.new found in
    let there : IsFirstFit (list_opens j.new class) c.args.occ j.at t = subst (λ (n : ℕ). IsFirstFit (list_opens j.new class) c.args.occ n t) same of_list in
    first_after (list_opens j.old class) (list_opens j.new class) (opens (Changing j) class) j.at c.args.occ need c.args.from first t (lists_over j class) fit (omega (arith, over, same)) (omega (arith, early, same)) short there)
