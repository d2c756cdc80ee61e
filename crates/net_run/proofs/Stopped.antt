-- Causes for which a network run stops, round by round.
use Rattle.std.proofs.Common.{◌≡◌, ℕ, suc, ◌+◌, ◌<◌, List, Some, nat_eq, sym, ap, ◌∙◌, subst, arith}
use Rattle.std.specs.Prelude.{IfErr, OnErr, Result, Ok, Err, slice_get}
use Rattle.std.proofs.lemmas.Bool.{eqb-false, eqb-true}
use Rattle.bridge_limits.proofs.Cases.{by_bool}
use Rattle.net_model.specs.NetworkParts.{NetworkParts}
use Rattle.bridge_capture.specs.declared.fault.RunFault.{RunFault}
use Rattle.net_run.specs.declared.rounds.RoundsFault.{RoundsFault}
use Rattle.net_run.specs.declared.rounds.RoundsFault.TheVariants as fault
use Rattle.net_run.specs.declared.bridge_run.BridgeInput.{BridgeInput}
use Rattle.net_run.specs.BridgeRuns.{AreUpToDate, NeedsRound, HasCompleteRun, HaveRun, BridgeRunState, StopsBridge}
use Rattle.net_run.specs.Rounds.{AreRunsBeforeRound, AreUnsettledBefore, HaveCompleteRunsBefore, IsUnsettledPort, IsFaultAt, SettlesIn, StopsRound, StopsNetworkRun}

-- One round more.
pub before_more : {A : Type 0} (n : NetworkParts A) (came : List (BridgeInput A)) (k b q : ℕ) (xs ys : List (BridgeRunState A)) → AreRunsBeforeRound n came k xs → NeedsRound xs ys b q → AreRunsBeforeRound n came (k + 1) ys
before_more n came k b q xs ys before on =
    let next : suc k ≡ k + 1 = omega arith in
    subst (λ (m : ℕ). AreRunsBeforeRound n came m ys) next (xs, on.between, before, on.ran, on.given)

pub unsettled_more : {A : Type 0} (n : NetworkParts A) (came : List (BridgeInput A)) (k b q : ℕ) (xs ys : List (BridgeRunState A)) → AreRunsBeforeRound n came k xs → NeedsRound xs ys b q → StopsNetworkRun n came (k + 1) (fault.NotSettled b q)
unsettled_more n came k b q xs ys before on =
    let next : suc k ≡ k + 1 = omega arith in
    subst (λ (m : ℕ). StopsNetworkRun n came m (fault.NotSettled b q)) next (xs, on.between, before, on.ran, on.first)

-- A round stops the run.
pub stops_settling : {A : Type 0} (n : NetworkParts A) (came : List (BridgeInput A)) (rounds k : ℕ) (xs : List (BridgeRunState A)) (f : RoundsFault) → AreRunsBeforeRound n came k xs → k < rounds → StopsRound xs f → StopsNetworkRun n came rounds f
stops_settling n came rounds k xs (fault.Bridge b e) before less stops = (k, xs, less, before, stops)
stops_settling n came rounds k xs (fault.NotSettled b q) before less stops = absurd stops
stops_settling n came rounds k xs fault.NoMemory before less stops = tt

-- The first bridge that stops ends the round.
pub stopped_at : {A : Type 0} (xs : List (BridgeRunState A)) (b : ℕ) (x : BridgeRunState A) (e : RunFault) (f : RoundsFault) → slice_get xs b ≡ Some x → StopsBridge x.plan x.ports x.commands x.texts e → HaveCompleteRunsBefore xs b → IsFaultAt b e f → StopsRound xs f
stopped_at xs b x e (fault.Bridge c g) there stops before (same, is, some) =
    (x, ap (slice_get xs) same ∙ there, subst (StopsBridge x.plan x.ports x.commands x.texts) (sym is) stops, some, subst (HaveCompleteRunsBefore xs) (sym same) before)
stopped_at xs b x e (fault.NotSettled c q) there stops before is = absurd is
stopped_at xs b x e fault.NoMemory there stops before is = tt

-- One bridge more has a complete run.
pub complete_more : {A : Type 0} (xs : List (BridgeRunState A)) (b : ℕ) (x : BridgeRunState A) → slice_get xs b ≡ Some x → HasCompleteRun x → HaveCompleteRunsBefore xs b → HaveCompleteRunsBefore xs (b + 1)
complete_more {A} xs b x is run before c less =
    by_bool (nat_eq c b)
    (λ e. (x, ap (slice_get xs) (eqb-true c b e) ∙ is, run))
    (λ e. before c (let apart = eqb-false c b e in omega (arith, less, apart)))

-- After one round more, an input has changed.
pub earlier_more : {A : Type 0} (n : NetworkParts A) (came : List (BridgeInput A)) (k b q : ℕ) (xs ys : List (BridgeRunState A)) → AreRunsBeforeRound n came k xs → NeedsRound xs ys b q → AreUnsettledBefore n came k → AreUnsettledBefore n came (k + 1)
earlier_more n came k b q xs ys before on earlier j less =
    by_bool (nat_eq j k)
    (λ e. (b, q, subst (λ (m : ℕ). IsUnsettledPort n came m b q) (sym (eqb-true j k e)) (xs, on.between, before, on.ran, on.first)))
    (λ e. earlier j (let apart = eqb-false j k e in omega (arith, less, apart)))

-- After this round no input changes, after each earlier round one does.
pub settles_in : {A : Type 0} (n : NetworkParts A) (came : List (BridgeInput A)) (k rounds : ℕ) (xs ys : List (BridgeRunState A)) → rounds ≡ k + 1 → AreRunsBeforeRound n came k xs → HaveRun xs ys → AreUpToDate ys → AreUnsettledBefore n came k → SettlesIn n came rounds
settles_in n came k rounds xs ys number begins runs fed earlier =
    record { last = k; number = omega (arith, number); before = xs; ran = ys; begins = begins; runs = runs; fed = fed; earlier = earlier }

-- Running out of memory stops the run.
pub memory_stops : {A X : Type 0} (n : NetworkParts A) (came : List (BridgeInput A)) (rounds : ℕ) (r : Result X RoundsFault) → OnErr r (r ≡ Err fault.NoMemory) → IfErr r (StopsNetworkRun n came rounds)
memory_stops n came rounds (Ok x) h = tt
memory_stops n came rounds (Err e) h = let same : e ≡ fault.NoMemory = cc in subst (StopsNetworkRun n came rounds) (sym same) tt
