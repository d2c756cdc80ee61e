-- Delays in shared queues, added queue by queue.
use Rattle.std.proofs.Common.{◌≡◌, ◌≤◌, ◌*◌, ℕ, true, false, None, List, [], ◌∷◌, ◌++◌, refl, inl, inr, sym, subst, arith}
use Rattle.std.specs.Prelude.{nat_eq}
use Rattle.std.specs.Map.{lookup}
use Rattle.std.proofs.lemmas.Nat.{mul-le}
use Rattle.bridge_limits.specs.Members.{IsMember}
use Rattle.bridge_limits.proofs.Cases.{by_bool}
use Rattle.bridge_config.specs.Model.{Plan}
use Rattle.bridge_groups.specs.declared.shared_queues.SharedQueue.{SharedQueue}
use Rattle.net_file.specs.declared.limited_row.LimitedRow.{LimitedRow}
use Rattle.net_latency.specs.declared.timings.QueueTiming.{QueueTiming}
use Rattle.net_latency.specs.LimitedTraffic.{AreLimitedTimings, IsLimitedTiming, shares_queue}
use Rattle.net_latency.specs.Traffic.{Begins}
use Rattle.net_latency.proofs.Gathered.{begins_as, begins_first, begins_later, begins_member, begins_more}

-- 1,024 longest frames have few octets.
pub few_octets : (octets frames : ℕ) → octets ≤ 9220 → frames ≤ 1024 → octets * frames ≤ 9441280
few_octets octets frames h k = let upto = mul-le octets frames 9220 1024 h k in omega (arith, upto)

module _ {A : Type 0} (p : Plan A) (index : ℕ) (r : LimitedRow) where
  -- The delays of one more shared queue that the row's filter can reach.
  pub limited_more : (s : SharedQueue) (x : QueueTiming) (ss : List SharedQueue) (xs : List QueueTiming) → shares_queue p s (lookup (nat_eq r.filter) p.filters) ≡ true → IsLimitedTiming p index r s x → AreLimitedTimings p index r ss xs → AreLimitedTimings p index r (ss ++ s ∷ []) (xs ++ x ∷ [])
  limited_more s x [] xs own is h = rw (h, own) (is, refl)
  limited_more s x (t ∷ ss) xs own is h = by_bool (shares_queue p t (lookup (nat_eq r.filter) p.filters))
      (λ k.
      let here : Begins (IsLimitedTiming p index r t) (AreLimitedTimings p index r ss) xs = rw k at h in
      rw k (begins_more (IsLimitedTiming p index r t) (AreLimitedTimings p index r ss) (AreLimitedTimings p index r (ss ++ s ∷ [])) x xs (λ ys more. limited_more s x ss ys own is more) here))
      (λ k. let past : AreLimitedTimings p index r ss xs = rw k at h in rw k (limited_more s x ss xs own is past))

  -- A queue that the row's filter can't reach adds nothing.
  pub limited_past : (s : SharedQueue) (ss : List SharedQueue) (xs : List QueueTiming) → shares_queue p s (lookup (nat_eq r.filter) p.filters) ≡ false → AreLimitedTimings p index r ss xs → AreLimitedTimings p index r (ss ++ s ∷ []) xs
  limited_past s [] xs other h = rw other h
  limited_past s (t ∷ ss) xs other h = by_bool (shares_queue p t (lookup (nat_eq r.filter) p.filters))
      (λ k.
      let here : Begins (IsLimitedTiming p index r t) (AreLimitedTimings p index r ss) xs = rw k at h in
      rw k (begins_as (IsLimitedTiming p index r t) (AreLimitedTimings p index r ss) (AreLimitedTimings p index r (ss ++ s ∷ [])) xs (λ ys more. limited_past s ss ys other more) here))
      (λ k. let past : AreLimitedTimings p index r ss xs = rw k at h in rw k (limited_past s ss xs other past))

  -- A row without a filter has no delays.
  pub limited_none : (ss : List SharedQueue) → lookup (nat_eq r.filter) p.filters ≡ None → AreLimitedTimings p index r ss []
  limited_none [] none = refl
  limited_none (s ∷ ss) none = let rest = limited_none ss none in rw none rest

  -- Each shared queue that the row's filter can reach has delays.
  pub timing_for : (s : SharedQueue) (ss : List SharedQueue) (xs : List QueueTiming) → AreLimitedTimings p index r ss xs → IsMember s ss → shares_queue p s (lookup (nat_eq r.filter) p.filters) ≡ true → (x : QueueTiming) × IsMember x xs × IsLimitedTiming p index r s x
  timing_for s [] xs h i own = absurd i
  timing_for s (t ∷ ss) xs h (inl same) own =
      let shares : shares_queue p t (lookup (nat_eq r.filter) p.filters) ≡ true = subst (λ (z : SharedQueue). shares_queue p z (lookup (nat_eq r.filter) p.filters) ≡ true) same own in
      let here : Begins (IsLimitedTiming p index r t) (AreLimitedTimings p index r ss) xs = rw shares at h in
      let (x, i, is) = begins_first (IsLimitedTiming p index r t) (AreLimitedTimings p index r ss) xs here in
      (x, i, subst (λ (z : SharedQueue). IsLimitedTiming p index r z x) (sym same) is)
  timing_for s (t ∷ ss) xs h (inr later) own = by_bool (shares_queue p t (lookup (nat_eq r.filter) p.filters))
      (λ k.
      let here : Begins (IsLimitedTiming p index r t) (AreLimitedTimings p index r ss) xs = rw k at h in
      begins_later (IsLimitedTiming p index r t) (IsLimitedTiming p index r s) (AreLimitedTimings p index r ss) xs (λ ys more. timing_for s ss ys more later own) here)
      (λ k. let past : AreLimitedTimings p index r ss xs = rw k at h in timing_for s ss xs past later own)

  -- Each of the delays belongs to a shared queue.
  pub timing_of : (x : QueueTiming) (ss : List SharedQueue) (xs : List QueueTiming) → AreLimitedTimings p index r ss xs → IsMember x xs → (s : SharedQueue) × IsLimitedTiming p index r s x
  timing_of x [] xs none i = let j : IsMember x [] = subst (IsMember x) none i in absurd j
  timing_of x (s ∷ ss) xs h i = by_bool (shares_queue p s (lookup (nat_eq r.filter) p.filters))
      (λ k.
      let here : Begins (IsLimitedTiming p index r s) (AreLimitedTimings p index r ss) xs = rw k at h in
      begins_member (IsLimitedTiming p index r s) (AreLimitedTimings p index r ss) x xs (λ is. (s, is)) (λ ys more j. timing_of x ss ys more j) here i)
      (λ k. let past : AreLimitedTimings p index r ss xs = rw k at h in timing_of x ss xs past i)
