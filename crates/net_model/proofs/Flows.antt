-- The filter with the lowest number, one filter more at a time.
use Rattle.std.proofs.Common.{◌≡◌, ℕ, true, false, Option, Some, None, refl, sym, arith}
use Rattle.std.specs.Prelude.{nat_lt}
use Rattle.std.proofs.lemmas.Bool.{ltb-true, lt-ltb, ltb-false, le-ltb}
use Rattle.bridge_limits.proofs.Cases.{by_bool}
use Rattle.bridge_filter.specs.declared.FilterPlan.{FilterPlan}
use Rattle.bridge_filter.specs.Verdicts.{lesser_filter}
use Rattle.net_model.specs.SearchState.{lesser_optional_filter}

three : (a b c : ℕ × FilterPlan) → lesser_optional_filter (lesser_filter a (Some b)) (Some c) ≡ lesser_optional_filter (Some a) (lesser_filter b (Some c))
three a b c = by_bool (nat_lt b.0 a.0)
    (λ ba. by_bool (nat_lt c.0 b.0)
    (λ cb. let ca : nat_lt c.0 a.0 ≡ true = lt-ltb c.0 a.0 (let h = ltb-true b.0 a.0 ba in let k = ltb-true c.0 b.0 cb in omega (arith, h, k)) in rw (ba, cb, ca) refl)
    (λ cb. rw (ba, cb) (sym (rw ba refl))))
    (λ ba. by_bool (nat_lt c.0 b.0)
    (λ cb. rw (ba, cb) refl)
    (λ cb. let ca : nat_lt c.0 a.0 ≡ false = le-ltb c.0 a.0 (let h = ltb-false b.0 a.0 ba in let k = ltb-false c.0 b.0 cb in omega (arith, h, k)) in rw (ba, cb) (rw (ba, ca) refl)))

pub lesser_none : (a : Option (ℕ × FilterPlan)) → lesser_optional_filter a None ≡ a
lesser_none None = refl
lesser_none (Some a) = refl

pub lesser_more : (a : Option (ℕ × FilterPlan)) (b : ℕ × FilterPlan) (c : Option (ℕ × FilterPlan)) → lesser_optional_filter (lesser_optional_filter a (Some b)) c ≡ lesser_optional_filter a (lesser_filter b c)
lesser_more None b c = refl
lesser_more (Some a) b None = lesser_none (lesser_filter a (Some b))
lesser_more (Some a) b (Some c) = three a b c
