-- Egress ports of the frames that stream entries identify, one entry more at a time.
use Rattle.std.proofs.Common.{◌≡◌, ◌<◌, ◌+◌, ℕ, zero, suc, Bool, true, false, ◌&&◌, ◌||◌, List, length, take, get_or, nat_eq, refl, sym, ap, ◌∙◌, arith}
use Rattle.std.proofs.lemmas.Bool.{eqb-true, false_from_ne_true}
use Rattle.std.proofs.lemmas.List.Folds.{list_any_more}
use Rattle.std.proofs.Math.Bool.{or-false}
use Rattle.bridge_limits.proofs.Orders.{same_eq}
use Rattle.bridge_ident.specs.declared.StreamEntry.{StreamEntry}
use Rattle.bridge_forward.specs.Ports.{has_port}
use Rattle.bridge_forward.specs.Database.{Database}
use Rattle.bridge_forward.specs.Forward.{forward}
use Rattle.bridge_check.specs.Reach.{leads_through_port}
use Rattle.bridge_check.specs.ReachTables.{test_results}
use Rattle.bridge_check.proofs.Told.{told_at}

told_same : (n : ℕ) (f g : ℕ → Bool) → ((k : ℕ) → k < n → f k ≡ g k) → test_results n f ≡ test_results n g
told_same zero f g h = refl
told_same (suc n) f g h = rw (told_same n f g (λ k lt. h k (omega (arith, lt))), h n (omega arith)) refl

-- True if frames that a stream entry of handle `h` identifies leave by port `q`.
abbrev leads : Database → ℕ → ℕ → StreamEntry → Bool
leads db h q e = nat_eq e.handle h && has_port (forward db e.port e.vid e.address) q

leads_more : (db : Database) (h q : ℕ) (es : List StreamEntry) (k : ℕ) (d : StreamEntry) → k < length es → leads_through_port db h q (take (k + 1) es) ≡ (leads_through_port db h q (take k es) || leads db h q (get_or es k d))
leads_more db h q es k d lt = list_any_more (leads db h q) es k d lt

-- An entry of the handle adds the ports of its forwarding.
pub led_more : (n : ℕ) (db : Database) (h : ℕ) (es : List StreamEntry) (k : ℕ) (d : StreamEntry) (ports : List Bool) → k < length es → (get_or es k d).handle ≡ h → ports ≡ test_results n (λ i. leads_through_port db h (i + 1) (take k es)) → test_results n (λ i. get_or ports i false || has_port (forward db (get_or es k d).port (get_or es k d).vid (get_or es k d).address) (i + 1)) ≡ test_results n (λ i. leads_through_port db h (i + 1) (take (k + 1) es))
led_more n db h es k d ports lt own told = told_same n _ _ each
  where
    each : (i : ℕ) → i < n → (get_or ports i false || has_port (forward db (get_or es k d).port (get_or es k d).vid (get_or es k d).address) (i + 1)) ≡ leads_through_port db h (i + 1) (take (k + 1) es)
    each i below =
        let before : get_or ports i false ≡ leads_through_port db h (i + 1) (take k es) = ap (λ xs. get_or xs i false) told ∙ told_at n i (λ i. leads_through_port db h (i + 1) (take k es)) false below in
        let is : nat_eq (get_or es k d).handle h ≡ true = rw own (same_eq h) in
        rw (before, leads_more db h (i + 1) es k d lt, is) refl

-- An entry of another handle adds no port.
pub led_past : (n : ℕ) (db : Database) (h : ℕ) (es : List StreamEntry) (k : ℕ) (d : StreamEntry) → k < length es → ¬ ((get_or es k d).handle ≡ h) → test_results n (λ i. leads_through_port db h (i + 1) (take k es)) ≡ test_results n (λ i. leads_through_port db h (i + 1) (take (k + 1) es))
led_past n db h es k d lt other =
    let is : nat_eq (get_or es k d).handle h ≡ false = false_from_ne_true (nat_eq (get_or es k d).handle h) (λ e. other (eqb-true (get_or es k d).handle h e)) in
    told_same n _ _ (λ i below. sym (rw (leads_more db h (i + 1) es k d lt, is) (or-false (leads_through_port db h (i + 1) (take k es)))))
