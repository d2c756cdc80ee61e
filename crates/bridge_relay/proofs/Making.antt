-- The ports of a plan, made in a loop.
use Rattle.std.proofs.Common.{◌≡◌, ℕ, true, false, ◌+◌, ◌-◌, ◌<◌, ◌≤◌, List, [], ◌∷◌, ◌++◌, length, length-append, arith, refl, ap, ◌∙◌, sym, subst, Option, Some, None, slice_index_or}
use Rattle.std.specs.Prelude.{nat_eq, nat_le, slice_index}
use Rattle.std.proofs.lemmas.Bool.Decides.{nat_tests}
use Rattle.std.proofs.Math.ListN.{get_or-append}
use Rattle.std.proofs.Math.Seq.{get_or-append_seam}
use Rattle.std.proofs.lemmas.List.{get_or_past}
use Rattle.bridge_limits.proofs.Cases.{by_bool}
use Rattle.bridge_limits.proofs.Options.{none_some}
use Rattle.bridge_config.specs.declared.ports.PortPlan.{PortPlan}
use Rattle.bridge_config.specs.Rules.{ArePorts, find_port}
use Rattle.bridge_config.proofs.PlanPorts.{class_below, number_is, port_is}
use Rattle.bridge_port.specs.StandsFor.{IsNextStartTime}
use Rattle.bridge_semantics.specs.declared.outcome.PortCount.{PortCount}
use Rattle.bridge_relay.specs.declared.port_state.PortState.{PortState}
use Rattle.bridge_relay.specs.Ports.{nth_port, ArePortsSound, IsInitialPort, IsPortSound}

-- Holds if the first `n` ports are made.
pub record AreFirst {A : Type 0} (ports : List (PortPlan A)) (slots : List (Option (PortState A))) (n : ℕ) : Type 0 where
  pub size : length slots ≡ n
  pub each : (q : ℕ) → 1 ≤ q → q ≤ n → IsInitialPort (find_port ports q) (nth_port slots q)

pub first_start : {A : Type 0} (ports : List (PortPlan A)) (slots : List (Option (PortState A))) → slots ≡ [] → AreFirst ports slots 0
first_start ports slots none = record { size = ap length none; each = λ q l u. absurd (omega (arith, l, u)) }

pub first_next : {A : Type 0} (ports : List (PortPlan A)) (slots more : List (Option (PortState A))) (n : ℕ) (o : Option (PortState A)) → AreFirst ports slots n → IsInitialPort (find_port ports (n + 1)) o → more ≡ slots ++ o ∷ [] → AreFirst ports more (n + 1)
first_next {A} ports slots more n o w f grown =
    let size = w.size in
    record {
      size = ap length grown ∙ (let z : length (slots ++ o ∷ []) ≡ length slots + length (o ∷ []) = length-append slots (o ∷ []) in omega (arith, z, size));
      each = λ q l u. by_bool (nat_eq q (n + 1))
          (λ e.
          let same : q ≡ n + 1 = grind (arith, nat_tests) in
          let place : q - 1 ≡ length slots = omega (arith, same, size) in
          let at : nth_port more q ≡ o = ap (λ (z : List (Option (PortState A))). nth_port z q) grown ∙ (ap (λ (k : ℕ). slice_index_or (slots ++ o ∷ []) k None) place ∙ get_or-append_seam slots o [] None) in
          subst (λ (k : ℕ). IsInitialPort (find_port ports k) (nth_port more q)) (sym same) (subst (IsInitialPort (find_port ports (n + 1))) (sym at) f))
          (λ e.
          let apart : (q ≡ n + 1) → ⊥ = λ k. (let z : nat_eq q (n + 1) ≡ true = grind (arith, nat_tests) in let v : true ≡ false = sym z ∙ e in cc) in
          let low : q ≤ n = omega (arith, u, apart) in
          let place : q - 1 < length slots = omega (arith, l, low, size) in
          let at : nth_port more q ≡ nth_port slots q = ap (λ (z : List (Option (PortState A))). nth_port z q) grown ∙ get_or-append slots (o ∷ []) None (q - 1) place in
          subst (IsInitialPort (find_port ports q)) (sym at) (w.each q l low));
    }

none_first : {A : Type 0} (ports : List (PortPlan A)) (q : ℕ) (o : Option (PortPlan A)) → ArePorts ports → 16 < q → find_port ports q ≡ o → IsInitialPort o None
none_first ports q None are high e = tt
none_first ports q (Some out) are high e = (let z = (number_is ports q out are e).1 in absurd (omega (arith, z, high)))

-- All ports are made.
pub first_end : {A : Type 0} (ports : List (PortPlan A)) (slots : List (Option (PortState A))) → ArePorts ports → AreFirst ports slots 16 → (q : ℕ) → 1 ≤ q → IsInitialPort (find_port ports q) (nth_port slots q)
first_end {A} ports slots are w q l = by_bool (nat_le q 16)
    (λ e. w.each q l (grind (arith, nat_tests)))
    (λ e.
    let high : 16 < q = grind (arith, nat_tests) in
    let size = w.size in
    let at : nth_port slots q ≡ None = get_or_past slots (q - 1) None (omega (arith, high, size)) in
    subst (IsInitialPort (find_port ports q)) (sym at) (none_first ports q (find_port ports q) are high refl))

slot_kept : {A : Type 0} (ports : List (PortPlan A)) (q : ℕ) (o : Option (PortPlan A)) (s : PortState A) → ArePorts ports → find_port ports q ≡ o → IsInitialPort o (Some s) → IsPortSound s × IsNextStartTime s.port None
slot_kept ports q None s are e f = absurd f
slot_kept {A} ports q (Some out) s are e f =
    let is = (port_is ports q out are e).0 in
    let made = f.0 in
    let new = f.1 in (
      record {
        classes = λ k l. subst (λ (z : List ℕ). slice_index z k < 8) (sym made.classes) (class_below out k is l);
        counted = ap (λ (c : PortCount). c.sent + c.dropped) new.count ∙ sym new.offered;
        came = subst (λ (c : PortCount). c.malformed + c.nowhere + c.unfiltered ≤ c.frames) (sym new.count) (omega arith);
        pace = made.pace ∙ sym made.speed;
      },
      new.idle,
    )

pub kept_first : {G A : Type 0} (held : G → ℕ → Option ℕ) (ports : List (PortPlan A)) (slots : List (Option (PortState A))) (agenda : G) → ArePorts ports → AreFirst ports slots 16 → ((q : ℕ) → held agenda q ≡ None) → ArePortsSound held slots agenda
kept_first {G} {A} held ports slots agenda are w none =
    let at : (q : ℕ) (s : PortState A) → 1 ≤ q → nth_port slots q ≡ Some s → IsPortSound s × IsNextStartTime s.port None = λ q s l e. slot_kept ports q (find_port ports q) s are refl (subst (IsInitialPort (find_port ports q)) e (first_end ports slots are w q l)) in
    record {
      size = w.size;
      due = λ q s l e. subst (IsNextStartTime s.port) (sym (none q)) (at q s l e).1;
      others = λ q k e. absurd (none_some (held agenda q) k (none q) e);
      each = λ q s l e. (at q s l e).0;
    }
