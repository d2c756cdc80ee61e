-- The beginning of a run.
use Rattle.std.proofs.Common.{◌≡◌, ℕ, zero, suc, ◌<◌, List, [], ◌∷◌, map, drop, nat_eq, slice_get, arith, refl, ap, sym, inl, inr, Option, Some, None, Contains, Ok, Err, Result}
use Rattle.std.specs.List.Sorted.{IsPermutation}
use Rattle.std.proofs.lemmas.List.Sorted.{Contains-permutation, IsPermutation-sym}
use Rattle.std.proofs.lemmas.Bool.Decides.{nat_tests}
use Rattle.std.proofs.lemmas.Option.{same_Some}
use Rattle.bridge_limits.specs.Members.{IsMember}
use Rattle.bridge_limits.proofs.Cases.{by_bool}
use Rattle.bridge_capture.specs.declared.capture_fault.CaptureFault.{CaptureFault}
use Rattle.bridge_capture.specs.declared.format.CaptureFormat.{CaptureFormat}
use Rattle.bridge_capture.specs.declared.packet.Packet.{Packet}
use Rattle.bridge_capture.specs.Grammar.{ReadsBody, AtEnd, first_position, header_format}
use Rattle.bridge_capture.specs.StandsFor.{HasReadFrames}
use Rattle.bridge_config.proofs.PlanPorts.{there_is}
use Rattle.bridge_config.specs.declared.ports.PortPlan.{PortPlan}
use Rattle.bridge_config.specs.Model.{Plan}
use Rattle.bridge_config.specs.Rules.{find_port}
use Rattle.bridge_semantics.proofs.Views.{rising_one}
use Rattle.bridge_capture.specs.CaptureReaders.{FindsNext}
use Rattle.bridge_core.specs.WholeRuns.{ArePortNumbers}
use Rattle.bridge_config.proofs.Sorted.{rising_numbers}

contains_in : {X : Type 0} (xs : List X) (x : X) → Contains xs x → IsMember x xs
contains_in [] x c = absurd (let l = c.1 in omega (arith, l))
contains_in (y ∷ xs) x (zero, l, e) = inl (sym e)
contains_in (y ∷ xs) x (suc k, l, e) = inr (contains_in xs x (k, omega (arith, l), e))

in_contains : {X : Type 0} (xs : List X) (x : X) → IsMember x xs → Contains xs x
in_contains [] x i = absurd i
in_contains (y ∷ xs) x (inl e) = (0, omega arith, sym e)
in_contains (y ∷ xs) x (inr i) = let z = in_contains xs x i in let l = z.1 in (suc z.0, omega (arith, l), z.2)

in_same : {X : Type 0} (xs ys : List X) (x : X) → IsPermutation xs ys → IsMember x xs → IsMember x ys
in_same xs ys x p i = contains_in ys x (Contains-permutation xs ys x p (in_contains xs x i))

-- A plan's port numbers have one rising order.
pub one_order : {A : Type 0} (p : Plan A) (xs ys : List ℕ) → ArePortNumbers p xs → ArePortNumbers p ys → xs ≡ ys
one_order {A} p xs ys a b =
    let all : List ℕ = map (λ (q : PortPlan A). q.number) p.ports in
    rising_one (λ (x y : ℕ). x < y) (λ x y l m. absurd (omega (arith, l, m))) xs ys (rising_numbers xs a.rises) (rising_numbers ys b.rises)
    (λ z i. in_same all ys z b.same (in_same xs all z (IsPermutation-sym all xs a.same) i))
    (λ z i. in_same all xs z a.same (in_same ys all z (IsPermutation-sym all ys b.same) i))

there_port : {A : Type 0} (ps : List (PortPlan A)) (n : ℕ) (out : PortPlan A) → find_port ps n ≡ Some out → IsMember n (map (λ p. p.number) ps)
there_port [] n out e = absurd (cc)
there_port (p ∷ ps) n out e = by_bool (nat_eq p.number n)
    (λ h. inl (let same : p.number ≡ n = grind (arith, nat_tests) in sym same))
    (λ h. inr (there_port ps n out (rw h at e)))

place_in : {X : Type 0} (x : X) (xs : List X) → IsMember x xs → (i : ℕ) × (slice_get xs i ≡ Some x)
place_in x [] i = absurd i
place_in x (y ∷ xs) (inl e) = (0, ap (λ z. Some z) (sym e))
place_in x (y ∷ xs) (inr i) = let z = place_in x xs i in (suc z.0, z.1)

in_place : {X : Type 0} (x : X) (xs : List X) (i : ℕ) → slice_get xs i ≡ Some x → IsMember x xs
in_place x [] i e = absurd (cc)
in_place x (y ∷ xs) zero e = inl (sym (same_Some y x e))
in_place x (y ∷ xs) (suc i) e = inr (in_place x xs i e)

-- Each port of the plan has an index in the list of numbers.
pub covered : {A : Type 0} (p : Plan A) (ports : List ℕ) (q : ℕ) (out : PortPlan A) → ArePortNumbers p ports → find_port p.ports q ≡ Some out → (i : ℕ) × (slice_get ports i ≡ Some q)
covered {A} p ports q out a e = place_in q ports (in_same (map (λ (x : PortPlan A). x.number) p.ports) ports q a.same (there_port p.ports q out e))

-- Each number in the list has a port of the plan.
pub known : {A : Type 0} (p : Plan A) (ports : List ℕ) (i q : ℕ) → ArePortNumbers p ports → slice_get ports i ≡ Some q → (out : PortPlan A) × (find_port p.ports q ≡ Some out)
known {A} p ports i q a e = let all : List ℕ = map (λ (x : PortPlan A). x.number) p.ports in there_is p.ports q (in_same ports all q (IsPermutation-sym all ports a.same) (in_place q ports i e))

read_none : (text : List ℕ) (r : Result CaptureFormat CaptureFault) → header_format text ≡ r → ReadsBody r text [] AtEnd → HasReadFrames text []
read_none text (Ok form) e h = (form, first_position, drop 24 text, e, (refl, refl))
read_none text (Err fault) e h = absurd (let z = h.1 in cc)

-- A capture that was begun has a header.
pub gave_none : {A : Type 0} (text : List ℕ) (o : Option (Packet A)) → FindsNext text [] o → HasReadFrames text []
gave_none text None f = read_none text (header_format text) refl f
gave_none text (Some d) f = (f.0, first_position, drop 24 text, f.3, (refl, refl))
