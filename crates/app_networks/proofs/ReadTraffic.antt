-- Texts of plan and traffic that `bounds --traffic` reads.
use Rattle.std.proofs.Common.{◌≡◌, ℕ, Bool, Global, List, None, Option, Some, String, ap, inl, inr, is_some, option_map, refl, string_bytes, subst, sym, take}
use Rattle.std.proofs.lemmas.Option.{same_Some}
use Rattle.bridge_limits.proofs.Options.{some_is_none}
use Rattle.app_failure.specs.declared.fault.Failure.{Failure}
use Rattle.app_failure.specs.Jobs.{EndsCheck}
use Rattle.app_commands.specs.ReadTexts.{HasTextAt, IsTextOf}
use Rattle.app_commands.specs.declared.output.Output.{Output}
use Rattle.net_latency.specs.TrafficText.{EndsTexts, EndsTraffic, PrintsRows, PrintsTraffic}
use Rattle.app_networks.specs.Bounds.{FailsTraffic, FailsTrafficAt, IsBoundsOutputOf, IsTrafficOutputOf}
use Rattle.app_networks.specs.Program.{FailsBounds, PerformsBounds}

-- Lines of the first 1,048,577 octets of a file.
rows_of : (A : Type 0) (input words lines : List ℕ) (kept : Bool) → PrintsTraffic A input words lines kept → PrintsRows A input (take 1048577 words) lines kept
rows_of A input words lines kept h = record { plan = h.plan; accepts = h.accepts; rows = h.rows; reads = h.reads; are_lines = h.are_lines }

-- Lines of the traffic's text, whether or not its octets are known.
pub rows_read : (A : Type 0) (known : Option (List ℕ)) (input lines : List ℕ) (kept : Bool) → ((words : List ℕ) → known ≡ Some words → PrintsTraffic A input words lines kept)
    → ((words : List ℕ) × PrintsRows A input words lines kept) → (words : List ℕ) × IsTextOf known words × PrintsRows A input words lines kept
rows_read A None input lines kept told some = (some.0, (λ octets is. absurd (some_is_none octets (sym is))), some.1)
rows_read A (Some all) input lines kept told some = (take 1048577 all, (λ octets is. ap (take 1048577) (same_Some all octets is)), rows_of A input all lines kept (told all refl))

-- A fault of the texts, whether or not the traffic's octets are known.
pub texts_end : (A : Type 0) (known : Option (List ℕ)) (path input file : List ℕ) (f : Failure) → ((words : List ℕ) → known ≡ Some words → EndsTraffic A path input file words f)
    → ((words : List ℕ) × EndsTexts A path input file words f) → (words : List ℕ) × IsTextOf known words × EndsTexts A path input file words f
texts_end A None path input file f told some = (some.0, (λ octets is. absurd (some_is_none octets (sym is))), some.1)
texts_end A (Some all) path input file f told some = (take 1048577 all, (λ octets is. ap (take 1048577) (same_Some all octets is)), told all refl)

-- Files without known octets have some text.
some_traffic : (octets_at : List ℕ → Option (List ℕ)) (plan file : List ℕ) (f : Failure) → FailsTrafficAt octets_at plan file f → FailsTraffic plan file f
some_traffic octets_at plan file f (inl h) = inl (h.0, h.2.0, h.2.2)
some_traffic octets_at plan file f (inr h) = inr h

-- The output of `bounds` with traffic, and its fault.
pub bounded_some : (octets_at : List ℕ → Option (List ℕ)) (traffic : Option (String Global)) (named : String Global) (plan file : List ℕ) (strict explained : Bool) (output : Output) → traffic ≡ Some named
    → HasTextAt octets_at plan (λ input. HasTextAt octets_at file (λ words. IsTrafficOutputOf input words strict explained output)) → PerformsBounds (is_some traffic) strict explained output
bounded_some octets_at traffic named plan file strict explained output is h =
    subst (λ (t : Option (String Global)). PerformsBounds (is_some t) strict explained output) (sym is) (h.0, h.2.0, h.2.2)

pub failed_some : (octets_at : List ℕ → Option (List ℕ)) (traffic : Option (String Global)) (named : String Global) (shown plan file : List ℕ) (f : Failure) → traffic ≡ Some named → shown ≡ plan → file ≡ string_bytes named
    → FailsTrafficAt octets_at shown file f → FailsBounds plan (option_map string_bytes traffic) f
failed_some octets_at traffic named shown plan file f is same_plan same_file h =
    subst (λ (t : Option (String Global)). FailsBounds plan (option_map string_bytes t) f) (sym is)
    (subst (λ p. FailsTraffic p (string_bytes named) f) same_plan (subst (λ x. FailsTraffic shown x f) same_file (some_traffic octets_at shown file f h)))

-- The output of `bounds` without traffic, and its fault.
pub bounded_none : (octets_at : List ℕ → Option (List ℕ)) (traffic : Option (String Global)) (plan : List ℕ) (strict explained : Bool) (output : Output) → traffic ≡ None
    → HasTextAt octets_at plan (λ input. IsBoundsOutputOf input strict explained output) → PerformsBounds (is_some traffic) strict explained output
bounded_none octets_at traffic plan strict explained output is h = subst (λ (t : Option (String Global)). PerformsBounds (is_some t) strict explained output) (sym is) (h.0, h.2)

pub failed_none : (octets_at : List ℕ → Option (List ℕ)) (traffic : Option (String Global)) (shown plan : List ℕ) (f : Failure) → traffic ≡ None → shown ≡ plan → HasTextAt octets_at shown (λ text. EndsCheck Global shown text f)
    → FailsBounds plan (option_map string_bytes traffic) f
failed_none octets_at traffic shown plan f is same h =
    subst (λ (t : Option (String Global)). FailsBounds plan (option_map string_bytes t) f) (sym is) (h.0, subst (λ p. EndsCheck Global p h.0 f) same h.2)
