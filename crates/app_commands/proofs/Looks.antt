-- The octets that the program reads decide as the whole text does.
use Rattle.std.proofs.Common.{◌≡◌, ℕ, ◌<◌, ◌⊎◌, inl, inr, refl, sym, ap, subst, ◌∙◌, List, length, take, Result, Ok, Err, IfErr}
use Rattle.std.proofs.lemmas.Bool.{lt-ltb}
use Rattle.bridge_capture.specs.Hex.{spelled_octets}
use Rattle.bridge_capture.specs.declared.hex_fault.HexFault.TheVariants as hex
use Rattle.bridge_capture.specs.declared.fault.RunFault.{RunFault}
use Rattle.bridge_capture.specs.declared.fault.RunFault.TheVariants as run
use Rattle.app_failure.specs.declared.fault.TextFault.{TextFault}
use Rattle.app_failure.specs.declared.fault.TextFault.TheVariants as text
use Rattle.app_files.specs.declared.failed_file.Access.TheVariants.{Reading}
use Rattle.app_failure.specs.declared.fault.Failure.{Failure}
use Rattle.app_failure.specs.declared.fault.Failure.TheVariants as fault
use Rattle.app_failure.specs.Reading.{IsStandardStreamFault}
use Rattle.app_failure.proofs.Looks.{front_as_whole}
use Rattle.app_commands.specs.Text.{StopsText}
use Rattle.app_commands.specs.Jobs.{PrintsText, RefusesText, EndsText}

spelled_long : (input : List ℕ) → 4194304 < length input → spelled_octets input ≡ Err hex.TooLong
spelled_long input long = rw (lt-ltb 4194304 (length input) long) refl

pub spelled_front : (input : List ℕ) → spelled_octets (take 4194305 input) ≡ spelled_octets input
spelled_front input = front_as_whole spelled_octets (Err hex.TooLong) 4194304 spelled_long input

pub text_printed : (looked input lines : List ℕ) → looked ≡ take 4194305 input → PrintsText looked lines → PrintsText input lines
text_printed looked input lines e (octets, spelled, ran) = (octets, sym (spelled_front input) ∙ ap spelled_octets (sym e) ∙ spelled, ran)

-- The clauses for each fault give the reason why a text isn't run.
pub refuses : {X : Type 0} (input : List ℕ) (r : Result X TextFault) → (r ≡ Err text.NotHex → spelled_octets input ≡ Err hex.NotHex) → (r ≡ Err text.TooLong → spelled_octets input ≡ Err hex.TooLong)
    → ((f : RunFault) (octets : List ℕ) → r ≡ Err (text.Run f) → spelled_octets input ≡ Ok octets → StopsText octets f) → ((f : RunFault) → r ≡ Err (text.Run f) → (f ≡ run.NoMemory) ⊎ ((octets : List ℕ) × (spelled_octets input ≡ Ok octets)))
    → IfErr r (RefusesText input)
refuses input (Ok x) not_hex too_long ran spelled = tt
refuses input (Err text.NotHex) not_hex too_long ran spelled = not_hex refl
refuses input (Err text.TooLong) not_hex too_long ran spelled = too_long refl
refuses input (Err (text.Run f)) not_hex too_long ran spelled = elim (spelled f refl) [ inl none ↦ inl none | inr (octets, is) ↦ inr (octets, is, ran f octets refl is) ]

refused_front : (input : List ℕ) (f : TextFault) → RefusesText (take 4194305 input) f → RefusesText input f
refused_front input text.NotHex h = sym (spelled_front input) ∙ h
refused_front input text.TooLong h = sym (spelled_front input) ∙ h
refused_front input (text.Run f) h = elim h [ inl none ↦ inl none | inr (octets, is, ran) ↦ inr (octets, sym (spelled_front input) ∙ is, ran) ]

pub text_refused : {X : Type 0} (looked input : List ℕ) (f : TextFault) (r : Result X TextFault) → looked ≡ take 4194305 input → r ≡ Err f
    → (r ≡ Err text.NotHex → spelled_octets looked ≡ Err hex.NotHex) → (r ≡ Err text.TooLong → spelled_octets looked ≡ Err hex.TooLong)
    → ((g : RunFault) (octets : List ℕ) → r ≡ Err (text.Run g) → spelled_octets looked ≡ Ok octets → StopsText octets g) → ((g : RunFault) → r ≡ Err (text.Run g) → (g ≡ run.NoMemory) ⊎ ((octets : List ℕ) × (spelled_octets looked ≡ Ok octets)))
    → RefusesText input f
text_refused {X} looked input f r e is not_hex too_long ran spelled =
    let told = subst (λ (z : Result X TextFault). IfErr z (RefusesText looked)) is (refuses looked r not_hex too_long ran spelled) in
    refused_front input f (subst (λ (z : List ℕ). RefusesText z f) e told)

-- A fault of standard input ends the job over a text.
pub input_ends : (input : List ℕ) (f : Failure) → IsStandardStreamFault Reading f → EndsText input f
input_ends input (fault.Text f) h = absurd h
input_ends input f h = h
