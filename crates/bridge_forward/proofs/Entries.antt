-- Table of static entries, filled entry by entry.
use Rattle.std.proofs.Common.{◌≡◌, ℕ, ◌+◌, ◌<◌, Bool, true, false, ◌&&◌, nat_eq, Option, Some, None, List, [], ◌∷◌, length, get_or, drop, refl, sym, ap, ◌∙◌, add-one, drop-cons, if◌then◌else◌}
use Rattle.std.specs.Option.{option_or}
use Rattle.std.specs.Str.{bytes_eq}
use Rattle.bridge_forward.specs.declared.StaticEntry.{StaticEntry}
use Rattle.bridge_forward.specs.Database.{static_ports}

-- A found set of ports precedes the remaining entries.
kept_first : (old : Option ℕ) (b : Bool) (ports : ℕ) (rest : Option ℕ) → option_or (option_or old (if b then Some ports else None)) rest ≡ option_or old (if b then Some ports else rest)
kept_first (Some x) b ports rest = refl
kept_first None true ports rest = refl
kept_first None false ports rest = refl

left : (es : List StaticEntry) (i : ℕ) (d : StaticEntry) → i < length es → drop i es ≡ get_or es i d ∷ drop (i + 1) es
left es i d l = rw (add-one, drop-cons es i d) refl

-- Moves the entry at index `i` from the remaining entries to the found ones.
pub next_entry : (es : List StaticEntry) (i : ℕ) (e : StaticEntry) (old new whole : Option ℕ) (vid : ℕ) (address : List ℕ) → i < length es → e ≡ get_or es i e
    → new ≡ option_or old (static_ports (e ∷ []) vid address) → option_or old (static_ports (drop i es) vid address) ≡ whole → option_or new (static_ports (drop (i + 1) es) vid address) ≡ whole
next_entry es i e old new whole vid address l is kept before =
    let cut : drop i es ≡ e ∷ drop (i + 1) es = left es i e l ∙ ap (λ (x : StaticEntry). x ∷ drop (i + 1) es) (sym is) in
    ap (λ (o : Option ℕ). option_or o (static_ports (drop (i + 1) es) vid address)) kept
    ∙ (kept_first old (nat_eq e.vid vid && bytes_eq e.address address) e.ports (static_ports (drop (i + 1) es) vid address)
    ∙ (ap (λ (rest : List StaticEntry). option_or old (static_ports rest vid address)) (sym cut) ∙ before))
