-- A name appended to others, if it is short enough.
use Rattle.std.proofs.Common.{◌≡◌, ◌≤◌, ◌++◌, ℕ, zero, suc, List, [], ◌∷◌, All, Bool, true, false, Option, Some, None, nat_le, length, refl, sym, ap, ◌∙◌, subst, arith}
use Rattle.std.proofs.lemmas.List.Elements.{All-append}
use Rattle.std.specs.Prelude.{⊤, option_and_then, if◌then◌else◌}
use Rattle.std.specs.Option.{option_map}
use Rattle.ctf_protocol.specs.lines.LineFields.{not_too_many}
use Rattle.ctf_protocol.specs.lines.Text.{bytes_spelled_by, text_of}
use Rattle.ctf_lines.proofs.Plain.{plain_spelled}

abbrev IsNone : {A : Type 0} → Option A → Type 0
IsNone None = ⊤
IsNone (Some a) = ⊥

abbrev names_or : Option (List (List ℕ)) → List (List ℕ)
names_or None = []
names_or (Some names) = names

abbrev pub AreShort : List (List ℕ) → Type 0
AreShort names = All (λ name. length name ≤ 1048576) names

abbrev name_or : Option (List ℕ) → List ℕ
name_or None = []
name_or (Some name) = name

-- the name that was appended
abbrev pub Pushed : List (List ℕ) → List (List ℕ) → Option (List ℕ) → Type 0
Pushed old new o = (name : List ℕ) × (Some name ≡ option_and_then not_too_many o) × (new ≡ old ++ name ∷ []) × (length name ≤ 1048576)

by : (old new : List (List ℕ)) (name : List ℕ) (b : Bool) → nat_le (length name) 1048576 ≡ b → Some new ≡ option_map (λ name. old ++ name ∷ []) (if b then Some name else None)
    → (Some name ≡ (if b then Some name else None)) × (new ≡ old ++ name ∷ []) × (length name ≤ 1048576)
by old new name true e is = (refl, ap names_or is, grind (arith, e))
by old new name false e is = absurd (subst IsNone (sym is) tt)

pub pushed : (old new : List (List ℕ)) (o : Option (List ℕ)) → Some new ≡ option_map (λ name. old ++ name ∷ []) (option_and_then not_too_many o) → Pushed old new o
pushed old new None is = absurd (subst IsNone (sym is) tt)
pushed old new (Some name) is =
    let parts = by old new name (nat_le (length name) 1048576) refl is in
    (name, parts.0, parts.1, parts.2)

pub none_pushed : (old : List (List ℕ)) (o : Option (List ℕ)) → None ≡ option_map (λ name. old ++ name ∷ []) o → None ≡ o
none_pushed old None is = refl
none_pushed old (Some name) is = absurd (subst IsNone is tt)

one_short : (name : List ℕ) → length name ≤ 1048576 → AreShort (name ∷ [])
one_short name short zero d h = short
one_short name short (suc k) d h = absurd (omega (arith, h))

pub short_more : (names : List (List ℕ)) (name : List ℕ) → AreShort names → length name ≤ 1048576 → AreShort (names ++ name ∷ [])
short_more names name all short = All-append (λ name. length name ≤ 1048576) names (name ∷ []) all (one_short name short)

pub short_of : (new names : List (List ℕ)) → new ≡ names → AreShort names → AreShort new
short_of new names same short = subst AreShort (sym same) short

pub short_spelled : (text : List ℕ) → length text ≤ 1048576 → text_of text ≡ text → Some text ≡ option_and_then not_too_many (bytes_spelled_by text)
short_spelled text short plain =
    let within : nat_le (length text) 1048576 ≡ true = grind (arith, short) in
    sym (ap (option_and_then not_too_many) (plain_spelled text plain) ∙ ap (λ b. if b then Some text else None) within)

-- a decoded name is short
pub spelled_short : (name : List ℕ) (o : Option (List ℕ)) → Some name ≡ option_and_then not_too_many o → length name ≤ 1048576
spelled_short name None is = absurd (subst IsNone (sym is) tt)
spelled_short name (Some bytes) is = by_length (nat_le (length bytes) 1048576) refl is
  where
    by_length : (b : Bool) → nat_le (length bytes) 1048576 ≡ b → Some name ≡ (if b then Some bytes else None) → length name ≤ 1048576
    by_length true e same =
        let len = ap length (ap name_or same) in
        let within : length bytes ≤ 1048576 = grind (arith, e) in
        omega (arith, len, within)
    by_length false e same = absurd (subst IsNone (sym same) tt)
