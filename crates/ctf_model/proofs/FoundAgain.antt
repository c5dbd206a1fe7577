-- A name is found at its offset.
use Rattle.std.proofs.Common.{◌≡◌, ℕ, suc, ◌+◌, ◌%◌, ◌/◌, ◌^◌, ◌<◌, Bool, true, false, eqb, List, [], ◌∷◌, ◌++◌, length, drop, Some, refl, sym, ap, subst, ◌∙◌, arith}
use Rattle.std.specs.Prelude.{◌||◌}
use Rattle.std.specs.List.{before_first, flat_map, list_any, position_or_len, AllByRecursion}
use Rattle.std.specs.Str.{bytes_eq}
use Rattle.std.specs.Cmp.Lexicographic.{bytes_decides}
use Rattle.std.proofs.lemmas.Bool.{ne_eqb, eqb-true}
use Rattle.std.proofs.lemmas.List.{drop_at, append_assoc, length-append, nil_from_length}
use Rattle.ctf_model.specs.format.Name.{text, is_zero, name}
use Rattle.ctf_model.specs.drafts.Fitting.{IsName}
use Rattle.ctf_model.specs.writing.WrittenNames.{closed_name, string_bytes, name_reference, is_empty}
use Rattle.ctf_model.specs.writing.WritingLaws.{IsKept, IsFound, table_of}

-- before the first match there is nothing if the head matches
pub first_here : {A : Type 0} (p : A → Bool) (x : A) (xs : List A) → p x ≡ true → before_first p (x ∷ xs) ≡ []
first_here p x xs e = rw e refl

-- otherwise there is the head and what comes before the first match in the rest
pub first_later : {A : Type 0} (p : A → Bool) (x : A) (xs : List A) → p x ≡ false → before_first p (x ∷ xs) ≡ x ∷ before_first p xs
first_later p x xs e = let more : 1 + position_or_len p xs ≡ suc (position_or_len p xs) = omega arith in rw (e, more) refl

-- ---- the text at an offset

has_zero : (n rest : List ℕ) → IsName n → list_any is_zero (closed_name n ++ rest) ≡ true
has_zero [] rest h = refl
has_zero (b ∷ n) rest h = let some : eqb b 0 ≡ false = ne_eqb b 0 (omega (arith, h.0)) in rw some (has_zero n rest h.1)

before_zero : (n rest : List ℕ) → IsName n → before_first is_zero (closed_name n ++ rest) ≡ n
before_zero [] rest h = refl
before_zero (b ∷ n) rest h =
    let some : eqb b 0 ≡ false = ne_eqb b 0 (omega (arith, h.0)) in
    first_later is_zero b (closed_name n ++ rest) some ∙ ap (λ (r : List ℕ). b ∷ r) (before_zero n rest h.1)

-- the text of a name with its zero byte is the name
closed_text : (n rest : List ℕ) → IsName n → text (closed_name n ++ rest) ≡ Some n
closed_text n rest h = rw (has_zero n rest h, before_zero n rest h) refl

-- ---- the offset of a name

-- the strings are those before the name, the name, and the rest
at_name : (names : List (List ℕ)) (t : List ℕ) → list_any (bytes_eq t) names ≡ true → (rest : List ℕ) × (flat_map closed_name names ≡ flat_map closed_name (before_first (bytes_eq t) names) ++ (closed_name t ++ rest))
at_name [] t h = absurd cc
at_name (n ∷ names) t h = at (bytes_eq t n) refl h (at_name names t)
  where
    at : (b : Bool) → bytes_eq t n ≡ b → (b || list_any (bytes_eq t) names) ≡ true
        → (list_any (bytes_eq t) names ≡ true → (rest : List ℕ) × (flat_map closed_name names ≡ flat_map closed_name (before_first (bytes_eq t) names) ++ (closed_name t ++ rest)))
        → (rest : List ℕ) × (flat_map closed_name (n ∷ names) ≡ flat_map closed_name (before_first (bytes_eq t) (n ∷ names)) ++ (closed_name t ++ rest))
    at true e h more =
        let same : t ≡ n = (bytes_decides t n).0 e in
        (flat_map closed_name names, rw (first_here (bytes_eq t) n names e) (ap (λ (m : List ℕ). closed_name m ++ flat_map closed_name names) (sym same)))
    at false e h more =
        let later = more h in
        (later.0, rw (first_later (bytes_eq t) n names e) (ap (λ (r : List ℕ). closed_name n ++ r) later.1 ∙ sym (append_assoc (closed_name n) (flat_map closed_name (before_first (bytes_eq t) names)) (closed_name t ++ later.0))))

-- the name of a reference above 0 into the string section
low_name : (names : List (List ℕ)) (r : ℕ) → 0 < r → r < 2 ^ 31 → name (table_of names) r ≡ text (drop r (string_bytes names))
low_name names r some low =
    let rest : r % 2 ^ 31 ≡ r = omega arith in
    let none : r / 2 ^ 31 ≡ 0 = omega arith in
    let more : eqb r 0 ≡ false = ne_eqb r 0 (omega arith) in
    rw (rest, none, more) refl

each_named : (names : List (List ℕ)) (t : List ℕ) → list_any (bytes_eq t) names ≡ true → AllByRecursion IsName names → IsName t
each_named [] t h all = absurd cc
each_named (n ∷ names) t h all = at (bytes_eq t n) refl h (λ e. each_named names t e all.1)
  where
    at : (b : Bool) → bytes_eq t n ≡ b → (b || list_any (bytes_eq t) names) ≡ true → (list_any (bytes_eq t) names ≡ true → IsName t) → IsName t
    at true e h more = subst IsName (sym ((bytes_decides t n).0 e)) all.0
    at false e h more = more h

pub found : (names : List (List ℕ)) (t : List ℕ) → AllByRecursion IsName names → IsKept names t → length (string_bytes names) < 2 ^ 31 → IsFound names t
unfolding name_reference
found names t all kept low = at (is_empty t) refl
  where
    at : (b : Bool) → is_empty t ≡ b → IsFound names t
    at true e =
        let none : t ≡ [] = nil_from_length t (eqb-true (length t) 0 e) in
        subst (IsFound names) (sym none) (record { low = omega arith; found = refl })
    at false e =
        let is = kept e in
        let split = at_name names t is in
        let front = flat_map closed_name (before_first (bytes_eq t) names) in
        let behind = closed_name t ++ split.0 in
        let len : length (flat_map closed_name names) ≡ length front + length behind = ap length split.1 ∙ length-append front behind in
        let here : drop (length front) (flat_map closed_name names) ≡ behind = ap (drop (length front)) split.1 ∙ drop_at front behind (length front) refl in
        let far : suc (length front) < 2 ^ 31 = omega arith in
        let at : name_reference names t ≡ suc (length front) = rw e refl in
        record {
          low = subst (λ (r : ℕ). r < 2 ^ 31) (sym at) far;
          found = ap (name (table_of names)) at ∙ low_name names (suc (length front)) (omega arith) far ∙ ap text here ∙ closed_text t split.0 (each_named names t is all);
        }
