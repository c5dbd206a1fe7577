-- A section splits in one way, and spells one list of types.
use Rattle.std.proofs.Common.{◌≡◌, ℕ, ◌+◌, ◌≤◌, List, [], ◌∷◌, ◌++◌, length, take, drop, Option, Some, None, refl, sym, ap, subst, ◌∙◌, arith, ⊎_elim}
use Rattle.std.specs.Prelude.{MatchOption}
use Rattle.std.proofs.lemmas.Bool.{cases_lt}
use Rattle.std.proofs.lemmas.List.{take-append-le, take-append-drop, append_cancel_left, take_at, append-nil, length-append}
use Rattle.std.proofs.lemmas.Option.{same_Some}
use Rattle.ctf_model.specs.declared.kinds.Kind.{Kind}
use Rattle.ctf_model.specs.format.Name.{Tables}
use Rattle.ctf_model.specs.format.Term.{Term}
use Rattle.ctf_model.specs.format.Record.{IsWhole, kind, IsWholeAt}
use Rattle.ctf_model.specs.format.Spelling.{term_of}
use Rattle.ctf_model.specs.format.Section.{Section}
use Rattle.ctf_model.proofs.Prefix.{IsWhole-prefix}
use Rattle.ctf_model.proofs.SpelledRead.{says_of}

-- of two prefixes the shorter is a prefix of the longer
front_begins : (a b x y : List ℕ) → a ++ x ≡ b ++ y → length a ≤ length b → b ≡ a ++ drop (length a) b
front_begins a b x y e le =
    let same : take (length a) b ≡ a = sym (take-append-le (length a) b y le) ∙ ap (take (length a)) (sym e) ∙ take_at a x (length a) refl in
    sym (take-append-drop (length a) b) ∙ ap (λ (f : List ℕ). f ++ drop (length a) b) same

-- a whole record that begins with another whole record is that one
longer : (a b x y : List ℕ) → IsWhole a → IsWhole b → a ++ x ≡ b ++ y → length a ≤ length b → a ≡ b
longer a b x y p q e le =
    let begins = front_begins a b x y e le in
    let none = IsWhole-prefix a (drop (length a) b) p (subst IsWhole begins q) in
    sym (begins ∙ ap (λ (r : List ℕ). a ++ r) none ∙ append-nil a)

-- two whole records at the start of the same bytes are equal
pub one_front : (a b x y : List ℕ) → IsWhole a → IsWhole b → a ++ x ≡ b ++ y → a ≡ b
one_front a b x y p q e = ⊎_elim (λ lt. longer a b x y p q e (omega arith)) (λ le. sym (longer b a y x q p (sym e) le)) (cases_lt (length a) (length b))

-- what follows them is equal
pub one_rest : (a b x y : List ℕ) → a ≡ b → a ++ x ≡ b ++ y → x ≡ y
one_rest a b x y same e = append_cancel_left b x y (ap (λ (f : List ℕ). f ++ x) (sym same) ∙ e)

-- a whole record is not empty
not_nothing : (a x : List ℕ) → IsWhole a → a ++ x ≡ [] → ⊥
unfolding IsWhole
not_nothing a x p e = at (kind a) p
  where
    at : (k : Option Kind) → MatchOption k ⊥ (IsWholeAt a) → ⊥
    at None p = p
    at (Some k) p = let h = p.has_head in let n : length a + length x ≡ 0 = sym (length-append a x) ∙ ap length e in omega arith

-- a section spells only one list
pub one_list : (t : Tables) (b c : List ℕ) (xs ys : List Term) → b ≡ c → Section t b xs → Section t c ys → xs ≡ ys
one_list t b c [] [] same p q = refl
one_list t b c [] (y ∷ ys) same p q = absurd (not_nothing q.0 q.1 q.3.whole (sym q.2 ∙ sym same ∙ p))
one_list t b c (x ∷ xs) [] same p q = absurd (not_nothing p.0 p.1 p.3.whole (sym p.2 ∙ same ∙ q))
one_list t b c (x ∷ xs) (y ∷ ys) same p q =
    let e : p.0 ++ p.1 ≡ q.0 ++ q.1 = sym p.2 ∙ same ∙ q.2 in
    let front = one_front p.0 q.0 p.1 q.1 p.3.whole q.3.whole e in
    let rest = one_rest p.0 q.0 p.1 q.1 front e in
    let head : x ≡ y = same_Some x y (sym (says_of t p.0 x p.3) ∙ ap (term_of t) front ∙ says_of t q.0 y q.3) in
    ap (λ (z : Term). z ∷ xs) head ∙ ap (λ (zs : List Term). y ∷ zs) (one_list t p.1 q.1 xs ys rest p.4 q.4)
