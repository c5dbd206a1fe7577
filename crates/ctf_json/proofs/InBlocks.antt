-- Whether a byte occurs in a text, checked blockwise by bit masks.
use Rattle.std.proofs.Common.{◌≡◌, ℕ, ◌+◌, ◌-◌, ◌*◌, ◌<◌, ◌≤◌, Bool, true, false, ◌||◌, ◌==◌, cond, List, [], ◌∷◌, ◌++◌, length, drop, take, refl, sym, ap, ◌∙◌, arith}
use Rattle.std.specs.Prelude.{nat_eq, not}
use Rattle.std.proofs.lemmas.Bool.Decides.{nat_tests}
use Rattle.std.proofs.lemmas.Simd.{chunk-drop}
use Rattle.std.proofs.lemmas.List.{drop_all}
use Rattle.ctf_json.specs.Bits.{bits_of}
use Rattle.ctf_json.specs.Memory.{has_byte}
use lib.Lanes.{chunk}
use lib.ListN.{take-append-drop}
use lib.Seq.{drop-drop}

none_case : (here later : Bool) (bits : ℕ) → (bits ≡ 0 → later ≡ false) → cond here 1 0 + 2 * bits ≡ 0 → (here || later) ≡ false
none_case true later bits rest e = let no : ⊥ = omega (arith, e) in absurd no
none_case false later bits rest e = rest (omega (arith, e))

none : (b : ℕ) (xs : List ℕ) → bits_of b xs ≡ 0 → has_byte b xs ≡ false
none b [] e = refl
none b (x ∷ xs) e = none_case (x == b) (has_byte b xs) (bits_of b xs) (none b xs) e

some_case : (here later : Bool) (bits : ℕ) → (0 < bits → later ≡ true) → 0 < cond here 1 0 + 2 * bits → (here || later) ≡ true
some_case true later bits rest some = refl
some_case false later bits rest some = rest (omega (arith, some))

some : (b : ℕ) (xs : List ℕ) → 0 < bits_of b xs → has_byte b xs ≡ true
some b [] more = let no : ⊥ = omega (arith, more) in absurd no
some b (x ∷ xs) more = some_case (x == b) (has_byte b xs) (bits_of b xs) (some b xs) more

or_assoc : (a b c : Bool) → (a || (b || c)) ≡ ((a || b) || c)
or_assoc true b c = refl
or_assoc false b c = refl

or_true : (a b : Bool) → b ≡ true → (a || b) ≡ true
or_true true b e = refl
or_true false b e = e

joined : (b : ℕ) (xs ys : List ℕ) → has_byte b (xs ++ ys) ≡ (has_byte b xs || has_byte b ys)
joined b [] ys = refl
joined b (x ∷ xs) ys = ap (λ h. (x == b) || h) (joined b xs ys) ∙ or_assoc (x == b) (has_byte b xs) (has_byte b ys)

split : (b : ℕ) (d : List ℕ) (i n : ℕ) → has_byte b (drop i d) ≡ (has_byte b (chunk i n d) || has_byte b (drop (i + n) d))
split b d i n = ap (has_byte b) (chunk-drop i n d) ∙ joined b (chunk i n d) (drop (i + n) d)

passed : (b : ℕ) (d : List ℕ) (i n : ℕ) → bits_of b (chunk i n d) ≡ 0 → has_byte b (drop i d) ≡ has_byte b (drop (i + n) d)
passed b d i n e = split b d i n ∙ ap (λ h. h || has_byte b (drop (i + n) d)) (none b (chunk i n d) e)

-- a byte in the rest of a text is in the text
in_end : (b : ℕ) (d : List ℕ) (i : ℕ) → has_byte b (drop i d) ≡ true → has_byte b d ≡ true
in_end b d i h = sym (ap (has_byte b) (take-append-drop i d)) ∙ joined b (take i d) (drop i d) ∙ or_true (has_byte b (take i d)) (has_byte b (drop i d)) h

-- the byte is in this block
pub met : (b : ℕ) (d : List ℕ) (i n : ℕ) → 0 < bits_of b (chunk i n d) → has_byte b d ≡ true
met b d i n more = in_end b d i (split b d i n ∙ ap (λ h. h || has_byte b (drop (i + n) d)) (some b (chunk i n d) more))

-- it is not in this block
pub gone_on : (b : ℕ) (d : List ℕ) (i n : ℕ) → has_byte b d ≡ has_byte b (drop i d) → bits_of b (chunk i n d) ≡ 0 → has_byte b d ≡ has_byte b (drop (i + n) d)
gone_on b d i n so_far e = so_far ∙ passed b d i n e

not_true : (h : Bool) → (h ≡ true → ⊥) → h ≡ false
not_true true never = absurd (never refl)
not_true false never = refl

-- nor in the last block, which covers all remaining bytes
pub ended : (b : ℕ) (d : List ℕ) (i j n : ℕ) → j + n ≡ length d → j ≤ i → has_byte b d ≡ has_byte b (drop i d) → bits_of b (chunk j n d) ≡ 0 → has_byte b d ≡ false
ended b d i j n all le so_far e =
    let behind : has_byte b (drop (j + n) d) ≡ false = ap (has_byte b) (drop_all (j + n) d (omega (arith, all))) in
    let last : has_byte b (drop j d) ≡ false = passed b d j n e ∙ behind in
    let same : drop (i - j) (drop j d) ≡ drop i d = drop-drop (i - j) j d ∙ ap (λ k. drop k d) (omega (arith, le)) in
    so_far ∙ not_true (has_byte b (drop i d)) (λ there. let clash : true ≡ false = sym (in_end b (drop j d) (i - j) (ap (has_byte b) same ∙ there)) ∙ last in cc)

-- the last block decides
pub last_told : (b : ℕ) (d : List ℕ) (i j n bits : ℕ) → j + n ≡ length d → j ≤ i → has_byte b d ≡ has_byte b (drop i d) → bits ≡ bits_of b (chunk j n d) → not (nat_eq bits 0) ≡ has_byte b d
last_told b d i j n bits all le so_far is = by_test (nat_eq bits 0) refl
  where
    by_test : (t : Bool) → nat_eq bits 0 ≡ t → not t ≡ has_byte b d
    by_test true e = let none : bits ≡ 0 = grind (arith, nat_tests, e) in sym (ended b d i j n all le so_far (sym is ∙ none))
    by_test false e = let more : 0 < bits = grind (arith, nat_tests, e) in sym (met b d j n (omega (arith, more, is)))
