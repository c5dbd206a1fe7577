-- The text of a declaration from the marks of its layers.
use Rattle.std.proofs.Common.{◌≡◌, ℕ, ◌+◌, ◌-◌, ◌<◌, ◌≤◌, eqb, true, false, Bool, cond, List, [], ◌∷◌, ◌++◌, length, take, drop, get_or, reverse, Option, codes, decimal, refl, sym, ap, append_assoc, arith, length-append}
use Rattle.std.specs.List.{flat_map}
use Rattle.std.proofs.lemmas.List.Folds.{length-flat_map-take}
use Rattle.std.proofs.lemmas.List.{append-nil, reverse-append, drop_more, take_more}
use Rattle.std.proofs.lemmas.Bool.{ne_eqb}
use Rattle.std.proofs.lemmas.Grind.{flat_map-append}
use Rattle.ctf_model.specs.names.TypeNames.{declared, join_texts, past, is_pointer, is_behind, word_of_qualifier}
use Rattle.ctf_names.specs.Marks.{mark, marks, front, text_before, right, declarator, marked_text}
use Rattle.ctf_names.specs.MarkSteps.{beyond, marks_from}
use Rattle.ctf_model.specs.declared.layers.Layer.{Layer}
use Rattle.ctf_model.specs.declared.layers.Layer.TheVariants.{Pointer, Array, Function, Qualified}
use Rattle.ctf_model.specs.declared.layers.Qualifier.{Qualifier}
use Rattle.ctf_model.specs.declared.layers.Qualifier.TheVariants.{Volatile, Const, Restrict}
use Rattle.ctf_names.specs.declared.marks.Mark.{Mark}
use Rattle.ctf_names.specs.declared.marks.Mark.TheVariants.{Front, Alone, Before, Star, Grouped, Count, Call}

-- ---- from the innermost layer on

pub past_more : (layer : Layer) (layers : List Layer) → past (layer ∷ layers) ≡ beyond layer (past layers)
past_more Pointer layers = refl
past_more (Array count) layers = refl
past_more Function layers = refl
past_more (Qualified q) layers = refl

-- ---- texts

-- the declarator of marks around another declarator
abbrev around : List Mark → List ℕ → List ℕ
around ms d = flat_map text_before (reverse ms) ++ (d ++ flat_map right ms)

lefts_more : (m : Mark) (ms : List Mark) → flat_map text_before (reverse (m ∷ ms)) ≡ flat_map text_before (reverse ms) ++ text_before m
lefts_more m ms = rw (reverse-append (m ∷ []) ms) (rw (flat_map-append text_before (reverse ms) (m ∷ [])) (rw (append-nil (text_before m)) refl))

around_more : (m : Mark) (ms : List Mark) (d : List ℕ) → around (m ∷ ms) d ≡ around ms (text_before m ++ (d ++ right m))
around_more m ms d = rw (lefts_more m ms) (simp append_assoc)

joined_some : (name d : List ℕ) → 0 < length d → join_texts name d ≡ name ++ 32 ∷ d
joined_some name [] h = absurd (omega arith)
joined_some name (x ∷ d) h = refl

some_length : (ms : List Mark) (d : List ℕ) → 0 < length d → 0 < length (around ms d)
some_length ms d h =
    let outer : length (around ms d) ≡ length (flat_map text_before (reverse ms)) + length (d ++ flat_map right ms) = length-append (flat_map text_before (reverse ms)) (d ++ flat_map right ms) in
    let inner = length-append d (flat_map right ms) in
    omega (arith, outer, inner)

-- with a non-empty declarator
pub declared_some : (layers : List Layer) (name d : List ℕ) → 0 < length d → declared layers name d ≡ flat_map front (marks false layers) ++ (name ++ 32 ∷ around (marks false layers) d)
unfolding declared
declared_some [] name d h = rw (joined_some name d h) (rw (append-nil d) refl)
declared_some (Pointer ∷ layers) name d h =
    elim (is_behind (past layers)) as (λ t. declared layers name (cond t (codes "(*" ++ (d ++ codes ")")) (codes "*" ++ d)) ≡ flat_map front (cond t Grouped Star ∷ marks false layers) ++ (name ++ 32 ∷ around (cond t Grouped Star ∷ marks false layers) d)) [
      | true ↦ rw (around_more Grouped (marks false layers) d) (declared_some layers name (codes "(*" ++ (d ++ codes ")")) (omega arith))
      | false ↦ rw (around_more Star (marks false layers) d) (rw (append-nil d) (declared_some layers name (codes "*" ++ d) (omega arith)))
    ]
declared_some (Array count ∷ layers) name d h =
    rw (around_more (Count count) (marks false layers) d) (declared_some layers name (d ++ (codes "[" ++ (decimal count ++ codes "]"))) (omega (arith, length-append d (codes "[" ++ (decimal count ++ codes "]")))))
declared_some (Function ∷ layers) name d h =
    rw (around_more Call (marks false layers) d) (declared_some layers name (d ++ codes "()") (omega (arith, length-append d (codes "()"))))
declared_some (Qualified q ∷ layers) name d h =
    elim (is_pointer (past layers)) as (λ t. cond t (declared layers name (join_texts (word_of_qualifier q) d)) (word_of_qualifier q ++ (codes " " ++ declared layers name d)) ≡ flat_map front (cond t (Before q) (Front q) ∷ marks false layers) ++ (name ++ 32 ∷ around (cond t (Before q) (Front q) ∷ marks false layers) d)) [
      | true ↦ rw (around_more (Before q) (marks false layers) d) (rw (append-nil d) (rw (joined_some (word_of_qualifier q) d h) (rw (append_assoc (word_of_qualifier q) (codes " ") d)
          (declared_some layers name (word_of_qualifier q ++ (32 ∷ d)) (omega (arith, length-append (word_of_qualifier q) (32 ∷ d)))))))
      | false ↦ rw (around_more (Front q) (marks false layers) d) (rw (append-nil d) (rw (declared_some layers name d h) (simp append_assoc)))
    ]

-- below a qualifier in front, the marks do not depend on being outermost
marks_same : (layers : List Layer) → is_pointer (past layers) ≡ false → marks true layers ≡ marks false layers
marks_same [] h = refl
marks_same (Pointer ∷ layers) h = absurd cc
marks_same (Array count ∷ layers) h = refl
marks_same (Function ∷ layers) h = refl
marks_same (Qualified q ∷ layers) h = rw h refl

word_some : (q : Qualifier) → 0 < length (word_of_qualifier q)
word_some Volatile = omega arith
word_some Const = omega arith
word_some Restrict = omega arith

joined_around : (name : List ℕ) (ms : List Mark) (d : List ℕ) → 0 < length d → join_texts name (around ms d) ≡ name ++ 32 ∷ around ms d
joined_around name ms d h = joined_some name (around ms d) (some_length ms d h)

qualified_is : (q : Qualifier) (layers : List Layer) (name : List ℕ) → declared layers name [] ≡ marked_text (marks true layers) name → (t : Bool) → is_pointer (past layers) ≡ t → cond t (declared layers name (join_texts (word_of_qualifier q) [])) (word_of_qualifier q ++ (codes " " ++ declared layers name [])) ≡ flat_map front (cond t (Alone q) (Front q) ∷ marks false layers) ++ join_texts name (around (cond t (Alone q) (Front q) ∷ marks false layers) [])
qualified_is q layers name inside true h =
    rw (around_more (Alone q) (marks false layers) []) (rw (append-nil (word_of_qualifier q)) (rw (joined_around name (marks false layers) (word_of_qualifier q) (word_some q)) (declared_some layers name (word_of_qualifier q) (word_some q))))
qualified_is q layers name inside false h =
    let same : marks true layers ≡ marks false layers = marks_same layers h in
    rw (around_more (Front q) (marks false layers) []) (rw (inside, same) (simp append_assoc))

-- the text of a declaration is what its marks spell
pub declared_is : (layers : List Layer) (name : List ℕ) → declared layers name [] ≡ marked_text (marks true layers) name
unfolding declared
declared_is [] name = refl
declared_is (Pointer ∷ layers) name =
    elim (is_behind (past layers)) as (λ t. declared layers name (cond t (codes "(*" ++ ([] ++ codes ")")) (codes "*" ++ [])) ≡ flat_map front (cond t Grouped Star ∷ marks false layers) ++ join_texts name (around (cond t Grouped Star ∷ marks false layers) [])) [
      | true ↦ rw (around_more Grouped (marks false layers) []) (rw (joined_around name (marks false layers) (codes "(*)") (omega arith)) (declared_some layers name (codes "(*)") (omega arith)))
      | false ↦ rw (around_more Star (marks false layers) []) (rw (joined_around name (marks false layers) (codes "*") (omega arith)) (declared_some layers name (codes "*") (omega arith)))
    ]
declared_is (Array count ∷ layers) name =
    rw (around_more (Count count) (marks false layers) []) (rw (joined_around name (marks false layers) (codes "[" ++ (decimal count ++ codes "]")) (omega arith)) (declared_some layers name (codes "[" ++ (decimal count ++ codes "]")) (omega arith)))
declared_is (Function ∷ layers) name =
    rw (around_more Call (marks false layers) []) (rw (joined_around name (marks false layers) (codes "()") (omega arith)) (declared_some layers name (codes "()") (omega arith)))
declared_is (Qualified q ∷ layers) name = qualified_is q layers name (declared_is layers name) (is_pointer (past layers)) refl

pub marks_step : (layers : List Layer) (i : ℕ) (x : Layer) → i < length layers → marks_from i layers ≡ mark (eqb i 0) (get_or layers i x) (past (drop (i + 1) layers)) ∷ marks_from (i + 1) layers
marks_step layers i x h =
    let later : eqb (i + 1) 0 ≡ false = ne_eqb (i + 1) 0 (λ e. omega arith) in
    rw (drop_more layers i x h) (rw later refl)

pub marks_more : (layers : List Layer) (d : Layer) (i k : ℕ) (m : Mark) (below : Option Layer) → i + k + 1 ≡ length layers → m ≡ mark (eqb i 0) (get_or layers i d) below → below ≡ past (drop (length layers - k) layers) → reverse (marks_from (length layers - (k + 1)) layers) ≡ reverse (marks_from (length layers - k) layers) ++ m ∷ []
marks_more layers d i k m below e is past_is =
    let here : length layers - (k + 1) ≡ i = omega arith in
    let next : length layers - k ≡ i + 1 = omega arith in
    let step : marks_from i layers ≡ m ∷ marks_from (i + 1) layers = rw (is, past_is, next) (marks_step layers i d (omega arith)) in
    rw (here, next) (rw step (reverse-append (m ∷ []) (marks_from (i + 1) layers)))

pub past_step : (layers : List Layer) (d : Layer) (i k : ℕ) (now below : Option Layer) → i + k + 1 ≡ length layers → now ≡ beyond (get_or layers i d) below → below ≡ past (drop (length layers - k) layers) → now ≡ past (drop (length layers - (k + 1)) layers)
past_step layers d i k now below e is past_is =
    let here : length layers - (k + 1) ≡ i = omega arith in
    let next : length layers - k ≡ i + 1 = omega arith in
    rw (here, is, past_is, next) (rw (drop_more layers i d (omega arith)) (sym (past_more (get_or layers i d) (drop (i + 1) layers))))

-- ---- lengths

left_length : (ms : List Mark) → length (flat_map text_before (reverse ms)) ≡ length (flat_map text_before ms)
left_length [] = refl
left_length (m ∷ ms) =
    let here = ap length (lefts_more m ms) in
    let split = length-append (flat_map text_before (reverse ms)) (text_before m) in
    let other = length-append (text_before m) (flat_map text_before ms) in
    let rest = left_length ms in
    omega (arith, here, split, other, rest)

joined_length : (name d : List ℕ) (n : ℕ) → n ≡ length d → length (join_texts name d) ≡ length name + cond (eqb n 0) 0 (1 + n)
joined_length name [] n e = rw e (omega arith)
joined_length name (x ∷ d) n e =
    let some : eqb n 0 ≡ false = ne_eqb n 0 (λ z. omega arith) in
    rw some (omega (arith, length-append name (32 ∷ x ∷ d)))

pub text_length : (ms : List Mark) (name : List ℕ) (n : ℕ) → n ≡ length (flat_map text_before ms) + length (flat_map right ms) → length (marked_text ms name) ≡ length (flat_map front ms) + (length name + cond (eqb n 0) 0 (1 + n))
text_length ms name n e =
    let d = length-append (flat_map text_before (reverse ms)) (flat_map right ms) in
    let l = left_length ms in
    let j = joined_length name (declarator ms) n (omega (arith, d, l, e)) in
    omega (arith, j, length-append (flat_map front ms) (join_texts name (declarator ms)))

-- ---- written from the end

pub lefts_step : (ms : List Mark) (m : Mark) (i : ℕ) → i < length ms → flat_map text_before (reverse (take (i + 1) ms)) ≡ text_before (get_or ms i m) ++ flat_map text_before (reverse (take i ms))
lefts_step ms m i h = rw (take_more ms i m h) (rw (reverse-append (take i ms) (get_or ms i m ∷ [])) refl)

pub lefts_at : (ms : List Mark) (m : Mark) (i k : ℕ) → i + k + 1 ≡ length ms → flat_map text_before (reverse (take (length ms - k) ms)) ≡ text_before (get_or ms i m) ++ flat_map text_before (reverse (take (length ms - (k + 1)) ms))
lefts_at ms m i k e =
    let here : length ms - (k + 1) ≡ i = omega arith in
    let next : length ms - k ≡ i + 1 = omega arith in
    rw (here, next) (lefts_step ms m i (omega arith))

-- ---- with a declarator or without

declarator_length : (ms : List Mark) → length (declarator ms) ≡ length (flat_map text_before ms) + length (flat_map right ms)
declarator_length ms =
    let d = length-append (flat_map text_before (reverse ms)) (flat_map right ms) in
    let l = left_length ms in
    omega (arith, d, l)

empty_is : (d : List ℕ) → length d ≡ 0 → d ≡ []
empty_is [] h = refl
empty_is (x ∷ d) h = absurd (omega arith)

pub text_bare : (ms : List Mark) (name : List ℕ) → length (flat_map text_before ms) + length (flat_map right ms) ≡ 0 → marked_text ms name ≡ flat_map front ms ++ name
text_bare ms name e =
    let none : declarator ms ≡ [] = empty_is (declarator ms) (omega (arith, declarator_length ms, e)) in
    rw none refl

pub text_with : (ms : List Mark) (name : List ℕ) → 0 < length (flat_map text_before ms) + length (flat_map right ms) → marked_text ms name ≡ flat_map front ms ++ (name ++ 32 ∷ declarator ms)
text_with ms name h =
    let some = joined_some name (declarator ms) (omega (arith, declarator_length ms, h)) in
    rw some refl

pub bare_length : (ms : List Mark) (name : List ℕ) → length (flat_map text_before ms) + length (flat_map right ms) ≡ 0 → length (marked_text ms name) ≡ length (flat_map front ms) + length name
bare_length ms name e = omega (arith, ap length (text_bare ms name e), length-append (flat_map front ms) name)

pub with_length : (ms : List Mark) (name : List ℕ) → 0 < length (flat_map text_before ms) + length (flat_map right ms) → length (marked_text ms name) ≡ length (flat_map front ms) + (length name + (1 + (length (flat_map text_before ms) + length (flat_map right ms))))
with_length ms name h = omega (arith, ap length (text_with ms name h), length-append (flat_map front ms) (name ++ 32 ∷ declarator ms), length-append name (32 ∷ declarator ms), declarator_length ms)

pub lefts_length : (ms : List Mark) → length (flat_map text_before (reverse ms)) ≡ length (flat_map text_before ms)
lefts_length ms = left_length ms

-- ---- room for one more

pub one_fits : (f : Mark → List ℕ) (ms : List Mark) (i : ℕ) (m : Mark) (bytes : List ℕ) → i < length ms → bytes ≡ f (get_or ms i m) → length (flat_map f (take i ms)) + length bytes ≤ length (flat_map f ms)
one_fits f ms i m bytes h e = rw e (length-flat_map-take f ms i m h)
