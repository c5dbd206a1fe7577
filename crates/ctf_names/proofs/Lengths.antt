-- Lengths of names, one more layer at a time.
use Rattle.std.proofs.Common.{◌≡◌, ℕ, ◌+◌, ◌<◌, true, false, List, [], ◌∷◌, length, Option, None, refl, sym, ap, ◌∙◌, arith, length-append}
use Rattle.std.specs.Prelude.{min}
use Rattle.std.specs.List.{flat_map}
use Rattle.ctf_model.specs.names.TypeNames.{Declaration, declared, past}
use Rattle.ctf_model.specs.declared.layers.Layer.{Layer}
use Rattle.ctf_names.specs.NameLengths.{lengths_of, of_base, one_more}
use Rattle.ctf_names.specs.Marks.{front, text_before, mark, marked_text, marks, right}
use Rattle.ctf_names.specs.MarkSteps.{beyond}
use Rattle.ctf_names.specs.declared.name_lengths.NameLengths.{NameLengths}
use Rattle.ctf_names.specs.declared.marks.Mark.{Mark}
use Rattle.ctf_names.proofs.MarkedText.{bare_length, declared_is, past_more, with_length}

-- ---- the parts of the lengths

pub base_is : (name : List ℕ) (n : ℕ) → n ≡ min (0 + length name) 65537 → record { name = n; declarator = 0; below = None } ≡ of_base name
unfolding lengths_of
base_is name n e = rw e refl

name_is : (d : Declaration) (inside : NameLengths) → inside ≡ lengths_of d → inside.name ≡ min (length (flat_map front (marks false d.layers)) + length d.name) 65537
unfolding lengths_of
name_is d inside e = rw e refl

declarator_is : (d : Declaration) (inside : NameLengths) → inside ≡ lengths_of d → inside.declarator ≡ min (length (flat_map text_before (marks false d.layers)) + length (flat_map right (marks false d.layers))) 65537
unfolding lengths_of
declarator_is d inside e = rw e refl

below_is : (d : Declaration) (inside : NameLengths) → inside ≡ lengths_of d → inside.below ≡ past d.layers
unfolding lengths_of
below_is d inside e = rw e refl

all_three : (d : Declaration) (layer : Layer) (name declarator : ℕ) (below : Option Layer)
    → name ≡ min (length (flat_map front (marks false (layer ∷ d.layers))) + length d.name) 65537
    → declarator ≡ min (length (flat_map text_before (marks false (layer ∷ d.layers))) + length (flat_map right (marks false (layer ∷ d.layers)))) 65537
    → below ≡ past (layer ∷ d.layers)
    → record { name = name; declarator = declarator; below = below } ≡ lengths_of (one_more layer d)
unfolding lengths_of
all_three d layer name declarator below a b c = rw (a, b, c) refl

-- ---- one more layer

-- the lengths of a layer's mark and of those inside
fronts_more : (m : Mark) (ms : List Mark) → length (flat_map front (m ∷ ms)) ≡ length (front m) + length (flat_map front ms)
fronts_more m ms = length-append (front m) (flat_map front ms)

lefts_more : (m : Mark) (ms : List Mark) → length (flat_map text_before (m ∷ ms)) ≡ length (text_before m) + length (flat_map text_before ms)
lefts_more m ms = length-append (text_before m) (flat_map text_before ms)

rights_more : (m : Mark) (ms : List Mark) → length (flat_map right (m ∷ ms)) ≡ length (right m) + length (flat_map right ms)
rights_more m ms = length-append (right m) (flat_map right ms)

pub round_is : (layer : Layer) (d : Declaration) (inside : NameLengths) (m : Mark) (name declarator : ℕ) (below : Option Layer) → inside ≡ lengths_of d → m ≡ mark false layer inside.below
    → name ≡ min (inside.name + length (front m)) 65537
    → declarator ≡ min (inside.declarator + (length (text_before m) + length (right m))) 65537
    → below ≡ beyond layer inside.below
    → record { name = name; declarator = declarator; below = below } ≡ lengths_of (one_more layer d)
round_is layer d inside m name declarator below e is n sides b =
    let ms = marks false d.layers in
    let under = below_is d inside e in
    let this : m ≡ mark false layer (past d.layers) = is ∙ ap (mark false layer) under in
    let fronts = ap (λ (x : Mark). length (flat_map front (x ∷ ms))) (sym this) ∙ fronts_more m ms in
    let lefts = ap (λ (x : Mark). length (flat_map text_before (x ∷ ms))) (sym this) ∙ lefts_more m ms in
    let rights = ap (λ (x : Mark). length (flat_map right (x ∷ ms))) (sym this) ∙ rights_more m ms in
    let old_name = name_is d inside e in
    let old_declarator = declarator_is d inside e in
    all_three d layer name declarator below
    (omega (arith, n, old_name, fronts))
    (omega (arith, sides, old_declarator, lefts, rights))
    (b ∙ ap (beyond layer) under ∙ sym (past_more layer d.layers))

-- ---- the text of a layer around a type

whole_length : (layer : Layer) (d : Declaration) (m : Mark) → m ≡ mark true layer (past d.layers) → length (declared (layer ∷ d.layers) d.name []) ≡ length (marked_text (m ∷ marks false d.layers) d.name)
whole_length layer d m is =
    ap length (declared_is (layer ∷ d.layers) d.name) ∙ ap (λ (x : Mark). length (marked_text (x ∷ marks false d.layers) d.name)) (sym is)

pub bare_is : (layer : Layer) (d : Declaration) (inside : NameLengths) (m : Mark) (name declarator : ℕ) → inside ≡ lengths_of d → m ≡ mark true layer inside.below
    → name ≡ min (inside.name + length (front m)) 65537
    → declarator ≡ min (inside.declarator + (length (text_before m) + length (right m))) 65537
    → declarator ≡ 0
    → name ≡ min (length (declared (layer ∷ d.layers) d.name [])) 65537
bare_is layer d inside m name declarator e is n sides none =
    let ms = marks false d.layers in
    let whole = whole_length layer d m (is ∙ ap (mark true layer) (below_is d inside e)) in
    let old_name = name_is d inside e in
    let old_declarator = declarator_is d inside e in
    let fronts = fronts_more m ms in
    let lefts = lefts_more m ms in
    let rights = rights_more m ms in
    let nothing : length (flat_map text_before (m ∷ ms)) + length (flat_map right (m ∷ ms)) ≡ 0 = omega (arith, sides, old_declarator, lefts, rights, none) in
    omega (arith, n, old_name, fronts, whole, bare_length (m ∷ ms) d.name nothing)

pub with_is : (layer : Layer) (d : Declaration) (inside : NameLengths) (m : Mark) (name declarator one result : ℕ) → inside ≡ lengths_of d → m ≡ mark true layer inside.below
    → name ≡ min (inside.name + length (front m)) 65537
    → declarator ≡ min (inside.declarator + (length (text_before m) + length (right m))) 65537
    → (declarator ≡ 0 → ⊥)
    → one ≡ min (name + 1) 65537 → result ≡ min (one + declarator) 65537
    → result ≡ min (length (declared (layer ∷ d.layers) d.name [])) 65537
with_is layer d inside m name declarator one result e is n sides some first all =
    let ms = marks false d.layers in
    let whole = whole_length layer d m (is ∙ ap (mark true layer) (below_is d inside e)) in
    let old_name = name_is d inside e in
    let old_declarator = declarator_is d inside e in
    let fronts = fronts_more m ms in
    let lefts = lefts_more m ms in
    let rights = rights_more m ms in
    let much : 0 < length (flat_map text_before (m ∷ ms)) + length (flat_map right (m ∷ ms)) = omega (arith, sides, old_declarator, lefts, rights, some) in
    omega (arith, n, old_name, fronts, first, all, sides, old_declarator, lefts, rights, whole, with_length (m ∷ ms) d.name much)
