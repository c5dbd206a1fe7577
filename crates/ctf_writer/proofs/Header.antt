-- The header and what follows it, appended part by part.
use Rattle.std.proofs.Common.{◌≡◌, ℕ, ◌+◌, List, [], ◌∷◌, ◌++◌, ap, ◌∙◌}
use Rattle.std.proofs.lemmas.List.{append_assoc}
use Rattle.ctf_model.specs.writing.Written.{fields_over, header_bytes}
use Rattle.ctf_model.specs.writing.WrittenRecords.{u32}

-- one more part
more : (o o1 o2 a b : List ℕ) → o1 ≡ o ++ a → o2 ≡ o1 ++ b → o2 ≡ o ++ (a ++ b)
more o o1 o2 a b p q = q ∙ ap (λ (x : List ℕ). x ++ b) p ∙ append_assoc o a b

pub header_joined : (parlabel parname labels records strings : ℕ) (o o0 o1 o2 o3 o4 o5 o6 o7 o8 : List ℕ)
    → o0 ≡ o ++ (0xf1 ∷ 0xcf ∷ 2 ∷ 0 ∷ []) → o1 ≡ o0 ++ u32 parlabel → o2 ≡ o1 ++ u32 parname → o3 ≡ o2 ++ u32 0 → o4 ≡ o3 ++ u32 labels → o5 ≡ o4 ++ u32 labels → o6 ≡ o5 ++ u32 labels → o7 ≡ o6 ++ u32 (labels + records) → o8 ≡ o7 ++ u32 strings
    → o8 ≡ o ++ header_bytes (fields_over parlabel parname labels records strings)
header_joined parlabel parname labels records strings o o0 o1 o2 o3 o4 o5 o6 o7 o8 p0 p1 p2 p3 p4 p5 p6 p7 p8 =
    let two = more o6 o7 o8 (u32 (labels + records)) (u32 strings) p7 p8 in
    let three = more o5 o6 o8 (u32 labels) (u32 (labels + records) ++ u32 strings) p6 two in
    let four = more o4 o5 o8 (u32 labels) _ p5 three in
    let five = more o3 o4 o8 (u32 labels) _ p4 four in
    let six = more o2 o3 o8 (u32 0) _ p3 five in
    let seven = more o1 o2 o8 (u32 parname) _ p2 six in
    let eight = more o0 o1 o8 (u32 parlabel) _ p1 seven in
    more o o0 o8 (0xf1 ∷ 0xcf ∷ 2 ∷ 0 ∷ []) _ p0 eight

pub three_joined : (o o1 o2 o3 a b c : List ℕ) → o1 ≡ o ++ a → o2 ≡ o1 ++ b → o3 ≡ o2 ++ c → o3 ≡ o ++ (a ++ (b ++ c))
three_joined o o1 o2 o3 a b c p q r = more o o1 o3 a (b ++ c) p (more o1 o2 o3 b c q r)

pub four_joined : (o o1 o2 o3 o4 a b c d : List ℕ) → o1 ≡ o ++ a → o2 ≡ o1 ++ b → o3 ≡ o2 ++ c → o4 ≡ o3 ++ d → o4 ≡ o ++ (a ++ (b ++ (c ++ d)))
four_joined o o1 o2 o3 o4 a b c d p q r s = more o o1 o4 a (b ++ (c ++ d)) p (three_joined o1 o2 o3 o4 b c d q r s)
