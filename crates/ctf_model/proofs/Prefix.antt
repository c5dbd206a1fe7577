-- No whole record is a proper prefix of another.
use Rattle.std.proofs.Common.{◌≡◌, ℕ, ◌+◌, ◌≤◌, Bool, true, false, List, [], ◌++◌, length, take, drop, Option, Some, None, refl, sym, ap, subst, ◌∙◌, arith}
use Rattle.std.specs.Prelude.{MatchOption}
use Rattle.std.proofs.lemmas.List.{take-append-le, drop-append-le, length-append, length-drop, nil_from_length}
use Rattle.ctf_model.specs.declared.kinds.Kind.{Kind}
use Rattle.ctf_model.specs.format.Bytes.{number, u16_at, u32_at}
use Rattle.ctf_model.specs.format.Record.{info, field, is_long, head_len, size, vlen, kind, variant_len, IsWhole, IsWholeAt}

-- a part inside a list is the same if bytes are appended
pub piece-append : (a x : List ℕ) (at n : ℕ) → at + n ≤ length a → take n (drop at (a ++ x)) ≡ take n (drop at a)
piece-append a x at n h =
    let inside : at ≤ length a = omega arith in
    let room : n ≤ length (drop at a) = omega (arith, length-drop at a) in
    rw (drop-append-le, take-append-le) refl

-- so is a two-byte number inside
pub u16-append : (a x : List ℕ) (at : ℕ) → at + 2 ≤ length a → u16_at (a ++ x) at ≡ u16_at a at
u16-append a x at h = ap number (piece-append a x at 2 h)

-- and a four-byte number
pub u32-append : (a x : List ℕ) (at : ℕ) → at + 4 ≤ length a → u32_at (a ++ x) at ≡ u32_at a at
u32-append a x at h = ap number (piece-append a x at 4 h)

-- and the size field of a head
field-append : (a x : List ℕ) → 8 ≤ length a → field (a ++ x) ≡ field a
field-append a x h = u16-append a x 6 (omega arith)

-- and the size of a record whose head is inside
size-append : (a x : List ℕ) (long : Bool) → is_long a ≡ long → 8 ≤ length a → head_len a ≤ length a → size (a ++ x) ≡ size a
size-append a x true e low h =
    let wide : 16 ≤ length a = (rw e at h) in
    rw (field-append a x low, e, u32-append a x 8 (omega arith), u32-append a x 12 (omega arith)) refl
size-append a x false e low h = rw (field-append a x low, e) refl

-- appending bytes does not change the length of a head
pub head_len-append : (a x : List ℕ) → 8 ≤ length a → head_len (a ++ x) ≡ head_len a
head_len-append a x low = rw (field-append a x low) refl

-- nor the length that a record requires
pub record_len-append : (a x : List ℕ) (k : Kind) → 8 ≤ length a → head_len a ≤ length a → head_len (a ++ x) + variant_len k (size (a ++ x)) (vlen (a ++ x)) ≡ head_len a + variant_len k (size a) (vlen a)
record_len-append a x k low enough = rw (size-append a x (is_long a) refl low enough, field-append a x low, u16-append a x 4 (omega arith)) refl

-- nor the kind
pub kind-append : (a x : List ℕ) → 8 ≤ length a → kind (a ++ x) ≡ kind a
kind-append a x low = let same : info (a ++ x) ≡ info a = u16-append a x 4 (omega arith) in rw same refl

-- if the kinds are equal, nothing is appended
at_kinds : (a x : List ℕ) (o o' : Option Kind) → o' ≡ o → MatchOption o ⊥ (IsWholeAt a) → MatchOption o' ⊥ (IsWholeAt (a ++ x)) → x ≡ []
at_kinds a x None o' e p q = absurd p
at_kinds a x (Some k) None e p q = absurd q
at_kinds a x (Some k) (Some k') e p q =
    let same : k' ≡ k = cc in
    let q' : IsWholeAt (a ++ x) k = subst (IsWholeAt (a ++ x)) same q in
    let enough : head_len a ≤ length a = omega (arith, p.ends) in
    let len : length (a ++ x) ≡ length a = q'.ends ∙ record_len-append a x k p.has_head enough ∙ sym p.ends in
    let none : length x ≡ 0 = omega (arith, length-append a x) in nil_from_length x none

-- a whole record has a head
pub has_head : (o : Option Kind) (a : List ℕ) → MatchOption o ⊥ (IsWholeAt a) → 8 ≤ length a
has_head None a p = absurd p
has_head (Some k) a p = p.has_head

-- no whole record is a proper prefix of another
pub IsWhole-prefix : (a x : List ℕ) → IsWhole a → IsWhole (a ++ x) → x ≡ []
unfolding IsWhole
IsWhole-prefix a x p q = at_kinds a x (kind a) (kind (a ++ x)) (kind-append a x (has_head (kind a) a p)) p q
