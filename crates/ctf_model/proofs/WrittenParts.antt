-- The positions of the parts of a written dictionary.
use Rattle.std.proofs.Common.{◌≡◌, ℕ, ◌+◌, ◌-◌, ◌%◌, ◌^◌, ◌<◌, Bool, true, false, eqb, ltb, List, [], ◌++◌, length, take, drop, None, refl, sym, ap, ◌∙◌, arith}
use Rattle.std.specs.Prelude.{slice_range, slice_index, not, ◌&&◌}
use Rattle.std.specs.List.{AllByRecursion}
use Rattle.std.proofs.lemmas.Bool.{le-ltb}
use Rattle.std.proofs.lemmas.List.{take_at, drop_at, append_assoc, append-nil, length-append, get_or-append-add}
use Rattle.ctf_model.specs.format.Bytes.{number, u16_at}
use Rattle.ctf_model.specs.rules.Faults.{header_rules, if_broken, is_out_of_order, is_misaligned}
use Rattle.ctf_model.specs.format.Header.{Fields, fields, section}
use Rattle.ctf_model.specs.declared.sections.Section.TheVariants.{SLabels, STypes, SStrings}
use Rattle.ctf_model.specs.writing.Written.{fields_over, header_bytes}
use Rattle.ctf_model.specs.writing.WrittenRecords.{u32}
use Rattle.ctf_model.proofs.WrittenHeads.{number_u32}

-- a part of concatenated bytes
part : (a b c : List ℕ) (from to : ℕ) → from ≡ length a → to ≡ length a + length b → slice_range (a ++ (b ++ c)) from to ≡ b
part a b c from to p q =
    let len : to - from ≡ length b = omega arith in
    rw len (ap (take (length b)) (drop_at a (b ++ c) from (sym p)) ∙ take_at b c (length b) refl)

-- the bytes of a dictionary, cut into the parts that they were joined from
pub record IsLaid (parlabel parname : ℕ) (ctf ls rs ss : List ℕ) : Type 0 where
  pub fields : fields ctf ≡ fields_over parlabel parname (length ls) (length rs) (length ss)
  pub magic : u16_at ctf 0 ≡ 0xcff1
  pub version : slice_index ctf 2 ≡ 2
  pub flags : slice_index ctf 3 ≡ 0
  pub len : length ctf ≡ 36 + (length ls + (length rs + length ss))
  pub labels : section ctf SLabels ≡ ls
  pub types : section ctf STypes ≡ rs
  pub strings : section ctf SStrings ≡ ss
  pub behind_header : drop 36 ctf ≡ ls ++ (rs ++ ss)
  pub first : slice_index ctf (36 + (length ls + length rs)) ≡ slice_index ss 0

-- the fields are read back
fields_read : (p q : ℕ) (ls rs ss : List ℕ) → p < 2 ^ 32 → q < 2 ^ 32 → length ls + length rs + length ss < 2 ^ 32
    → fields (header_bytes (fields_over p q (length ls) (length rs) (length ss)) ++ (ls ++ (rs ++ ss))) ≡ fields_over p q (length ls) (length rs) (length ss)
fields_read p q ls rs ss low_p low_q low =
    let a : number (u32 p) ≡ p = number_u32 p low_p in
    let b : number (u32 q) ≡ q = number_u32 q low_q in
    let c : number (u32 0) ≡ 0 = number_u32 0 (omega arith) in
    let d : number (u32 (length ls)) ≡ length ls = number_u32 (length ls) (omega arith) in
    let e : number (u32 (length ls + length rs)) ≡ length ls + length rs = number_u32 (length ls + length rs) (omega arith) in
    let f : number (u32 (length ss)) ≡ length ss = number_u32 (length ss) (omega arith) in
    rw (a, b, c, d, e, f) refl

pub laid : (p q : ℕ) (ls rs ss : List ℕ) → p < 2 ^ 32 → q < 2 ^ 32 → length ls + length rs + length ss < 2 ^ 32
    → IsLaid p q (header_bytes (fields_over p q (length ls) (length rs) (length ss)) ++ (ls ++ (rs ++ ss))) ls rs ss
unfolding number
laid p q ls rs ss low_p low_q low =
    let h = header_bytes (fields_over p q (length ls) (length rs) (length ss)) in
    let ctf = h ++ (ls ++ (rs ++ ss)) in
    let same = fields_read p q ls rs ss low_p low_q low in
    let second : ctf ≡ (h ++ ls) ++ (rs ++ ss) = sym (append_assoc h ls (rs ++ ss)) in
    let third : ctf ≡ ((h ++ ls) ++ rs) ++ (ss ++ []) = second ∙ sym (append_assoc (h ++ ls) rs ss) ∙ ap (λ (x : List ℕ). ((h ++ ls) ++ rs) ++ x) (sym (append-nil ss)) in
    let len_h : length h ≡ 36 = refl in
    let len2 : length (h ++ ls) ≡ 36 + length ls = length-append h ls in
    let len3 : length ((h ++ ls) ++ rs) ≡ 36 + length ls + length rs = length-append (h ++ ls) rs ∙ ap (λ (n : ℕ). n + length rs) len2 in
    let place : 36 + (length ls + length rs) ≡ length ((h ++ ls) ++ rs) + 0 = omega arith in
    record {
      fields = same;
      magic = refl;
      version = refl;
      flags = refl;
      len = length-append h (ls ++ (rs ++ ss)) ∙ ap (λ (n : ℕ). 36 + n) (length-append ls (rs ++ ss) ∙ ap (λ (n : ℕ). length ls + n) (length-append rs ss));
      labels = ap (λ (f : Fields). slice_range ctf (36 + f.lbloff) (36 + f.objtoff)) same ∙ part h ls (rs ++ ss) (36 + 0) (36 + length ls) refl refl;
      types = ap (λ (f : Fields). slice_range ctf (36 + f.typeoff) (36 + f.stroff)) same ∙ ap (λ (b : List ℕ). slice_range b (36 + length ls) (36 + (length ls + length rs))) second ∙ part (h ++ ls) rs ss (36 + length ls) (36 + (length ls + length rs)) (omega arith) (omega arith);
      strings = ap (λ (f : Fields). slice_range ctf (36 + f.stroff) (36 + f.stroff + f.strlen)) same ∙ ap (λ (b : List ℕ). slice_range b (36 + (length ls + length rs)) (36 + (length ls + length rs) + length ss)) third ∙ part ((h ++ ls) ++ rs) ss [] (36 + (length ls + length rs)) (36 + (length ls + length rs) + length ss) (omega arith) (omega arith);
      behind_header = refl;
      first = ap (λ (b : List ℕ). slice_index b (36 + (length ls + length rs))) (second ∙ sym (append_assoc (h ++ ls) rs ss)) ∙ ap (slice_index (((h ++ ls) ++ rs) ++ ss)) place ∙ get_or-append-add ((h ++ ls) ++ rs) ss 0 0;
    }

-- ---- the rules of the header

order_kept : (p q l r s : ℕ) → is_out_of_order (fields_over p q l r s) ≡ false
order_kept p q l r s =
    let a : ltb l 0 ≡ false = le-ltb l 0 (omega arith) in
    let b : ltb l l ≡ false = le-ltb l l (omega arith) in
    let c : ltb (l + r) l ≡ false = le-ltb (l + r) l (omega arith) in
    rw (a, b, c) refl

align_kept : (p q l r s : ℕ) → l % 4 ≡ 0 → is_misaligned (fields_over p q l r s) ≡ false
align_kept p q l r s h =
    let even : l % 2 ≡ 0 = omega arith in
    rw (even, h) refl

pub header_kept : (p q : ℕ) (ctf ls rs ss : List ℕ) → IsLaid p q ctf ls rs ss → slice_index ss 0 ≡ 0 → length ls % 4 ≡ 0 → AllByRecursion (λ rule. rule ctf ≡ None) header_rules
header_kept p q ctf ls rs ss laid zero_first whole_words =
    let len = laid.len in
    let short : ltb (length ctf) 4 ≡ false = le-ltb (length ctf) 4 (omega arith) in
    let no_header : ltb (length ctf) 36 ≡ false = le-ltb (length ctf) 36 (omega arith) in
    let past : ltb (length ctf) (36 + (length ls + length rs) + length ss) ≡ false = le-ltb (length ctf) (36 + (length ls + length rs) + length ss) (omega arith) in
    let first : slice_index ctf (36 + (length ls + length rs)) ≡ 0 = laid.first ∙ zero_first in
    let strings : (ltb 0 (length ss) && not (eqb (slice_index ctf (36 + (length ls + length rs))) 0)) ≡ false = rw first (no_more (ltb 0 (length ss))) in (
      ap if_broken short,
      (
        ap (λ (n : ℕ). if_broken (not (eqb n 0xcff1))) laid.magic,
        (
          ap (λ (n : ℕ). if_broken (not (eqb n 2))) laid.version,
          (
            ap (λ (n : ℕ). if_broken (eqb (n % 2) 1)) laid.flags,
            (
              ap if_broken no_header,
              (
                ap (λ (f : Fields). if_broken (is_out_of_order f)) laid.fields ∙ ap if_broken (order_kept p q (length ls) (length rs) (length ss)),
                (
                  ap (λ (f : Fields). if_broken (is_misaligned f)) laid.fields ∙ ap if_broken (align_kept p q (length ls) (length rs) (length ss) whole_words),
                  (
                    ap (λ (f : Fields). if_broken (ltb (length ctf) (36 + f.stroff + f.strlen))) laid.fields ∙ ap if_broken past,
                    (
                      ap (λ (f : Fields). if_broken (ltb 0 f.strlen && not (eqb (slice_index ctf (36 + f.stroff)) 0))) laid.fields ∙ ap if_broken strings,
                      tt,
                    ),
                  ),
                ),
              ),
            ),
          ),
        ),
      ),
    )
  where
    no_more : (t : Bool) → (t && false) ≡ false
    no_more true = refl
    no_more false = refl
